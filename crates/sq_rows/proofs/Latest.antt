-- The row of a key after writes is the row of its last write.
use Rattle.std.proofs.Common.{◌≡◌, ℕ, Bool, true, false, cond, not, ◌&&◌, ◌==◌, List, [], ◌∷◌, ◌++◌, reverse, length, ◌≤◌, Some, None, Option, IfSome, refl, sym, ap, ◌∙◌, arith}
use Rattle.std.specs.List.{find as find_in, AllPass}
use Rattle.std.specs.Option.{option_copied}
use Rattle.std.specs.Ordering.{is_eq, eq_by_cmp, nat_cmp}
use Rattle.std.specs.Cmp.{tied_then}
use Rattle.std.specs.Borrow.{Bor}
use Rattle.std.specs.FinMap.Entries.{find-put, find-where_key}
use Rattle.std.proofs.lemmas.Bool.Decides.{nat_tests}
use Rattle.std.proofs.lemmas.Cmp.{alike_right, eq_by_cmp_equiv}
use Rattle.std.proofs.lemmas.List.{reverse-append, reverse-reverse}
use Rattle.std.proofs.lemmas.List.Elements.{All-head, All-tail}
use Rattle.std.proofs.lemmas.List.Sums.{fold_push}
use Rattle.sq_rows.specs.declared.row.RowKey.{RowKey}
use Rattle.sq_rows.specs.Values.{RowValue}
use Rattle.sq_rows.specs.Keys.{key_cmp}
use Rattle.sq_rows.specs.RowList.{RowList, row_at, with_row, without_row}
use Rattle.sq_rows.specs.declared.row.TheConstants.{MAX_NOTE}
use Rattle.sq_rows.specs.Rows.{is_entry}
use Rattle.sq_rows.specs.Writes.{Write, with_write, with_writes}
use Rattle.sq_rows.proofs.KeyOrder.{key_cmp_total}

-- the keys are equal
abbrev pub is_key : RowKey → RowKey → Bool
is_key a b = (a.table == b.table) && (a.sub == b.sub)

pub nat_eq-cmp : (x y : ℕ) → (x == y) ≡ is_eq (nat_cmp x y)
nat_eq-cmp x y = grind (arith, nat_tests)

pub is_key-cmp : (a b : RowKey) → is_key a b ≡ eq_by_cmp key_cmp a b
is_key-cmp a b = (λ i. nat_eq-cmp a.table b.table i && nat_eq-cmp a.sub b.sub i) ∙ tied_then (nat_cmp a.table b.table) (nat_cmp a.sub b.sub)

pub row_at-with_row : (rows : RowList) (key q : RowKey) (row : RowValue) → row_at (with_row rows key row) q ≡ cond (is_key key q) (Some row) (row_at rows q)
row_at-with_row rows key q row = find-put key_cmp key_cmp_total q key row rows ∙ ap (λ b. cond b (Some row) (row_at rows q)) ((eq_by_cmp_equiv key_cmp_total).symm q key ∙ sym (is_key-cmp key q))

turned : {A : Type 0} (b : Bool) (x y : A) → cond (not b) x y ≡ cond b y x
turned true x y = refl
turned false x y = refl

pub row_at-without_row : (rows : RowList) (key q : RowKey) → row_at (without_row rows key) q ≡ cond (is_key key q) None (row_at rows q)
row_at-without_row rows key q =
    find-where_key key_cmp (λ other. not (eq_by_cmp key_cmp key other)) q (λ x tied. ap (λ r. not (is_eq r)) (sym (alike_right key_cmp_total q x key tied))) rows
    ∙ turned (eq_by_cmp key_cmp key q) (row_at rows q) None
    ∙ ap (λ b. cond b None (row_at rows q)) (sym (is_key-cmp key q))

pub row_at-with_write : (rows : RowList) (key q : RowKey) (row : Option RowValue) → row_at (with_write rows key row) q ≡ cond (is_key key q) row (row_at rows q)
row_at-with_write rows key q None = row_at-without_row rows key q
row_at-with_write rows key q (Some row) = row_at-with_row rows key q row

-- what the last write of the key wrote, or else the row that was there
abbrev pub row_or : Option Write → Option RowValue → Option RowValue
row_or None row = row
row_or (Some write) row = write.1

pub with_writes-push : (rows : RowList) (writes : List Write) (key : RowKey) (row : Option RowValue) → with_writes rows (writes ++ (key, row) ∷ []) ≡ with_write (with_writes rows writes) key row
with_writes-push rows writes key row = fold_push (λ now write. with_write now write.0 write.1) rows writes (key, row)

-- the writes with the newest first
latest_of : (rows : RowList) (key : RowKey) (writes : List Write) → row_at (with_writes rows (reverse writes)) key ≡ row_or (find_in (λ write. is_key write.0 key) writes) (row_at rows key)
latest_of rows key [] = refl
latest_of rows key (write ∷ writes) = rw (reverse-append (write ∷ []) writes, with_writes-push rows (reverse writes) write.0 write.1, row_at-with_write (with_writes rows (reverse writes)) write.0 key write.1)
    (elim (is_key write.0 key) as (λ b. cond b write.1 (row_at (with_writes rows (reverse writes)) key) ≡ row_or (cond b (Some write) (find_in (λ w. is_key w.0 key) writes)) (row_at rows key)) [ true ↦ refl | false ↦ latest_of rows key writes ])

pub latest : (rows : RowList) (key : RowKey) (writes : List Write) → row_at (with_writes rows writes) key ≡ row_or (find_in (λ write. is_key write.0 key) (reverse writes)) (row_at rows key)
latest rows key writes = ap (λ ws. row_at (with_writes rows ws) key) (sym (reverse-reverse writes)) ∙ latest_of rows key (reverse writes)

-- a row that there is has a note that isn't too long
pub row_at-short : (rows : RowList) (key : RowKey) → AllPass is_entry rows → IfSome (row_at rows key) (λ row. length row.note ≤ MAX_NOTE)
row_at-short [] key sound = tt
row_at-short (entry ∷ rows) key sound =
    elim (eq_by_cmp key_cmp key entry.0) as (λ b. IfSome (cond b (Some entry.1) (row_at rows key)) (λ row. length row.note ≤ MAX_NOTE)) [
      | true ↦ short_entry entry (All-head (λ e. is_entry e ≡ true) entry rows sound)
      | false ↦ row_at-short rows key (All-tail (λ e. is_entry e ≡ true) entry rows sound)
    ]
  where
    short_entry : (entry : RowKey × RowValue) → is_entry entry ≡ true → length entry.1.note ≤ MAX_NOTE
    short_entry entry sound = grind (arith, nat_tests)

pub IfSome-copied : {X : Type 0} (P : X → Type 0) (r : Option (Bor X)) (row : Option X) → option_copied r ≡ row → IfSome row P → IfSome r (λ x. P x.now)
IfSome-copied P None row is some = tt
IfSome-copied P (Some x) row is some = rw (← is) at some
