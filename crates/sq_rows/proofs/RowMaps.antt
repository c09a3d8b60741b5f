-- Writes of rows that may have to be taken back.
use Rattle.std.proofs.Common.{◌≡◌, Bool, true, false, cond, List, Some, None, ◌∷◌, Option, is_some, refl, sym, ap, subst, ◌∙◌}
use Rattle.std.specs.Cmp.{tied_itself}
use Rattle.std.specs.Ordering.{is_eq}
use Rattle.std.specs.FinMap.Entries.{is_sorted, same_entries}
use Rattle.sq_rows.specs.declared.row.RowKey.{RowKey}
use Rattle.sq_rows.specs.Values.{RowValue}
use Rattle.sq_rows.specs.Keys.{key_cmp}
use Rattle.sq_rows.specs.RowList.{RowList, row_at, with_row, without_row}
use Rattle.sq_rows.specs.Writes.{Write, last_write, with_write, with_writes}
use Rattle.sq_rows.proofs.Kept.{to_T, is_sorted-with_row, is_sorted-with_write, is_sorted-with_writes, is_sorted-without_row}
use Rattle.sq_rows.proofs.KeyOrder.{key_cmp_total, same_key, same_key_from_test}
use Rattle.sq_rows.proofs.Latest.{is_key, is_key-cmp, row_or, latest, row_at-with_row, row_at-without_row, row_at-with_write}

-- rows with the same row at each key are the same
same_rows : (rows others : RowList) → is_sorted key_cmp rows ≡ true → is_sorted key_cmp others ≡ true → ((q : RowKey) → row_at rows q ≡ row_at others q) → rows ≡ others
same_rows rows others rising risen same = same_entries key_cmp key_cmp_total same_key rows others (to_T _ rising) (to_T _ risen) same

-- what a test of the key's equality guards
at_key : {A : Type 0} (key q : RowKey) (f g : RowKey → A) (other : A) → f key ≡ g key → cond (is_key key q) (f q) other ≡ cond (is_key key q) (g q) other
at_key {A} key q f g other same =
    elim (is_key key q) as (λ b. is_key key q ≡ b → cond b (f q) other ≡ cond b (g q) other) [
      | true ↦ λ is. subst (λ (k : RowKey). f k ≡ g k) (same_key_from_test key q (sym (is_key-cmp key q) ∙ is)) same
      | false ↦ λ is. refl
    ] refl

covered : {A : Type 0} (b : Bool) (x y z : A) → cond b x (cond b y z) ≡ cond b x z
covered true x y z = refl
covered false x y z = refl

both_ways : {A : Type 0} (b : Bool) (x : A) → cond b x x ≡ x
both_ways true x = refl
both_ways false x = refl

-- a row that was put is taken back
pub restored : (rows : RowList) (key : RowKey) (row : RowValue) → is_sorted key_cmp rows ≡ true → with_write (with_row rows key row) key (row_at rows key) ≡ rows
restored rows key row rising =
    same_rows (with_write (with_row rows key row) key (row_at rows key)) rows (is_sorted-with_write (with_row rows key row) key (row_at rows key) (is_sorted-with_row rows key row rising)) rising
    (λ q. row_at-with_write (with_row rows key row) key q (row_at rows key)
    ∙ ap (cond (is_key key q) (row_at rows key)) (row_at-with_row rows key q row)
    ∙ covered (is_key key q) (row_at rows key) (Some row) (row_at rows q)
    ∙ at_key key q (λ k. row_at rows key) (λ k. row_at rows k) (row_at rows q) refl
    ∙ both_ways (is_key key q) (row_at rows q))

pub row_put : (rows : RowList) (key : RowKey) (row : RowValue) → row_at (with_row rows key row) key ≡ Some row
row_put rows key row = row_at-with_row rows key key row ∙ ap (λ b. cond b (Some row) (row_at rows key)) (is_key-cmp key key ∙ ap is_eq (tied_itself key_cmp_total key))

-- what is put at each key: the later writes, on what was there or on nothing
overwritten : (write : Option Write) (row other : Option RowValue) → is_some write ≡ true → row_or write row ≡ row_or write other
overwritten None row other is = absurd (cc)
overwritten (Some write) row other is = refl

unwritten : (write : Option Write) → is_some write ≡ false → None ≡ row_or write None
unwritten None is = refl
unwritten (Some write) is = absurd (cc)

module _ (rows : RowList) (key : RowKey) (later : List Write) (rising : is_sorted key_cmp rows ≡ true) where
  left_rises : is_sorted key_cmp (with_writes (without_row rows key) later) ≡ true
  left_rises = is_sorted-with_writes (without_row rows key) later (is_sorted-without_row rows key rising)

  row_left : (q : RowKey) → row_at (with_writes (without_row rows key) later) q ≡ row_or (last_write later q) (cond (is_key key q) None (row_at rows q))
  row_left q = latest (without_row rows key) q later ∙ ap (row_or (last_write later q)) (row_at-without_row rows key q)

  -- a removal that a later write covers may be left out
  pub removal_covered : is_some (last_write later key) ≡ true → with_writes rows later ≡ with_writes (without_row rows key) later
  removal_covered written = same_rows (with_writes rows later) (with_writes (without_row rows key) later) (is_sorted-with_writes rows later rising) left_rises (λ q. latest rows q later ∙ covers q ∙ sym (row_left q))
    where
      covers : (q : RowKey) → row_or (last_write later q) (row_at rows q) ≡ row_or (last_write later q) (cond (is_key key q) None (row_at rows q))
      covers q = elim (is_key key q) as (λ b. is_key key q ≡ b → row_or (last_write later q) (row_at rows q) ≡ row_or (last_write later q) (cond b None (row_at rows q))) [
        | true ↦ λ is. overwritten (last_write later q) (row_at rows q) None (subst (λ (k : RowKey). is_some (last_write later k) ≡ true) (same_key_from_test key q (sym (is_key-cmp key q) ∙ is)) written)
        | false ↦ λ is. refl
      ] refl

  -- and one that none covers may come last
  pub removal_last : is_some (last_write later key) ≡ false → without_row (with_writes rows later) key ≡ with_writes (without_row rows key) later
  removal_last alone = same_rows (without_row (with_writes rows later) key) (with_writes (without_row rows key) later) (is_sorted-without_row (with_writes rows later) key (is_sorted-with_writes rows later rising)) left_rises (λ q. row_at-without_row (with_writes rows later) key q ∙ ap (cond (is_key key q) None) (latest rows q later) ∙ misses q ∙ sym (row_left q))
    where
      misses : (q : RowKey) → cond (is_key key q) None (row_or (last_write later q) (row_at rows q)) ≡ row_or (last_write later q) (cond (is_key key q) None (row_at rows q))
      misses q = elim (is_key key q) as (λ b. is_key key q ≡ b → cond b None (row_or (last_write later q) (row_at rows q)) ≡ row_or (last_write later q) (cond b None (row_at rows q))) [
        | true ↦ λ is. unwritten (last_write later q) (subst (λ (k : RowKey). is_some (last_write later k) ≡ false) (same_key_from_test key q (sym (is_key-cmp key q) ∙ is)) alone)
        | false ↦ λ is. refl
      ] refl

-- the first of the writes, and then the rest
pub first_written : (rows : RowList) (writes : List Write) (first : Write) (later : List Write) (row : Option RowValue) → writes ≡ first ∷ later → first.1 ≡ row → with_writes rows writes ≡ with_writes (with_write rows first.0 row) later
first_written rows writes first later row is wrote = ap (with_writes rows) is ∙ ap (λ now. with_writes (with_write rows first.0 now) later) wrote
