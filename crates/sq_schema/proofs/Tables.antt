-- Tables as functions of the root key.
use Rattle.std.proofs.Common.{◌≡◌, ℕ, Bool, true, false, cond, not, ◌==◌, ◌&&◌, [], ◌∷◌, ◌++◌, length, is_some, arith, Some, None, Option, Result, Ok, Err, OnOk, OnErr, IfSome, IfNone, unwrap_or, if◌then◌else◌, inl, inr, refl, sym, ap, subst, ◌∙◌}
use Rattle.std.specs.declared.cmp.Ordering.TheVariants.{Less, Equal, Greater}
use Rattle.std.specs.BTreeMap.{is_at, insert_entry}
use Rattle.std.specs.List.{All}
use Rattle.std.specs.Map.{lookup, set_value, remove_entry}
use Rattle.std.specs.Ordering.{nat_cmp, is_lt, eq_by_cmp, match_ordering}
use Rattle.std.specs.FinMap.Entries.{find, find-put, put, by_order, below_all, is_sorted, is_sorted-put}
use Rattle.std.proofs.lemmas.Bool.{and_from, and_parts, cases_eq, ne_eqb}
use Rattle.std.proofs.lemmas.Bool.Decides.{nat_tests}
use Rattle.std.proofs.lemmas.Cmp.{nat_cmp_total, eq_by_cmp_equiv}
use Rattle.std.proofs.lemmas.Map.Entries.{All-lookup}
use Rattle.std.proofs.lemmas.List.Elements.{All-nil, All-cons, All-head, All-tail}
use Rattle.sq_rows.specs.declared.row.RowKey.{RowKey}
use Rattle.sq_rows.specs.Values.{RowValue}
use Rattle.sq_rows.specs.RowList.{RowList, root_key, row_at, with_row}
use Rattle.sq_schema.specs.Effect.{effect, table_after}
use Rattle.sq_schema.specs.TxnValue.{TxnValue}
use Rattle.sq_rows.specs.Keys.{key_cmp}
use Rattle.sq_rows.specs.Rows.{is_rooted}
use Rattle.sq_schema.specs.declared.fault.RowFault.TheVariants.{RowRepeated, NoRootRow}
use Rattle.sq_rows.proofs.Rooted.{is_rooted-with_row}
use Rattle.sq_schema.specs.Table.{TableValue, IsTable, rows_in, is_opening, row_given_fault, with_given}
use Rattle.sq_rows.proofs.Entries.{find-lookup, insert_entry-put}
use Rattle.sq_rows.proofs.Kept.{to_T, from_T}
use Rattle.sq_rows.proofs.Latest.{nat_eq-cmp}

-- what a map holds after a change at one root key
pub rows_in-updates : (old new : TableValue) (root : ℕ) (rows : Option RowList) → ((k : ℕ) → lookup (is_at (nat_cmp k)) new ≡ cond (is_at (nat_cmp root) k) rows (lookup (is_at (nat_cmp k)) old)) → (k : ℕ) → rows_in new k ≡ (if root == k then unwrap_or rows [] else rows_in old k)
rows_in-updates old new root rows updates k =
    ap (λ found. unwrap_or found []) (sym (find-lookup nat_cmp new k) ∙ updates k ∙ ap (λ b. cond b rows (lookup (is_at (nat_cmp k)) old)) (sym (nat_eq-cmp root k)) ∙ ap (λ found. cond (root == k) rows found) (find-lookup nat_cmp old k))
    ∙ elim (root == k) as (λ b. unwrap_or (cond b rows (find nat_cmp k old)) [] ≡ (if b then unwrap_or rows [] else rows_in old k)) [ true ↦ refl | false ↦ refl ]

-- what holds of all rows holds of them after a change
module _ (P : RowList → Type 0) where
  pub All-insert_entry : (table : TableValue) (root : ℕ) (rows : RowList) → P rows → All (λ entry. P entry.1) table → All (λ entry. P entry.1) (insert_entry nat_cmp table root rows)
  All-insert_entry [] root rows new all = All-cons (λ entry. P entry.1) (root, rows) [] new (All-nil (λ (entry : ℕ × RowList). P entry.1))
  All-insert_entry (entry ∷ table) root rows new all =
      elim (nat_cmp root entry.0) as (λ r. All (λ entry. P entry.1) (match_ordering r ((root, rows) ∷ entry ∷ table) ((entry.0, rows) ∷ table) (entry ∷ insert_entry nat_cmp table root rows))) [
        | Less ↦ All-cons (λ entry. P entry.1) (root, rows) (entry ∷ table) new all
        | Equal ↦ All-cons (λ entry. P entry.1) (entry.0, rows) table new (All-tail (λ entry. P entry.1) entry table all)
        | Greater ↦ All-cons (λ entry. P entry.1) entry (insert_entry nat_cmp table root rows) (All-head (λ entry. P entry.1) entry table all) (All-insert_entry table root rows new (All-tail (λ entry. P entry.1) entry table all))
      ]

  pub All-set_value : (test : ℕ → Bool) (table : TableValue) (rows : RowList) → P rows → All (λ entry. P entry.1) table → All (λ entry. P entry.1) (set_value test table rows)
  All-set_value test [] rows new all = all
  All-set_value test (entry ∷ table) rows new all =
      elim (test entry.0) as (λ b. All (λ entry. P entry.1) (cond b ((entry.0, rows) ∷ table) (entry ∷ set_value test table rows))) [
        | true ↦ All-cons (λ entry. P entry.1) (entry.0, rows) table new (All-tail (λ entry. P entry.1) entry table all)
        | false ↦ All-cons (λ entry. P entry.1) entry (set_value test table rows) (All-head (λ entry. P entry.1) entry table all) (All-set_value test table rows new (All-tail (λ entry. P entry.1) entry table all))
      ]

  pub All-remove_entry : (test : ℕ → Bool) (table : TableValue) → All (λ entry. P entry.1) table → All (λ entry. P entry.1) (remove_entry test table)
  All-remove_entry test [] all = all
  All-remove_entry test (entry ∷ table) all =
      elim (test entry.0) as (λ b. All (λ entry. P entry.1) (cond b table (entry ∷ remove_entry test table))) [
        | true ↦ All-tail (λ entry. P entry.1) entry table all
        | false ↦ All-cons (λ entry. P entry.1) entry (remove_entry test table) (All-head (λ entry. P entry.1) entry table all) (All-remove_entry test table (All-tail (λ entry. P entry.1) entry table all))
      ]

-- rows that are put somewhere are some
with_row_some : (rows : RowList) (key : RowKey) (row : RowValue) → not (length (with_row rows key row) == 0) ≡ true
with_row_some [] key row = refl
with_row_some (entry ∷ rows) key row =
    elim (key_cmp key entry.0) as (λ r. not (length (by_order r ((key, row) ∷ entry ∷ rows) ((entry.0, row) ∷ rows) (entry ∷ with_row rows key row)) == 0) ≡ true) [
      | Less ↦ grind (arith, nat_tests)
      | Equal ↦ grind (arith, nat_tests)
      | Greater ↦ grind (arith, nat_tests)
    ]

-- a row that isn't refused keeps the rule of the root row
pub is_opening-with_row : (rows : RowList) (key : RowKey) (row : RowValue) → row_given_fault rows key ≡ None → is_rooted rows ≡ true → is_opening (with_row rows key row) ≡ true
is_opening-with_row rows key row given rooted =
    and_from (not (length (with_row rows key row) == 0)) (is_rooted (with_row rows key row)) (with_row_some rows key row) (is_rooted-with_row rows key row (given_under rows key given) rooted)
  where
    given_under : (rows : RowList) (key : RowKey) → row_given_fault rows key ≡ None → (not (key.table == 0) && not (is_some (row_at rows root_key))) ≡ false
    given_under rows key given =
        elim (is_some (row_at rows key)) as (λ b. (if b then Some RowRepeated else (if not (key.table == 0) && not (is_some (row_at rows root_key)) then Some NoRootRow else None)) ≡ None → (not (key.table == 0) && not (is_some (row_at rows root_key))) ≡ false) [
          | true ↦ λ e. absurd (cc)
          | false ↦ elim (not (key.table == 0) && not (is_some (row_at rows root_key))) as (λ b. (if b then Some NoRootRow else None) ≡ None → b ≡ false) [ true ↦ λ e. absurd (cc) | false ↦ λ e. refl ]
        ] given

pub is_rooted-opening : (rows : RowList) → is_opening rows ≡ true → is_rooted rows ≡ true
is_rooted-opening rows opening = (and_parts (not (length rows == 0)) (is_rooted rows) opening).1

-- a table that was given a row of a root key, which had these rows
pub rows_in-given : (table now : TableValue) (root : ℕ) (rows : RowList) (key : RowKey) (row : RowValue) → rows_in table root ≡ rows → ((k : ℕ) → rows_in now k ≡ (if root == k then with_row rows key row else rows_in table k)) → (k : ℕ) → rows_in now k ≡ with_given (rows_in table) root key row k
rows_in-given table now root rows key row had updates k =
    updates k ∙ elim (cases_eq root k) [
      | inl same ↦ rw same (ap (λ r. if k == k then with_row r key row else rows_in table k) (sym had ∙ ap (rows_in table) same))
      | inr other ↦ rw (ne_eqb root k other) refl
    ]

-- the rows after a row was put, or wasn't because memory ran out
pub is_opening-inserted : {A E : Type 0} (r : Result A E) (old now : RowList) (key : RowKey) (row : RowValue) → OnOk r (now ≡ with_row old key row) → OnErr r (now ≡ old) → row_given_fault old key ≡ None → is_opening old ≡ true → is_opening now ≡ true
is_opening-inserted (Ok x) old now key row ok err given opening = rw ok (is_opening-with_row old key row given (is_rooted-opening old opening))
is_opening-inserted (Err e) old now key row ok err given opening = rw err opening

pub OnOk-map : {A E : Type 0} (r : Result A E) (P Q : Type 0) → (P → Q) → OnOk r P → OnOk r Q
OnOk-map (Ok x) P Q f ok = f ok
OnOk-map (Err e) P Q f ok = tt

pub OnErr-map : {A E : Type 0} (r : Result A E) (P Q : Type 0) → (P → Q) → OnErr r P → OnErr r Q
OnErr-map (Ok x) P Q f err = tt
OnErr-map (Err e) P Q f err = f err

pub none_from : {A : Type 0} (o : Option A) → is_some o ≡ false → o ≡ None
none_from None is = refl
none_from (Some x) is = absurd (cc)

off : (some less : Bool) → less ≡ true → (some ≡ true → less ≡ false) → some ≡ false
off true less is bound = sym is ∙ bound refl
off false less is bound = refl

-- a root key above a bound of all has no rows
pub none_above : (table : TableValue) (bound root : ℕ) → is_lt (nat_cmp bound root) ≡ true → (is_some (lookup (is_at (nat_cmp root)) table) ≡ true → is_lt (nat_cmp bound root) ≡ false) → lookup (is_at (nat_cmp root)) table ≡ None
none_above table bound root less is_bound = none_from (lookup (is_at (nat_cmp root)) table) (off _ _ less is_bound)

-- the rows of each root key keep the rule of the root row
pub is_rooted-rows_in : (table : TableValue) (root : ℕ) → All (λ entry. is_opening entry.1 ≡ true) table → is_rooted (rows_in table root) ≡ true
is_rooted-rows_in [] root all = refl
is_rooted-rows_in (entry ∷ table) root all =
    elim (eq_by_cmp nat_cmp root entry.0) as (λ b. is_rooted (unwrap_or (cond b (Some entry.1) (find nat_cmp root table)) []) ≡ true) [
      | true ↦ is_rooted-opening entry.1 (All-head (λ e. is_opening e.1 ≡ true) entry table all)
      | false ↦ is_rooted-rows_in table root (All-tail (λ e. is_opening e.1 ≡ true) entry table all)
    ]

-- a table that a transaction ran on
pub rows_in-run : (table now : TableValue) (txn : TxnValue) (rows : RowList) → rows ≡ effect (rows_in table txn.root) txn → ((k : ℕ) → rows_in now k ≡ (if txn.root == k then rows else rows_in table k)) → (k : ℕ) → rows_in now k ≡ table_after (rows_in table) txn k
rows_in-run table now txn rows is updates k =
    updates k ∙ elim (cases_eq txn.root k) [
      | inl same ↦ ap (λ r. if txn.root == k then r else rows_in table k) (is ∙ ap (λ r. effect (rows_in table r) txn) same)
      | inr other ↦ rw (ne_eqb txn.root k other) refl
    ]

-- two changes at one root key are the second
pub rows_in-twice : (table mid now : TableValue) (root : ℕ) (first second : RowList) → ((k : ℕ) → rows_in mid k ≡ (if root == k then first else rows_in table k)) → ((k : ℕ) → rows_in now k ≡ (if root == k then second else rows_in mid k)) → (k : ℕ) → rows_in now k ≡ (if root == k then second else rows_in table k)
rows_in-twice table mid now root first second one two k =
    two k ∙ ap (λ r. if root == k then second else r) (one k)
    ∙ elim (root == k) as (λ b. (if b then second else (if b then first else rows_in table k)) ≡ (if b then second else rows_in table k)) [ true ↦ refl | false ↦ refl ]

-- the rows of each root key, once one was given these
pub rows_in-put : (table : TableValue) (root : ℕ) (rows : RowList) (k : ℕ) → rows_in (put nat_cmp root rows table) k ≡ (if root == k then rows else rows_in table k)
rows_in-put table root rows k =
    ap (λ found. unwrap_or found []) (find-put nat_cmp nat_cmp_total k root rows table)
    ∙ ap (λ b. unwrap_or (cond b (Some rows) (find nat_cmp k table)) []) ((eq_by_cmp_equiv nat_cmp_total).symm k root ∙ sym (nat_eq-cmp root k))
    ∙ elim (root == k) as (λ b. unwrap_or (cond b (Some rows) (find nat_cmp k table)) [] ≡ (if b then rows else rows_in table k)) [ true ↦ refl | false ↦ refl ]

-- a table stays one when a root key is given such rows
pub IsTable-put : (table : TableValue) (root : ℕ) (rows : RowList) → is_opening rows ≡ true → IsTable table → IsTable (put nat_cmp root rows table)
IsTable-put table root rows opening is =
    record {
      opening = subst (λ t. All (λ entry. is_opening entry.1 ≡ true) t) (insert_entry-put nat_cmp table root rows) (All-insert_entry (λ r. is_opening r ≡ true) table root rows opening is.opening);
      rising = from_T _ (is_sorted-put nat_cmp nat_cmp_total root rows table (to_T _ is.rising));
    }

-- the rows of a root key that has some
pub found_opening : (table : TableValue) (root : ℕ) → IsTable table → IfSome (find nat_cmp root table) (λ rows. is_opening rows ≡ true)
found_opening table root is = rw (find-lookup nat_cmp table root) at (All-lookup (λ rows. is_opening rows ≡ true) (is_at (nat_cmp root)) table is.opening)

-- a table after rows were put, or weren't because memory ran out
pub IsTable-row : {A E : Type 0} (r : Result A E) (old now : TableValue) (root : ℕ) (key : RowKey) (row : RowValue) → IsTable old → OnOk r (row_given_fault (rows_in old root) key ≡ None)
    → OnOk r (now ≡ put nat_cmp root (with_row (rows_in old root) key row) old) → OnErr r (now ≡ old) → IsTable now
IsTable-row (Ok x) old now root key row is given ok err =
    subst IsTable (sym ok) (IsTable-put old root (with_row (rows_in old root) key row) (is_opening-with_row (rows_in old root) key row given (is_rooted-rows_in old root is.opening)) is)
IsTable-row (Err e) old now root key row is given ok err = subst IsTable (sym err) is

-- a table without its last root key
below_before : (key : ℕ) (table : TableValue) (last : ℕ × RowList) → below_all nat_cmp key (table ++ last ∷ []) ≡ true → below_all nat_cmp key table ≡ true
below_before key [] last below = refl
below_before key (entry ∷ table) last below =
    let parts = and_parts (is_lt (nat_cmp key entry.0)) (below_all nat_cmp key (table ++ last ∷ [])) below in
    and_from (is_lt (nat_cmp key entry.0)) (below_all nat_cmp key table) parts.0 (below_before key table last parts.1)

rising_before : (table : TableValue) (last : ℕ × RowList) → is_sorted nat_cmp (table ++ last ∷ []) ≡ true → is_sorted nat_cmp table ≡ true
rising_before [] last rising = refl
rising_before (entry ∷ table) last rising =
    let parts = and_parts (below_all nat_cmp entry.0 (table ++ last ∷ [])) (is_sorted nat_cmp (table ++ last ∷ [])) rising in
    and_from (below_all nat_cmp entry.0 table) (is_sorted nat_cmp table) (below_before entry.0 table last parts.0) (rising_before table last parts.1)

opening_parts : (table : TableValue) (last : ℕ × RowList) → All (λ entry. is_opening entry.1 ≡ true) (table ++ last ∷ []) → All (λ entry. is_opening entry.1 ≡ true) table × (is_opening last.1 ≡ true)
opening_parts [] last all = (All-nil (λ (entry : ℕ × RowList). is_opening entry.1 ≡ true), All-head (λ e. is_opening e.1 ≡ true) last [] all)
opening_parts (entry ∷ table) last all =
    let rest = opening_parts table last (All-tail (λ e. is_opening e.1 ≡ true) entry (table ++ last ∷ []) all) in
    (All-cons (λ e. is_opening e.1 ≡ true) entry table (All-head (λ e. is_opening e.1 ≡ true) entry (table ++ last ∷ []) all) rest.0, rest.1)

pub IsTable-popped : (popped : Option (ℕ × RowList)) (old now : TableValue) → IsTable old → IfSome popped (λ entry. old ≡ now ++ entry ∷ []) → IfNone popped (now ≡ old) → IsTable now × IfSome popped (λ entry. is_opening entry.1 ≡ true)
IsTable-popped None old now is some none = (subst IsTable (sym none) is, tt)
IsTable-popped (Some entry) old now is some none =
    let all = opening_parts now entry (subst (All (λ e. is_opening e.1 ≡ true)) some is.opening) in
    (record { opening = all.0; rising = rising_before now entry (sym (ap (is_sorted nat_cmp) some) ∙ is.rising) }, all.1)
