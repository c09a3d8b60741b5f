-- Edits keep the rule that there are rows of other tables only under the root row.
use Rattle.std.proofs.Common.{◌≡◌, Bool, true, false, cond, not, ◌&&◌, ◌==◌, [], ◌∷◌, length, Some, None, is_some, inl, inr, ⊎_elim, refl, sym, subst, arith}
use Rattle.std.specs.Ordering.{eq_by_cmp}
use Rattle.std.specs.List.{AllPass, list_all}
use Rattle.std.proofs.lemmas.Bool.{or_cases, or_left, or_right, and_cases, not-false, eqb-true}
use Rattle.std.proofs.lemmas.List.Elements.{All-head, All-tail, All-filter}
use Rattle.std.proofs.lemmas.List.Sums.{AllPass-from_list_all, list_all-from_AllPass}
use Rattle.sq_rows.specs.declared.row.RowKey.{RowKey}
use Rattle.sq_rows.specs.Values.{RowValue}
use Rattle.sq_rows.specs.Keys.{key_cmp}
use Rattle.sq_rows.specs.RowList.{RowList, root_key, row_at, with_row, without_row}
use Rattle.sq_rows.specs.Rows.{is_rooted}
use Rattle.sq_rows.proofs.KeyOrder.{same_key_from_test}
use Rattle.sq_rows.proofs.Kept.{All-with_row}
use Rattle.sq_rows.proofs.Latest.{is_key, is_key-cmp, row_at-with_row, row_at-without_row}

-- of the root table
abbrev is_root_entry : RowKey × RowValue → Bool
is_root_entry entry = entry.0.table == 0

by_root : (rows : RowList) → is_some (row_at rows root_key) ≡ true → is_rooted rows ≡ true
by_root rows stands = or_left (is_some (row_at rows root_key)) (list_all is_root_entry rows) stands

by_tables : (rows : RowList) → AllPass is_root_entry rows → is_rooted rows ≡ true
by_tables rows all = or_right (is_some (row_at rows root_key)) (list_all is_root_entry rows) (list_all-from_AllPass is_root_entry rows all)

-- there is the root row, or else there are only rows of the root table
cases_rooted : (rows : RowList) (G : Type 0) → is_rooted rows ≡ true → (is_some (row_at rows root_key) ≡ true → G) → (AllPass is_root_entry rows → G) → G
cases_rooted rows G rooted root tables = ⊎_elim root (λ all. tables (AllPass-from_list_all is_root_entry rows all)) (or_cases (is_some (row_at rows root_key)) (list_all is_root_entry rows) rooted)

-- a row that is put takes no root row away
root_stays : (rows : RowList) (key : RowKey) (row : RowValue) → is_some (row_at rows root_key) ≡ true → is_some (row_at (with_row rows key row) root_key) ≡ true
root_stays rows key row stands = rw (row_at-with_row rows key root_key row)
    (elim (is_key key root_key) as (λ b. is_some (cond b (Some row) (row_at rows root_key)) ≡ true) [ true ↦ refl | false ↦ stands ])

with_root_entry : (rows : RowList) (key : RowKey) (row : RowValue) → (key.table == 0) ≡ true → is_rooted rows ≡ true → is_rooted (with_row rows key row) ≡ true
with_root_entry rows key row table rooted =
    cases_rooted rows (is_rooted (with_row rows key row) ≡ true) rooted
    (λ stands. by_root (with_row rows key row) (root_stays rows key row stands))
    (λ all. by_tables (with_row rows key row) (All-with_row (λ entry. is_root_entry entry ≡ true) rows key row table all))

pub is_rooted-with_row : (rows : RowList) (key : RowKey) (row : RowValue) → (not (key.table == 0) && not (is_some (row_at rows root_key))) ≡ false → is_rooted rows ≡ true → is_rooted (with_row rows key row) ≡ true
is_rooted-with_row rows key row may rooted =
    elim (and_cases (not (key.table == 0)) (not (is_some (row_at rows root_key))) may) [
      | inl table ↦ with_root_entry rows key row (not-false (key.table == 0) table) rooted
      | inr stands ↦ by_root (with_row rows key row) (root_stays rows key row (not-false (is_some (row_at rows root_key)) stands))
    ]

-- a row that is among rows of the root table is one of them
known_table : (rows : RowList) (key : RowKey) (row : RowValue) → row_at rows key ≡ Some row → AllPass is_root_entry rows → (key.table == 0) ≡ true
known_table [] key row found all = absurd (cc)
known_table (entry ∷ rows) key row found all =
    elim (eq_by_cmp key_cmp key entry.0) as (λ b. eq_by_cmp key_cmp key entry.0 ≡ b → cond b (Some entry.1) (row_at rows key) ≡ Some row → (key.table == 0) ≡ true) [
      | true ↦ λ same _. subst (λ (k : RowKey). (k.table == 0) ≡ true) (sym (same_key_from_test key entry.0 same)) (All-head (λ e. is_root_entry e ≡ true) entry rows all)
      | false ↦ λ _ e. known_table rows key row e (All-tail (λ e. is_root_entry e ≡ true) entry rows all)
    ] refl found

pub is_rooted-with_known : (rows : RowList) (key : RowKey) (new row : RowValue) → row_at rows key ≡ Some row → is_rooted rows ≡ true → is_rooted (with_row rows key new) ≡ true
is_rooted-with_known rows key new row found rooted =
    cases_rooted rows (is_rooted (with_row rows key new) ≡ true) rooted
    (λ stands. by_root (with_row rows key new) (root_stays rows key new stands))
    (λ all. with_root_entry rows key new (known_table rows key row found all) rooted)

-- a lone row that is deleted leaves none
lone_deleted : (rows : RowList) (key : RowKey) (row : RowValue) → row_at rows key ≡ Some row → length rows ≡ 1 → without_row rows key ≡ []
lone_deleted [] key row found lone = refl
lone_deleted (entry ∷ []) key row found lone =
    elim (eq_by_cmp key_cmp key entry.0) as (λ b. cond b (Some entry.1) None ≡ Some row → cond (not b) (entry ∷ []) [] ≡ []) [ true ↦ λ _. refl | false ↦ λ e. absurd (cc) ] found
lone_deleted (entry ∷ other ∷ rows) key row found lone = absurd (omega arith)

pub is_rooted-without_row : (rows : RowList) (key : RowKey) (row : RowValue) → row_at rows key ≡ Some row → (eq_by_cmp key_cmp key root_key && not (length rows == 1)) ≡ false → is_rooted rows ≡ true → is_rooted (without_row rows key) ≡ true
is_rooted-without_row rows key row found may rooted =
    elim (and_cases (eq_by_cmp key_cmp key root_key) (not (length rows == 1)) may) [
      | inl other ↦ cases_rooted rows (is_rooted (without_row rows key) ≡ true) rooted
          (λ stands. by_root (without_row rows key) (rw (row_at-without_row rows key root_key, is_key-cmp key root_key, other) stands))
          (λ all. by_tables (without_row rows key) (All-filter (λ entry. not (eq_by_cmp key_cmp key entry.0)) (λ entry. is_root_entry entry ≡ true) rows all))
      | inr lone ↦ rw (lone_deleted rows key row found (eqb-true (length rows) 1 (not-false (length rows == 1) lone))) refl
    ]
