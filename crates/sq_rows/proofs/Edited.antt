-- A row put under a new key, and a number added to the one of a row.
use Rattle.std.proofs.Common.{◌≡◌, ℕ, ◌^◌, ◌<◌, ◌≤◌, true, cond, [], ◌∷◌, length, get_or, Option, Some, None, Result, Ok, Err, is_some, IfSome, refl, sym, ap, subst, ◌∙◌, arith}
use Rattle.std.specs.declared.cmp.Ordering.TheVariants.{Less, Equal, Greater}
use Rattle.std.specs.declared.cmp.Ordering.{Ordering}
use Rattle.std.specs.Int.{w64}
use Rattle.std.specs.Option.{ok_or, option_map_or}
use Rattle.std.specs.Prelude.{ℤ, ◌+ℤ◌, slice_get, IfNone, SomeIff, FitsSigned}
use Rattle.std.specs.Ordering.{is_eq, nat_cmp, ordering_then}
use Rattle.std.specs.FinMap.Entries.{is_sorted, below_all}
use Rattle.std.proofs.lemmas.Bool.{and_parts}
use Rattle.std.proofs.lemmas.Bool.Decides.{nat_tests}
use Rattle.std.proofs.lemmas.Cmp.{eq_by_cmp_equiv, ranked}
use Rattle.sq_rows.specs.declared.row.RowKey.{RowKey}
use Rattle.sq_rows.specs.declared.row.NotAdded.{NotAdded}
use Rattle.sq_rows.specs.declared.row.NotAdded.TheVariants.{Absent, Range}
use Rattle.sq_rows.specs.Values.{RowValue}
use Rattle.sq_rows.specs.Keys.{key_cmp}
use Rattle.sq_rows.specs.RowList.{RowList, root_key, row_at, with_row}
use Rattle.sq_rows.specs.declared.row.TheConstants.{MAX_NOTE}
use Rattle.sq_rows.specs.Rows.{is_entry, IsRowList}
use Rattle.sq_rows.specs.Sizes.{row_size, rows_size}
use Rattle.sq_rows.specs.Places.{IsAt}
use Rattle.sq_rows.specs.Edits.{with_number, AddsAt, AddsTo}
use Rattle.sq_rows.proofs.Entries.{find_below, below_before}
use Rattle.sq_rows.proofs.KeyOrder.{key_cmp_total}
use Rattle.sq_rows.proofs.Kept.{IsRowList-with_row}
use Rattle.sq_rows.proofs.Latest.{is_key, is_key-cmp, row_at-short}
use Rattle.sq_rows.proofs.Weights.{rows_size-with_write}

-- a sum that was added to the number of a row, whose rows are these with each row
module _ (rows now : RowList) (key : RowKey) (by : ℤ) (row new : RowValue) (with_new : RowValue → RowList) (same : with_new row ≡ rows) (is : now ≡ with_new new) where
  pub added : (puts : (r : RowValue) → with_new r ≡ with_row rows key r) (sum : Option ℤ) → SomeIff sum (FitsSigned w64 (row.number +ℤ by)) (row.number +ℤ by)
      → IfSome sum (λ s. new ≡ with_number row s) → IfNone sum (new ≡ row) → AddsTo rows key by (Some row) now (ok_or sum Range)
  added puts None fits some none = (fits, is ∙ ap with_new none ∙ same)
  added puts (Some s) fits some none = (subst (FitsSigned w64) (sym fits.1) fits.0, fits.1, is ∙ puts new ∙ ap (with_row rows key) some)

-- at the place of a key it is that key's
pub added_there : (rows now : RowList) (key : RowKey) (at : ℕ) (by : ℤ) (d : RowKey × RowValue) (sum : Option ℤ) → IsAt key_cmp rows key at → AddsAt rows at (get_or rows at d) by now sum → AddsTo rows key by (row_at rows key) now (ok_or sum Range)
added_there rows now key at by d sum there adds = rw (there.found d) (to_key sum adds)
  where
    to_key : (sum : Option ℤ) → AddsAt rows at (get_or rows at d) by now sum → AddsTo rows key by (Some (get_or rows at d).1) now (ok_or sum Range)
    to_key None adds = adds
    to_key (Some s) adds = (adds.0, adds.1, adds.2 ∙ sym (there.put (with_number (get_or rows at d).1 s) d))

-- it keeps rows sound, and their size
module _ (rows now : RowList) (key : RowKey) (by : ℤ) (table : key.table < 2 ^ 8) (sub : key.sub < 2 ^ 32) (sound : IsRowList rows) where
  unchanged : now ≡ rows → IsRowList now × (rows_size now ≡ rows_size rows)
  unchanged is = (subst IsRowList (sym is) sound, ap rows_size is)

  by_case : (had : Option RowValue) (result : Result ℤ NotAdded) → row_at rows key ≡ had → AddsTo rows key by had now result → IsRowList now × (rows_size now ≡ rows_size rows)
  by_case (Some row) (Ok sum) stood adds =
      let new = with_number row sum in
      let short : length row.note ≤ MAX_NOTE = rw stood at (row_at-short rows key sound.entries) in
      let entry : is_entry (key, new) ≡ true = grind (arith, nat_tests) in
      let was : option_map_or row_size (row_at rows key) 0 ≡ row_size row = ap (λ o. option_map_or row_size o 0) stood in
      let size : rows_size (with_row rows key new) ≡ rows_size rows = omega (arith, rows_size-with_write rows key (Some new) sound.rising, was) in
      (subst IsRowList (sym adds.2) (IsRowList-with_row rows key new entry sound), ap rows_size adds.2 ∙ size)
  by_case (Some row) (Err Range) stood adds = unchanged adds.1
  by_case (Some row) (Err Absent) stood adds = absurd adds
  by_case None (Err Absent) stood adds = unchanged adds
  by_case None (Err Range) stood adds = absurd adds
  by_case None (Ok sum) stood adds = absurd adds

  pub added_sound : (result : Result ℤ NotAdded) → AddsTo rows key by (row_at rows key) now result → IsRowList now × (rows_size now ≡ rows_size rows)
  added_sound result adds = by_case (row_at rows key) result refl adds

-- no key is below the root row's
least_key : (key : RowKey) → key_cmp root_key key ≡ Greater → ⊥
least_key key above = least (nat_cmp 0 key.table) (nat_cmp 0 key.sub) (never key.table) (never key.sub) above
  where
    never : (n : ℕ) → nat_cmp 0 n ≡ Greater → ⊥
    never n is = let below = ranked 0 n Greater (sym is) in absurd (omega arith)

    least : (r s : Ordering) → (r ≡ Greater → ⊥) → (s ≡ Greater → ⊥) → ordering_then r s ≡ Greater → ⊥
    least Less s not_r not_s is = absurd (cc)
    least Equal s not_r not_s is = not_s is
    least Greater s not_r not_s is = not_r refl

-- the root row is the first
pub root_first : (rows : RowList) (first : RowKey × RowValue) → slice_get rows 0 ≡ Some first → is_sorted key_cmp rows ≡ true → is_key first.0 root_key ≡ is_some (row_at rows root_key)
root_first [] first here rising = absurd (cc)
root_first (entry ∷ rows) first here rising =
    let same : entry ≡ first = cc in
    subst (λ (e : RowKey × RowValue). is_key e.0 root_key ≡ is_some (row_at (entry ∷ rows) root_key)) same (
    is_key-cmp entry.0 root_key
    ∙ (eq_by_cmp_equiv key_cmp_total).symm entry.0 root_key
    ∙ elim (key_cmp root_key entry.0) as (λ r. key_cmp root_key entry.0 ≡ r → is_eq r ≡ is_some (cond (is_eq r) (Some entry.1) (row_at rows root_key))) [
      | Less ↦ λ is. sym (ap is_some (find_below key_cmp key_cmp_total root_key rows (below_before key_cmp key_cmp_total root_key entry.0 rows is (and_parts (below_all key_cmp entry.0 rows) (is_sorted key_cmp rows) rising).0)))
      | Equal ↦ λ is. refl
      | Greater ↦ λ is. absurd (least_key entry.0 is)
    ] refl
    )
