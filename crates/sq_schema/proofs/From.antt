-- The entries of a table from a root key on, and that all are below the end of the root keys.
use Rattle.std.proofs.Common.{◌≡◌, ℕ, zero, suc, ◌<◌, ◌≤◌, Bool, true, false, cond, ◌==◌, nat_le, nat_lt, List, [], ◌∷◌, length, get_or, drop, filter, Some, refl, ap, ◌∙◌, inl, inr, arith}
use Rattle.std.specs.declared.cmp.Ordering.TheVariants.{Less, Equal, Greater}
use Rattle.std.specs.Prelude.{slice_get, ◌-◌}
use Rattle.std.specs.List.{AllPass}
use Rattle.std.specs.Ordering.{nat_cmp}
use Rattle.std.specs.FinMap.Entries.{is_sorted}
use Rattle.std.specs.List.Sorted.{IsPartitionedBy, IsPartitionPoint}
use Rattle.std.proofs.lemmas.Bool.{cond-true, cond-false, cases_lt, ltb-true, lt-ltb}
use Rattle.std.proofs.lemmas.Bool.Decides.{nat_tests}
use Rattle.std.proofs.lemmas.Cmp.{nat_cmp_total}
use Rattle.std.proofs.lemmas.List.Elements.{All-from_get_or}
use Rattle.std.proofs.lemmas.Option.{slice_get_within, get_or_from_slice_get}
use Rattle.sq_rows.specs.RowList.{RowList}
use Rattle.sq_schema.specs.Table.{TableValue}
use Rattle.sq_rows.proofs.Entries.{sorted_at, all_below}

-- what passes is what is there from a place on, where none before it passes and all from it on do
filter_from : {X : Type 0} (p : X → Bool) (xs : List X) (at : ℕ) → at ≤ length xs
    → ((i : ℕ) (d : X) → i < at → p (get_or xs i d) ≡ false) → ((i : ℕ) (d : X) → at ≤ i → i < length xs → p (get_or xs i d) ≡ true) → filter p xs ≡ drop at xs
filter_from p [] zero within before after = refl
filter_from p [] (suc at) within before after = absurd (omega arith)
filter_from p (x ∷ xs) zero within before after =
    cond-true (p x) (x ∷ filter p xs) (filter p xs) (after 0 x (omega arith) (omega arith))
    ∙ ap (λ rest. x ∷ rest) (filter_from p xs zero (omega arith) (λ i d low. absurd (omega arith)) (λ i d low high. after (suc i) d (omega arith) (omega arith)))
filter_from p (x ∷ xs) (suc at) within before after =
    cond-false (p x) (x ∷ filter p xs) (filter p xs) (before 0 x (omega arith))
    ∙ filter_from p xs at (omega arith) (λ i d low. before (suc i) d (omega arith)) (λ i d low high. after (suc i) d (omega arith) (omega arith))

not_from : (key from : ℕ) → nat_lt key from ≡ true → nat_le from key ≡ false
not_from key from below = grind (arith, nat_tests)

is_from : (key from : ℕ) → nat_lt key from ≡ false → nat_le from key ≡ true
is_from key from above = grind (arith, nat_tests)

less : (x y : ℕ) → nat_cmp x y ≡ Less → x < y
less x y is = ltb-true x y (first (nat_lt x y) (x == y) is)
  where
    first : (a b : Bool) → cond a Less (cond b Equal Greater) ≡ Less → a ≡ true
    first true b h = refl
    first false true h = absurd (cc)
    first false false h = absurd (cc)

module _ (table : TableValue) (from : ℕ) (rising : is_sorted nat_cmp table ≡ true) where
  -- those below a root key come before the others
  parted : IsPartitionedBy (λ (entry : ℕ × RowList). nat_lt entry.0 from) table
  parted i j d upto within below =
      elim (cases_lt i j) [
        | inl before ↦
            let earlier : (get_or table i d).0 < (get_or table j d).0 = less (get_or table i d).0 (get_or table j d).0 (sorted_at nat_cmp nat_cmp_total table i j d rising before within) in
            let later : (get_or table j d).0 < from = ltb-true (get_or table j d).0 from below in
            lt-ltb (get_or table i d).0 from (omega arith)
        | inr more ↦ let same : i ≡ j = omega arith in rw same below
      ]

  -- a search for a root key comes out at the first of those from it on
  pub from_point : (at : ℕ) → at ≤ length table
      → (IsPartitionedBy (λ (entry : ℕ × RowList). nat_lt entry.0 from) table
      → IsPartitionPoint (λ (entry : ℕ × RowList). nat_lt entry.0 from ≡ true) (λ (entry : ℕ × RowList). nat_lt entry.0 from ≡ false) table at)
      → filter (λ (entry : ℕ × RowList). nat_le from entry.0) table ≡ drop at table
  from_point at within search =
      let point = search parted in
      filter_from (λ (entry : ℕ × RowList). nat_le from entry.0) table at within
      (λ i d low. not_from _ from (point.0 i d (omega arith) low))
      (λ i d low high. is_from _ from (point.1 i d low high))

  -- where the last root key is below one, each is
  pub all_fit : (last : ℕ × RowList) → slice_get table (length table - 1) ≡ Some last → last.0 < from → AllPass (λ entry. nat_lt entry.0 from) table
  all_fit last stands below =
      let some : length table - 1 < length table = slice_get_within table (length table - 1) last stands in
      let at_end : (d : ℕ × RowList) → nat_cmp (get_or table (length table - 1) d).0 from ≡ Less = λ d.
      ap (λ (e : ℕ × RowList). nat_cmp e.0 from) (get_or_from_slice_get table (length table - 1) last d stands)
      ∙ cond-true (nat_lt last.0 from) Less (cond (last.0 == from) Equal Greater) (lt-ltb last.0 from below) in
      let each = all_below nat_cmp nat_cmp_total from table (length table - 1) rising (omega (arith, some)) at_end in
      All-from_get_or (λ (e : ℕ × RowList). nat_lt e.0 from ≡ true) table last (λ i inside. lt-ltb (get_or table i last).0 from (less (get_or table i last).0 from (each i last (omega arith) inside)))
