-- The root keys of a table that a partition owns, from some root key on.
use Rattle.std.proofs.Common.{◌≡◌, ℕ, ◌+◌, ◌<◌, ◌≤◌, Bool, true, false, nat_le, nat_lt, List, [], ◌∷◌, length, filter, find, Some, refl, sym, ap, subst, ◌∙◌, inl, inr, arith}
use Rattle.std.specs.Prelude.{◌==◌, if◌then◌else◌}
use Rattle.std.specs.Ordering.{nat_cmp, is_lt}
use Rattle.std.specs.List.{All, AllPass}
use Rattle.std.specs.FinMap.Entries.{below_all, is_sorted}
use Rattle.std.proofs.lemmas.Bool.{and_parts, cond-true, cond-false, cases_Bool, cases_lt, leb-true, le-leb, ltb-true}
use Rattle.std.proofs.lemmas.Bool.Decides.{nat_tests}
use Rattle.std.proofs.lemmas.Option.{same_Some}
use Rattle.std.proofs.lemmas.List.Elements.{filter_passes, All-head, All-tail}
use Rattle.sq_schema.specs.declared.root.TheConstants.{ROOT_END}
use Rattle.sq_schema.specs.Effect.{RowList}
use Rattle.sq_schema.specs.Table.{TableValue}
use Rattle.sq_plan.specs.declared.plan.PlanRange.{PlanRange}
use Rattle.sq_plan.specs.PlanValue.{PlanValue, holds, owner}
use Rattle.sq_plan.proofs.Owners.{holds_from, ends_around}
use Rattle.sq_store.specs.Opened.{owned_entries, IsOwned, IsSuffix}
use Rattle.sq_store.proofs.Order.{less_from_cmp}

-- the range that is found for a root key holds it
pub range_found : (ranges : List PlanRange) (key : ℕ) (range : PlanRange) → find (λ r. holds r key) ranges ≡ Some range → holds range key ≡ true
range_found [] key range is = cc
range_found (first ∷ ranges) key range is =
    elim (cases_Bool (holds first key)) [
      | inl here ↦
          let same : first ≡ range = same_Some first range (sym (cond-true (holds first key) (Some first) (find (λ r. holds r key) ranges) here) ∙ is) in
          ap (λ (r : PlanRange). holds r key) (sym same) ∙ here
      | inr passed ↦ range_found ranges key range (sym (cond-false (holds first key) (Some first) (find (λ r. holds r key) ranges) passed) ∙ is)
    ]

-- the entries from a root key on
abbrev pub from_on : ℕ → TableValue → TableValue
from_on from table = filter (λ (entry : ℕ × RowList). nat_le from entry.0) table

not_from : (from key : ℕ) → key < from → nat_le from key ≡ false
not_from from key below = grind (arith, nat_tests)

module _ (from : ℕ) (entry : ℕ × RowList) (table : TableValue) where
  stays : from ≤ entry.0 → from_on from (entry ∷ table) ≡ entry ∷ from_on from table
  stays above = cond-true (nat_le from entry.0) (entry ∷ from_on from table) (from_on from table) (le-leb from entry.0 above)

  goes : entry.0 < from → from_on from (entry ∷ table) ≡ from_on from table
  goes below = cond-false (nat_le from entry.0) (entry ∷ from_on from table) (from_on from table) (not_from from entry.0 below)

-- all of a table whose root keys are above one are from that one on, and from the next one on
all_above : (x from : ℕ) (table : TableValue) → below_all nat_cmp x table ≡ true → from ≤ x + 1 → from_on from table ≡ table
all_above x from [] below upto = refl
all_above x from (entry ∷ table) below upto =
    let parts = and_parts (is_lt (nat_cmp x entry.0)) (below_all nat_cmp x table) below in
    let less = less_from_cmp x entry.0 parts.0 in
    stays from entry table (omega (arith, less, upto)) ∙ ap (λ (rest : TableValue). entry ∷ rest) (all_above x from table parts.1 upto)

all_from_zero : (table : TableValue) → from_on 0 table ≡ table
all_from_zero [] = refl
all_from_zero (entry ∷ table) = stays 0 entry table (omega arith) ∙ ap (λ (rest : TableValue). entry ∷ rest) (all_from_zero table)

pub suffix_all : (table : TableValue) → IsSuffix table table
suffix_all table = (0, sym (all_from_zero table))

-- behind an entry of those from a root key on are those from the next root key on
behind : (from : ℕ) (table rest : TableValue) (entry : ℕ × RowList) → is_sorted nat_cmp table ≡ true → from ≤ entry.0 → from_on from table ≡ entry ∷ rest → rest ≡ from_on (entry.0 + 1) table
behind from [] rest entry rising above is = cc
behind from (first ∷ table) rest entry rising above is =
    elim (cases_Bool (nat_le from first.0)) [
      | inl here ↦
          let upto = leb-true from first.0 here in
          let both : (first ∷ from_on from table) ≡ (entry ∷ rest) = sym (stays from first table upto) ∙ is in
          let same : first.0 ≡ entry.0 = ap (λ (e : ℕ × RowList). e.0) (let one : first ≡ entry = cc in one) in
          let left : from_on from table ≡ rest = cc in
          sym left
          ∙ all_above first.0 from table parts.0 (omega (arith, upto))
          ∙ sym (all_above first.0 (entry.0 + 1) table parts.0 (omega (arith, same)))
          ∙ sym (goes (entry.0 + 1) first table (omega (arith, same)))
      | inr passed ↦
          let below : first.0 < from = grind (arith, nat_tests) in
          behind from table rest entry parts.1 above (sym (goes from first table below) ∙ is)
          ∙ sym (goes (entry.0 + 1) first table (omega (arith, below, above)))
    ]
  where
    parts : (below_all nat_cmp first.0 table ≡ true) × (is_sorted nat_cmp table ≡ true)
    parts = and_parts (below_all nat_cmp first.0 table) (is_sorted nat_cmp table) rising

pub suffix_behind : (table left rest : TableValue) (entry : ℕ × RowList) → is_sorted nat_cmp table ≡ true → IsSuffix left table → left ≡ entry ∷ rest → rest ≡ from_on (entry.0 + 1) table
suffix_behind table left rest entry rising suffix is =
    let from = suffix.0 in
    let passes : ℕ × RowList → Type 0 = λ e. nat_le from e.0 ≡ true in
    let whole : from_on from table ≡ entry ∷ rest = sym suffix.1 ∙ is in
    let here : passes entry = All-head passes entry rest (subst (All passes) whole (filter_passes (λ (e : ℕ × RowList). nat_le from e.0) table)) in
    behind from table rest entry rising (leb-true from entry.0 here) whole

-- of those from a root key on there are no more than of those from an earlier one on
pub fewer : (from to : ℕ) (table : TableValue) → from ≤ to → length (from_on to table) ≤ length (from_on from table)
fewer from to [] upto = omega arith
fewer from to (entry ∷ table) upto =
    let rest : length (from_on to table) ≤ length (from_on from table) = fewer from to table upto in
    elim (cases_lt entry.0 to) [
      | inl before ↦
          let gone : length (from_on to (entry ∷ table)) ≡ length (from_on to table) = ap length (goes to entry table before) in
          let more : length (from_on from table) ≤ length (from_on from (entry ∷ table)) = one_more (nat_le from entry.0) in
          omega (arith, gone, more, rest)
      | inr after ↦
          let one : length (from_on to (entry ∷ table)) ≡ length (entry ∷ from_on to table) = ap length (stays to entry table after) in
          let other : length (from_on from (entry ∷ table)) ≡ length (entry ∷ from_on from table) = ap length (stays from entry table (omega (arith, after, upto))) in
          omega (arith, one, other, rest)
    ]
  where
    one_more : (b : Bool) → length (from_on from table) ≤ length (if b then entry ∷ from_on from table else from_on from table)
    one_more true = omega arith
    one_more false = omega arith

-- past all root keys there is no entry
pub none_from : (from : ℕ) (table : TableValue) → AllPass (λ entry. nat_lt entry.0 ROOT_END) table → ROOT_END ≤ from → from_on from table ≡ []
none_from from [] fit past = refl
none_from from (entry ∷ table) fit past =
    let below : entry.0 < ROOT_END = ltb-true entry.0 ROOT_END (All-head (λ (e : ℕ × RowList). nat_lt e.0 ROOT_END ≡ true) entry table fit) in
    goes from entry table (omega (arith, below, past)) ∙ none_from from table (All-tail (λ (e : ℕ × RowList). nat_lt e.0 ROOT_END ≡ true) entry table fit) past

-- where a partition owns no root key from one on and below another, those that it owns from the first one on are those from the
-- other on
module _ (plan : PlanValue) (part from to : ℕ) (upto : from ≤ to) (none : (key : ℕ) → from ≤ key → key < to → (owner plan key == part) ≡ false) where
  abbrev owned : TableValue → TableValue
  owned table = owned_entries plan part table

  pub passed_over : (table : TableValue) → owned (from_on from table) ≡ owned (from_on to table)
  passed_over [] = refl
  passed_over (entry ∷ table) =
      let rest : owned (from_on from table) ≡ owned (from_on to table) = passed_over table in
      elim (cases_lt entry.0 from) [
        | inl before ↦ ap owned (goes from entry table before) ∙ rest ∙ sym (ap owned (goes to entry table (omega (arith, before, upto))))
        | inr above ↦
            elim (cases_lt entry.0 to) [
              | inl within ↦
                  ap owned (stays from entry table above)
                  ∙ cond-false (owner plan entry.0 == part) (entry ∷ owned (from_on from table)) (owned (from_on from table)) (none entry.0 above within)
                  ∙ rest
                  ∙ sym (ap owned (goes to entry table within))
              | inr after ↦
                  ap owned (stays from entry table above)
                  ∙ ap (λ (others : TableValue). if owner plan entry.0 == part then entry ∷ others else others) rest
                  ∙ sym (ap owned (stays to entry table after))
            ]
      ]

-- a table's entry that a range of another partition holds, and all up to the end of the range, are passed over
module _ (plan : PlanValue) (part : ℕ) (range : PlanRange) (table left rest : TableValue) (entry : ℕ × RowList) (rising : is_sorted nat_cmp table ≡ true) (suffix : IsSuffix left table) (next : left ≡ entry ∷ rest)
    (owned : IsOwned plan range) (held : holds range entry.0 ≡ true) (other : (range.owner == part) ≡ false) where
  ends : (range.lo ≤ entry.0) × (entry.0 < range.hi)
  ends = ends_around range entry.0 held

  none : (key : ℕ) → entry.0 ≤ key → key < range.hi → (owner plan key == part) ≡ false
  none key above below = ap (λ (k : ℕ). k == part) (owned key (holds_from range key (omega (arith, above, ends.0)) below)) ∙ other

  pub one_left_out : owned_entries plan part left ≡ owned_entries plan part rest
  one_left_out =
      ap (owned_entries plan part) next
      ∙ cond-false (owner plan entry.0 == part) (entry ∷ owned_entries plan part rest) (owned_entries plan part rest) (none entry.0 (omega arith) ends.1)

  pub range_left_out : owned_entries plan part left ≡ owned_entries plan part (from_on range.hi table)
  range_left_out =
      one_left_out
      ∙ ap (owned_entries plan part) (suffix_behind table left rest entry rising suffix next)
      ∙ passed_over plan part (entry.0 + 1) range.hi (omega (arith, ends.1)) (λ key above below. none key (omega (arith, above)) below) table

  pub range_fewer : length (from_on range.hi table) < length left
  range_fewer =
      let behind_it : length rest ≡ length (from_on (entry.0 + 1) table) = ap length (suffix_behind table left rest entry rising suffix next) in
      let all : length left ≡ length (entry ∷ rest) = ap length next in
      omega (arith, fewer (entry.0 + 1) range.hi table (omega (arith, ends.1)), behind_it, all)

  -- where no root key is past the end of the range none is left
  pub none_left_out : AllPass (λ entry. nat_lt entry.0 ROOT_END) table → ROOT_END ≤ range.hi → owned_entries plan part rest ≡ []
  none_left_out fit past = sym one_left_out ∙ range_left_out ∙ ap (owned_entries plan part) (none_from range.hi table fit past)
