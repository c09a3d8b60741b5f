-- Stages divide a move.
use Rattle.std.proofs.Common.{◌≡◌, ◌≢◌, ⊎_elim, inl, inr, ℕ, ◌+◌, ◌<◌, ◌≤◌, ◌==◌, ◌&&◌, max, Bool, true, false, not, nat_lt, List, [], ◌∷◌, length, get_or, filter, position, Contains, Option, Some, None, unwrap_or, refl, sym, ap, ◌∙◌, subst, arith, true≢false}
use Rattle.std.specs.Prelude.{AllPairs}
use Rattle.std.specs.List.{position_or_len}
use Rattle.std.proofs.lemmas.Bool.{cases_Bool, cases_lt, cond-true, cond-false, cond_both, and_parts, and_from, or_cases, or_left, or_right, eqb-true, eq-eqb, eqb-false, ne_eqb, lt-ltb}
use Rattle.std.proofs.lemmas.List.Kept.{AllPairs-cons, AllPairs-filter}
use Rattle.std.proofs.lemmas.List.Sums.{position_or_len_is}
use Rattle.std.proofs.lemmas.Option.{slice_get-get_or, same_Some}
use Rattle.sq_moves.specs.declared.recon.Range.{Range}
use Rattle.sq_moves.specs.ReconValue.{ReconValue, is_link, destinations, place_on, stage_on, stage_in, stages_in, stages}
use Rattle.sq_moves.proofs.Stages.{stage_below}
use Rattle.sq_model.proofs.Lists.{list_any-Contains, Contains-first, Contains-later, Contains-cases, Contains-nothing, Contains-filter, Contains-slice_get, kept_in}
use Rattle.sq_laws.specs.Stages.{GoIn, DivideTheMove}

-- ---- the partitions to which one gives rows

abbrev unlike : ℕ → ℕ → Bool
unlike first dst = not (dst == first)

-- the element at an index is in the list
at_index : (xs : List ℕ) (k d : ℕ) → k < length xs → Contains xs (get_or xs k d)
at_index xs k d within = Contains-slice_get xs k (get_or xs k d) (slice_get-get_or xs k d within)

-- those are they to which a range goes
linked_in : (ranges : List Range) (src dst : ℕ) → is_link ranges src dst ≡ true → Contains (destinations src ranges) dst
linked_in [] src dst linked = absurd (true≢false (sym linked))
linked_in (range ∷ ranges) src dst linked =
    cond_both (range.src == src) (range.dst ∷ filter (unlike range.dst) (destinations src ranges)) (destinations src ranges) (λ ds. Contains ds dst)
    (λ ours.
    elim (cases_Bool (dst == range.dst)) [
      | inl same ↦ subst (λ d. Contains (range.dst ∷ filter (unlike range.dst) (destinations src ranges)) d) (sym (eqb-true dst range.dst same)) (Contains-first range.dst (filter (unlike range.dst) (destinations src ranges)))
      | inr other ↦
          Contains-later range.dst (filter (unlike range.dst) (destinations src ranges)) dst
          (Contains-filter (unlike range.dst) (destinations src ranges) dst
          (linked_in ranges src dst (later (λ here. eqb-false dst range.dst other (sym (eqb-true range.dst dst (and_parts (range.src == src) (range.dst == dst) here).1)))))
          (ap not other))
    ])
    (λ others. linked_in ranges src dst (later (λ here. true≢false (sym (and_parts (range.src == src) (range.dst == dst) here).0 ∙ others))))
  where
    later : (((range.src == src) && (range.dst == dst)) ≡ true → ⊥) → is_link ranges src dst ≡ true
    later away = ⊎_elim (λ here. absurd (away here)) (λ rest. rest) (or_cases ((range.src == src) && (range.dst == dst)) (is_link ranges src dst) linked)

in_linked : (ranges : List Range) (src dst : ℕ) → Contains (destinations src ranges) dst → is_link ranges src dst ≡ true
in_linked [] src dst has = absurd (Contains-nothing dst has)
in_linked (range ∷ ranges) src dst has =
    elim (cases_Bool (range.src == src)) [
      | inl ours ↦
          elim (Contains-cases range.dst (filter (unlike range.dst) (destinations src ranges)) dst (subst (λ ds. Contains ds dst) (cond-true (range.src == src) (range.dst ∷ filter (unlike range.dst) (destinations src ranges)) (destinations src ranges) ours) has)) [
            | inl same ↦ or_left ((range.src == src) && (range.dst == dst)) (is_link ranges src dst) (and_from (range.src == src) (range.dst == dst) ours (eq-eqb range.dst dst same))
            | inr more ↦ or_right ((range.src == src) && (range.dst == dst)) (is_link ranges src dst) (in_linked ranges src dst (kept_in (unlike range.dst) (destinations src ranges) dst more).0)
          ]
      | inr others ↦
          or_right ((range.src == src) && (range.dst == dst)) (is_link ranges src dst)
          (in_linked ranges src dst (subst (λ ds. Contains ds dst) (cond-false (range.src == src) (range.dst ∷ filter (unlike range.dst) (destinations src ranges)) (destinations src ranges) others) has))
    ]

abbrev Differ : List ℕ → Type 0
Differ = AllPairs (λ (one other : ℕ). one ≢ other)

-- each is there once
differ : (ranges : List Range) (src : ℕ) → Differ (destinations src ranges)
differ [] src = λ i j d below within. absurd (omega (arith, within))
differ (range ∷ ranges) src =
    cond_both (range.src == src) (range.dst ∷ filter (unlike range.dst) (destinations src ranges)) (destinations src ranges) Differ
    (λ ours.
    let rest = filter (unlike range.dst) (destinations src ranges) in
    AllPairs-cons (λ (one other : ℕ). one ≢ other) range.dst rest
    (λ k d within same. apart (get_or rest k d) (kept_in (unlike range.dst) (destinations src ranges) (get_or rest k d) (at_index rest k d within)).1 same)
    (AllPairs-filter (λ (one other : ℕ). one ≢ other) (unlike range.dst) (destinations src ranges) (differ ranges src)))
    (λ others. differ ranges src)
  where
    apart : (dst : ℕ) → unlike range.dst dst ≡ true → range.dst ≡ dst → ⊥
    apart dst passes same = true≢false (sym passes ∙ ap not (eq-eqb dst range.dst (sym same)))

-- ---- places

-- the place of one that is there
module _ (ds : List ℕ) (apart : Differ ds) where
  place_at : (i d : ℕ) → i < length ds → position (λ other. other == get_or ds i d) ds ≡ Some i
  place_at i d within =
      let dst = get_or ds i d in
      let test : ℕ → Bool = λ other. other == dst in
      let at : position_or_len test ds ≡ i =
      position_or_len_is test ds i d (omega (arith, within)) (λ k below. ne_eqb (get_or ds k d) dst (apart k i d below within)) (λ _. eq-eqb dst dst refl) in
      cond-true (nat_lt (position_or_len test ds) (length ds)) (Some (position_or_len test ds)) None (lt-ltb (position_or_len test ds) (length ds) (omega (arith, at, within)))
      ∙ ap Some at

  -- each that is there has a place, and stands at it
  placed : (dst : ℕ) → Contains ds dst → (i : ℕ) × (i < length ds) × (get_or ds i dst ≡ dst) × (position (λ other. other == dst) ds ≡ Some i)
  placed dst has = (has.0, has.1, has.2, subst (λ (d : ℕ). position (λ other. other == d) ds ≡ Some has.0) has.2 (place_at has.0 dst has.1))

module _ (recon : ReconValue) where
  abbrev those_of : ℕ → List ℕ
  those_of src = destinations src recon.ranges

  -- by "auto" the stage of a link is the place of its destination
  stage_is : recon.auto ≡ true → (src dst i : ℕ) → position (λ other. other == dst) (those_of src) ≡ Some i → stage_on recon src dst ≡ i
  stage_is auto src dst i at = cond-true recon.auto (place_on recon.ranges src dst) 0 auto ∙ ap (λ (found : Option ℕ). unwrap_or found 0) at

  one_each : recon.auto ≡ true → (src dst other i : ℕ) → GoIn recon src dst i → GoIn recon src other i → dst ≡ other
  one_each auto src dst other i one another =
      let ds = those_of src in
      let first = placed ds (differ recon.ranges src) dst (linked_in recon.ranges src dst one.linked) in
      let second = placed ds (differ recon.ranges src) other (linked_in recon.ranges src other another.linked) in
      let here : first.0 ≡ i = sym (stage_is auto src dst first.0 first.3) ∙ one.stage in
      let there : second.0 ≡ i = sym (stage_is auto src other second.0 second.3) ∙ another.stage in
      sym (at_place ds dst first.0 dst first.1 first.2)
      ∙ ap (λ k. get_or ds k dst) (here ∙ sym there)
      ∙ at_place ds dst second.0 other second.1 second.2
    where
      at_place : (ds : List ℕ) (d k dst : ℕ) → k < length ds → get_or ds k dst ≡ dst → get_or ds k d ≡ dst
      at_place ds d k dst within is = same_Some (get_or ds k d) dst (sym (slice_get-get_or ds k d within) ∙ slice_get-get_or ds k dst within ∙ ap Some is)

  -- ---- no stage is empty

  -- a range of the last stage
  last_of : (range : Range) (ranges : List Range) → (last : Range) × Contains (range ∷ ranges) last × (stage_in recon last + 1 ≡ stages_in recon (range ∷ ranges))
  last_of range [] = (range, Contains-first range [], omega arith)
  last_of range (next ∷ ranges) =
      let later = last_of next ranges in
      elim (cases_lt (stage_in recon later.0) (stage_in recon range)) [
        | inl higher ↦ (range, Contains-first range (next ∷ ranges), let is = later.2 in most (stage_in recon range + 1) (stages_in recon (next ∷ ranges)) (omega (arith, is, higher)))
        | inr lower ↦ (later.0, Contains-later range (next ∷ ranges) later.0 later.1, let is = later.2 in rest (stage_in recon range + 1) (stages_in recon (next ∷ ranges)) (stage_in recon later.0 + 1) is (omega (arith, is, lower)))
      ]
    where
      most : (here others : ℕ) → others ≤ here → here ≡ max here others
      most here others below = omega arith

      rest : (here others one : ℕ) → one ≡ others → here ≤ others → one ≡ max here others
      rest here others one is below = omega arith

  range_linked : (range : Range) → Contains recon.ranges range → is_link recon.ranges range.src range.dst ≡ true
  range_linked range has =
      list_any-Contains (λ (other : Range). (other.src == range.src) && (other.dst == range.dst)) recon.ranges range has
      (and_from (range.src == range.src) (range.dst == range.dst) (eq-eqb range.src range.src refl) (eq-eqb range.dst range.dst refl))

  -- by "auto" each stage up to that of a range has a range of the same source
  up_to : recon.auto ≡ true → (last : Range) → Contains recon.ranges last → (i : ℕ) → i ≤ stage_in recon last → (src dst : ℕ) × GoIn recon src dst i
  up_to auto last has i below =
      let ds = those_of last.src in
      let apart = differ recon.ranges last.src in
      let its = placed ds apart last.dst (linked_in recon.ranges last.src last.dst (range_linked last has)) in
      let stage : stage_in recon last ≡ its.0 = stage_is auto last.src last.dst its.0 its.3 in
      let place = its.1 in
      let within : i < length ds = omega (arith, below, stage, place) in
      let dst = get_or ds i 0 in
      (last.src, dst, record { linked = in_linked recon.ranges last.src dst (at_index ds i 0 within); stage = stage_is auto last.src dst i (place_at ds apart i 0 within) })

  at_first : recon.auto ≡ false → (src dst : ℕ) → stage_on recon src dst ≡ 0
  at_first once src dst = cond-false recon.auto (place_on recon.ranges src dst) 0 once

  none_empty_in : (all : List Range) → all ≡ recon.ranges → 0 < length all → (i : ℕ) → i < stages recon → (src dst : ℕ) × GoIn recon src dst i
  none_empty_in [] are some i below = absurd (omega (arith, some))
  none_empty_in (range ∷ ranges) are some i below =
      let last = last_of range ranges in
      let most : stage_in recon last.0 + 1 ≡ stages recon = last.2 ∙ ap (stages_in recon) are in
      let has : Contains recon.ranges last.0 = subst (λ (rs : List Range). Contains rs last.0) are last.1 in
      let upto : i ≤ stage_in recon last.0 = omega (arith, most, below) in
      elim (cases_Bool recon.auto) [
        | inl auto ↦ up_to auto last.0 has i upto
        | inr once ↦
            let none : stage_in recon last.0 ≡ 0 = at_first once last.0.src last.0.dst in
            (last.0.src, last.0.dst, record { linked = range_linked last.0 has; stage = none ∙ (let z : 0 ≡ i = omega (arith, upto, none) in z) })
      ]

  one_stage_in : recon.auto ≡ false → (all : List Range) → stages_in recon all ≡ 1
  one_stage_in once [] = refl
  one_stage_in once (range ∷ ranges) =
      let here : stage_in recon range ≡ 0 = at_first once range.src range.dst in
      let rest = one_stage_in once ranges in
      most (stage_in recon range) (stages_in recon ranges) here rest
    where
      most : (here others : ℕ) → here ≡ 0 → others ≡ 1 → max (here + 1) others ≡ 1
      most here others none one = omega arith

pub divide : (recon : ReconValue) → DivideTheMove recon
divide recon =
    record {
      below = stage_below recon;
      one_each = one_each recon;
      none_empty = λ some i below. none_empty_in recon recon.ranges refl some i below;
      at_once = λ once. one_stage_in recon once recon.ranges;
    }
