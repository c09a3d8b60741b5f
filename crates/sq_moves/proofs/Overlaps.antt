-- What is made of the overlaps of two plans' ranges is what moves between them.
use Rattle.std.proofs.Common.{◌≡◌, ◌≢◌, ⊎_elim, ℕ, ◌<◌, ◌≤◌, min, max, true, false, cond, List, [], ◌∷◌, map, refl, sym, ◌∙◌, subst, arith, nat_lt, not, ◌==◌}
use Rattle.std.specs.Prelude.{filter}
use Rattle.std.specs.List.{flat_map}
use Rattle.std.proofs.lemmas.Bool.{and_parts, and_from, or_left, or_right, eqb-true, eqb-false, ltb-true, lt-ltb, ne_eqb, not-true, not_from_false, cases_lt}
use Rattle.std.proofs.lemmas.List.Folds.{list_any-append}
use Rattle.sq_plan.specs.declared.plan.PlanRange.{PlanRange}
use Rattle.sq_schema.specs.declared.root.TheConstants.{ROOT_END}
use Rattle.sq_plan.specs.PlanValue.{PlanValue, IsPlan, is_tiling, owner}
use Rattle.sq_moves.specs.declared.recon.Range.{Range}
use Rattle.sq_moves.specs.ReconValue.{has_key}
use Rattle.sq_moves.specs.Moves.{IsMovingRun, AreMoves, overlap, moves_keys, moves_of}
use Rattle.sq_moves.proofs.Rows.{Row, row-append, row_each}
use Rattle.sq_moves.proofs.Tilings.{owner_among, tiling_parts, tiling_bounds, owner_among-first, owner_among-rest}
use Rattle.sq_moves.proofs.Joins.{any_has_key, has_key-within, joined-row, joined-maximal, joined-each}

-- the overlaps of one range with the other plan's that have keys which move
abbrev overlaps : List PlanRange → PlanRange → List Range
overlaps news one = filter moves_keys (map (overlap one) news)

moves_keys_parts : (range : Range) → moves_keys range ≡ true → (range.lo < range.hi) × (range.src ≢ range.dst)
moves_keys_parts range is =
    let parts = and_parts (nat_lt range.lo range.hi) (not (range.src == range.dst)) is in
    (ltb-true range.lo range.hi parts.0, eqb-false range.src range.dst (not-true (range.src == range.dst) parts.1))

moves_keys_so : (range : Range) → range.lo < range.hi → range.src ≢ range.dst → moves_keys range ≡ true
moves_keys_so range some differ =
    and_from (nat_lt range.lo range.hi) (not (range.src == range.dst)) (lt-ltb range.lo range.hi some) (not_from_false (range.src == range.dst) (ne_eqb range.src range.dst differ))

module _ (old new : PlanValue) where
  -- the ranges give the owners of the new plan from this key on
  abbrev AgreeFrom : (ℕ → ℕ) → ℕ → List PlanRange → Type 0
  AgreeFrom by from ranges = (key : ℕ) → from ≤ key → owner_among ranges key ≡ by key

  agree_rest : (by : ℕ → ℕ) (from : ℕ) (range : PlanRange) (ranges : List PlanRange) → from ≤ range.hi → AgreeFrom by from (range ∷ ranges) → AgreeFrom by range.hi ranges
  agree_rest by from range ranges le agree key low = sym (owner_among-rest range ranges key low) ∙ agree key (omega arith)

  agree_first : (by : ℕ → ℕ) (from : ℕ) (range : PlanRange) (ranges : List PlanRange) → range.lo ≡ from → AgreeFrom by from (range ∷ ranges) → (key : ℕ) → range.lo ≤ key → key < range.hi → by key ≡ range.owner
  agree_first by from range ranges at agree key low high = sym (agree key (omega arith)) ∙ owner_among-first range ranges key low high

  overlaps_row : (b : ℕ) (one : PlanRange) (from : ℕ) (news : List PlanRange) → one.hi ≤ ROOT_END → ((key : ℕ) → one.lo ≤ key → key < one.hi → owner old key ≡ one.owner) → is_tiling from news ≡ true → AgreeFrom (owner new) from news → b ≤ one.hi → b ≤ max one.lo from → Row (IsMovingRun old new) b one.hi (overlaps news one)
  overlaps_row b one from [] within owned tiling agree high low = high
  overlaps_row b one from (other ∷ news) within owned tiling agree high low =
      let parts = tiling_parts from other news tiling in
      let rest = agree_rest (owner new) from other news (omega arith) agree in
      elim (moves_keys (overlap one other)) as (λ t. moves_keys (overlap one other) ≡ t → Row (IsMovingRun old new) b one.hi (cond t (overlap one other ∷ overlaps news one) (overlaps news one))) [
        | true ↦ λ is.
            let facts = moves_keys_parts (overlap one other) is in (
              omega arith,
              facts.0,
              record {
                some = facts.0;
                within = omega arith;
                moves = facts.1;
                owned = λ key from_lo to_hi. (owned key (omega arith) (omega arith), agree_first (owner new) from other news parts.0 agree key (omega arith) (omega arith));
              },
              overlaps_row (min one.hi other.hi) one other.hi news within owned parts.2 rest (omega arith) (omega arith),
            )
        | false ↦ λ _. overlaps_row b one other.hi news within owned parts.2 rest high (omega arith)
      ] refl

  overlaps_each : (one : PlanRange) (from : ℕ) (news : List PlanRange) → is_tiling from news ≡ true → AgreeFrom (owner new) from news → (key : ℕ) → one.lo ≤ key → key < one.hi → from ≤ key → key < ROOT_END → owner old key ≡ one.owner → owner old key ≢ owner new key → any_has_key (overlaps news one) key ≡ true
  overlaps_each one from [] tiling agree key low high behind within owned differ = let end = eqb-true from ROOT_END tiling in absurd (omega arith)
  overlaps_each one from (other ∷ news) tiling agree key low high behind within owned differ =
      let parts = tiling_parts from other news tiling in ⊎_elim
      (λ (here : key < other.hi).
      let owner_is = agree_first (owner new) from other news parts.0 agree key (omega arith) here in
      let is = moves_keys_so (overlap one other) (omega arith) (λ same. differ (owned ∙ same ∙ sym owner_is)) in
      subst (λ t. any_has_key (cond t (overlap one other ∷ overlaps news one) (overlaps news one)) key ≡ true) (sym is)
      (or_left (has_key (overlap one other) key) (any_has_key (overlaps news one) key) (has_key-within (overlap one other) key (omega arith) (omega arith))))
      (λ (further : other.hi ≤ key).
      let rest = overlaps_each one other.hi news parts.2 (agree_rest (owner new) from other news (omega arith) agree) key low high further within owned differ in
      elim (moves_keys (overlap one other)) as (λ t. any_has_key (cond t (overlap one other ∷ overlaps news one) (overlaps news one)) key ≡ true) [
        | true ↦ or_right (has_key (overlap one other) key) (any_has_key (overlaps news one) key) rest
        | false ↦ rest
      ])
      (cases_lt key other.hi)

  module _ (news : List PlanRange) (tiling : is_tiling 0 news ≡ true) (agree : AgreeFrom (owner new) 0 news) where
    all_row : (from : ℕ) (olds : List PlanRange) → is_tiling from olds ≡ true → AgreeFrom (owner old) from olds → Row (IsMovingRun old new) from ROOT_END (flat_map (overlaps news) olds)
    all_row from [] end agree_old = tiling_bounds from [] end
    all_row from (one ∷ olds) tiled agree_old =
        let parts = tiling_parts from one olds tiled in
        let bound = tiling_bounds one.hi olds parts.2 in
        row-append (IsMovingRun old new) from one.hi ROOT_END (overlaps news one) (flat_map (overlaps news) olds)
        (overlaps_row from one 0 news bound (agree_first (owner old) from one olds parts.0 agree_old) tiling agree (omega arith) (omega arith))
        (all_row one.hi olds parts.2 (agree_rest (owner old) from one olds (omega arith) agree_old))

    all_each : (from : ℕ) (olds : List PlanRange) → is_tiling from olds ≡ true → AgreeFrom (owner old) from olds → (key : ℕ) → from ≤ key → key < ROOT_END → owner old key ≢ owner new key → any_has_key (flat_map (overlaps news) olds) key ≡ true
    all_each from [] end agree_old key low within differ = let is = eqb-true from ROOT_END end in absurd (omega arith)
    all_each from (one ∷ olds) tiled agree_old key low within differ =
        let parts = tiling_parts from one olds tiled in
        list_any-append (λ range. has_key range key) (overlaps news one) (flat_map (overlaps news) olds) ∙ ⊎_elim
        (λ (here : key < one.hi).
        or_left (any_has_key (overlaps news one) key) (any_has_key (flat_map (overlaps news) olds) key)
        (overlaps_each one 0 news tiling agree key (omega arith) here (omega arith) within (agree_first (owner old) from one olds parts.0 agree_old key (omega arith) here) differ))
        (λ (further : one.hi ≤ key).
        or_right (any_has_key (overlaps news one) key) (any_has_key (flat_map (overlaps news) olds) key)
        (all_each one.hi olds parts.2 (agree_rest (owner old) from one olds (omega arith) agree_old) key further within differ))
        (cases_lt key one.hi)

pub moves_of-row : (old new : PlanValue) → IsPlan old → IsPlan new → Row (IsMovingRun old new) 0 ROOT_END (moves_of old new)
unfolding moves_of
moves_of-row old new is_old is_new =
    joined-row old new 0 ROOT_END (flat_map (overlaps new.ranges) old.ranges)
    (all_row old new new.ranges is_new.tiling (λ key _. refl) 0 old.ranges is_old.tiling (λ key _. refl))

pub moves_of-moves : (old new : PlanValue) → IsPlan old → IsPlan new → AreMoves old new (moves_of old new)
unfolding moves_of
moves_of-moves old new is_old is_new =
    let row = all_row old new new.ranges is_new.tiling (λ key _. refl) 0 old.ranges is_old.tiling (λ key _. refl) in
    record {
      runs = row_each (IsMovingRun old new) 0 ROOT_END (moves_of old new) (moves_of-row old new is_old is_new);
      maximal = joined-maximal old new 0 ROOT_END (flat_map (overlaps new.ranges) old.ranges) row;
      each = λ key within differ. joined-each old new 0 ROOT_END (flat_map (overlaps new.ranges) old.ranges) key row
          (all_each old new new.ranges is_new.tiling (λ k _. refl) 0 old.ranges is_old.tiling (λ k _. refl) key (omega arith) within differ);
    }
