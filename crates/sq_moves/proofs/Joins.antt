-- Runs that are put together where one continues another.
use Rattle.std.proofs.Common.{◌≡◌, ◌≢◌, ⊎_elim, ℕ, ◌<◌, ◌≤◌, Bool, true, false, if◌then◌else◌, List, [], ◌∷◌, refl, ◌∙◌, arith, ◌&&◌, nat_lt, nat_le, ◌==◌}
use Rattle.std.specs.List.{list_any}
use Rattle.std.proofs.lemmas.Bool.{and_parts, and_from, or_cases, or_left, or_right, eqb-true, ltb-true, leb-true, lt-ltb, le-leb, cases_lt}
use Rattle.std.proofs.lemmas.Bool.Decides.{nat_tests}
use Rattle.sq_plan.specs.PlanValue.{PlanValue}
use Rattle.sq_moves.specs.declared.recon.Range.{Range}
use Rattle.sq_moves.specs.ReconValue.{has_key}
use Rattle.sq_moves.specs.Moves.{IsMovingRun, AreMaximal, joined_with, joined}
use Rattle.sq_moves.proofs.Rows.{Row}

-- what a range holds, as bounds
pub has_key-bounds : (range : Range) (key : ℕ) → has_key range key ≡ true → (range.lo ≤ key) × (key < range.hi)
has_key-bounds range key held =
    let parts = and_parts (nat_le range.lo key) (nat_lt key range.hi) held in
    (leb-true range.lo key parts.0, ltb-true key range.hi parts.1)

pub has_key-within : (range : Range) (key : ℕ) → range.lo ≤ key → key < range.hi → has_key range key ≡ true
has_key-within range key low high = and_from (nat_le range.lo key) (nat_lt key range.hi) (le-leb range.lo key low) (lt-ltb key range.hi high)

abbrev pub any_has_key : List Range → ℕ → Bool
any_has_key ranges key = list_any (λ range. has_key range key) ranges

-- whether a range continues another with the same owners
abbrev goes_on : Range → Range → Bool
goes_on range next = (range.hi == next.lo) && ((range.src == next.src) && (range.dst == next.dst))

abbrev both : Range → Range → Range
both range next = record { lo = range.lo; hi = next.hi; src = next.src; dst = next.dst }

goes_on_parts : (range next : Range) → goes_on range next ≡ true → (range.hi ≡ next.lo) × (range.src ≡ next.src) × (range.dst ≡ next.dst)
goes_on_parts range next on =
    let first = and_parts (range.hi == next.lo) ((range.src == next.src) && (range.dst == next.dst)) on in
    let second = and_parts (range.src == next.src) (range.dst == next.dst) first.1 in
    (eqb-true range.hi next.lo first.0, eqb-true range.src next.src second.0, eqb-true range.dst next.dst second.1)

apart_parts : (range next : Range) → goes_on range next ≡ false → range.hi ≡ next.lo → range.src ≡ next.src → range.dst ≢ next.dst
apart_parts range next off at src dst = grind (arith, nat_tests)

module _ (old new : PlanValue) where
  -- two runs, one of which continues the other, are one run
  both_run : (range next : Range) → goes_on range next ≡ true → IsMovingRun old new range → IsMovingRun old new next → IsMovingRun old new (both range next)
  both_run range next on one other =
      let parts = goes_on_parts range next on in
      record {
        some = omega (arith, one.some, other.some);
        within = other.within;
        moves = other.moves;
        owned = λ key low high. ⊎_elim
            (λ (before : key < range.hi). let owners = one.owned key low before in (owners.0 ∙ parts.1, owners.1 ∙ parts.2))
            (λ (behind : range.hi ≤ key). other.owned key (omega arith) high)
            (cases_lt key range.hi);
      }

  -- joined runs follow one another, and none of them can be joined
  record Joined (lo hi : ℕ) (ranges result : List Range) : Type 0 where
    row : Row (IsMovingRun old new) lo hi result
    maximal : AreMaximal result
    each : (key : ℕ) → any_has_key ranges key ≡ true → any_has_key result key ≡ true

  join_first : (lo hi : ℕ) (range : Range) (ranges result : List Range) → lo ≤ range.lo → range.lo < range.hi → IsMovingRun old new range → Joined range.hi hi ranges result → Joined lo hi (range ∷ ranges) (joined_with range result)
  join_first lo hi range ranges [] low some run rest = record {
    row = (low, some, run, rest.row);
    maximal = tt;
    each = λ key held. ⊎_elim
        (λ (here : has_key range key ≡ true). or_left (has_key range key) false here)
        (λ (behind : any_has_key ranges key ≡ true). or_right (has_key range key) false (rest.each key behind))
        (or_cases (has_key range key) (any_has_key ranges key) held);
  }
  join_first lo hi range ranges (next ∷ nexts) low some run rest =
      elim (goes_on range next) as (λ b. goes_on range next ≡ b → Joined lo hi (range ∷ ranges) (if b then both range next ∷ nexts else range ∷ next ∷ nexts)) [
        | true ↦ λ on.
            let parts = goes_on_parts range next on in
            record {
              row = (low, omega (arith, rest.row.1), both_run range next on run rest.row.2, rest.row.3);
              maximal = maximal_both nexts rest.maximal;
              each = λ key held. ⊎_elim
                  (λ (here : has_key range key ≡ true).
                  let bounds = has_key-bounds range key here in
                  or_left (has_key (both range next) key) (any_has_key nexts key) (has_key-within (both range next) key bounds.0 (omega (arith, rest.row.1))))
                  (λ (behind : any_has_key ranges key ≡ true). ⊎_elim
                  (λ (there : has_key next key ≡ true).
                  let bounds = has_key-bounds next key there in
                  or_left (has_key (both range next) key) (any_has_key nexts key) (has_key-within (both range next) key (omega arith) bounds.1))
                  (λ (further : any_has_key nexts key ≡ true). or_right (has_key (both range next) key) (any_has_key nexts key) further)
                  (or_cases (has_key next key) (any_has_key nexts key) (rest.each key behind)))
                  (or_cases (has_key range key) (any_has_key ranges key) held);
            }
        | false ↦ λ off. record {
          row = (low, some, run, rest.row);
          maximal = ((rest.row.0, apart_parts range next off), rest.maximal);
          each = λ key held. ⊎_elim
              (λ (here : has_key range key ≡ true). or_left (has_key range key) (any_has_key (next ∷ nexts) key) here)
              (λ (behind : any_has_key ranges key ≡ true). or_right (has_key range key) (any_has_key (next ∷ nexts) key) (rest.each key behind))
              (or_cases (has_key range key) (any_has_key ranges key) held);
        }
      ] refl
    where
      maximal_both : (others : List Range) → AreMaximal (next ∷ others) → AreMaximal (both range next ∷ others)
      maximal_both [] maximal = tt
      maximal_both (other ∷ others) maximal = maximal

  join_all : (lo hi : ℕ) (ranges : List Range) → Row (IsMovingRun old new) lo hi ranges → Joined lo hi ranges (joined ranges)
  join_all lo hi [] row = record { row = row; maximal = tt; each = λ key held. held }
  join_all lo hi (range ∷ ranges) row = join_first lo hi range ranges (joined ranges) row.0 row.1 row.2 (join_all range.hi hi ranges row.3)

  pub joined-row : (lo hi : ℕ) (ranges : List Range) → Row (IsMovingRun old new) lo hi ranges → Row (IsMovingRun old new) lo hi (joined ranges)
  joined-row lo hi ranges row = (join_all lo hi ranges row).row

  pub joined-maximal : (lo hi : ℕ) (ranges : List Range) → Row (IsMovingRun old new) lo hi ranges → AreMaximal (joined ranges)
  joined-maximal lo hi ranges row = (join_all lo hi ranges row).maximal

  pub joined-each : (lo hi : ℕ) (ranges : List Range) (key : ℕ) → Row (IsMovingRun old new) lo hi ranges → any_has_key ranges key ≡ true → any_has_key (joined ranges) key ≡ true
  joined-each lo hi ranges key row = (join_all lo hi ranges row).each key
