-- The moves between two plans, one after another from a key on. There is one list of them.
use Rattle.std.proofs.Common.{◌≡◌, ◌≢◌, ⊎_elim, ℕ, ◌<◌, ◌≤◌, true, false, true≢false, List, [], ◌∷◌, refl, sym, ap, ◌∙◌, subst, arith}
use Rattle.std.specs.Prelude.{All}
use Rattle.std.proofs.lemmas.Bool.{or_cases, cases_lt, cases_eq}
use Rattle.std.proofs.lemmas.List.Elements.{All-head, All-tail}
use Rattle.sq_schema.specs.declared.root.TheConstants.{ROOT_END}
use Rattle.sq_plan.specs.PlanValue.{PlanValue, IsPlan, owner}
use Rattle.sq_moves.specs.declared.recon.Range.{Range}
use Rattle.sq_moves.specs.ReconValue.{has_key}
use Rattle.sq_moves.specs.Moves.{IsMovingRun, AreMaximal, AreMoves, AreTheMoves, moves_of}
use Rattle.sq_moves.specs.Sweep.{IsNextRun, AreMovesFrom}
use Rattle.sq_moves.proofs.Joins.{any_has_key, has_key-bounds}
use Rattle.sq_moves.proofs.Overlaps.{moves_of-moves}

module _ (old new : PlanValue) where
  -- what maximal runs hold is from the first of them on
  held_from : (run : Range) (runs : List Range) (key : ℕ) → All (IsMovingRun old new) (run ∷ runs) → AreMaximal (run ∷ runs) → any_has_key (run ∷ runs) key ≡ true → run.lo ≤ key
  held_from run [] key all maximal held = ⊎_elim
      (λ (here : has_key run key ≡ true). (has_key-bounds run key here).0)
      (λ (none : false ≡ true). absurd (true≢false (sym none)))
      (or_cases (has_key run key) false held)
  held_from run (next ∷ runs) key all maximal held = ⊎_elim
      (λ (here : has_key run key ≡ true). (has_key-bounds run key here).0)
      (λ (behind : any_has_key (next ∷ runs) key ≡ true).
      let low = held_from next runs key (All-tail (IsMovingRun old new) run (next ∷ runs) all) maximal.1 behind in
      let is = All-head (IsMovingRun old new) run (next ∷ runs) all in
      omega (arith, is.some, maximal.0.0))
      (or_cases (has_key run key) (any_has_key (next ∷ runs) key) held)

  -- they begin from this key on
  abbrev BeginFrom : ℕ → List Range → Type 0
  BeginFrom at [] = Unit {0}
  BeginFrom at (run ∷ runs) = at ≤ run.lo

  begin_behind : (run : Range) (runs : List Range) → AreMaximal (run ∷ runs) → BeginFrom run.hi runs × AreMaximal runs
  begin_behind run [] maximal = (tt, tt)
  begin_behind run (next ∷ runs) maximal = (maximal.0.0, maximal.1)

  -- a run isn't continued with behind it
  no_further : (run : Range) (runs : List Range) → IsMovingRun old new run → All (IsMovingRun old new) runs → AreMaximal (run ∷ runs) → any_has_key runs run.hi ≡ true → owner old run.hi ≡ run.src → owner new run.hi ≡ run.dst → ⊥
  no_further run [] is all maximal held src dst = true≢false (sym held)
  no_further run (next ∷ runs) is all maximal held src dst =
      let low = held_from next runs run.hi all maximal.1 held in
      let next_is = All-head (IsMovingRun old new) next runs all in
      let owners = next_is.owned run.hi low (omega (arith, next_is.some, maximal.0.0)) in
      maximal.0.1 (omega (arith, maximal.0.0)) (sym src ∙ owners.0) (sym dst ∙ owners.1)

  moves_from : (at : ℕ) (runs : List Range) → BeginFrom at runs → All (IsMovingRun old new) runs → AreMaximal runs → ((key : ℕ) → at ≤ key → key < ROOT_END → owner old key ≢ owner new key → any_has_key runs key ≡ true) → AreMovesFrom old new at runs
  moves_from at [] begin all maximal each = λ key low within. ⊎_elim
      (λ (same : owner old key ≡ owner new key). same)
      (λ (differ : owner old key ≢ owner new key). absurd (true≢false (sym (each key low within differ))))
      (cases_eq (owner old key) (owner new key))
  moves_from at (run ∷ runs) begin all maximal each =
      let is = All-head (IsMovingRun old new) run runs all in
      let rest = All-tail (IsMovingRun old new) run runs all in
      let behind = begin_behind run runs maximal in (
        record {
          moves = is;
          from = begin;
          before = λ key low high. ⊎_elim
              (λ (same : owner old key ≡ owner new key). same)
              (λ (differ : owner old key ≢ owner new key).
              let later = held_from run runs key all maximal (each key low (omega (arith, is.some, is.within)) differ) in
              absurd (omega arith))
              (cases_eq (owner old key) (owner new key));
          after = λ within src dst. ⊎_elim
              (λ (here : has_key run run.hi ≡ true). let bounds = has_key-bounds run run.hi here in absurd (omega arith))
              (λ (held : any_has_key runs run.hi ≡ true). no_further run runs is rest maximal held src dst)
              (or_cases (has_key run run.hi) (any_has_key runs run.hi) (each run.hi (omega (arith, is.some)) within (λ same. is.moves (sym src ∙ same ∙ dst))));
        },
        moves_from run.hi runs behind.0 rest behind.1 (λ key low within differ. ⊎_elim
            (λ (here : has_key run key ≡ true). let bounds = has_key-bounds run key here in absurd (omega arith))
            (λ (held : any_has_key runs key ≡ true). held)
            (or_cases (has_key run key) (any_has_key runs key) (each key (omega (arith, is.some)) within differ))),
      )

  -- the moves, from the first key on
  pub moves_from_first : (runs : List Range) → AreMoves old new runs → AreMovesFrom old new 0 runs
  moves_from_first runs moves = moves_from 0 runs (begin runs) moves.runs moves.maximal (λ key low within differ. moves.each key within differ)
    where
      begin : (runs : List Range) → BeginFrom 0 runs
      begin [] = tt
      begin (run ∷ runs) = omega arith

  -- which of two next runs begins later
  no_later : (at : ℕ) (one other : Range) → IsNextRun old new at one → IsNextRun old new at other → one.lo < other.lo → ⊥
  no_later at one other is is' later =
      let owners = is.moves.owned one.lo (omega arith) is.moves.some in
      is.moves.moves (sym owners.0 ∙ is'.before one.lo is.from later ∙ owners.1)

  -- which of them ends earlier
  no_earlier : (at : ℕ) (one other : Range) → IsNextRun old new at one → IsNextRun old new at other → one.lo ≡ other.lo → one.src ≡ other.src → one.dst ≡ other.dst → one.hi < other.hi → ⊥
  no_earlier at one other is is' lo src dst earlier =
      let owners = is'.moves.owned one.hi (omega (arith, is.moves.some)) earlier in
      is.after (omega (arith, is'.moves.within)) (owners.0 ∙ sym src) (owners.1 ∙ sym dst)

  same_from_orders : (a b : ℕ) → (a < b → ⊥) → (b < a → ⊥) → a ≡ b
  same_from_orders a b no_less no_more = ⊎_elim
      (λ (less : a < b). absurd (no_less less))
      (λ (le : b ≤ a). ⊎_elim (λ (more : b < a). absurd (no_more more)) (λ (ge : a ≤ b). omega arith) (cases_lt b a))
      (cases_lt a b)

  -- there is one next run
  pub same_next : (at : ℕ) (one other : Range) → IsNextRun old new at one → IsNextRun old new at other → one ≡ other
  same_next at one other is is' =
      let lo : one.lo ≡ other.lo = same_from_orders one.lo other.lo (no_later at one other is is') (no_later at other one is' is) in
      let owners = is.moves.owned one.lo (omega arith) is.moves.some in
      let owners' = is'.moves.owned one.lo (omega arith) (omega (arith, is'.moves.some)) in
      let src : one.src ≡ other.src = sym owners.0 ∙ owners'.0 in
      let dst : one.dst ≡ other.dst = sym owners.1 ∙ owners'.1 in
      let hi : one.hi ≡ other.hi = same_from_orders one.hi other.hi (no_earlier at one other is is' lo src dst) (no_earlier at other one is' is (sym lo) (sym src) (sym dst)) in
      λ i. record { lo = lo i; hi = hi i; src = src i; dst = dst i }

  -- where a run comes, keys move
  pub no_run : (at : ℕ) (run : Range) → IsNextRun old new at run → ((key : ℕ) → at ≤ key → key < ROOT_END → owner old key ≡ owner new key) → ⊥
  no_run at run is none =
      let owners = is.moves.owned run.lo (omega arith) is.moves.some in
      is.moves.moves (sym owners.0 ∙ none run.lo is.from (omega (arith, is.moves.some, is.moves.within)) ∙ owners.1)

  -- there is one list of moves
  pub same_moves : (at : ℕ) (ones others : List Range) → AreMovesFrom old new at ones → AreMovesFrom old new at others → ones ≡ others
  same_moves at [] [] none none' = refl
  same_moves at [] (other ∷ others) none runs = absurd (no_run at other runs.0 none)
  same_moves at (one ∷ ones) [] runs none = absurd (no_run at one runs.0 none)
  same_moves at (one ∷ ones) (other ∷ others) runs runs' =
      let same = same_next at one other runs.0 runs'.0 in
      let rest = same_moves other.hi ones others (subst (λ (hi : ℕ). AreMovesFrom old new hi ones) (ap (λ (run : Range). run.hi) same) runs.1) runs'.1 in
      λ i. same i ∷ rest i

  pub moves_are_one : (ones others : List Range) → AreMoves old new ones → AreMoves old new others → ones ≡ others
  moves_are_one ones others moves moves' = same_moves 0 ones others (moves_from_first ones moves) (moves_from_first others moves')

-- `moves_of` gives it
pub moves_of-from : (old new : PlanValue) → IsPlan old → IsPlan new → AreMovesFrom old new 0 (moves_of old new)
moves_of-from old new is_old is_new = moves_from_first old new (moves_of old new) (moves_of-moves old new is_old is_new)

pub the_moves : (old new : PlanValue) → IsPlan old → IsPlan new → AreTheMoves old new (moves_of old new)
the_moves old new is_old is_new =
    let moves = moves_of-moves old new is_old is_new in
    record { moves = moves; alone = λ others moves'. moves_are_one old new others (moves_of old new) moves' moves }
