-- What layers above use of a reconfiguration's segments: they rise, and each key that moves is in one of them.
use Rattle.std.proofs.Common.{◌≡◌, ◌≢◌, ⊎_elim, ℕ, ◌<◌, ◌≤◌, true, true≢false, List, [], ◌∷◌, Some, None, sym, ap, ◌∙◌, subst, arith, nat_le}
use Rattle.std.specs.Prelude.{slice_get}
use Rattle.std.proofs.lemmas.Bool.{and_parts, leb-true, cases_eq}
use Rattle.sq_schema.specs.declared.root.TheConstants.{ROOT_END}
use Rattle.sq_plan.specs.PlanValue.{PlanValue, owner}
use Rattle.sq_moves.specs.declared.recon.Range.{Range}
use Rattle.sq_moves.specs.declared.recon.TheConstants.{MAX_WIDTH}
use Rattle.sq_moves.specs.ReconValue.{ReconValue, IsRecon, has_key, segment_of, is_width, are_in_key_order}
use Rattle.sq_moves.specs.Moves.{IsMovingRun, AreMoves}
use Rattle.sq_moves.specs.Sweep.{AreMovesFrom}
use Rattle.sq_moves.proofs.Rows.{Row, Stands, row_at}
use Rattle.sq_moves.proofs.Runs.{moves_from_first}
use Rattle.sq_moves.proofs.Joins.{any_has_key, has_key-bounds}
use Rattle.sq_moves.proofs.Cuts.{IsSegment, Moves, segments_of-row, segments_of-cover, row_from_rising, rising_from_row, segment_parts, run_parts}
use Rattle.sq_moves.proofs.Found.{segment_of-some, segment_of-has_key, segment_of-none, one_holder}

pub width_bounds : (width : ℕ) → is_width width ≡ true → (1 ≤ width) × (width ≤ MAX_WIDTH)
width_bounds width is =
    let parts = and_parts (nat_le 1 width) (nat_le width MAX_WIDTH) is in
    (leb-true 1 width parts.0, leb-true width MAX_WIDTH parts.1)

-- moves are ranges in a row
moves_from-row : (old new : PlanValue) (at : ℕ) (runs : List Range) → at ≤ ROOT_END → AreMovesFrom old new at runs → Row (IsMovingRun old new) at ROOT_END runs
moves_from-row old new at [] within moves = within
moves_from-row old new at (run ∷ runs) within moves =
    let is = moves.0 in
    (is.from, is.moves.some, is.moves, moves_from-row old new run.hi runs is.moves.within moves.1)

pub moves-row : (old new : PlanValue) (ranges : List Range) → AreMoves old new ranges → Row (IsMovingRun old new) 0 ROOT_END ranges
moves-row old new ranges moves = moves_from-row old new 0 ranges (omega arith) (moves_from_first old new ranges moves)

pub moves-rising : (old new : PlanValue) (ranges : List Range) → AreMoves old new ranges → are_in_key_order 0 ranges ≡ true
moves-rising old new ranges moves = rising_from_row (IsMovingRun old new) (λ range run. run.moves) 0 ranges (moves-row old new ranges moves)

module _ (recon : ReconValue) (is : IsRecon recon) where
  some_width : 1 ≤ recon.width
  some_width = (width_bounds recon.width is.leaf).0

  ranges_row : Row Moves 0 ROOT_END recon.ranges
  ranges_row = row_from_rising 0 recon.ranges (omega arith) is.rising

  -- the segments follow one another: in key order, disjoint, none of them empty
  pub segments_row : Row (IsSegment recon.width) 0 ROOT_END recon.segments
  segments_row =
      subst (Row (IsSegment recon.width) 0 ROOT_END) (sym is.cut)
      (segments_of-row recon.width some_width Moves (IsSegment recon.width) 0 ROOT_END recon.ranges (λ range moves. segment_parts recon.width range moves) ranges_row)

  pub segments_rising : are_in_key_order 0 recon.segments ≡ true
  segments_rising = rising_from_row (IsSegment recon.width) (λ segment it. it.moves) 0 recon.segments segments_row

  -- each of them has keys, within the root keys, and isn't longer than its leaves
  pub segment_stands : (i : ℕ) (segment : Range) → slice_get recon.segments i ≡ Some segment → Stands (IsSegment recon.width) 0 ROOT_END segment
  segment_stands i segment at = row_at (IsSegment recon.width) 0 ROOT_END recon.segments i segment segments_row at

  -- the segment of a key is the one that holds it
  pub segment_of_held : (key i : ℕ) (segment : Range) → slice_get recon.segments i ≡ Some segment → has_key segment key ≡ true → segment_of recon.segments key ≡ Some i
  segment_of_held key i segment at held = segment_of-some (IsSegment recon.width) 0 ROOT_END recon.segments key i segment segments_row at held

  pub one_segment : (key i j : ℕ) (one other : Range) → slice_get recon.segments i ≡ Some one → slice_get recon.segments j ≡ Some other → has_key one key ≡ true → has_key other key ≡ true → i ≡ j
  one_segment key i j one other at at' held held' = one_holder (IsSegment recon.width) 0 ROOT_END recon.segments i j key one other segments_row at at' held held'

  module _ (old new : PlanValue) (moves : AreMoves old new recon.ranges) where
    -- each segment is a run of keys with one pair of owners that differ
    pub segments_are_runs : Row (IsMovingRun old new) 0 ROOT_END recon.segments
    segments_are_runs =
        subst (Row (IsMovingRun old new) 0 ROOT_END) (sym is.cut)
        (segments_of-row recon.width some_width (IsMovingRun old new) (IsMovingRun old new) 0 ROOT_END recon.ranges (λ range run. run_parts old new recon.width range run) (moves-row old new recon.ranges moves))

    pub segment_run : (i : ℕ) (segment : Range) → slice_get recon.segments i ≡ Some segment → IsMovingRun old new segment
    segment_run i segment at = (row_at (IsMovingRun old new) 0 ROOT_END recon.segments i segment segments_are_runs at).is

    -- a key of a segment has its ends for owners
    pub segment_owners : (key i : ℕ) (segment : Range) → slice_get recon.segments i ≡ Some segment → has_key segment key ≡ true → (owner old key ≡ segment.src) × (owner new key ≡ segment.dst)
    segment_owners key i segment at held =
        let bounds = has_key-bounds segment key held in
        (segment_run i segment at).owned key bounds.0 bounds.1

    pub found_owners : (key i : ℕ) → segment_of recon.segments key ≡ Some i → (segment : Range) × (slice_get recon.segments i ≡ Some segment) × (has_key segment key ≡ true) × (owner old key ≡ segment.src) × (owner new key ≡ segment.dst)
    found_owners key i found =
        let holder = segment_of-has_key recon.segments key i found in
        let owners = segment_owners key i holder.0 holder.1 holder.2 in
        (holder.0, holder.1, holder.2, owners.0, owners.1)

    -- a key that moves is in a segment
    pub moved_in_segment : (key : ℕ) → key < ROOT_END → owner old key ≢ owner new key → any_has_key recon.segments key ≡ true
    moved_in_segment key within differ =
        ap (λ (segments : List Range). any_has_key segments key) is.cut ∙ segments_of-cover recon.width some_width recon.ranges key (moves.each key within differ)

    -- a key without one keeps its owner
    pub unfound_owner : (key : ℕ) → key < ROOT_END → segment_of recon.segments key ≡ None → owner old key ≡ owner new key
    unfound_owner key within none = ⊎_elim
        (λ (same : owner old key ≡ owner new key). same)
        (λ (differ : owner old key ≢ owner new key). absurd (true≢false (sym (moved_in_segment key within differ) ∙ segment_of-none recon.segments key none)))
        (cases_eq (owner old key) (owner new key))

    -- a key with one changes it
    pub found_moves : (key i : ℕ) → segment_of recon.segments key ≡ Some i → owner old key ≢ owner new key
    found_moves key i found same =
        let it = found_owners key i found in
        (segment_run i it.0 it.1).moves (sym it.3 ∙ same ∙ it.4)
