-- The stage after the one that was gathered.
use Rattle.std.specs.Prelude.{◌≡◌, ℕ, ◌+◌, Bool, true, slice_get, Some}
use Rattle.sq_moves.specs.Status.{reading}
use Rattle.sq_moves.specs.Reading.{is_complete_reading}
use Rattle.sq_moves.specs.declared.recon.Range.{Range}
use Rattle.sq_moves.specs.ReconValue.{stage_in, stages}
use Rattle.sq_moves.specs.OpeningValue.{OpeningValue}
use Rattle.sq_moves.specs.Opening.{IsOpening}
use Rattle.sq_model.specs.Staged.{owner_in}
use Rattle.sq_node_model.specs.BeganWith.{BeganWith}
use Rattle.sq_node_model.specs.declared.spot.Spot.TheVariants.{Store}
use Rattle.sq_node_model.specs.Gathered.{GatheredValue}
use Rattle.sq_node_model.specs.Spots.{gathered_status, family_at_spot}
use Rattle.sq_node_model.specs.Placed.{IsPlaced}

-- the segment is complete: the reading of its node 1 is complete
abbrev pub is_complete_in : GatheredValue → ℕ → Bool
is_complete_in g seg = is_complete_reading (reading (gathered_status g seg) 1)

-- the segments of the stage that was gathered are complete
abbrev pub IsStageDone : OpeningValue → GatheredValue → Type 0
IsStageDone o g =
    (seg : ℕ) (segment : Range) → slice_get o.recon.segments seg ≡ Some segment → stage_in o.recon segment ≡ g.stage
    → is_complete_in g seg ≡ true

-- a stage of this opening's move is over: what was gathered of it is placed, and its segments are
-- complete
pub record IsStageOver (o : OpeningValue) (g : GatheredValue) : Type 0 where
  pub opening : IsOpening o
  pub placed : IsPlaced o g
  pub done : IsStageDone o g

-- the next stage begins with the families where they are now, and with all receipts so far
abbrev pub next_began : OpeningValue → GatheredValue → BeganWith
next_began o g = record {
  stage = g.stage + 1;
  families = λ root. family_at_spot g (Store (owner_in o (g.stage + 1) root)) root;
  receipts = g.receipts;
}

-- a following move begins with the families where they are now, and with all receipts so far
abbrev pub onward_began : OpeningValue → GatheredValue → BeganWith
onward_began o g = record (next_began o g) { stage = 0 }

-- another move follows a stage that is the last of its own: it starts from the plan that was
-- reached, and has the same rows
pub record IsNextMove (o : OpeningValue) (g : GatheredValue) (next : OpeningValue) : Type 0 where
  pub last : g.stage + 1 ≡ stages o.recon
  pub plan : next.old ≡ o.new
  pub rows : next.table ≡ o.table
