-- Short definitions for the laws of reconfigurations.
use Rattle.std.specs.Prelude.{◌≡◌, ◌≢◌, ℕ, ◌≤◌, ◌<◌, true, false, IsTrue, List, Option, None, Some, slice_get}
use Rattle.sq_plan.specs.PlanValue.{PlanValue, owner}
use Rattle.sq_moves.specs.Node.{is_node, is_under}
use Rattle.sq_moves.specs.declared.recon.Range.{Range}
use Rattle.sq_moves.specs.declared.recon.Extent.{Extent}
use Rattle.sq_moves.specs.ReconValue.{ReconValue, IsRecon, has_key}

-- the segment of this number holds the key
pub record IsHoldingSegment (segments : List Range) (key i : ℕ) (segment : Range) : Type 0 where
  pub at : slice_get segments i ≡ Some segment
  pub held : has_key segment key ≡ true

-- the key is in this segment of the move, the one with this number
pub record LiesInSegment (recon : ReconValue) (key i : ℕ) (segment : Range) : Type 0 where
  pub is : IsRecon recon
  pub holder : IsHoldingSegment recon.segments key i segment

-- a key that moves is only in this segment, which goes from its old owner to its new one
pub record IsMovedBy (old new : PlanValue) (segments : List Range) (key i : ℕ) (segment : Range) : Type 0 where
  pub holder : IsHoldingSegment segments key i segment
  pub src : owner old key ≡ segment.src
  pub dst : owner new key ≡ segment.dst
  pub moves : segment.src ≢ segment.dst
  pub only : (j : ℕ) (other : Range) → IsHoldingSegment segments key j other → j ≡ i

-- the result of the search for a key's segment: it has none and keeps its owner, or it moves with
-- only this one
abbrev pub IsSegmentOf : PlanValue → PlanValue → List Range → ℕ → Option ℕ → Type 0
IsSegmentOf old new segments key None = owner old key ≡ owner new key
IsSegmentOf old new segments key (Some i) = (segment : Range) × IsMovedBy old new segments key i segment

-- the keys of a segment
abbrev pub keys_of : Range → Extent
keys_of segment = record { lo = segment.lo; hi = segment.hi }

-- two nodes, neither of them under the other
pub record AreNotNested (n m : ℕ) : Type 0 where
  pub one : IsTrue (is_node n)
  pub other : IsTrue (is_node m)
  pub not_under : is_under n m ≡ false
  pub not_above : is_under m n ≡ false

-- the key is one of these
pub record Covers (keys : Extent) (key : ℕ) : Type 0 where
  pub low : keys.lo ≤ key
  pub high : key < keys.hi

-- the first are among the others
pub record LiesIn (keys others : Extent) : Type 0 where
  pub low : others.lo ≤ keys.lo
  pub rises : keys.lo ≤ keys.hi
  pub high : keys.hi ≤ others.hi

-- two follow one another and make up the whole
pub record AreHalves (low high whole : Extent) : Type 0 where
  pub begins : low.lo ≡ whole.lo
  pub meets : low.hi ≡ high.lo
  pub ends : high.hi ≡ whole.hi
