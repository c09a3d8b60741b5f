-- What laws say of a partition's keys and of its waiting transactions.
use Rattle.std.specs.Prelude.{◌≡◌, ℕ, ◌<◌, ◌≤◌, ◌⊎◌, ◌==◌, ◌&&◌, Bool, true, false, List, [], ◌∷◌, Some, filter, slice_get}
use Rattle.std.specs.List.{list_any}
use Rattle.sq_schema.specs.Prelude.{TxnValue}
use Rattle.sq_moves.specs.declared.recon.Extent.{Extent}
use Rattle.sq_store.specs.declared.chunk.Note.{Note}
use Rattle.sq_store.specs.ChunkValue.{is_about}
use Rattle.sq_exec.specs.declared.location.Location.{Location}
use Rattle.sq_exec.specs.declared.run.Run.{Run}
use Rattle.sq_exec.specs.CoreValue.{CoreValue}
use Rattle.sq_exec.specs.Location.{location}
use Rattle.sq_exec.specs.OutLink.{OutLinkValue}
use Rattle.sq_exec.specs.Runs.{runs_with}
use Rattle.sq_exec.specs.Serving.{is_ready_here}
use Rattle.sq_exec.specs.Work.{WorkValue, is_work_on}

-- the partition is the key's source and hasn't given it up, or its destination and has loaded it
abbrev pub HasRowsAt : CoreValue → Location → Type 0
HasRowsAt core at = ((at.src ≡ core.part) × (at.given_up ≡ false)) ⊎ ((at.dst ≡ core.part) × (at.loaded ≡ true))

-- the key moves to the partition in the running stage, the move has started, and the key isn't
-- loaded yet
pub record IsOnItsWay (core : CoreValue) (root : ℕ) (at : Location) : Type 0 where
  pub found : location core root ≡ Some at
  pub started : core.started ≡ true
  pub now : at.stage ≡ core.stage
  pub here : at.dst ≡ core.part
  pub left : at.loaded ≡ false

-- the transaction at this place is ready, and no earlier waiting one is
pub record GoesFirst (core : CoreValue) (place : ℕ) (txn : TxnValue) : Type 0 where
  pub ready : is_ready_here core txn ≡ true
  pub none_before : (k : ℕ) (other : TxnValue) → k < place → slice_get core.waiting k ≡ Some other
      → is_ready_here core other ≡ false

-- the notes about this node of this segment
abbrev pub about : ℕ → ℕ → List Note → List Note
about seg node notes = filter (is_about seg node) notes

-- the last note of a node is among these
abbrev pub one_is_last : List Note → Bool
one_is_last notes = list_any (λ note. note.last) notes

-- how far notes reach that begin at lo
abbrev pub covered_to : ℕ → List Note → ℕ
covered_to lo [] = lo
covered_to lo (note ∷ notes) = covered_to note.hi notes

-- the note begins at lo and ends at or before hi, is last exactly if it ends there, and no note
-- follows the last one
pub record IsTile (lo hi : ℕ) (note : Note) (later : List Note) : Type 0 where
  pub begins : note.lo ≡ lo
  pub rises : note.lo ≤ note.hi
  pub within : note.hi ≤ hi
  pub last : note.last ≡ (note.hi == hi)
  pub none_later : note.last ≡ true → later ≡ []

-- notes, the oldest first, tile the keys from lo to hi from the low end: each begins where the one
-- before it ends
abbrev pub AreTiles : ℕ → ℕ → List Note → Type 0
AreTiles lo hi [] = Unit {0}
AreTiles lo hi (note ∷ notes) = IsTile lo hi note notes × AreTiles note.hi hi notes

-- the work continues where the notes about its node end, up to the high end, and none of them is
-- the last
pub record IsOpen (keys : ℕ → ℕ → Extent) (notes : List Note) (work : WorkValue) : Type 0 where
  pub rest : work.rest ≡ covered_to (keys work.seg work.node).lo (about work.seg work.node notes)
  pub upto : work.hi ≡ (keys work.seg work.node).hi
  pub unfinished : one_is_last (about work.seg work.node notes) ≡ false

-- all work continues so, and no two pieces are on one node
abbrev pub AreOpen : (ℕ → ℕ → Extent) → List Note → List WorkValue → Type 0
AreOpen keys notes [] = Unit {0}
AreOpen keys notes (work ∷ works) =
    IsOpen keys notes work × (list_any (is_work_on work.seg work.node) works ≡ false) × AreOpen keys notes works

-- the notes of each node tile its keys from the low end, and the work at the end of the link
-- continues where they end
pub record TilesNodes (keys : ℕ → ℕ → Extent) (out : OutLinkValue) : Type 0 where
  pub tiles : (seg node : ℕ) → AreTiles (keys seg node).lo (keys seg node).hi (about seg node out.notes)
  pub open_work : AreOpen keys out.notes out.work

-- nothing at the end of the link is about the node
pub record HasNoneOf (out : OutLinkValue) (seg node : ℕ) : Type 0 where
  pub notes : list_any (is_about seg node) out.notes ≡ false
  pub work : list_any (is_work_on seg node) out.work ≡ false

-- the work on a node from its low end
abbrev pub work_on : (ℕ → ℕ → Extent) → ℕ → ℕ → ℕ → WorkValue
work_on keys seg node pull = record { seg = seg; node = node; pull = pull; rest = (keys seg node).lo; hi = (keys seg node).hi }

-- the runs of a segment after chunks with these notes were loaded in this order
abbrev pub runs_after : List Run → List Note → List Run
runs_after runs [] = runs
runs_after runs (note ∷ notes) = runs_after (runs_with runs note) notes
