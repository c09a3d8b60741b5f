-- What a node knows of the tree nodes whose last chunk was loaded.
use Rattle.std.specs.Prelude.{◌≡◌, ◌⊎◌, ℕ, ◌<◌, Bool, true, List, length, slice_get, Some, Contains}
use Rattle.sq_moves.specs.declared.status.Status.TheVariants.{Split, Complete}
use Rattle.sq_moves.specs.Node.{is_above}
use Rattle.sq_shared.specs.declared.view.View.{View}
use Rattle.sq_shared.specs.View.{HasSeen}
use Rattle.sq_shared.specs.Seat.{SeatValue}
use Rattle.sq_exec.specs.CoreValue.{CoreValue, loaded_at}
use Rattle.sq_exec.specs.Runs.{is_whole}

-- the seat completed the node, or found it split or complete
abbrev pub IsSettled : View → ℕ → Type 0
IsSettled v n = ((pull : ℕ) × Contains v.completed (n, pull)) ⊎ (HasSeen v n Split ⊎ ((pull : ℕ) × HasSeen v n (Complete pull)))

-- the seat of a segment has settled a node
abbrev pub HasSettled : List SeatValue → ℕ → ℕ → Type 0
HasSettled seats seg n = (seat : SeatValue) × (slice_get seats seg ≡ Some seat) × IsSettled seat.view n

-- each tree node whose last chunk was loaded is settled
abbrev pub AllSettled : CoreValue → List SeatValue → Type 0
AllSettled core seats = (seg n : ℕ) → is_whole (loaded_at core seg) n ≡ true → HasSettled seats seg n

-- the seat found a node above the leaf, or the leaf's own, complete
pub record SawLeafComplete (v : View) (leaf : ℕ) : Type 0 where
  pub node : ℕ
  pub pull : ℕ
  pub above : is_above node leaf ≡ true
  pub seen : HasSeen v node (Complete pull)

-- the seat found each leaf of a node complete
abbrev pub SawComplete : View → ℕ → Type 0
SawComplete v n = (leaf : ℕ) → is_above n leaf ≡ true → SawLeafComplete v leaf

-- the seat of a segment found the whole segment complete
pub record SawSegmentComplete (seats : List SeatValue) (seg : ℕ) : Type 0 where
  pub seat : SeatValue
  pub there : slice_get seats seg ≡ Some seat
  pub seen : SawComplete seat.view 1

-- each segment whose flag is set was found complete
abbrev pub AreSeen : List SeatValue → List Bool → Type 0
AreSeen seats complete = (seg : ℕ) → slice_get complete seg ≡ Some true → SawSegmentComplete seats seg

-- there is a flag for each segment, set only if the segment was found complete; and the list of
-- nodes to complete has nodes of segments whose last chunk is loaded, among them each that isn't
-- settled
pub record IsNode (core : CoreValue) (seats : List SeatValue) (to_complete : List (ℕ × ℕ)) (complete : List Bool) : Type 0 where
  pub flags : length complete ≡ length core.recon.segments
  pub seen : AreSeen seats complete
  pub exists : (seg n : ℕ) → Contains to_complete (seg, n) → seg < length core.recon.segments
  pub whole : (seg n : ℕ) → Contains to_complete (seg, n) → is_whole (loaded_at core seg) n ≡ true
  pub each : (seg n : ℕ) → is_whole (loaded_at core seg) n ≡ true → Contains to_complete (seg, n) ⊎ HasSettled seats seg n
