-- The reactive pulls of a partition, and the outcome of one.
use Rattle.std.specs.Prelude.{◌≡◌, ℕ, ◌<◌, Bool, List}
use Rattle.sq_moves.specs.ReconValue.{ReconValue}
use Rattle.sq_shared.specs.declared.tree.walks.LeafClaim.TheVariants as claim
use Rattle.sq_shared.specs.Seat.{SeatValue}
use Rattle.sq_shared.specs.declared.numbers.TheConstants.{MAX_CLAIMS}
use Rattle.sq_shared.specs.declared.puller.ReactivePull.{ReactivePull}
use Rattle.sq_shared.specs.declared.puller.ReactivePull.TheVariants.{Won, Held, Spent}
use Rattle.sq_shared.specs.Numbers.{reactive_pull}
use Rattle.sq_shared.specs.Wins.{WinsValue, AddsWin, Sends}
use Rattle.sq_shared.specs.Seats.{StepsAt, ClaimsLeaf}

-- a partition that pulls, and the claims that it won
pub record PullerValue : Type 0 where
  pub part : ℕ
  pub wins : WinsValue

-- the same, with whether there is room for one more request
pub record RoomyPuller : Type 0 where
  pub puller : PullerValue
  pub has_room : Bool

-- the pull that it claims with next
abbrev pub next_reactive : PullerValue → ℕ
next_reactive puller = reactive_pull puller.part puller.wins.count

-- the outcome of a reactive pull for a leaf of a segment: how it changed the puller and the seats
abbrev pub HasPulled : ReconValue → ℕ → ℕ → PullerValue → List SeatValue → PullerValue → List SeatValue → ReactivePull → Type 0
HasPulled recon seg leaf old seats new after (Won n) =
    (old.wins.count < MAX_CLAIMS)
    × StepsAt seg (ClaimsLeaf leaf (next_reactive old) (claim.Claimed n)) seats after
    × (new.part ≡ old.part)
    × ((added : WinsValue) × AddsWin recon seg n (next_reactive old) old.wins added × Sends added new.wins)
HasPulled recon seg leaf old seats new after (Held n st) =
    (old.wins.count < MAX_CLAIMS) × StepsAt seg (ClaimsLeaf leaf (next_reactive old) (claim.Held n st)) seats after × (new ≡ old)
HasPulled recon seg leaf old seats new after Spent = (old.wins.count ≡ MAX_CLAIMS) × (new ≡ old) × (after ≡ seats)
