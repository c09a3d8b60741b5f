-- The claims that a partition or a pump won, and the requests for them.
use Rattle.std.specs.Prelude.{◌≡◌, ℕ, ◌+◌, Bool, List, [], ◌∷◌, ◌++◌, length, slice_get, Some, Contains, All}
use Rattle.std.specs.List.{items_where_true}
use Rattle.sq_moves.specs.declared.recon.Range.{Range}
use Rattle.sq_moves.specs.ReconValue.{ReconValue}
use Rattle.sq_shared.specs.Seat.{SeatValue}
use Rattle.sq_shared.specs.declared.request.Request.{Request}
use Rattle.sq_shared.specs.declared.request.PendingRequest.{PendingRequest}

-- how many claims were won, and the requests for them that aren't sent, the oldest first
pub record WinsValue : Type 0 where
  pub count : ℕ
  pub pending : List PendingRequest

-- the same, with whether there is room for one more request
pub record RoomyWins : Type 0 where
  pub wins : WinsValue
  pub has_room : Bool

abbrev pub no_wins : WinsValue
no_wins = record { count = 0; pending = [] }

-- the request of a pull for a node of a segment, to the partition that the segment leaves
abbrev pub request_for : Range → ℕ → ℕ → ℕ → PendingRequest
request_for segment seg n pull = record { src = segment.src; request = record { seg = seg; node = n; pull = pull } }

-- the requests that are left, in order, after any of them may have been sent
abbrev pub AreLeft : List PendingRequest → List PendingRequest → Type 0
AreLeft before after = (stays : List Bool) × (length stays ≡ length before) × (after ≡ items_where_true stays before)

-- a claim of a node for a pull was won: it is counted, and there is a request for it
pub record AddsWin (recon : ReconValue) (seg n pull : ℕ) (old new : WinsValue) : Type 0 where
  pub segment : Range
  pub there : slice_get recon.segments seg ≡ Some segment
  pub count : new.count ≡ old.count + 1
  pub pending : new.pending ≡ old.pending ++ request_for segment seg n pull ∷ []

-- requests were sent, or none
pub record Sends (old new : WinsValue) : Type 0 where
  pub count : new.count ≡ old.count
  pub left : AreLeft old.pending new.pending

-- the request is for a claim that the seat of its segment won
pub record IsWonClaim (seats : List SeatValue) (request : Request) : Type 0 where
  pub seat : SeatValue
  pub there : slice_get seats request.seg ≡ Some seat
  pub claimed : Contains seat.view.claimed (request.node, request.pull)

-- the unsent requests are for claims that these seats won
abbrev pub AreWonClaims : List SeatValue → WinsValue → Type 0
AreWonClaims seats wins = All (λ (pending : PendingRequest). IsWonClaim seats pending.request) wins.pending
