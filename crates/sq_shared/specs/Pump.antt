-- A pump, which claims free nodes, segment by segment, and the outcome of its turn.
use Rattle.std.specs.Prelude.{◌≡◌, ◌≢◌, ℕ, ◌<◌, ◌≤◌, ◌⊎◌, true, ◌==◌, nat_lt, List, [], ◌∷◌, ◌++◌, length, filter, slice_get, Some, None, MatchOption}
use Rattle.std.specs.List.{list_all, range_with_len}
use Rattle.atomic_table.specs.Seated.{TableId}
use Rattle.sq_moves.specs.declared.segment.TheConstants.{SEGMENT_LIMIT}
use Rattle.sq_moves.specs.ReconValue.{ReconValue, stage_at}
use Rattle.sq_shared.specs.Seat.{SeatValue}
use Rattle.sq_shared.specs.declared.numbers.TheConstants.{MAX_OWNERS, MAX_CLAIMS}
use Rattle.sq_shared.specs.declared.pump.PumpTurn.{PumpTurn}
use Rattle.sq_shared.specs.declared.pump.PumpTurn.TheVariants.{Won, Nothing, Spent}
use Rattle.sq_shared.specs.Numbers.{pump_pull}
use Rattle.sq_shared.specs.Wins.{WinsValue, no_wins, AddsWin, Sends, AreWonClaims}
use Rattle.sq_shared.specs.Seats.{AreSeatsOf, StepsAt, ClaimsAny, TriesSplit, OnlyClaimed}

-- a pump with its seats, one for each segment, its claims, and its round: the segments that it
-- still looks at, the next one first
pub record PumpValue : Type 0 where
  pub number : ℕ
  pub wins : WinsValue
  pub seats : List SeatValue
  pub round : List ℕ

-- those of the first `count` segments that move in `stage`, in order
abbrev pub stage_round : ReconValue → ℕ → ℕ → List ℕ
stage_round recon stage count = filter (λ seg. stage_at recon seg == stage) (range_with_len 0 count)

-- a pump that has won nothing; its round has all segments of the stage
abbrev pub new_pump : ReconValue → ℕ → ℕ → List SeatValue → PumpValue
new_pump recon stage number seats =
    record { number = number; wins = no_wins; seats = seats; round = stage_round recon stage (length seats) }

-- the pull that it claims with next
abbrev pub next_asynchronous : PumpValue → ℕ
next_asynchronous pump = pump_pull pump.number pump.wins.count

-- the next segment of the round had a free node, which was claimed; the segment is now the last of
-- the round
pub record WinsNext (recon : ReconValue) (seg n : ℕ) (old new : PumpValue) : Type 0 where
  pub few : old.wins.count < MAX_CLAIMS
  pub rest : List ℕ
  pub next : old.round ≡ seg ∷ rest
  pub round : new.round ≡ rest ++ seg ∷ []
  pub seats : StepsAt seg (ClaimsAny (next_asynchronous old) (Some n)) old.seats new.seats
  pub wins : AddsWin recon seg n (next_asynchronous old) old.wins new.wins
  pub number : new.number ≡ old.number

-- each leaf of the next segment of the round has a pull; the round continues without the segment
pub record SkipsNext (old new : PumpValue) : Type 0 where
  pub few : old.wins.count < MAX_CLAIMS
  pub seg : ℕ
  pub next : old.round ≡ seg ∷ new.round
  pub seats : StepsAt seg (ClaimsAny (next_asynchronous old) None) old.seats new.seats
  pub wins : new.wins ≡ old.wins
  pub number : new.number ≡ old.number

-- no segment is left in the round
pub record HasNoRound (old new : PumpValue) : Type 0 where
  pub few : old.wins.count < MAX_CLAIMS
  pub empty : old.round ≡ []
  pub same : new ≡ old

-- what a pump claims in a turn
abbrev pub ClaimsNext : ReconValue → PumpValue → PumpValue → PumpTurn → Type 0
ClaimsNext recon old new (Won seg n) = WinsNext recon seg n old new
ClaimsNext recon old new Nothing = SkipsNext old new ⊎ HasNoRound old new
ClaimsNext recon old new Spent = (old.wins.count ≡ MAX_CLAIMS) × (new ≡ old)

-- the round with its next segment put last
abbrev pub put_off : List ℕ → List ℕ
put_off [] = []
put_off (seg ∷ rest) = rest ++ seg ∷ []

-- the pump put its next segment off, and did nothing else
abbrev pub PutsOff : PumpValue → PumpValue → Type 0
PutsOff old new = new ≡ record old { round = put_off old.round }

-- the pump split `node` of segment `seg` or found that it can't be split, and did nothing else
pub record SplitsAt (seg node : ℕ) (old new : PumpValue) : Type 0 where
  pub seats : StepsAt seg (TriesSplit node) old.seats new.seats
  pub same : new ≡ record old { seats = new.seats }

-- the same for the next segment of its round, if there is one
abbrev pub SplitsNext : ℕ → PumpValue → PumpValue → Type 0
SplitsNext node old new =
    MatchOption (slice_get old.round 0) (new ≡ old) (λ seg. SplitsAt seg node old new)

-- the pump sent requests, or none, and did nothing else
pub record OnlySends (old new : PumpValue) : Type 0 where
  pub number : new.number ≡ old.number
  pub round : new.round ≡ old.round
  pub seats : new.seats ≡ old.seats
  pub wins : Sends old.wins new.wins

-- the outcome of a turn: what was claimed, after which requests were sent
abbrev pub HasTurned : ReconValue → PumpValue → PumpValue → PumpTurn → Type 0
HasTurned recon old new turn = (claimed : PumpValue) × ClaimsNext recon old claimed turn × OnlySends claimed new

-- what holds of each pump: its segments are those of its seats, and its unsent requests are for
-- claims that it won
pub record IsPump (pump : PumpValue) : Type 0 where
  pub number : pump.number < MAX_OWNERS
  pub segments : list_all (λ seg. nat_lt seg (length pump.seats)) pump.round ≡ true
  pub few : length pump.seats ≤ SEGMENT_LIMIT
  pub claims : AreWonClaims pump.seats pump.wins

-- the pump still has a seat at each of these trees, its seats only claimed, and what holds of each
-- pump still holds
pub record StaysPump (trees : List TableId) (old new : PumpValue) : Type 0 where
  pub seats : AreSeatsOf trees new.seats
  pub work : OnlyClaimed old.seats new.seats
  pub pump : IsPump new

-- there was no memory for the request of one more claim
pub record LacksRoom (old new : PumpValue) : Type 0 where
  pub few : old.wins.count < MAX_CLAIMS
  pub some : old.round ≢ []
  pub same : new ≡ old
