-- What stays the same of the seats when one of them made steps.
use Rattle.std.proofs.Common.{◌≡◌, ℕ, ◌<◌, List, length, get_or, map, refl, sym, ap, ◌∙◌, arith}
use Rattle.std.specs.Prelude.{slice_set}
use Rattle.std.proofs.lemmas.List.{length-map}
use Rattle.std.proofs.lemmas.Option.{get_or_from_slice_get, slice_get_read}
use Rattle.std.proofs.Math.Seq.{map-set_same}
use Rattle.atomic_table.specs.Seated.{TableId}
use Rattle.sq_shared.specs.declared.view.View.{View}
use Rattle.sq_shared.specs.Seat.{SeatValue, IsSameSeat}
use Rattle.sq_shared.specs.Walks.{ClaimedOnly}
use Rattle.sq_shared.specs.Seats.{AreSeatsOf, StepsAt, OnlyClaimed}

-- a step of the seat that is at a place is one of that segment's seat
pub steps_at : (trees : List TableId) (seats : List SeatValue) (seg at : ℕ) (steps : View → View → Type 0) (before after : SeatValue) → AreSeatsOf trees seats → seg < length trees → at ≡ seg
    → before ≡ get_or seats at before → IsSameSeat before after → steps before.view after.view → StepsAt seg steps seats (slice_set seats at after)
steps_at trees seats seg at steps before after kept within place read same told =
    let inside : seg < length seats = omega (arith, length-map seats (λ (seat : SeatValue). seat.tree), ap length kept) in
    record {
      before = before;
      after = after;
      there = slice_get_read seats (length seats) seg before refl inside (read ∙ ap (λ (k : ℕ). get_or seats k before) place);
      others = ap (λ (k : ℕ). slice_set seats k after) place;
      same = same;
      told = told;
    }

-- what the step left alone of its own seat stays for each seat
pub map-steps : {A : Type 0} (f : SeatValue → A) (seg : ℕ) (steps : View → View → Type 0) (old new : List SeatValue) (step : StepsAt seg steps old new) → f step.after ≡ f step.before → map f new ≡ map f old
map-steps f seg steps old new step same =
    let there = get_or_from_slice_get old seg step.before step.before step.there in
    ap (map f) step.others ∙ map-set_same f old seg step.after step.before (same ∙ ap f (sym there))

-- each seat stays one of its tree
pub seats_stay : (trees : List TableId) (seg : ℕ) (steps : View → View → Type 0) (old new : List SeatValue) → StepsAt seg steps old new → AreSeatsOf trees old → AreSeatsOf trees new
seats_stay trees seg steps old new step seats = map-steps (λ (seat : SeatValue). seat.tree) seg steps old new step step.same.tree ∙ seats

-- a step that only claims changes nothing of what was begun and completed
pub only_claimed : (seg : ℕ) (steps : View → View → Type 0) (old new : List SeatValue) (step : StepsAt seg steps old new) (claims : List (ℕ × ℕ)) → ClaimedOnly step.before.view claims step.after.view → OnlyClaimed old new
only_claimed seg steps old new step claims only =
    record {
      begun = map-steps (λ (seat : SeatValue). seat.view.begun) seg steps old new step only.begun;
      completed = map-steps (λ (seat : SeatValue). seat.view.completed) seg steps old new step only.completed;
    }
