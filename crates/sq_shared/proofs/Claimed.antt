-- The requests that aren't sent are for claims that were won.
use Rattle.std.proofs.Common.{◌≡◌, ◌≢◌, ℕ, Bool, List, [], ◌∷◌, slice_index_or, Some, inl, inr, refl, sym, ap, ◌∙◌, subst, arith}
use Rattle.std.specs.Prelude.{slice_get, slice_set}
use Rattle.std.specs.List.{All, Contains, items_where_true}
use Rattle.std.proofs.lemmas.Bool.{cases_eq}
use Rattle.std.proofs.lemmas.List.{length-set, get_or-set_same, get_or-set_other}
use Rattle.std.proofs.lemmas.Grind.{get_or_picked}
use Rattle.std.proofs.lemmas.List.Elements.{All-append, Contains-append_right}
use Rattle.std.proofs.lemmas.Option.{get_or_from_slice_get, slice_get-get_or, slice_get_within}
use Rattle.sq_shared.specs.declared.view.View.{View}
use Rattle.sq_shared.specs.Seat.{SeatValue}
use Rattle.sq_shared.specs.Walks.{ClaimedOnly}
use Rattle.sq_moves.specs.ReconValue.{ReconValue}
use Rattle.sq_shared.specs.declared.request.Request.{Request}
use Rattle.sq_shared.specs.declared.request.PendingRequest.{PendingRequest}
use Rattle.sq_shared.specs.Wins.{WinsValue, request_for, AddsWin, Sends, IsWonClaim, AreWonClaims}
use Rattle.sq_shared.specs.Seats.{StepsAt}

-- what holds of each element holds of those that are left
pub All-left : {X : Type 0} (P : X → Type 0) (stays : List Bool) (xs : List X) → All P xs → All P (items_where_true stays xs)
All-left P stays xs all = λ k d inside. let from = (get_or_picked stays xs k d inside).1 in subst P (sym from.2) (all from.0 d from.1)

All-one : {X : Type 0} (P : X → Type 0) (x : X) → P x → All P (x ∷ [])
All-one P x one = λ k d inside. let first : k ≡ 0 = omega arith in subst (λ (j : ℕ). P (slice_index_or (x ∷ []) j d)) (sym first) one

-- what was written is found in its place
get-written : {X : Type 0} (xs : List X) (at : ℕ) (old new : X) → slice_get xs at ≡ Some old → slice_get (slice_set xs at new) at ≡ Some new
get-written xs at old new there =
    let within = slice_get_within xs at old there in
    slice_get-get_or (slice_set xs at new) at new (omega (arith, length-set xs at new)) ∙ ap Some (get_or-set_same xs at new new within)

-- and what is elsewhere, as before
get-elsewhere : {X : Type 0} (xs : List X) (at place : ℕ) (new found : X) → place ≢ at → slice_get xs place ≡ Some found → slice_get (slice_set xs at new) place ≡ Some found
get-elsewhere xs at place new found away there =
    let within = slice_get_within xs place found there in
    slice_get-get_or (slice_set xs at new) place found (omega (arith, length-set xs at new))
    ∙ ap Some (get_or-set_other xs at place new found away ∙ get_or_from_slice_get xs place found found there)

-- a claim stays won, whatever is claimed later
won_claim_stays : (seg : ℕ) (steps : View → View → Type 0) (old new : List SeatValue) (step : StepsAt seg steps old new) (claims : List (ℕ × ℕ)) → ClaimedOnly step.before.view claims step.after.view
    → (request : Request) → IsWonClaim old request → IsWonClaim new request
won_claim_stays seg steps old new step claims only request won =
    let Claims : List SeatValue → Type 0 = λ seats. IsWonClaim seats request in
    subst Claims (sym step.others) (elim (cases_eq request.seg seg) [
      | inl here ↦
          let place : slice_get old request.seg ≡ slice_get old seg = ap (slice_get old) here in
          let same : won.seat ≡ step.before = cc in
          let claimed : Contains step.before.view.claimed (request.node, request.pull) =
          subst (λ (seat : SeatValue). Contains seat.view.claimed (request.node, request.pull)) same won.claimed in
          record {
            seat = step.after;
            there = ap (slice_get (slice_set old seg step.after)) here ∙ get-written old seg step.before step.after step.there;
            claimed =
                subst (λ (all : List (ℕ × ℕ)). Contains all (request.node, request.pull)) (sym only.claimed)
                (Contains-append_right claims step.before.view.claimed (request.node, request.pull) claimed);
          }
      | inr away ↦ record { seat = won.seat; there = get-elsewhere old seg request.seg step.after won.seat away won.there; claimed = won.claimed }
    ])

-- so are all that are pending
pub claims_stay : (seg : ℕ) (steps : View → View → Type 0) (old new : List SeatValue) (step : StepsAt seg steps old new) (claims : List (ℕ × ℕ)) → ClaimedOnly step.before.view claims step.after.view
    → (wins : WinsValue) → AreWonClaims old wins → AreWonClaims new wins
claims_stay seg steps old new step claims only wins all =
    λ k d inside. won_claim_stays seg steps old new step claims only (slice_index_or wins.pending k d).request (all k d inside)

-- whatever was sent, the rest is for claims that were won
pub claims_sent : (seats : List SeatValue) (old new : WinsValue) → Sends old new → AreWonClaims seats old → AreWonClaims seats new
claims_sent seats old new sent all =
    let Claims : List PendingRequest → Type 0 = λ pending. All (λ (pending : PendingRequest). IsWonClaim seats pending.request) pending in
    subst Claims (sym sent.left.2) (All-left (λ (pending : PendingRequest). IsWonClaim seats pending.request) sent.left.0 old.pending all)

-- the request for a claim that was just won is for one
pub claims_added : (recon : ReconValue) (seg n pull : ℕ) (steps : View → View → Type 0) (seats after : List SeatValue) (step : StepsAt seg steps seats after)
    → ClaimedOnly step.before.view ((n, pull) ∷ []) step.after.view → (old new : WinsValue) → AddsWin recon seg n pull old new → AreWonClaims seats old → AreWonClaims after new
claims_added recon seg n pull steps seats after step only old new adds all =
    let Won : PendingRequest → Type 0 = λ pending. IsWonClaim after pending.request in
    let one : Won (request_for adds.segment seg n pull) =
    record {
      seat = step.after;
      there = ap (λ (all : List SeatValue). slice_get all seg) step.others ∙ get-written seats seg step.before step.after step.there;
      claimed = subst (λ (all : List (ℕ × ℕ)). Contains all (n, pull)) (sym only.claimed) (0, omega arith, refl);
    } in
    subst (All Won) (sym adds.pending)
    (All-append Won old.pending (request_for adds.segment seg n pull ∷ []) (claims_stay seg steps seats after step ((n, pull) ∷ []) only old all) (All-one Won (request_for adds.segment seg n pull) one))
