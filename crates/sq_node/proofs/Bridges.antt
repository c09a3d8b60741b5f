-- Seats and ends of links by key, after a step of one of them.
use Rattle.std.proofs.Common.{◌≡◌, ⊎_elim, ℕ, suc, zero, false, ◌<◌, ◌≤◌, inl, inr, List, [], ◌∷◌, ◌++◌, length, Option, Some, None, refl, sym, ap, ◌∙◌, subst, arith}
use Rattle.std.specs.Prelude.{◌≢◌, slice_get, slice_set, slice_index_or}
use Rattle.std.specs.Option.{option_map_or}
use Rattle.std.proofs.lemmas.Bool.{cases_lt}
use Rattle.std.proofs.lemmas.List.{get_or_past}
use Rattle.std.proofs.lemmas.Option.{slice_get_within, slice_get-get_or}
use Rattle.sq_store.specs.ChunkValue.{ChunkValue}
use Rattle.sq_shared.specs.declared.view.View.{View}
use Rattle.sq_shared.specs.View.{fresh}
use Rattle.sq_shared.specs.Seat.{SeatValue}
use Rattle.sq_exec.specs.declared.outcome.Outcome.{Outcome}
use Rattle.sq_exec.specs.declared.outcome.Outcome.TheVariants.{Done, Moved, Waits}
use Rattle.sq_shared.specs.Seats.{StepsAt}
use Rattle.sq_node_model.specs.NodeValue.{put}
use Rattle.sq_node_model.proofs.Members.{set_new}
use Rattle.sq_node_model.proofs.Puts.{put_each, put_set, put_field}
use Rattle.sq_node.specs.Ends.{EndValue, end_at, passed_on}
use Rattle.sq_node.specs.NodeState.{NodeState, views_of, passed_by}
use Rattle.sq_node.specs.Looks.{OnlyLooked, SeatsLooked}
use Rattle.sq_node.specs.Steps.{ClaimsFor}

-- an end is at a place that there is
pub stands_below : {X : Type 0} (ends : List (Option X)) (at : ℕ) (end : X) → slice_index_or ends at None ≡ Some end → at < length ends
stands_below ends at end there =
    ⊎_elim (λ (low : at < length ends). low) (λ (past : length ends ≤ at). let none = sym (get_or_past ends at None past) ∙ there in cc) (cases_lt at (length ends))

-- what went by each end, once one of them passed one more chunk on
pub passed_one : (ends : List (Option EndValue)) (at : ℕ) (end : EndValue) (chunk : ChunkValue) → end_at ends at ≡ Some end
    → (k : ℕ) → passed_by (slice_set ends at (Some (passed_on end chunk))) k ≡ put at (passed_by ends at ++ chunk ∷ []) (passed_by ends) k
passed_one ends at end chunk there k =
    let now = passed_on end chunk in
    let read = λ (found : Option EndValue). option_map_or (λ (e : EndValue). e.pass.chunks) found [] in
    ap read (put_set ends at (Some now) None (stands_below ends at end there) k)
    ∙ put_field read at (Some now) (λ j. end_at ends j) k
    ∙ ap (λ (list : List ChunkValue). put at list (λ j. read (end_at ends j)) k) (ap (λ (before : List ChunkValue). before ++ chunk ∷ []) (sym (ap read there)))

-- the view of the seat that is there, or of one that did nothing
abbrev view_of : Option SeatValue → View
view_of found = option_map_or (λ (seat : SeatValue). seat.view) found (fresh false false)

set_other : {X : Type 0} (xs : List X) (i j : ℕ) (v : X) → j ≢ i → slice_get (slice_set xs i v) j ≡ slice_get xs j
set_other [] i j v apart = refl
set_other (x ∷ xs) zero zero v apart = absurd (apart refl)
set_other (x ∷ xs) zero (suc j) v apart = refl
set_other (x ∷ xs) (suc i) zero v apart = refl
set_other (x ∷ xs) (suc i) (suc j) v apart = set_other xs i j v (λ e. apart (ap suc e))

-- the view of the seat that made steps, before them
pub view_before : (seg : ℕ) (steps : View → View → Type 0) (old new : List SeatValue) (step : StepsAt seg steps old new) → views_of old seg ≡ step.before.view
view_before seg steps old new step = ap view_of step.there

-- the views, once one seat made steps
pub views_after : (seg : ℕ) (steps : View → View → Type 0) (old new : List SeatValue) (step : StepsAt seg steps old new) (k : ℕ) → views_of new k ≡ put seg step.after.view (views_of old) k
views_after seg steps old new step k =
    ap (λ seats. views_of seats k) step.others
    ∙ put_each (λ j view. views_of (slice_set old seg step.after) j ≡ view) seg step.after.view (views_of old)
    (ap view_of (set_new old seg step.after step.before step.there))
    (λ j apart. ap view_of (set_other old seg j step.after apart)) k

-- two seats began and completed the same nodes
pub record SameDone (v w : View) : Type 0 where
  pub begun : w.begun ≡ v.begun
  pub completed : w.completed ≡ v.completed

pub only_looked_same : (v w : View) → OnlyLooked v w → SameDone v w
only_looked_same v w looked = record { begun = ap (λ (u : View). u.begun) looked.after; completed = ap (λ (u : View). u.completed) looked.after }

-- seats that only looked
pub looked_same : (old new : List SeatValue) → SeatsLooked old new → (seg : ℕ) → SameDone (views_of old seg) (views_of new seg)
looked_same old new looked seg = by (slice_get old seg) refl (slice_get new seg) refl
  where
    by : (x : Option SeatValue) → slice_get old seg ≡ x → (y : Option SeatValue) → slice_get new seg ≡ y → SameDone (view_of x) (view_of y)
    by None was None is = record { begun = refl; completed = refl }
    by (Some a) was None is =
        let within = slice_get_within old seg a was in
        let count = looked.count in
        let stands = slice_get-get_or new seg a (omega arith) in
        absurd (let e = sym is ∙ stands in cc)
    by None was (Some b) is =
        let within = slice_get_within new seg b is in
        let count = looked.count in
        let stands = slice_get-get_or old seg b (omega arith) in
        absurd (let e = sym was ∙ stands in cc)
    by (Some a) was (Some b) is = only_looked_same a.view b.view (looked.each seg a b was is).1

-- a step of one seat that began and completed nothing
pub step_same : (seg : ℕ) (steps : View → View → Type 0) (old new : List SeatValue) (step : StepsAt seg steps old new) → SameDone step.before.view step.after.view
    → (k : ℕ) → SameDone (views_of old k) (views_of new k)
step_same seg steps old new step same k =
    subst (SameDone (views_of old k)) (sym (views_after seg steps old new step k))
    (put_each (λ j view. SameDone (views_of old j) view) seg step.after.view (views_of old)
    (subst (λ view. SameDone view step.after.view) (sym (view_before seg steps old new step)) same)
    (λ j apart. record { begun = refl; completed = refl }) k)

kept_same : (old new : List SeatValue) → new ≡ old → (k : ℕ) → SameDone (views_of old k) (views_of new k)
kept_same old new same k = subst (λ seats. SameDone (views_of old k) (views_of seats k)) (sym same) (record { begun = refl; completed = refl })

-- seats, one of which may have claimed a leaf
pub claimed_same : (outcome : Outcome) (old new : NodeState) → ClaimsFor outcome old new → (k : ℕ) → SameDone (views_of old.seats k) (views_of new.seats k)
claimed_same (Done reply) old new none k = kept_same old.seats new.seats none.0 k
claimed_same (Moved to) old new none k = kept_same old.seats new.seats none.0 k
claimed_same (Waits seg leaf) old new (inl one) k =
    let only = one.seats.told.claims in step_same seg _ old.seats new.seats one.seats (record { begun = only.begun; completed = only.completed }) k
claimed_same (Waits seg leaf) old new (inr spent) k = kept_same old.seats new.seats spent.1.0 k
