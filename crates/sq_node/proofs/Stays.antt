-- A node stays one of its fabric.
use Rattle.std.proofs.Common.{◌≡◌, ℕ, suc, Bool, true, false, List, ◌∷◌, [], length, map, Option, Some, None, refl, sym, ap, ◌∙◌, subst, inl, inr, arith}
use Rattle.std.specs.Prelude.{slice_get, slice_set, option_map}
use Rattle.std.proofs.lemmas.List.{length-set}
use Rattle.std.proofs.lemmas.Option.{same_Some}
use Rattle.sq_schema.specs.TxnValue.{TxnValue}
use Rattle.atomic_table.specs.Seated.{TableId}
use Rattle.sq_shared.specs.Values.{LinkValue}
use Rattle.sq_moves.specs.declared.recon.Range.{Range}
use Rattle.sq_plan.specs.PlanValue.{PlanValue}
use Rattle.sq_shared.specs.Seat.{SeatValue}
use Rattle.sq_exec.specs.declared.outcome.Outcome.{Outcome}
use Rattle.sq_exec.specs.declared.outcome.Outcome.TheVariants.{Done, Moved, Waits}
use Rattle.sq_exec.specs.CoreValue.{CoreValue}
use Rattle.sq_exec.specs.Moving.{begun_in}
use Rattle.sq_exec.specs.Serving.{IsTaken}
use Rattle.sq_shared.specs.Seats.{AreSeatsOf}
use Rattle.sq_shared.proofs.Stepped.{seats_stay}
use Rattle.sq_node_model.specs.NodeValue.{put}
use Rattle.sq_node_model.proofs.Puts.{put_each, put_set, put_still}
use Rattle.sq_node.specs.declared.stepped.Stepped.{Stepped}
use Rattle.sq_node.specs.declared.stepped.Stepped.TheVariants.{Did, Nothing, Memory}
use Rattle.sq_node.specs.FabricValue.{FabricValue}
use Rattle.sq_node.specs.Ends.{EndValue, link_at, end_at, IsEnd, AreEnds, AreSendEnds, AreRecvEnds}
use Rattle.sq_node.specs.NodeState.{NodeState, IsNodeOf}
use Rattle.sq_node.specs.Looks.{SeatsLooked}
use Rattle.sq_node.specs.Steps.{ClaimsFor, JobStep, RequestStep, CutStep, SendStep, RecvStep, LoadStep, CompleteStep, ResumeStep}
use Rattle.sq_node.proofs.Bridges.{stands_below}

-- the partition is the same, with the same plan and the same moves
pub record SamePart (old new : CoreValue) : Type 0 where
  pub part : new.part ≡ old.part
  pub plan : new.plan ≡ old.plan
  pub recon : new.recon ≡ old.recon
  pub stage : new.stage ≡ old.stage

stays : (fabric : FabricValue) (old new : NodeState) → SamePart old.core new.core → AreSeatsOf fabric.trees new.seats
    → AreSendEnds fabric.links old.core.part new.sends → AreRecvEnds fabric.links old.core.part new.recvs
    → length new.sends ≡ length old.sends → length new.recvs ≡ length old.recvs → IsNodeOf fabric old → IsNodeOf fabric new
stays fabric old new same seats sends recvs all_sends all_recvs is =
    record {
      recon = same.recon ∙ is.recon;
      stage = same.stage ∙ is.stage;
      parts = ap (λ (p : PlanValue). p.parts) same.plan ∙ is.parts;
      below = omega (arith, same.part, is.below);
      seats = seats;
      sends = subst (λ (p : ℕ). AreSendEnds fabric.links p new.sends) (sym same.part) sends;
      recvs = subst (λ (p : ℕ). AreRecvEnds fabric.links p new.recvs) (sym same.part) recvs;
      all_sends = all_sends ∙ is.all_sends;
      all_recvs = all_recvs ∙ is.all_recvs;
    }

-- where the ends are as they were
core_stays : (fabric : FabricValue) (old new now : NodeState) → new ≡ now → now.sends ≡ old.sends → now.recvs ≡ old.recvs → SamePart old.core now.core → AreSeatsOf fabric.trees now.seats
    → IsNodeOf fabric old → IsNodeOf fabric new
core_stays fabric old new now is sends recvs same seats of =
    subst (IsNodeOf fabric) (sym is)
    (stays fabric old now same seats (subst (AreSendEnds fabric.links old.core.part) (sym sends) of.sends) (subst (AreRecvEnds fabric.links old.core.part) (sym recvs) of.recvs) (ap length sends) (ap length recvs) of)

same_node : (fabric : FabricValue) (old new : NodeState) → new ≡ old → IsNodeOf fabric old → IsNodeOf fabric new
same_node fabric old new is of = subst (IsNodeOf fabric) (sym is) of

same_part : (core : CoreValue) → SamePart core core
same_part core = record { part = refl; plan = refl; recon = refl; stage = refl }

pub cut_stays : (fabric : FabricValue) (old : NodeState) (answer : Stepped) (new : NodeState) → CutStep old answer new → IsNodeOf fabric old → IsNodeOf fabric new
cut_stays fabric old Did new step of =
    core_stays fabric old new (record old { core = new.core }) step.1.after refl refl (subst (SamePart old.core) (sym step.1.cut.after) (record { part = refl; plan = refl; recon = refl; stage = refl })) of.seats of
cut_stays fabric old Nothing new step of = same_node fabric old new step.0 of
cut_stays fabric old Memory new step of = same_node fabric old new step of

pub load_stays : (fabric : FabricValue) (old : NodeState) (answer : Stepped) (new : NodeState) → LoadStep old answer new → IsNodeOf fabric old → IsNodeOf fabric new
load_stays fabric old Did new step of =
    core_stays fabric old new (record old { core = new.core }) step.1.after refl refl (subst (SamePart old.core) (sym step.1.load.after) (record { part = refl; plan = refl; recon = refl; stage = refl })) of.seats of
load_stays fabric old Nothing new step of = same_node fabric old new step.0 of
load_stays fabric old Memory new step of = same_node fabric old new step of

-- ends with another in the place of one
module _ (ends : List (Option EndValue)) (at : ℕ) (end now : EndValue) (there : end_at ends at ≡ Some end) where
  set_there : (k : ℕ) → end_at (slice_set ends at (Some now)) k ≡ put at (Some now) (end_at ends) k
  set_there = put_set ends at (Some now) None (stands_below ends at end there)

  same_link : now.link ≡ end.link → (k : ℕ) → option_map (λ (e : EndValue). e.link) (end_at (slice_set ends at (Some now)) k) ≡ option_map (λ (e : EndValue). e.link) (end_at ends k)
  same_link same k =
      let link_of = option_map (λ (e : EndValue). e.link) in
      ap link_of (set_there k) ∙ put_still link_of at (Some now) (end_at ends) k (ap (λ i. Some i) same ∙ sym (ap link_of there))

  -- what is said of the other is said of each, where it was said of those before
  said_of_each : (P : EndValue → Type 0) → P now → ((k : ℕ) (e : EndValue) → end_at ends k ≡ Some e → P e) → (k : ℕ) (e : EndValue) → end_at (slice_set ends at (Some now)) k ≡ Some e → P e
  said_of_each P mine before k e stands =
      put_each (λ j found. found ≡ Some e → P e) at (Some now) (end_at ends) (λ is. subst P (same_Some now e is) mine) (λ j apart is. before j e is) k
      (sym (set_there k) ∙ stands)

  -- they are a partition's ends still, where the other is of the same link
  ends_stay : {near far : LinkValue → ℕ} {links : List LinkValue} {part : ℕ} → AreEnds near far links part ends → now.link ≡ end.link → now.pass.queue ≡ end.pass.queue
      → AreEnds near far links part (slice_set ends at (Some now))
  ends_stay {near} {far} {links} are link queue =
      let first = are.ends at end there in
      let is : IsEnd links now = record { exists = omega (arith, first.exists, link); queue = queue ∙ first.queue ∙ ap (λ (i : ℕ). (link_at links i).queue) (sym link) } in
      record {
        which = λ other lt. same_link link other ∙ are.which other (omega (arith, lt, length-set ends at (Some now)));
        ends = said_of_each (IsEnd links) is are.ends;
      }

pub send_stays : (fabric : FabricValue) (old : NodeState) (answer : Stepped) (new : NodeState) → SendStep fabric old answer new → IsNodeOf fabric old → IsNodeOf fabric new
send_stays fabric old Did new step of =
    let sends = step.1 in
    let dst = step.0 in
    subst (IsNodeOf fabric) (sym sends.after)
    (stays fabric old _ (record { part = refl; plan = refl; recon = refl; stage = refl }) of.seats
    (ends_stay old.sends dst sends.end _ sends.there of.sends refl refl) of.recvs (length-set old.sends dst _) refl of)
send_stays fabric old Nothing new step of = same_node fabric old new step.0 of
send_stays fabric old Memory new step of = absurd step

pub recv_stays : (fabric : FabricValue) (old : NodeState) (answer : Stepped) (new : NodeState) → RecvStep old answer new → IsNodeOf fabric old → IsNodeOf fabric new
recv_stays fabric old Did new step of =
    let receives = step.1 in
    let src = step.0 in
    subst (IsNodeOf fabric) (sym receives.after)
    (stays fabric old _ (record { part = refl; plan = refl; recon = refl; stage = refl }) of.seats of.sends
    (ends_stay old.recvs src receives.end _ receives.there of.recvs refl refl) refl (length-set old.recvs src _) of)
recv_stays fabric old Nothing new step of = same_node fabric old new step.0 of
recv_stays fabric old Memory new step of = absurd step

-- seats that only looked stay at their trees
looked_seats : (trees : List TableId) (old new : List SeatValue) → SeatsLooked old new → AreSeatsOf trees old → AreSeatsOf trees new
looked_seats trees old new looked of =
    same_map new old looked.count
    (λ i first second there then. (looked.each i second first then there).0)
    ∙ of
  where
    same_map : (xs ys : List SeatValue) → length xs ≡ length ys → ((i : ℕ) (x y : SeatValue) → slice_get xs i ≡ Some x → slice_get ys i ≡ Some y → x.tree ≡ y.tree) → map (λ (s : SeatValue). s.tree) xs ≡ map (λ (s : SeatValue). s.tree) ys
    same_map [] [] count each = refl
    same_map [] (y ∷ ys) count each = cc
    same_map (x ∷ xs) [] count each = cc
    same_map (x ∷ xs) (y ∷ ys) count each =
        (λ k. each 0 x y refl refl k ∷ same_map xs ys (omega (arith, count)) (λ i a b there then. each (suc i) a b there then) k)

pub request_stays : (fabric : FabricValue) (old : NodeState) (answer : Stepped) (new : NodeState) → RequestStep old answer new → IsNodeOf fabric old → IsNodeOf fabric new
request_stays fabric old Did new step of =
    core_stays fabric old new _ step.after refl refl (begun_part (slice_get old.core.recon.segments step.seg)) (seats_stay fabric.trees step.seg _ old.seats new.seats step.won of.seats) of
  where
    begun_part : (segment : Option Range) → SamePart old.core (begun_in old.core step.seg step.node step.pull segment)
    begun_part None = record { part = refl; plan = refl; recon = refl; stage = refl }
    begun_part (Some segment) = record { part = refl; plan = refl; recon = refl; stage = refl }
request_stays fabric old Nothing new step of =
    core_stays fabric old new _ step.after refl refl (same_part old.core) (looked_seats fabric.trees old.seats new.seats step.seats of.seats) of
request_stays fabric old Memory new step of = same_node fabric old new step of

pub complete_stays : (fabric : FabricValue) (old : NodeState) (answer : Stepped) (new : NodeState) → CompleteStep old answer new → IsNodeOf fabric old → IsNodeOf fabric new
complete_stays fabric old Did new step of =
    core_stays fabric old new _ step.after refl refl (same_part old.core)
    (looked_seats fabric.trees step.then new.seats step.looked_after
    (seats_stay fabric.trees step.seg _ step.between step.then step.completed (looked_seats fabric.trees old.seats step.between step.looked of.seats))) of
complete_stays fabric old Nothing new step of =
    core_stays fabric old new _ step.0.after refl refl (same_part old.core) (looked_seats fabric.trees old.seats new.seats step.0.seats of.seats) of
complete_stays fabric old Memory new step of = absurd step

pub taken_part : (waits : Bool) (old new : CoreValue) (txn : TxnValue) (outcome : Outcome) → IsTaken waits old txn outcome new → SamePart old new
taken_part true old new txn outcome taken =
    record { part = ap (λ (c : CoreValue). c.part) taken.last; plan = ap (λ (c : CoreValue). c.plan) taken.last; recon = ap (λ (c : CoreValue). c.recon) taken.last; stage = ap (λ (c : CoreValue). c.stage) taken.last }
taken_part false old new txn outcome taken =
    record { part = ap (λ (c : CoreValue). c.part) taken.after; plan = ap (λ (c : CoreValue). c.plan) taken.after; recon = ap (λ (c : CoreValue). c.recon) taken.after; stage = ap (λ (c : CoreValue). c.stage) taken.after }

claimed_seats : (trees : List TableId) (outcome : Outcome) (old new : NodeState) → ClaimsFor outcome old new → AreSeatsOf trees old.seats → AreSeatsOf trees new.seats
claimed_seats trees (Done reply) old new none of = subst (AreSeatsOf trees) (sym none.0) of
claimed_seats trees (Moved to) old new none of = subst (AreSeatsOf trees) (sym none.0) of
claimed_seats trees (Waits seg leaf) old new (inl one) of = seats_stay trees seg _ old.seats new.seats one.seats of
claimed_seats trees (Waits seg leaf) old new (inr spent) of = subst (AreSeatsOf trees) (sym spent.1.0) of

pub job_stays : (fabric : FabricValue) (old : NodeState) (answer : Stepped) (new : NodeState) → JobStep old answer new → IsNodeOf fabric old → IsNodeOf fabric new
job_stays fabric old Did new step of =
    core_stays fabric old new _ step.after refl refl (taken_part _ old.core new.core step.txn step.outcome step.taken)
    (claimed_seats fabric.trees step.outcome old new step.claims of.seats) of
job_stays fabric old Nothing new step of = same_node fabric old new step of
job_stays fabric old Memory new step of = same_node fabric old new step of

pub resume_stays : (fabric : FabricValue) (old : NodeState) (answer : Stepped) (new : NodeState) → ResumeStep old answer new → IsNodeOf fabric old → IsNodeOf fabric new
resume_stays fabric old Did new step of =
    let taken = step.taken in
    core_stays fabric old new _ step.after refl refl
    (record { part = ap (λ (c : CoreValue). c.part) taken.after; plan = ap (λ (c : CoreValue). c.plan) taken.after; recon = ap (λ (c : CoreValue). c.recon) taken.after; stage = ap (λ (c : CoreValue). c.stage) taken.after }) of.seats of
resume_stays fabric old Nothing new step of = same_node fabric old new step.0 of
resume_stays fabric old Memory new step of = same_node fabric old new step of
