-- A step that is refused leaves the world as it was.
use Rattle.std.proofs.Common.{◌≡◌, inl, inr, ℕ, ◌==◌, ◌||◌, ◌&&◌, Bool, true, false, not, nat_le, if◌then◌else◌, is_none, is_some, List, [], ◌∷◌, length, position, Option, Some, None, refl, sym, ap, ◌∙◌}
use Rattle.std.specs.List.{list_all, range_with_len}
use Rattle.std.proofs.lemmas.Bool.{cond_both}
use Rattle.sq_schema.specs.TxnValue.{TxnValue}
use Rattle.sq_moves.specs.Node.{is_node}
use Rattle.sq_moves.specs.declared.status.Status.TheVariants as status
use Rattle.sq_moves.specs.Answer.{split_answer, claim_answer, begin_answer, complete_answer}
use Rattle.sq_store.specs.ChunkValue.{ChunkValue}
use Rattle.sq_moves.specs.ReconValue.{stage_on}
use Rattle.sq_exec.specs.declared.fault.SubmitFault.{SubmitFault}
use Rattle.sq_exec.specs.declared.outcome.Outcome.{Outcome}
use Rattle.sq_exec.specs.declared.outcome.Outcome.TheVariants as outcome
use Rattle.sq_exec.specs.Work.{next_work}
use Rattle.sq_exec.specs.CoreValue.{out_at, inbox_at}
use Rattle.sq_exec.specs.Serving.{must_wait, submit_refusal, is_ready_here}
use Rattle.sq_model.specs.declared.step.Step.{Step}
use Rattle.sq_model.specs.declared.step.Step.TheVariants.{Prepare, Start, Submit, Resume, Split, Claim, Begin, Cut, Push, Pop, Load, Complete, Report, Next, Finish, Status, Fold}
use Rattle.sq_model.specs.declared.answer.Answer.{Answer}
use Rattle.sq_model.specs.declared.answer.Answer.TheVariants.{Done, Refused}
use Rattle.sq_model.specs.declared.answer.Refusal.{Refusal}
use Rattle.sq_model.specs.declared.answer.Refusal.TheVariants.{NotMoving, AlreadyMoving, NotPrepared, NotFinished, NoSuchPartition, NoSuchSegment, NoSuchNode, NoSuchLink, OutboxFull, LinkFull, InboxFull, LastStage}
use Rattle.sq_model.specs.Leader.{is_moving_phase, is_started_phase, is_ended_phase}
use Rattle.sq_model.specs.Answers.{split_answered, claim_answered, begin_answered, complete_answered}
use Rattle.sq_transition.specs.WorldValue.{WorldValue, running_stage, running_range, status_in, core_at, with_core, link_index, queue_at}
use Rattle.sq_transition.specs.Leading.{phase_of, has_prepared}
use Rattle.sq_transition.specs.LeaderResults.{StepResult, refuse, if_partition, if_moving, segment_range, is_segment_into, is_complete_by_tree, all_reported, runs_last, entered}
use Rattle.sq_transition.specs.LinkResults.{result_at_link, if_link, cut_work, cut_at, push_chunk, pop_chunk, load_chunk}
use Rattle.sq_transition.specs.SubmitResults.{submitted, served_core, taken, resumed_at}
use Rattle.sq_transition.specs.TreeResults.{if_segment, if_node, if_done, with_node, with_begun, is_loaded_whole}
use Rattle.sq_transition.specs.Transition.{step_result, IsTransition}

abbrev is_refused : Answer → Bool
is_refused (Refused refusal) = true
is_refused _ = false

-- a result that is a refusal has the world as it was
abbrev Stays : WorldValue → StepResult → Type 0
Stays w result = is_refused result.0 ≡ true → result.1 ≡ w

module _ (w : WorldValue) where
  -- ---- checks that come first

  at_part : (part : ℕ) (result : StepResult) → Stays w result → Stays w (if_partition w part result)
  at_part part result stays = cond_both (nat_le w.old.parts part) (refuse w NoSuchPartition) result (Stays w) (λ beyond e. refl) (λ within. stays)

  in_move : (result : StepResult) → Stays w result → Stays w (if_moving w result)
  in_move result stays = cond_both (not (is_moving_phase (phase_of w.leader))) (refuse w NotMoving) result (Stays w) (λ rests e. refl) (λ moves. stays)

  in_tree : (seg node : ℕ) (result : StepResult) → Stays w result → Stays w (if_moving w (if_segment w seg (if_node w node result)))
  in_tree seg node result stays =
      in_move (if_segment w seg (if_node w node result)) (
      cond_both (is_none (running_range w seg)) (refuse w NoSuchSegment) (if_node w node result) (Stays w) (λ none e. refl)
      (λ there. cond_both (not (is_node node)) (refuse w NoSuchNode) result (Stays w) (λ none e. refl) (λ there. stays)))

  over_link : (src dst : ℕ) (result : ℕ → StepResult) → ((i : ℕ) → Stays w (result i)) → Stays w (if_link w src dst result)
  over_link src dst result stays =
      in_move (if not (stage_on w.recon src dst == running_stage w) then refuse w NoSuchLink else result_at_link w result (link_index w src dst)) (
      cond_both (not (stage_on w.recon src dst == running_stage w)) (refuse w NoSuchLink) (result_at_link w result (link_index w src dst)) (Stays w) (λ other e. refl)
      (λ runs. at (link_index w src dst)))
    where
      at : (place : Option ℕ) → Stays w (result_at_link w result place)
      at None = λ e. refl
      at (Some i) = stays i

  -- ---- transactions

  of_submitted : (txn : TxnValue) (became : Outcome) (after : WorldValue) → Stays w (submitted w txn became, after)
  of_submitted txn (outcome.Done told) after = λ e. absurd cc
  of_submitted txn (outcome.Moved who) after = λ e. absurd cc
  of_submitted txn (outcome.Waits seg leaf) after = λ e. absurd cc

  of_taken : (part : ℕ) (txn : TxnValue) (fault : Option SubmitFault) → Stays w (taken w part txn fault)
  of_taken part txn (Some fault) = λ e. refl
  of_taken part txn None =
      cond_both (must_wait (core_at w part) txn.root) _ _ (Stays w)
      (λ waits e. absurd cc)
      (λ goes. of_submitted txn (served_core (core_at w part) txn).0 (with_core w part (served_core (core_at w part) txn).1))

  of_resumed : (part : ℕ) (place : Option ℕ) → Stays w (resumed_at w part place)
  of_resumed part None = λ e. refl
  of_resumed part (Some place) = λ e. absurd cc

  -- ---- nodes

  of_done : (given : Answer) (new : WorldValue) → Stays w (if_done given w new)
  of_done Done new = λ e. absurd cc
  of_done given new = λ e. refl

  -- ---- chunks

  of_cut_work : (src dst : ℕ) (at : Option ℕ) → Stays w (cut_work w src dst at)
  of_cut_work src dst None = λ e. refl
  of_cut_work src dst (Some at) = λ e. absurd cc

  of_cut : (src dst : ℕ) → Stays w (cut_at w src dst)
  of_cut src dst =
      let out = out_at (core_at w src) dst in
      cond_both (is_some out.outbox) (refuse w OutboxFull) (cut_work w src dst (next_work out.work)) (Stays w) (λ full e. refl) (λ room. of_cut_work src dst (next_work out.work))

  of_push : (src dst i : ℕ) (chunk : Option ChunkValue) → Stays w (push_chunk w src dst i chunk)
  of_push src dst i None = λ e. refl
  of_push src dst i (Some chunk) =
      cond_both (nat_le w.config.capacity (length (queue_at w i).chunks)) (refuse w LinkFull) _ (Stays w) (λ full e. refl) (λ room e. absurd cc)

  of_pop_chunk : (src dst i : ℕ) (chunks : List ChunkValue) → Stays w (pop_chunk w src dst i chunks)
  of_pop_chunk src dst i [] = λ e. refl
  of_pop_chunk src dst i (chunk ∷ chunks) = λ e. absurd cc

  of_load : (src dst : ℕ) (chunk : Option ChunkValue) → Stays w (load_chunk w src dst chunk)
  of_load src dst None = λ e. refl
  of_load src dst (Some chunk) = λ e. absurd cc

  -- ---- each step

  stays : (step : Step) → Stays w (step_result w step)
  stays (Prepare part) = at_part part _ (cond_both (is_started_phase (phase_of w.leader)) (refuse w AlreadyMoving) _ (Stays w) (λ did e. refl) (λ did_not e. absurd cc))
  stays Start =
      cond_both (is_started_phase (phase_of w.leader)) (refuse w AlreadyMoving) _ (Stays w) (λ did e. refl)
      (λ did_not. cond_both (not (list_all (has_prepared w.leader) (range_with_len 0 w.old.parts))) (refuse w NotPrepared) _ (Stays w) (λ some e. refl) (λ all e. absurd cc))
  stays (Submit part txn) = at_part part _ (of_taken part txn (submit_refusal (core_at w part) txn))
  stays (Resume part) = at_part part _ (of_resumed part (position (is_ready_here (core_at w part)) (core_at w part).waiting))
  stays (Split seg node) = in_tree seg node _ (of_done (split_answered (split_answer (status_in w seg) node)) (with_node w seg node status.Split))
  stays (Claim seg node pull) = in_tree seg node _ (of_done (claim_answered (claim_answer (status_in w seg) node pull)) (with_node w seg node (status.Claimed pull)))
  stays (Begin seg node pull) = in_tree seg node _ (of_done (begin_answered (begin_answer (status_in w seg) node pull)) (with_begun w seg node pull))
  stays (Cut src dst) = over_link src dst (λ _. cut_at w src dst) (λ i. of_cut src dst)
  stays (Push src dst) = over_link src dst _ (λ i. of_push src dst i (out_at (core_at w src) dst).outbox)
  stays (Pop src dst) =
      over_link src dst _ (λ i.
      cond_both (is_some (inbox_at (core_at w dst) src)) (refuse w InboxFull) (pop_chunk w src dst i (queue_at w i).chunks) (Stays w) (λ full e. refl) (λ room. of_pop_chunk src dst i (queue_at w i).chunks))
  stays (Load src dst) = over_link src dst (λ _. load_chunk w src dst (inbox_at (core_at w dst) src)) (λ i. of_load src dst (inbox_at (core_at w dst) src))
  stays (Complete seg node pull) =
      in_tree seg node _ (of_done (complete_answered (is_loaded_whole w seg node) (complete_answer (status_in w seg) node pull)) (with_node w seg node (status.Complete pull)))
  stays (Report part) =
      in_move _ (at_part part _ (
      cond_both (list_all (λ seg. not (is_segment_into w part seg) || is_complete_by_tree w seg) (segment_range w)) _ (refuse w NotFinished) (Stays w) (λ all e. absurd cc) (λ some e. refl)
      ))
  stays Next =
      in_move _ (
      cond_both (runs_last w) (refuse w LastStage) _ (Stays w) (λ last e. refl)
      (λ more. cond_both (all_reported w) (Done, entered w) (refuse w NotFinished) (Stays w) (λ all e. absurd cc) (λ some e. refl)))
  stays Finish = in_move _ (cond_both (runs_last w && all_reported w) _ (refuse w NotFinished) (Stays w) (λ all e. absurd cc) (λ some e. refl))
  stays (Fold part) = at_part part _ (cond_both (is_ended_phase (phase_of w.leader)) _ (refuse w NotFinished) (Stays w) (λ ended e. absurd cc) (λ moves e. refl))
  stays (Status seg node) =
      cond_both (is_none (running_range w seg)) (refuse w NoSuchSegment) _ (Stays w) (λ none e. refl)
      (λ there. cond_both (not (is_node node)) (refuse w NoSuchNode) _ (Stays w) (λ none e. refl) (λ there e. refl))

pub refused_stays : (old new : WorldValue) (step : Step) (refusal : Refusal) → IsTransition old step (Refused refusal) new → new ≡ old
refused_stays old new step refusal (inl result) =
    ap (λ (r : StepResult). r.1) result ∙ stays old step (sym (ap (λ (r : StepResult). is_refused r.0) result))
refused_stays old new step refusal (inr lacked) = lacked.2
