-- How an engine ends that is closed.
use Rattle.std.proofs.Common.{◌≡◌, ◌+◌, ◌==◌, Bool, true, false, true≢false, List, [], ◌∷◌, ◌++◌, length, refl, sym, ap, ◌∙◌, subst, arith}
use Rattle.std.specs.Prelude.{◌&&◌, cond, if◌then◌else◌, is_some}
use Rattle.sq_gather.specs.Prelude.{one_if}
use Rattle.std.specs.List.Sorted.{IsPermutation}
use Rattle.std.proofs.lemmas.Bool.{and_parts, eqb-true}
use Rattle.std.proofs.lemmas.List.{append-nil, nil_from_length}
use Rattle.std.proofs.lemmas.List.Sorted.{sum_by-IsPermutation}
use Rattle.sq_schema.specs.Table.{TableValue}
use Rattle.sq_schema.specs.Effect.{RowList, replay_rows}
use Rattle.sq_model.specs.Tables.{opening_rows}
use Rattle.sq_node_model.specs.NodeValue.{ReceiptValue}
use Rattle.sq_node_model.specs.Receipts.{is_commit}
use Rattle.sq_node_model.specs.declared.spot.Spot.TheVariants.{Store}
use Rattle.sq_node_model.specs.Folded.{folded_opening}
use Rattle.sq_node_model.proofs.Next.{stands_next}
use Rattle.sq_audit.specs.declared.verdict.Verdict.TheVariants.{Sound, Unsound}
use Rattle.sq_audit.specs.declared.verdict.Defect.TheVariants as defect
use Rattle.sq_engine.specs.declared.event.Event.{Event}
use Rattle.sq_engine.specs.declared.event.Event.TheVariants.{Posts, Refuses, Answers, Drops, Loses, Rests, Ends, MovesTo}
use Rattle.sq_engine.specs.Events.{answers_in, arrivals_in, are_known, are_whole}
use Rattle.sq_engine.specs.Open.{OpenJobsValue, JobMap, job_at}
use Rattle.sq_engine.specs.Values.{EngineValue, AtValue, Between}
use Rattle.sq_engine.specs.History.{Stands}
use Rattle.sq_engine.specs.Engine.{receipts_in, AreReceipts, IsReached, EndsMove, verdict_on}
use Rattle.sq_engine.specs.Ending.{family_after, EndsAsPlanned, HasAnsweredAll, LogsHoldCommits}
use Rattle.sq_engine.proofs.Committed.{logs_hold_commits}
use Rattle.sq_engine.proofs.Epochs.{between_placed, between_rows}
use Rattle.sq_engine.proofs.Jobs.{one_answer}
use Rattle.sq_engine.proofs.Last.{owner_last}
use Rattle.sq_engine.proofs.Logs.{base_is}

module _ (engine : EngineValue) (reached : IsReached engine) (move : EndsMove engine) where
  stands : Stands engine.first reached.past engine.opening (Between move.gathered false)
  stands = subst (λ (a : AtValue). Stands engine.first reached.past engine.opening a) move.at reached.stands

  written : AreReceipts engine.jobs.events move.gathered.receipts
  written = subst (λ (a : AtValue). AreReceipts engine.jobs.events (receipts_in a)) move.at reached.written

  -- an engine that is closed ended as planned
  pub ends_as_planned : EndsAsPlanned engine
  ends_as_planned =
      let g = move.gathered in
      let o = engine.opening in
      let is = reached.set_up.opening in
      let placed = between_placed engine.first reached.past o g stands in
      let table = between_rows engine.first reached.past o g stands in
      record {
        gathered = g;
        at = move.at;
        plan = reached.plan;
        owned = λ spot root family there.
            stands_next o is g placed move.done spot root family there
            ∙ ap (λ part. Store part) (owner_last o is (g.stage + 1) root move.last);
        rows = λ root.
            let log = (family_after o g root).log in
            ap (λ (base : RowList). replay_rows base log)
            (base_is o g is placed move.done root ∙ ap (λ (rows : TableValue). opening_rows (folded_opening o rows) root) table);
        named = placed.named;
        told = placed.told;
        aborted = placed.aborted;
        written = written;
        answered = λ id. one_answer engine.jobs.events engine.jobs.unanswered id reached.open_jobs;
      }

-- if no receipt was dropped, what arrived was given
known_given : (events : List Event) → are_known events ≡ true → arrivals_in events ≡ answers_in events
known_given [] known = refl
known_given (Answers part receipt ∷ more) known = ap (λ (list : List ReceiptValue). receipt ∷ list) (known_given more known)
known_given (Drops part receipt ∷ more) known = absurd (true≢false (sym known))
known_given (Posts job ∷ more) known = known_given more known
known_given (Refuses job fault ∷ more) known = known_given more known
known_given (Loses ∷ more) known = known_given more known
known_given (Rests ∷ more) known = known_given more known
known_given (Ends ∷ more) known = known_given more known
known_given (MovesTo plan ∷ more) known = known_given more known

-- what a sound verdict says
pub record IsSound (jobs : OpenJobsValue) : Type 0 where
  pub known : are_known jobs.events ≡ true
  pub none_open : jobs.unanswered ≡ []
  pub whole : are_whole jobs.events ≡ true

pub sound_means : (jobs : OpenJobsValue) → verdict_on jobs ≡ Sound → IsSound jobs
sound_means jobs sound = by (are_known jobs.events) refl ((length jobs.unanswered == 0) && are_whole jobs.events) refl
  where
    by : (known : Bool) → are_known jobs.events ≡ known → (all : Bool) → ((length jobs.unanswered == 0) && are_whole jobs.events) ≡ all → IsSound jobs
    by false unknown all is =
        let verdict : verdict_on jobs ≡ Unsound defect.ReceiptUnknown =
        ap (λ (b : Bool). if b then (if (length jobs.unanswered == 0) && are_whole jobs.events then Sound else Unsound defect.Unanswered) else Unsound defect.ReceiptUnknown) unknown in
        let same : Unsound defect.ReceiptUnknown ≡ Sound = sym verdict ∙ sound in
        absurd cc
    by true known false not_all =
        let verdict : verdict_on jobs ≡ Unsound defect.Unanswered =
        ap (λ (b : Bool). if b then (if (length jobs.unanswered == 0) && are_whole jobs.events then Sound else Unsound defect.Unanswered) else Unsound defect.ReceiptUnknown) known
        ∙ ap (λ (b : Bool). if b then Sound else Unsound defect.Unanswered) not_all in
        let same : Unsound defect.Unanswered ≡ Sound = sym verdict ∙ sound in
        absurd cc
    by true known true all =
        let parts = and_parts (length jobs.unanswered == 0) (are_whole jobs.events) all in
        record {
          known = known;
          none_open = nil_from_length jobs.unanswered (eqb-true (length jobs.unanswered) 0 parts.0);
          whole = parts.1;
        }

module _ (engine : EngineValue) (reached : IsReached engine) (move : EndsMove engine) (sound : verdict_on engine.jobs ≡ Sound) where
  -- what a sound engine's clients were given are all receipts
  given_all : IsPermutation (answers_in engine.jobs.events) move.gathered.receipts
  given_all =
      let is = sound_means engine.jobs sound in
      let events = engine.jobs.events in
      let all = written engine reached move in
      subst (λ (list : List ReceiptValue). IsPermutation list move.gathered.receipts)
      (ap (λ (lost : List ReceiptValue). arrivals_in events ++ lost) (all.none_lost is.whole)
      ∙ append-nil (arrivals_in events) ∙ known_given events is.known)
      all.all

  -- a sound engine has answered all
  pub answered_all : HasAnsweredAll engine
  answered_all = record {
    gathered = move.gathered;
    at = move.at;
    receipts = given_all;
    each = λ id.
        let one = one_answer engine.jobs.events engine.jobs.unanswered id reached.open_jobs in
        let none : one_if (is_some (job_at engine.jobs.unanswered id)) ≡ 0 =
        ap (λ (jobs : JobMap). one_if (is_some (job_at jobs id))) (sound_means engine.jobs sound).none_open in
        omega (arith, one, none);
  }

  -- its logs hold as many transactions as it gave answers of commits
  pub logs_committed : LogsHoldCommits engine
  logs_committed =
      let g = move.gathered in
      let o = engine.opening in
      let placed = between_placed engine.first reached.past o g (stands engine reached move) in (
        g,
        move.at,
        logs_hold_commits o g reached.set_up.opening placed move.done
            ∙ sum_by-IsPermutation (λ (receipt : ReceiptValue). cond (is_commit receipt.reply) 1 0)
            (answers_in engine.jobs.events) g.receipts given_all,
      )
