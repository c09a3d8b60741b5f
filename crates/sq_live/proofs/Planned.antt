-- Where a sound run ends: each family is at its owner by the new plan, and each job has its one receipt.
use Rattle.std.proofs.Common.{◌≡◌, inl, inr, ℕ, ◌+◌, ◌<◌, Bool, true, false, List, [], ◌∷◌, length, Contains, Option, Some, None, refl, sym, ap, ◌∙◌, subst, ⊎_elim, true≢false, arith}
use Rattle.std.specs.Prelude.{◌&&◌, Ok, Err, if◌then◌else◌}
use Rattle.std.specs.Result.{is_ok}
use Rattle.std.proofs.lemmas.Bool.{cases_Bool, and_parts, eqb-true, lt-ltb}
use Rattle.sq_schema.specs.TxnValue.{TxnValue}
use Rattle.sq_schema.specs.Family.{rows_of}
use Rattle.sq_moves.specs.ReconValue.{segment_of, is_link, stages}
use Rattle.sq_moves.specs.OpeningValue.{OpeningValue}
use Rattle.sq_moves.specs.Opening.{IsOpening}
use Rattle.sq_moves.proofs.Stages.{stage_below}
use Rattle.sq_leader.specs.LeaderValue.{StageValue}
use Rattle.sq_leader.specs.Segments.{have_reported}
use Rattle.sq_leader.specs.Leader.{is_last}
use Rattle.sq_model.specs.Place.{source, destination}
use Rattle.sq_model.specs.Staged.{owner_in}
use Rattle.sq_model.proofs.Lists.{Contains-nothing, Contains-slice_get}
use Rattle.sq_model.proofs.Keys.{found_in_segment, unfound_stays, linked}
use Rattle.sq_node_model.specs.declared.spot.Spot.TheVariants.{Store}
use Rattle.sq_node_model.specs.Gathered.{GatheredValue}
use Rattle.sq_node_model.specs.Placed.{IsPlaced}
use Rattle.sq_node_model.specs.Next.{is_complete_in, IsStageDone}
use Rattle.sq_node_model.specs.Folded.{folded_opening}
use Rattle.sq_node_model.proofs.Next.{stands_next}
use Rattle.sq_node_model.proofs.Staged.{key_stage, moved_source, staying_source}
use Rattle.sq_audit.specs.declared.job.Job.{Job}
use Rattle.sq_audit.specs.Answers.{IdsDiffer}
use Rattle.sq_audit.specs.Sound.{IsSoundRun}
use Rattle.sq_live.specs.declared.outcome.LiveOutcome.TheVariants.{Sound}
use Rattle.sq_live.specs.Account.{AccountValue}
use Rattle.sq_leader.specs.Leading.{HasEnded}
use Rattle.sq_live.specs.Outcome.{moved_count, commit_count, IsFoundSound}
use Rattle.sq_live.specs.Live.{WereRun}
use Rattle.sq_live.specs.WholeRun.{telling_stages, receipts_over, stored_family, log_over, IsCommitted, EndsAsPlanned}
use Rattle.sq_live.proofs.Moved.{one_unmoved}
use Rattle.sq_node_model.proofs.Folded.{rowless_opening}
use Rattle.sq_live.proofs.Ofs.{of_parts}
use Rattle.sq_live.proofs.StageAdds.{stored_then}
use Rattle.sq_live.proofs.WholeRun.{HaveTold, HaveToldTo, all_part, told_more, same_job, told_by_folds, told_at_once}

-- ---- the last stage

-- where all segments are complete, those of the stage are
all_done : (o : OpeningValue) (g : GatheredValue) → IsOpening o → moved_count o g ≡ length o.recon.segments → IsStageDone o g
all_done o g is all seg segment there now = elim (cases_Bool (is_complete_in g seg)) [
  | inl whole ↦ whole
  | inr partial ↦
      let fewer = one_unmoved o g is (λ done. true≢false (sym (done seg segment there now) ∙ partial)) in
      absurd (omega (arith, fewer, all))
]

-- a leader ends the move in the last stage
ended_last : (o : OpeningValue) (stage : ℕ) (is_complete : ℕ → Bool) (at : StageValue) → HasEnded o stage is_complete at → stage + 1 ≡ stages o.recon
ended_last o stage is_complete at has =
    let last = (and_parts (is_last at) (have_reported at) (may_end _ (is_last at && have_reported at) has.ended)).0 in
    let leads = has.hears.leads in
    ap (λ (n : ℕ). n + 1) (sym leads.stage_is) ∙ eqb-true (at.stage + 1) (stages at.recon) last ∙ ap stages leads.recon_is
  where
    may_end : {E : Type 0} (a : E) (may : Bool) → (if may then Ok at else Err a) ≡ Ok at → may ≡ true
    may_end a true is = refl
    may_end a false is = absurd (true≢false (sym (ap is_ok is)))

-- after it each root key is at its owner by the new plan
owner_last : (o : OpeningValue) → IsOpening o → (i root : ℕ) → i ≡ stages o.recon → owner_in o i root ≡ destination o root
owner_last o is i root last = by (segment_of o.recon.segments root) refl
  where
    by : (at : Option ℕ) → segment_of o.recon.segments root ≡ at → owner_in o i root ≡ destination o root
    by None none = let stays = unfound_stays o is root none in staying_source o i root stays ∙ stays
    by (Some seg) found =
        let (segment, at) = found_in_segment o is root seg found in
        let link : is_link o.recon.ranges (source o root) (destination o root) ≡ true =
        ap (λ (src : ℕ). is_link o.recon.ranges src (destination o root)) at.source_is
        ∙ ap (is_link o.recon.ranges segment.src) at.destination_is
        ∙ linked o is seg segment at.there in
        let below = stage_below o.recon (source o root) (destination o root) link in
        moved_source o i root (lt-ltb (key_stage o root) i (subst (λ (n : ℕ). key_stage o root < n) (sym last) below))

-- ---- where a run ends whose receipts answer all jobs

module _ (o : OpeningValue) (is : IsOpening o) (jobs : List Job) (differ : IdsDiffer jobs) (earlier : List GatheredValue) (account : AccountValue) (at : HaveToldTo o jobs earlier account)
    (g : GatheredValue) (families committed : ℕ) (placed : IsPlaced account.opening g) (found : IsFoundSound account g families committed) where
  abbrev opening_then : OpeningValue
  opening_then = folded_opening o account.opening.table

  sound_then : IsSoundRun opening_then g account.jobs
  sound_then = subst (λ (p : OpeningValue). IsSoundRun p g account.jobs) at.opening found.sound

  placed_then : IsPlaced opening_then g
  placed_then = subst (λ (p : OpeningValue). IsPlaced p g) at.opening placed

  done_then : IsStageDone opening_then g
  done_then = all_done opening_then g (rowless_opening o account.opening.table is)
      (subst (λ (p : OpeningValue). moved_count p g ≡ length p.recon.segments) at.opening found.is_done.moved)

  last : g.stage + 1 ≡ stages o.recon
  last = ended_last account.opening g.stage (is_complete_in g) found.is_done.leader found.is_done.ended ∙ ap (λ (p : OpeningValue). stages p.recon) at.opening

  owner_then : (root : ℕ) → owner_in o (g.stage + 1) root ≡ destination o root
  owner_then root = owner_last o is (g.stage + 1) root last

  all_told : HaveTold o jobs (g ∷ earlier) (λ root. rows_of (stored_then o is account.opening.table g account.jobs sound_then placed_then done_then root)) [] (account.committed + commit_count g.receipts)
  all_told =
      told_more o is jobs differ earlier account.opening.table account.jobs account.committed at.told g account.jobs [] sound_then placed_then done_then (all_part g.receipts account.jobs)
      (λ root. rows_of (stored_then o is account.opening.table g account.jobs sound_then placed_then done_then root)) (λ root. refl)

  -- a committed job is in the log of its root key
  stands_in_log : (root : ℕ) (job : Job) → Contains jobs job → job.txn.root ≡ root → IsCommitted (receipts_over (g ∷ earlier)) job → Contains (log_over o (g ∷ earlier) root) job.txn
  stands_in_log root job has root_is committed =
      let (receipt, among, of, commit) = committed in
      let (other, position, other_has, gone, is, answer) = all_told.answers receipt among in
      let parts = of_parts job.txn receipt of in
      let same = same_job jobs differ other job other_has has (ap (λ (t : TxnValue). t.id) is ∙ parts.id) in
      let there = answer.there commit in
      let txn : receipt.txn ≡ job.txn = sym is ∙ ap (λ (j : Job). j.txn) same in
      subst (λ (p : ℕ × TxnValue). Contains (log_over o (g ∷ earlier) p.0) p.1) (λ i. ((parts.root ∙ root_is) i, txn i))
      (Contains-slice_get (log_over o (g ∷ earlier) receipt.txn.root) position receipt.txn there)

  pub ends_as_planned : EndsAsPlanned o jobs (g ∷ earlier) g families committed
  ends_as_planned = record {
    owned = λ spot root family stands.
        stands_next opening_then (rowless_opening o account.opening.table is) g placed_then done_then spot root family stands ∙ ap Store (owner_then root);
    rows = λ root. ap (λ (part : ℕ). rows_of (stored_family g part root)) (sym (owner_then root)) ∙ all_told.rows_are root;
    logs = λ root. record { each = all_told.each root; all = stands_in_log root; once = all_told.once root };
    answers = λ receipt has. let (job, position, among, gone, is, answer) = all_told.answers receipt has in ((job, among, is), position, answer);
    answered = λ job has. ⊎_elim (λ waits. absurd (Contains-nothing job waits.0)) (λ has_one. has_one.1) (all_told.settled job has);
    committed_are = found.committed_are ∙ all_told.commits;
    families_are = found.families_are;
  }

-- ---- the run

module _ (o : OpeningValue) (jobs : List Job) (families committed : ℕ) where
  pub sound_ends : (folds : Bool) (run : WereRun folds o jobs (Sound families committed)) → EndsAsPlanned o jobs (telling_stages folds run.earlier run.gathered) run.gathered families committed
  sound_ends true run =
      ends_as_planned o run.set_up jobs run.differ run.earlier run.account (told_by_folds o run.set_up jobs run.differ run.earlier run.account run.began run.passed) run.gathered families committed run.ran.placed run.came
  sound_ends false run =
      ends_as_planned o run.set_up jobs run.differ [] run.account (told_at_once o run.set_up jobs run.differ run.earlier run.account run.began run.passed) run.gathered families committed run.ran.placed run.came
