-- The leader's steps keep what holds.
use Rattle.std.proofs.Common.{subst, ◌≡◌, ℕ, true, false, List, [], ◌∷◌, refl, sym, ap, ◌∙◌, arith}
use Rattle.std.specs.Prelude.{◌<◌, zero, suc, slice_get, slice_index_or, map, ◌==◌, ◌||◌, ◌&&◌, ◌+◌, length, not, nat_le}
use Rattle.std.specs.List.{list_any, list_all, range_with_len}
use Rattle.std.proofs.lemmas.List.{length-map, length-replicate, get_or-map}
use Rattle.std.proofs.lemmas.Bool.{leb-false, not-false}
use Rattle.sq_moves.specs.Status.{reading}
use Rattle.sq_moves.specs.ReconValue.{of_stage, stages, goes_into}
use Rattle.sq_moves.specs.OpeningValue.{OpeningValue}
use Rattle.sq_leader.specs.declared.leader.Leader.{Leader}
use Rattle.sq_leader.proofs.Marked.{same_within}
use Rattle.sq_exec.specs.CoreValue.{CoreValue, entered_core, out_at, inbox_at}
use Rattle.sq_model.specs.declared.step.Step.TheVariants.{Prepare, Start, Report, Next, Finish}
use Rattle.sq_model.specs.declared.step.Phase.{Phase}
use Rattle.sq_model.specs.declared.step.Phase.TheVariants.{Idle, Preparing, Moving, Ended}
use Rattle.sq_model.specs.declared.answer.Answer.TheVariants.{Done}
use Rattle.sq_model.specs.declared.answer.Refusal.TheVariants.{AlreadyMoving, NotPrepared, NotFinished, NoSuchPartition, LastStage}
use Rattle.sq_model.specs.Trace.{Trace, stage}
use Rattle.sq_model.specs.Leader.{phase, is_started, is_started_phase, is_moving_phase, is_prepared}
use Rattle.sq_moves.specs.Reading.{is_complete_reading}
use Rattle.sq_model.specs.Answers.{answer, is_complete_segment, is_into, has_all, counts_reported, partitions, segment_numbers, is_last_stage}
use Rattle.sq_model.proofs.Lists.{list_all-Contains, row_has}
use Rattle.sq_transition.specs.WorldValue.{WorldValue, WholeLink, running_stage, no_core, core_at, queue_at, link_value}
use Rattle.sq_transition.specs.Leading.{parts_of, has_prepared, has_reported, after_prepare, after_start, after_report, after_next, after_finish}
use Rattle.sq_transition.specs.LeaderResults.{started_core, entered, runs_last, all_reported, is_segment_into, is_complete_by_tree, segment_range}
use Rattle.sq_transition.specs.Transition.{step_result}
use Rattle.sq_transition.specs.Holds.{CoreHolds, LeaderHolds, PartitionsHold, LinkHolds, LinksHold}
use Rattle.sq_transition.proofs.Cores.{same_moves, set_again, cores_kept}
use Rattle.sq_transition.proofs.Changed.{PartsHold, leader_changed, partitions_changed, links_changed}
use Rattle.sq_transition.proofs.Keeps.{Keeps, keeps_if, keeps_refused, keeps_while_moving}
use Rattle.sq_transition.proofs.Leading.{prepared_leader, start_reported, start_stage, reported_leader, entered_leader, finished_leader}

-- the leader knows each partition of the plans
known : (o : OpeningValue) (t : Trace) (w : WorldValue) (part : ℕ) → PartsHold o t w → nat_le o.old.parts part ≡ false → part < parts_of w.leader
known o t w part h below = omega (arith, h.leader.parts, leb-false o.old.parts part below)

pub prepare_keeps : (o : OpeningValue) (t : Trace) (w : WorldValue) (part : ℕ) → PartsHold o t w → Keeps o t (Prepare part) (step_result w (Prepare part)) (answer o t (Prepare part))
prepare_keeps o t w part h =
    keeps_if o t (Prepare part) _ _ _ _ _ _ (ap (λ plan. nat_le plan.parts part) h.plans.old)
    (λ _. keeps_refused o t w (Prepare part) NoSuchPartition h)
    (λ below.
    keeps_if o t (Prepare part) _ _ _ _ _ _ (ap is_started_phase h.leader.phase)
    (λ _. keeps_refused o t w (Prepare part) AlreadyMoving h)
    (λ idle.
    let after = prepared_leader w.leader part (ap is_started_phase h.leader.phase ∙ idle) (known o t w part h below) in
    let now : LeaderHolds o ((Prepare part, Done) ∷ t) (record w { leader = after_prepare w.leader part }) = record {
      parts = after.parts ∙ h.leader.parts;
      moves = after.moves ∙ h.leader.moves;
      phase = after.phase;
      stage = after.stage ∙ h.leader.stage;
      prepared = λ p low. after.prepared p ∙ ap (λ b. (part == p) || b) (h.leader.prepared p low);
      reported = λ p low. after.reported p ∙ h.leader.reported p low;
    } in
    let cores = cores_kept o t ((Prepare part, Done) ∷ t) w h.partitions (λ p _. record { started = sym idle; stage = refl; shares = λ root. refl; waits = refl; moves = same_moves o t p }) in
    (refl, partitions_changed (leader_changed h now) cores)))

-- what doesn't depend on whether a partition was informed of something
seen_told : {X : Type 0} (told : CoreValue → CoreValue) (seen : CoreValue → X) → ((core : CoreValue) → seen (told core) ≡ seen core) → (cores : List CoreValue) (p : ℕ)
    → seen (slice_index_or (map told cores) p no_core) ≡ seen (slice_index_or cores p no_core)
seen_told told seen same [] p = refl
seen_told told seen same (core ∷ cores) zero = same core
seen_told told seen same (core ∷ cores) (suc p) = seen_told told seen same cores p

-- the leader informs all partitions of something
module _ (w : WorldValue) (leader : Leader) (told : CoreValue → CoreValue) where
  abbrev all_told : WorldValue
  all_told = record w { leader = leader; cores = map told w.cores }

  -- and hold what the history after it says of them
  cores_told : (o : OpeningValue) (t after : Trace) → ((p : ℕ) (core : CoreValue) → CoreHolds o t p core → CoreHolds o after p (told core)) → PartitionsHold o t w → PartitionsHold o after all_told
  cores_told o t after keeps h =
      record {
        count = length-map w.cores told ∙ h.count;
        each = λ p below.
            subst (CoreHolds o after p) (sym (get_or-map told w.cores p no_core no_core (omega (arith, h.count, below)))) (keeps p (core_at w p) (h.each p below));
      }

  -- their links stay where it doesn't change their ends
  links_told : (o : OpeningValue) (t after : Trace) → ((dst : ℕ) (core : CoreValue) → out_at (told core) dst ≡ out_at core dst) → ((src : ℕ) (core : CoreValue) → inbox_at (told core) src ≡ inbox_at core src)
      → ((l : WholeLink) → LinkHolds o t l → LinkHolds o after l) → LinksHold o t w → LinksHold o after all_told
  links_told o t after out_same inbox_same keeps h =
      record {
        each = λ j within. subst (LinkHolds o after) (sym (link_same j)) (keeps (link_value w j) (h.each j within));
        ends = h.ends;
        one_each = h.one_each;
      }
    where
      link_same : (j : ℕ) → link_value all_told j ≡ link_value w j
      link_same j =
          let q = queue_at w j in
          let out = seen_told told (λ core. out_at core q.dst) (out_same q.dst) w.cores q.src in
          let inbox = seen_told told (λ core. inbox_at core q.src) (inbox_same q.src) w.cores q.dst in
          λ i. record { src = q.src; dst = q.dst; out = out i; queue = q.chunks; inbox = inbox i }

-- a partition, once it heard of the start
core_started : (o : OpeningValue) (t : Trace) (p : ℕ) (core : CoreValue) → CoreHolds o t p core → CoreHolds o ((Start, Done) ∷ t) p (started_core core)
core_started o t p core was =
    assumption (set_again o t ((Start, Done) ∷ t) p core true core.stage core.outs core.inboxes core.given_up core.loaded was.set refl was.set.stage refl refl refl refl, was)

pub start_keeps : (o : OpeningValue) (t : Trace) (w : WorldValue) → PartsHold o t w → Keeps o t Start (step_result w Start) (answer o t Start)
start_keeps o t w h =
    keeps_if o t Start _ _ _ _ _ _ (ap is_started_phase h.leader.phase)
    (λ _. keeps_refused o t w Start AlreadyMoving h)
    (λ idle.
    keeps_if o t Start _ _ _ _ _ _
    (ap not (ap (λ plan. list_all (has_prepared w.leader) (range_with_len 0 plan.parts)) h.plans.old
    ∙ same_within (has_prepared w.leader) (is_prepared t) 0 o.old.parts (λ i low high. h.leader.prepared i (omega arith))))
    (λ _. keeps_refused o t w Start NotPrepared h)
    (λ all.
    let each = not-false (list_all (is_prepared t) (partitions o)) all in
    let now : LeaderHolds o ((Start, Done) ∷ t) (record w { leader = after_start w.leader; cores = map started_core w.cores }) = record {
      parts = length-replicate (parts_of w.leader) false ∙ h.leader.parts;
      moves = h.leader.moves;
      phase = refl;
      stage = start_stage w.leader (ap is_started_phase h.leader.phase ∙ idle) ∙ h.leader.stage;
      prepared = λ p low. sym (list_all-Contains (is_prepared t) (partitions o) p each (row_has 0 o.old.parts p (omega arith) (omega arith)));
      reported = λ p low. start_reported w.leader p (ap is_started_phase h.leader.phase ∙ idle) ∙ h.leader.reported p low;
    } in
    let leader = after_start w.leader in
    let cores = cores_told w leader started_core o t ((Start, Done) ∷ t) (core_started o t) h.partitions in
    let links = links_told w leader started_core o t ((Start, Done) ∷ t) (λ dst core. refl) (λ src core. refl) (λ l holds. holds) h.links in
    (refl, links_changed (partitions_changed (leader_changed h now) cores) links)))

-- a segment has moved as a whole in the world just where it has by the history
whole_same : (o : OpeningValue) (t : Trace) (w : WorldValue) (seg : ℕ) → PartsHold o t w → seg < length o.recon.segments → is_complete_by_tree w seg ≡ is_complete_segment t seg
whole_same o t w seg h there = λ i. is_complete_reading (reading (λ node. h.segments.statuses seg node there i) 1)

-- a segment moves into a partition in the world just where it does by the history
into_same : (o : OpeningValue) (t : Trace) (w : WorldValue) (part seg : ℕ) → PartsHold o t w → is_segment_into w part seg ≡ is_into o t part seg
into_same o t w part seg h = λ i. goes_into (of_stage (h.plans.recon i) (h.leader.stage i) (slice_get (h.plans.recon i).segments seg)) part

arrived_same : (o : OpeningValue) (t : Trace) (w : WorldValue) (part : ℕ) → PartsHold o t w
    → list_all (λ seg. not (is_segment_into w part seg) || is_complete_by_tree w seg) (segment_range w) ≡ has_all o t part
arrived_same o t w part h =
    (λ i. list_all (λ seg. not (into_same o t w part seg h i) || is_complete_by_tree w seg) (range_with_len 0 (length (h.plans.recon i).segments)))
    ∙ same_within _ _ 0 (length o.recon.segments) (λ seg low high. ap (λ b. not (is_into o t part seg) || b) (whole_same o t w seg h (omega arith)))

pub report_keeps : (o : OpeningValue) (t : Trace) (w : WorldValue) (part : ℕ) → PartsHold o t w → Keeps o t (Report part) (step_result w (Report part)) (answer o t (Report part))
report_keeps o t w part h =
    keeps_while_moving o t w (Report part) _ _ h (λ moving.
    keeps_if o t (Report part) _ _ _ _ _ _ (ap (λ plan. nat_le plan.parts part) h.plans.old)
    (λ _. keeps_refused o t w (Report part) NoSuchPartition h)
    (λ below.
    keeps_if o t (Report part) _ _ _ _ _ _ (arrived_same o t w part h)
    (λ _.
    let after = reported_leader w.leader part (ap is_moving_phase h.leader.phase ∙ moving) (known o t w part h below) in
    let now : LeaderHolds o ((Report part, Done) ∷ t) (record w { leader = after_report w.leader part }) = record {
      parts = after.parts ∙ h.leader.parts;
      moves = after.moves ∙ h.leader.moves;
      phase = after.phase ∙ h.leader.phase;
      stage = after.stage ∙ h.leader.stage;
      prepared = λ p low. after.prepared p ∙ h.leader.prepared p low;
      reported = λ p low. after.reported p ∙ ap (λ b. (part == p) || b) (h.leader.reported p low);
    } in
    (refl, leader_changed h now))
    (λ _. keeps_refused o t w (Report part) NotFinished h)))

-- each partition counts as reported in the world just where it does by the history
counted_same : (o : OpeningValue) (t : Trace) (w : WorldValue) → PartsHold o t w → all_reported w ≡ list_all (counts_reported o t) (partitions o)
counted_same o t w h =
    (λ i. list_all (λ part. has_reported w.leader part || not (list_any (λ seg. into_same o t w part seg h i) (range_with_len 0 (length (h.plans.recon i).segments)))) (range_with_len 0 (h.plans.old i).parts))
    ∙ same_within _ _ 0 o.old.parts (λ part low high.
    ap (λ b. b || not (list_any (is_into o t part) (segment_numbers o))) (h.leader.reported part (omega arith)))

last_same : (o : OpeningValue) (t : Trace) (w : WorldValue) → PartsHold o t w → runs_last w ≡ is_last_stage o t
last_same o t w h = λ i. h.leader.stage i + 1 == stages (h.plans.recon i)

-- a move that is under way was started
moving_started : (p : Phase) → is_moving_phase p ≡ true → is_started_phase p ≡ true
moving_started Idle e = e
moving_started Preparing e = e
moving_started Moving e = refl
moving_started Ended e = refl

-- a partition, once it heard of the stage
core_entered : (o : OpeningValue) (t : Trace) (n : ℕ) → is_started t ≡ is_started ((Next, Done) ∷ t) → n ≡ stage t → (p : ℕ) (core : CoreValue) → CoreHolds o t p core → CoreHolds o ((Next, Done) ∷ t) p (entered_core (n + 1) core)
core_entered o t n started now p core was =
    assumption (set_again o t ((Next, Done) ∷ t) p core core.started (n + 1) core.outs core.inboxes core.given_up core.loaded was.set (was.set.started ∙ started) (ap (λ i. i + 1) now) refl refl refl refl, was)

pub next_keeps : (o : OpeningValue) (t : Trace) (w : WorldValue) → PartsHold o t w → Keeps o t Next (step_result w Next) (answer o t Next)
next_keeps o t w h =
    keeps_while_moving o t w Next _ _ h (λ moving.
    keeps_if o t Next _ _ _ _ _ _ (last_same o t w h)
    (λ _. keeps_refused o t w Next LastStage h)
    (λ _.
    keeps_if o t Next _ _ _ _ _ _ (counted_same o t w h)
    (λ _.
    let after = entered_leader w.leader (ap is_moving_phase h.leader.phase ∙ moving) in
    let now : LeaderHolds o ((Next, Done) ∷ t) (entered w) = record {
      parts = after.parts ∙ h.leader.parts;
      moves = after.moves ∙ h.leader.moves;
      phase = after.phase ∙ h.leader.phase;
      stage = after.stage ∙ ap (λ i. i + 1) h.leader.stage;
      prepared = λ p low. after.prepared p ∙ h.leader.prepared p low;
      reported = λ p low. after.reported p;
    } in
    let leader = after_next w.leader in
    let told = entered_core (running_stage w + 1) in
    let cores = cores_told w leader told o t ((Next, Done) ∷ t) (core_entered o t (running_stage w) refl h.leader.stage) h.partitions in
    let links = links_told w leader told o t ((Next, Done) ∷ t) (λ dst core. refl) (λ src core. refl) (λ l holds. holds) h.links in
    (refl, links_changed (partitions_changed (leader_changed h now) cores) links))
    (λ _. keeps_refused o t w Next NotFinished h)))

pub finish_keeps : (o : OpeningValue) (t : Trace) (w : WorldValue) → PartsHold o t w → Keeps o t Finish (step_result w Finish) (answer o t Finish)
finish_keeps o t w h =
    keeps_while_moving o t w Finish _ _ h (λ moving.
    keeps_if o t Finish _ _ _ _ _ _ (λ i. last_same o t w h i && counted_same o t w h i)
    (λ _.
    let started = moving_started (phase t) moving in
    let cores = cores_kept o t ((Finish, Done) ∷ t) w h.partitions (λ p _. record { started = sym started; stage = refl; shares = λ root. refl; waits = refl; moves = same_moves o t p }) in
    let after = finished_leader w.leader (ap is_moving_phase h.leader.phase ∙ moving) in
    let now : LeaderHolds o ((Finish, Done) ∷ t) (record w { leader = after_finish w.leader }) = record {
      parts = after.parts ∙ h.leader.parts;
      moves = after.moves ∙ h.leader.moves;
      phase = after.phase;
      stage = after.stage ∙ h.leader.stage;
      prepared = λ p low. after.prepared p ∙ h.leader.prepared p low;
      reported = λ p low. after.reported p ∙ h.leader.reported p low;
    } in
    (refl, partitions_changed (leader_changed h now) cores))
    (λ _. keeps_refused o t w Finish NotFinished h))
