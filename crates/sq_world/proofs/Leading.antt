-- The answer of a call of the leader is the result of its step.
use Rattle.std.proofs.Common.{◌≡◌, ℕ, ◌+◌, Bool, true, false, List, length, map, get_or, Result, Ok, Err, refl, sym, ap, subst, ◌∙◌, arith}
use Rattle.std.specs.Prelude.{◌<◌, ◌==◌, ◌&&◌, ◌||◌, not, nat_le, nat_lt, slice_get, if◌then◌else◌}
use Rattle.std.specs.List.{list_any, list_all, range_with_len}
use Rattle.std.proofs.lemmas.Bool.{eq-eqb, lt-ltb}
use Rattle.std.proofs.lemmas.List.Sums.{list_all-from_AllPass}
use Rattle.std.proofs.lemmas.Option.{slice_get-get_or}
use Rattle.sq_moves.specs.ReconValue.{ReconValue, of_stage, stages, goes_into}
use Rattle.sq_leader.specs.declared.leader.Leader.{Leader}
use Rattle.sq_leader.specs.declared.leader.Leader.TheVariants.{Preparing, Moving, Ended}
use Rattle.sq_leader.specs.declared.leader.Refused.{Refused as RefusedCall}
use Rattle.sq_leader.specs.declared.fault.StartFault.{StartFault}
use Rattle.sq_leader.specs.declared.fault.StartFault.TheVariants as start
use Rattle.sq_leader.specs.declared.fault.ReportFault.{ReportFault}
use Rattle.sq_leader.specs.declared.fault.ReportFault.TheVariants as report
use Rattle.sq_leader.specs.declared.fault.StageFault.{StageFault}
use Rattle.sq_leader.specs.declared.fault.StageFault.TheVariants as stage_fault
use Rattle.sq_leader.specs.declared.fault.NextFault.{NextFault}
use Rattle.sq_leader.specs.declared.fault.NextFault.TheVariants as next
use Rattle.sq_leader.specs.declared.fault.FinishFault.{FinishFault}
use Rattle.sq_leader.specs.declared.fault.FinishFault.TheVariants as finish
use Rattle.sq_leader.specs.LeaderValue.{PreparingValue, StageValue, ReportValue}
use Rattle.sq_leader.specs.Marks.{with_mark, all_marked}
use Rattle.sq_leader.specs.Segments.{is_marked_complete, all_marked_complete, have_reported}
use Rattle.sq_leader.specs.Leader.{first_stage, answer_to_start, made_answer, answer_to_report, is_last, next_stage, answer_to_next, answer_to_finish}
use Rattle.sq_leader.proofs.Counted.{have_reported-counted}
use Rattle.sq_exec.specs.CoreValue.{entered_core}
use Rattle.sq_leader.proofs.Marked.{all_marked-by_part, same_within}
use Rattle.sq_model.specs.declared.answer.Answer.TheVariants.{Done, Refused}
use Rattle.sq_model.specs.declared.answer.Refusal.TheVariants.{NotMoving, AlreadyMoving, NotPrepared, NotFinished, NoSuchPartition, LastStage}
use Rattle.sq_model.specs.Leader.{is_moving_phase, is_started_phase}
use Rattle.sq_transition.specs.WorldValue.{WorldValue, running_stage}
use Rattle.sq_transition.specs.Leading.{phase_of, parts_of, moved_by, stage_of, has_prepared, has_reported, after_start, after_report, after_next, after_finish}
use Rattle.sq_transition.specs.LeaderResults.{StepResult, refuse, if_partition, started_core, is_segment_into, is_complete_by_tree, segment_range, all_reported, start_result, report_result, next_result, finish_result}
use Rattle.sq_world.specs.Results.{report_refused, next_refused}
use Rattle.sq_world.specs.Sound.{IsSound}

-- a call that went found all right and gave the next state; one that was refused didn't, and gave the cause
passed : {A F : Type 0} (right : Bool) (fault : F) (next given : A) → Ok given ≡ (if right then Ok next else Err fault) → (right ≡ true) × (given ≡ next)
passed true fault next given is = (refl, cc)
passed false fault next given is = cc

failed : {A F : Type 0} (right : Bool) (fault given : F) (next : A) → Err given ≡ (if right then Ok next else Err fault) → (right ≡ false) × (given ≡ fault)
failed true fault given next is = cc
failed false fault given next is = (refl, cc)

-- a report that was made is of the partition that was named; where none was, its fault is why
pub made : {A F : Type 0} (away all : Bool) (absent missing : F) (next given : A) → Ok given ≡ (if away then Err absent else if all then Ok next else Err missing) → (away ≡ false) × (all ≡ true) × (given ≡ next)
made true all absent missing next given is = cc
made false true absent missing next given is = (refl, refl, cc)
made false false absent missing next given is = cc

not_made : {A : Type 0} (w : WorldValue) (away all : Bool) (part : A) (fault : ReportFault) (done : StepResult) → Err fault ≡ (if away then Err report.NoSuchPartition else if all then Ok part else Err report.NotFinished)
    → (Refused (report_refused fault), w) ≡ (if away then refuse w NoSuchPartition else if all then done else refuse w NotFinished)
not_made w true all part fault done is = ap (λ f. (Refused (report_refused f), w)) (let same : fault ≡ report.NoSuchPartition = cc in same)
not_made w false true part fault done is = cc
not_made w false false part fault done is = ap (λ f. (Refused (report_refused f), w)) (let same : fault ≡ report.NotFinished = cc in same)

-- a report of the running stage counts
counted : (at : StageValue) (part : ℕ) (given : ReportValue) (next : StageValue) → given ≡ record { part = part; stage = at.stage } → Ok next ≡ answer_to_report at given → next ≡ record at { reported = with_mark at.reported part }
counted at part given next is answer =
    by_stage (at.stage == at.stage) (eq-eqb at.stage at.stage refl) (answer ∙ ap (answer_to_report at) is)
  where
    by_stage : (here : Bool) → here ≡ true → Ok next ≡ (let r : Result StageValue (RefusedCall StageValue StageFault) = if here then Ok (record at { reported = with_mark at.reported part }) else Err (record { leader = at; fault = stage_fault.OtherStage }) in r)
        → next ≡ record at { reported = with_mark at.reported part }
    by_stage true same is = cc
    by_stage false same is = absurd cc

module _ (w : WorldValue) where
  -- a refused call leaves the leader as it was
  stays : (l same : Leader) → w.leader ≡ l → same ≡ l → record w { leader = same } ≡ w
  stays l same is back = λ i. record w { leader = (back ∙ sym is) i }

  module _ (sound : IsSound w) where
    -- a Start, by the leader
    start_by : (l : Leader) (b : Bool) → w.leader ≡ l → list_all (has_prepared l) (range_with_len 0 (parts_of l)) ≡ b
        → start_result w ≡ (if is_started_phase (phase_of l) then refuse w AlreadyMoving else if not b then refuse w NotPrepared else (Done, record w { leader = after_start l; cores = map started_core w.cores }))
    start_by l b is e =
        let n : parts_of l ≡ w.old.parts = ap parts_of (sym is) ∙ sound.leader in
        ap (λ (now : Leader). if is_started_phase (phase_of now) then refuse w AlreadyMoving else if not (list_all (has_prepared now) (range_with_len 0 w.old.parts)) then refuse w NotPrepared else (Done, record w { leader = after_start now; cores = map started_core w.cores })) is
        ∙ ap (λ all. if is_started_phase (phase_of l) then refuse w AlreadyMoving else if not all then refuse w NotPrepared else (Done, record w { leader = after_start l; cores = map started_core w.cores }))
        (ap (λ k. list_all (has_prepared l) (range_with_len 0 k)) (sym n) ∙ e)

    pub start_went : (before : PreparingValue) (at : StageValue) → w.leader ≡ Preparing before → Ok at ≡ answer_to_start before
        → (Done, record w { leader = Moving at; cores = map started_core w.cores }) ≡ start_result w
    start_went before at is answer =
        let so = passed (all_marked before.prepared) (record { leader = before; fault = start.NotPrepared }) (first_stage (length before.prepared) before.recon) at answer in
        ap (λ next. (Done, record w { leader = Moving next; cores = map started_core w.cores })) so.1
        ∙ sym (start_by (Preparing before) true is (sym (all_marked-by_part before.prepared) ∙ so.0))

    pub start_refused : (before : PreparingValue) (back : RefusedCall PreparingValue StartFault) → w.leader ≡ Preparing before → Err back ≡ answer_to_start before
        → (Refused NotPrepared, record w { leader = Preparing back.leader }) ≡ start_result w
    start_refused before back is answer =
        let so = failed (all_marked before.prepared) (record { leader = before; fault = start.NotPrepared }) back (first_stage (length before.prepared) before.recon) answer in
        ap (λ same. (Refused NotPrepared, same)) (stays (Preparing before) (Preparing back.leader) is (ap (λ (r : RefusedCall PreparingValue StartFault). Preparing r.leader) so.1))
        ∙ sym (start_by (Preparing before) false is (sym (all_marked-by_part before.prepared) ∙ so.0))

  -- a Report, by the leader
  report_by : (l : Leader) (part : ℕ) (b : Bool) → w.leader ≡ l → list_all (λ seg. not (is_segment_into w part seg) || is_complete_by_tree w seg) (segment_range w) ≡ b
      → report_result w part ≡ (if not (is_moving_phase (phase_of l)) then refuse w NotMoving else if_partition w part (if b then (Done, record w { leader = after_report l part }) else refuse w NotFinished))
  report_by l part b is e =
      λ i. if not (is_moving_phase (phase_of (is i))) then refuse w NotMoving else if_partition w part (if e i then (Done, record w { leader = after_report (is i) part }) else refuse w NotFinished)

  -- what is said of each segment is so
  module _ (sound : IsSound w) (whole : List Bool) (told : (seg : ℕ) → seg < length w.trees → is_marked_complete whole seg ≡ is_complete_by_tree w seg) where
    all_told : (at : StageValue) (part : ℕ) → w.leader ≡ Moving at → list_all (λ seg. not (is_segment_into w part seg) || is_complete_by_tree w seg) (segment_range w) ≡ all_marked_complete w.recon at.stage whole part
    all_told at part is =
        let runs : running_stage w ≡ at.stage = ap stage_of is in
        same_within _ _ 0 (length w.recon.segments) (λ seg low high. λ i. not (goes_into (of_stage w.recon (runs i) (slice_get w.recon.segments seg)) part) || sym (told seg (omega (arith, high, sound.trees))) i)

    pub report_went : (at : StageValue) (part : ℕ) (given : ReportValue) (next : StageValue) → w.leader ≡ Moving at → Ok given ≡ made_answer w.old w.recon at.stage whole part → Ok next ≡ answer_to_report at given
        → (Done, record w { leader = Moving next }) ≡ report_result w part
    report_went at part given next is answer counts =
        let so = made (nat_le w.old.parts part) (all_marked_complete w.recon at.stage whole part) report.NoSuchPartition report.NotFinished (let named : ReportValue = record { part = part; stage = at.stage } in named) given answer in
        ap (λ leader. (Done, record w { leader = Moving leader })) (counted at part given next so.2 counts)
        ∙ ap (λ b. if b then refuse w NoSuchPartition else (Done, record w { leader = Moving (record at { reported = with_mark at.reported part }) })) (sym so.0)
        ∙ sym (report_by (Moving at) part true is (all_told at part is ∙ so.1))

    pub report_fails : (at : StageValue) (part : ℕ) (fault : ReportFault) → w.leader ≡ Moving at → Err fault ≡ made_answer w.old w.recon at.stage whole part
        → (Refused (report_refused fault), record w { leader = Moving at }) ≡ report_result w part
    report_fails at part fault is answer =
        ap (λ same. (Refused (report_refused fault), same)) (stays (Moving at) (Moving at) is refl)
        ∙ not_made w (nat_le w.old.parts part) (all_marked_complete w.recon at.stage whole part) (let named : ReportValue = record { part = part; stage = at.stage } in named) fault (Done, record w { leader = Moving (record at { reported = with_mark at.reported part }) }) answer
        ∙ sym (report_by (Moving at) part (all_marked_complete w.recon at.stage whole part) is (all_told at part is))

  -- who reported, by the leader
  module _ (sound : IsSound w) (at : StageValue) (is : w.leader ≡ Moving at) where
    moves_are : w.recon ≡ at.recon
    moves_are = sym sound.moves ∙ ap moved_by is

    parts_are : length at.reported ≡ w.old.parts
    parts_are = sym (ap parts_of is) ∙ sound.leader

    ends_exist : list_all (λ segment. nat_lt segment.dst (length at.reported)) at.recon.segments ≡ true
    ends_exist =
        subst (λ (recon : ReconValue). list_all (λ segment. nat_lt segment.dst (length at.reported)) recon.segments ≡ true) moves_are
        (list_all-from_AllPass (λ segment. nat_lt segment.dst (length at.reported)) w.recon.segments (λ seg d within.
        let there = slice_get-get_or w.recon.segments seg d within in
        lt-ltb _ _ (omega (arith, (sound.ends seg (get_or w.recon.segments seg d) there).1, parts_are))))

    all_are : all_reported w ≡ have_reported at
    all_are =
        (λ i. list_all (λ part. has_reported (is i) part || not (list_any (λ seg. goes_into (of_stage (moves_are i) (stage_of (is i)) (slice_get (moves_are i).segments seg)) part) (range_with_len 0 (length (moves_are i).segments)))) (range_with_len 0 (sym parts_are i)))
        ∙ sym (have_reported-counted at ends_exist)

    -- a Next, by the leader
    next_by : next_result w ≡ (if is_last at then refuse w LastStage else if have_reported at then (Done, record w { leader = Moving (next_stage at); cores = map (entered_core (at.stage + 1)) w.cores }) else refuse w NotFinished)
    next_by = λ i.
        if not (is_moving_phase (phase_of (is i))) then refuse w NotMoving
        else if stage_of (is i) + 1 == stages (moves_are i) then refuse w LastStage
        else if all_are i then (Done, record w { leader = after_next (is i); cores = map (entered_core (stage_of (is i) + 1)) w.cores })
        else refuse w NotFinished

    pub next_went : (given : StageValue) → Ok given ≡ answer_to_next at → (Done, record w { leader = Moving given; cores = map (entered_core given.stage) w.cores }) ≡ next_result w
    next_went given answer = by_tests (is_last at) (have_reported at) answer ∙ sym next_by
      where
        by_tests : (last all : Bool) → Ok given ≡ (let r : Result StageValue (RefusedCall StageValue NextFault) = if last then Err (record { leader = at; fault = next.LastStage }) else if all then Ok (next_stage at) else Err (record { leader = at; fault = next.NotFinished }) in r)
            → (Done, record w { leader = Moving given; cores = map (entered_core given.stage) w.cores })
            ≡ (if last then refuse w LastStage else if all then (Done, record w { leader = Moving (next_stage at); cores = map (entered_core (at.stage + 1)) w.cores }) else refuse w NotFinished)
        by_tests true all is = absurd cc
        by_tests false true is = ap (λ (value : StageValue). (Done, record w { leader = Moving value; cores = map (entered_core value.stage) w.cores })) (let same : given ≡ next_stage at = cc in same)
        by_tests false false is = absurd cc

    pub next_fails : (back : RefusedCall StageValue NextFault) → Err back ≡ answer_to_next at → (Refused (next_refused back.fault), record w { leader = Moving back.leader }) ≡ next_result w
    next_fails back answer = by_tests (is_last at) (have_reported at) answer ∙ sym next_by
      where
        same_world : record w { leader = Moving at } ≡ w
        same_world = stays (Moving at) (Moving at) is refl

        after : RefusedCall StageValue NextFault → StepResult
        after r = (Refused (next_refused r.fault), record w { leader = Moving r.leader })

        told : (fault : NextFault) → back ≡ record { leader = at; fault = fault } → after back ≡ refuse w (next_refused fault)
        told fault same = ap after same ∙ ap (λ (v : WorldValue). (Refused (next_refused fault), v)) same_world

        by_tests : (last all : Bool) → Err back ≡ (let r : Result StageValue (RefusedCall StageValue NextFault) = if last then Err (record { leader = at; fault = next.LastStage }) else if all then Ok (next_stage at) else Err (record { leader = at; fault = next.NotFinished }) in r)
            → (Refused (next_refused back.fault), record w { leader = Moving back.leader })
            ≡ (if last then refuse w LastStage else if all then (Done, record w { leader = Moving (next_stage at); cores = map (entered_core (at.stage + 1)) w.cores }) else refuse w NotFinished)
        by_tests true all is = told next.LastStage cc
        by_tests false true is = absurd cc
        by_tests false false is = told next.NotFinished cc

    -- a Finish, by the leader
    finish_by : finish_result w ≡ (if is_last at && have_reported at then (Done, record w { leader = Ended at }) else refuse w NotFinished)
    finish_by = λ i.
        if not (is_moving_phase (phase_of (is i))) then refuse w NotMoving
        else if (stage_of (is i) + 1 == stages (moves_are i)) && all_are i then (Done, record w { leader = after_finish (is i) })
        else refuse w NotFinished

    pub finish_went : (given : StageValue) → Ok given ≡ answer_to_finish at → (Done, record w { leader = Ended given }) ≡ finish_result w
    finish_went given answer =
        let so = passed (is_last at && have_reported at) (record { leader = at; fault = finish.NotFinished }) at given answer in
        ap (λ value. (Done, record w { leader = Ended value })) so.1
        ∙ sym (finish_by ∙ ap (λ b. if b then (Done, record w { leader = Ended at }) else refuse w NotFinished) so.0)

    pub finish_fails : (back : RefusedCall StageValue FinishFault) → Err back ≡ answer_to_finish at → (Refused NotFinished, record w { leader = Moving back.leader }) ≡ finish_result w
    finish_fails back answer =
        let so = failed (is_last at && have_reported at) (record { leader = at; fault = finish.NotFinished }) back at answer in
        ap (λ same. (Refused NotFinished, same)) (stays (Moving at) (Moving back.leader) is (ap (λ (r : RefusedCall StageValue FinishFault). Moving r.leader) so.1))
        ∙ sym (finish_by ∙ ap (λ b. if b then (Done, record w { leader = Ended at }) else refuse w NotFinished) so.0)
