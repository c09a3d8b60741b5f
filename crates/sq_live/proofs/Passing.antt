-- A run that comes from stage to stage.
use Rattle.std.proofs.Common.{◌≡◌, inl, ℕ, ◌+◌, ◌-◌, ◌<◌, Bool, true, false, List, [], ◌∷◌, length, Ok, refl, sym, ap, ◌∙◌, subst, arith}
use Rattle.std.proofs.lemmas.Bool.{eqb-false}
use Rattle.std.specs.declared.ops.ControlFlow.{ControlFlow}
use Rattle.std.specs.declared.ops.ControlFlow.TheVariants.{Continue, Break}
use Rattle.sq_moves.specs.ReconValue.{stages}
use Rattle.sq_moves.specs.OpeningValue.{OpeningValue}
use Rattle.sq_moves.specs.Opening.{IsOpening}
use Rattle.sq_moves.proofs.Stages.{some_stage}
use Rattle.sq_leader.specs.LeaderValue.{StageValue}
use Rattle.sq_leader.specs.Marks.{none_marked}
use Rattle.sq_leader.specs.Segments.{is_marked_complete}
use Rattle.sq_leader.specs.Leader.{is_last, answer_to_next}
use Rattle.sq_node_model.specs.BeganWith.{BeganWith, first_began}
use Rattle.sq_node_model.specs.Gathered.{GatheredValue}
use Rattle.sq_node_model.specs.Placed.{IsPlaced}
use Rattle.sq_node_model.specs.Next.{is_complete_in, IsStageDone, next_began}
use Rattle.sq_audit.specs.declared.job.Job.{Job}
use Rattle.sq_audit.specs.Answers.{IdsDiffer}
use Rattle.sq_live.specs.declared.outcome.LiveOutcome.{LiveOutcome}
use Rattle.sq_live.specs.declared.stages.Ready.{Ready}
use Rattle.sq_live.specs.Account.{AccountValue, first_account}
use Rattle.sq_leader.specs.declared.leading.Led.TheVariants.{Next, Ended, Missing}
use Rattle.sq_leader.specs.Leading.{leading, AreComplete, HasGoneOn, HasEnded, Leads}
use Rattle.sq_live.specs.Judged.{MarksMoved}
use Rattle.sq_driver.specs.StageRunValue.{RanFrom}
use Rattle.sq_live.specs.Stages.{ContinuesWith, HavePassed, IsReady, ComesAfterStage, GoesOnTo}
use Rattle.sq_live.specs.Live.{WereRun}
use Rattle.sq_leader.proofs.Complete.{complete_by, marked_by, gone_on_by, ended_by}

-- ---- what the leader heard of marks, in the stage that was gathered

-- a stage ran and left this, and the leader heard in that stage of the segments that are marked: they are the complete
-- ones
pub record WasTold (account : AccountValue) (moving : StageValue) (began : BeganWith) (g : GatheredValue) (moved : List Bool) : Type 0 where
  pub is : IsOpening account.opening
  pub ran : RanFrom account.opening began g
  pub marks : MarksMoved g.statuses moved
  pub now : moving.stage ≡ g.stage

module _ (account : AccountValue) (moving : StageValue) (began : BeganWith) (g : GatheredValue) (moved : List Bool) (told : WasTold account moving began g moved) where
  same : (seg : ℕ) → seg < length account.opening.recon.segments → is_marked_complete moved seg ≡ is_complete_in g seg
  same seg lt = let few = told.is.few_segments in told.marks seg (omega (arith, lt, few))

  stage_done : AreComplete account.opening moving.stage (is_marked_complete moved) → IsStageDone account.opening g
  stage_done all = subst (λ (n : ℕ). AreComplete account.opening n (is_complete_in g)) told.now (complete_by account.opening moving.stage (is_marked_complete moved) (is_complete_in g) same all)

  gone_on : (at : StageValue) → HasGoneOn account.opening moving.stage (is_marked_complete moved) at → HasGoneOn account.opening g.stage (is_complete_in g) at
  gone_on at has = subst (λ (n : ℕ). HasGoneOn account.opening n (is_complete_in g) at) told.now (gone_on_by account.opening moving.stage (is_marked_complete moved) (is_complete_in g) same at has)

  ended : (at : StageValue) → HasEnded account.opening moving.stage (is_marked_complete moved) at → HasEnded account.opening g.stage (is_complete_in g) at
  ended at has = subst (λ (n : ℕ). HasEnded account.opening n (is_complete_in g) at) told.now (ended_by account.opening moving.stage (is_marked_complete moved) (is_complete_in g) same at has)

  -- it continued
  module _ (next : StageValue) (led : Leads account.opening moving.stage (is_marked_complete moved) (Next next)) where
    pub done_before : IsStageDone account.opening g
    done_before = stage_done led.1

    pub went_on : HasGoneOn account.opening g.stage (is_complete_in g) led.2
    went_on = gone_on led.2 led.3

    pub leads_next : next ≡ leading account.opening (g.stage + 1)
    leads_next = led.0 ∙ ap (λ (n : ℕ). leading account.opening (n + 1)) told.now

  -- it ended the move
  module _ (led : Leads account.opening moving.stage (is_marked_complete moved) Ended) where
    pub last_stage : g.stage + 1 ≡ stages account.opening.recon
    last_stage = ap (λ (n : ℕ). n + 1) (sym told.now) ∙ led.0

    pub done_at_last : IsStageDone account.opening g
    done_at_last = stage_done led.1

    pub has_ended : (at : StageValue) × HasEnded account.opening g.stage (is_complete_in g) at
    has_ended = (led.2, ended led.2 led.3)

  -- it did neither
  pub not_done : Leads account.opening moving.stage (is_marked_complete moved) Missing → IsStageDone account.opening g → ⊥
  not_done none done = none (marked_by account.opening moving.stage (is_marked_complete moved) (is_complete_in g) same (subst (λ (n : ℕ). AreComplete account.opening n (is_complete_in g)) (sym told.now) done))

-- ---- what a run continues with

-- it is placed, with the segments of the same stage complete, and moves the same
pub record GoesOnWith (old : AccountValue) (g : GatheredValue) (new : AccountValue) (next : GatheredValue) : Type 0 where
  pub placed : IsPlaced new.opening next
  pub done : IsStageDone new.opening next
  pub same_stage : next.stage ≡ g.stage
  pub same_moves : new.opening.recon ≡ old.opening.recon
  pub led : (moving : StageValue) → moving ≡ leading old.opening (g.stage + 1) → moving ≡ leading new.opening (next.stage + 1)

module _ (old : AccountValue) (g : GatheredValue) (new : AccountValue) (next : GatheredValue) where
  pub stays_in_stage : (folds : Bool) → ContinuesWith folds old g new next → next.stage ≡ g.stage
  stays_in_stage true has = ap (λ (g : GatheredValue). g.stage) (has.gathered ∙ has.is.gathered)
  stays_in_stage false same = ap (λ (g : GatheredValue). g.stage) same.1

  pub moves_alike : (folds : Bool) → ContinuesWith folds old g new next → new.opening.recon ≡ old.opening.recon
  moves_alike true has = ap (λ (o : OpeningValue). o.recon) (has.opening ∙ has.is.opening)
  moves_alike false same = ap (λ (a : AccountValue). a.opening.recon) same.0

  parts_alike : (folds : Bool) → ContinuesWith folds old g new next → new.opening.old.parts ≡ old.opening.old.parts
  parts_alike true has = ap (λ (o : OpeningValue). o.old.parts) (has.opening ∙ has.is.opening)
  parts_alike false same = ap (λ (a : AccountValue). a.opening.old.parts) same.0

  still_placed : (folds : Bool) → ContinuesWith folds old g new next → IsPlaced old.opening g → IsPlaced new.opening next
  still_placed true has placed = subst (λ (p : OpeningValue × GatheredValue). IsPlaced p.0 p.1) (λ i. (sym has.opening i, sym has.gathered i)) has.is.placed
  still_placed false same placed = subst (λ (p : AccountValue × GatheredValue). IsPlaced p.0.opening p.1) (λ i. (sym same.0 i, sym same.1 i)) placed

  still_done : (folds : Bool) → ContinuesWith folds old g new next → IsStageDone old.opening g → IsStageDone new.opening next
  still_done true has done = subst (λ (p : OpeningValue × GatheredValue). IsStageDone p.0 p.1) (λ i. (sym has.opening i, sym has.gathered i)) has.is.done
  still_done false same done = subst (λ (p : AccountValue × GatheredValue). IsStageDone p.0.opening p.1) (λ i. (sym same.0 i, sym same.1 i)) done

  pub goes_on_with : (folds : Bool) → ContinuesWith folds old g new next → IsPlaced old.opening g → IsStageDone old.opening g → GoesOnWith old g new next
  goes_on_with folds continues placed done = record {
    placed = still_placed folds continues placed;
    done = still_done folds continues done;
    same_stage = stays_in_stage folds continues;
    same_moves = moves_alike folds continues;
    led = λ moving led. led ∙ leads_alike (g.stage + 1) ∙ ap (λ (n : ℕ). leading new.opening (n + 1)) (sym (stays_in_stage folds continues));
  }
    where
      leads_alike : (n : ℕ) → leading old.opening n ≡ leading new.opening n
      leads_alike n = λ i. record { reported = none_marked (sym (parts_alike folds continues) i); stage = n; recon = sym (moves_alike folds continues) i }

-- ---- what comes after a stage

module _ (folds : Bool) (old : AccountValue) (began : BeganWith) (g : GatheredValue) (ran : RanFrom old.opening began g) (at : StageValue) (led : HasGoneOn old.opening g.stage (is_complete_in g) at) where
  -- the next stage, or the end at the defect that the fold between the stages found
  pub goes_on_comes : IsStageDone old.opening g → (next : ControlFlow LiveOutcome Ready) → GoesOnTo folds old g next → ComesAfterStage folds old began next
  goes_on_comes done (Continue ready) goes = (
    g,
    next_began ready.account.opening goes.0,
    record { ran = ran; done = done; leader = at; led = led; next = goes.0; continues = goes.1; later_is = refl },
    goes.2,
  )
  goes_on_comes done (Break ended) goes =
      subst (λ (o : LiveOutcome). ComesAfterStage folds old began (Break o)) (sym goes.1) (g, ran, inl (goes.2.0, at, led, goes.2.1))

-- ---- stage by stage

-- the leader moved on after a stage, so that wasn't the last one
not_the_last : (at next : StageValue) → answer_to_next at ≡ Ok next → at.stage < stages at.recon → at.stage + 1 < stages at.recon
not_the_last at next answers within = by (is_last at) refl
  where
    by : (last : Bool) → is_last at ≡ last → at.stage + 1 < stages at.recon
    by true last = let clash = rw last at answers in cc
    by false last = omega (arith, eqb-false (at.stage + 1) (stages at.recon) last, within)

-- stages passed, and the next one is ready
pub record IsAt (folds : Bool) (o : OpeningValue) (jobs : List Job) (ready : Ready) : Type 0 where
  pub set_up : IsOpening o
  pub differ : IdsDiffer jobs
  pub earlier : List GatheredValue
  pub began : BeganWith
  pub passed : HavePassed folds o jobs earlier ready.account began
  pub is_ready : IsReady began ready
  pub within : ready.moving.stage < stages ready.moving.recon

-- how many stages are left, with the one that is ready
abbrev pub stages_left : Ready → ℕ
stages_left ready = stages ready.moving.recon - ready.moving.stage

module _ (folds : Bool) (o : OpeningValue) (jobs : List Job) where
  pub at_first : (ready : Ready) → IsOpening o → IdsDiffer jobs → ready.account ≡ first_account o jobs → IsReady (first_began o) ready → IsAt folds o jobs ready
  at_first ready set_up differ account is = record {
    set_up = set_up;
    differ = differ;
    earlier = [];
    began = first_began o;
    passed = (account, refl);
    is_ready = is;
    within = subst (λ (at : StageValue). at.stage < stages at.recon) (sym is.led) (some_stage ready.account.opening.recon);
  }

  module _ (ready : Ready) (at : IsAt folds o jobs ready) where
    module _ (next : Ready) (comes : ComesAfterStage folds ready.account at.began (Continue next)) where
      led : ready.moving.stage ≡ at.began.stage
      led = ap (λ (s : StageValue). s.stage) at.is_ready.led

      next_stage_is : next.moving.stage ≡ ready.moving.stage + 1
      next_stage_is =
          let (g, later, passed, is) = comes in
          let gone = stays_in_stage ready.account g next.account passed.next folds passed.continues in
          ap (λ (s : StageValue). s.stage) is.led ∙ ap (λ (b : BeganWith). b.stage) passed.later_is ∙ ap (λ (n : ℕ). n + 1) (gone ∙ passed.ran.stage ∙ sym led)

      as_many_stages : stages next.moving.recon ≡ stages ready.moving.recon
      as_many_stages =
          let (g, later, passed, is) = comes in
          ap (λ (s : StageValue). stages s.recon) is.led ∙ ap stages (moves_alike ready.account g next.account passed.next folds passed.continues) ∙ sym (ap (λ (s : StageValue). stages s.recon) at.is_ready.led)

      -- the leader moved on, so there is a stage for it
      next_within : next.moving.stage < stages next.moving.recon
      next_within =
          let (g, later, passed, is) = comes in
          let leads = passed.led.hears.leads in
          let here : passed.leader.stage ≡ ready.moving.stage = leads.stage_is ∙ passed.ran.stage ∙ sym led in
          let many : stages passed.leader.recon ≡ stages ready.moving.recon =
          ap stages leads.recon_is ∙ sym (ap (λ (s : StageValue). stages s.recon) at.is_ready.led) in
          let now = at.within in
          let further = not_the_last passed.leader _ passed.led.next (omega (arith, here, many, now)) in
          let e : next.moving.stage < stages next.moving.recon = omega (arith, here, many, further, next_stage_is, as_many_stages) in
          e

      pub at_next : IsAt folds o jobs next
      at_next =
          let (g, later, passed, is) = comes in
          record {
            set_up = at.set_up;
            differ = at.differ;
            earlier = g ∷ at.earlier;
            began = later;
            passed = (ready.account, at.began, at.passed, passed);
            is_ready = is;
            within = next_within;
          }

      pub fewer_left : stages_left next < stages_left ready
      fewer_left =
          let within = at.within in
          let e : stages next.moving.recon - next.moving.stage < stages ready.moving.recon - ready.moving.stage = omega (arith, next_stage_is, as_many_stages, within) in
          e

    pub were_run : (ending : LiveOutcome) → ComesAfterStage folds ready.account at.began (Break ending) → WereRun folds o jobs ending
    were_run ending comes =
        record { set_up = at.set_up; differ = at.differ; earlier = at.earlier; account = ready.account; began = at.began; passed = at.passed; gathered = comes.0; ran = comes.1; came = comes.2 }
