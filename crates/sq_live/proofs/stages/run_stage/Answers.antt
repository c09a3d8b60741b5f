use Rattle.std.proofs.Common.{◌≡◌, List, Bool, sym, ap, ◌∙◌, subst}
use Rattle.std.proofs.lemmas.Result.{IfOk-weaker}
use Rattle.sq_moves.specs.declared.status.Status.{Status}
use Rattle.sq_moves.specs.Opening.{IsOpening}
use Rattle.sq_leader.specs.LeaderValue.{StageValue}
use Rattle.sq_leader.specs.Segments.{is_marked_complete}
use Rattle.sq_node_model.specs.BeganWith.{BeganWith}
use Rattle.sq_node_model.specs.Gathered.{GatheredValue}
use Rattle.sq_node_model.specs.Spots.{AllGrown}
use Rattle.sq_leader.specs.declared.leading.Led.TheVariants.{Next, Ended, Missing}
use Rattle.sq_live.specs.Account.{AccountValue}
use Rattle.sq_leader.specs.Leading.{Leads}
use Rattle.sq_live.specs.Judged.{MarksMoved}
use Rattle.sq_driver.specs.StageRunValue.{RanFrom}
use Rattle.sq_live.specs.Stages.{IsReady, GoesOnTo}
use Rattle.sq_live.proofs.Passing.{WasTold, done_before, went_on, leads_next, last_stage, done_at_last, has_ended, not_done, goes_on_comes}
use Rattle.sq_live.proofs.stages.run_stage.Goals as goal
use Rattle.sq_live.proofs.stages.run_stage.Goals.{After-deref, In-Next, In-Ended, In-Missing}
use Rattle.sq_live.proofs.stages.run_stage.Given.{Over}

-- what the account has is an opening
opening : (g : Over) (c : After-deref g) → IsOpening c.args.ready.account.opening
opening g c = c.requires.ready.1.is_account.is_opening

-- the stage ran
ran : (g : Over) (c : After-deref g) → (began : BeganWith) → IsReady began c.args.ready → RanFrom c.args.ready.account.opening began c.in_ok-gathered.gathered
ran g c began ready = c.in_ok-gathered.ensures.ran c.args.ready.account.opening began (opening g c) ready.run

statuses : (g : Over) (c : After-deref g) → c.deref.result.now ≡ c.in_ok-gathered.gathered.statuses
statuses g c = c.deref.ensures.value ∙ ap (λ (g : GatheredValue). g.statuses) c.gathered.view_is

-- the leader heard of the segments that are complete
told : (g : Over) (c : After-deref g) → (moved : List Bool) → MarksMoved c.deref.result.now moved → (began : BeganWith) → IsReady began c.args.ready
    → WasTold c.args.ready.account c.args.ready.moving began c.in_ok-gathered.gathered moved
told g c moved marks began ready =
    let ran = ran g c began ready in
    record {
      is = opening g c;
      ran = ran;
      marks = subst (λ (statuses : List (List Status)). MarksMoved statuses moved) (statuses g c) marks;
      now = ap (λ (at : StageValue). at.stage) ready.led ∙ sym ran.stage;
    }

-- what the leader did, by what the account has
led_next : (g : Over) (c : In-Next g) → Leads c.args.ready.account.opening c.args.ready.moving.stage (is_marked_complete c.moved_segments-moved.result) (Next c.in-Next.moving)
led_next g c = subst (λ (a : AccountValue). Leads a.opening c.args.ready.moving.stage (is_marked_complete c.moved_segments-moved.result) (Next c.in-Next.moving)) c.account.view_is c.in-Next.ensures

led_end : (g : Over) (c : In-Ended g) → Leads c.args.ready.account.opening c.args.ready.moving.stage (is_marked_complete c.moved_segments-moved.result) Ended
led_end g c = subst (λ (a : AccountValue). Leads a.opening c.args.ready.moving.stage (is_marked_complete c.moved_segments-moved.result) Ended) c.account.view_is c.in-Ended.ensures

led_missing : (g : Over) (c : In-Missing g) → Leads c.args.ready.account.opening c.args.ready.moving.stage (is_marked_complete c.moved_segments-moved.result) Missing
led_missing g c = subst (λ (a : AccountValue). Leads a.opening c.args.ready.moving.stage (is_marked_complete c.moved_segments-moved.result) Missing) c.account.view_is c.in-Missing.ensures

pub moved_segments-moved-requires : goal.moved_segments-moved-requires
moved_segments-moved-requires g c = subst AllGrown (sym (statuses g c)) (ran g c c.requires.ready.0 c.requires.ready.1).placed.fit.grown

pub go_on-requires : goal.go_on-requires
go_on-requires g c =
    let account = c.args.ready.account in
    let moving = c.args.ready.moving in
    let gathered = c.in_ok-gathered.gathered in
    let marks = c.moved_segments-moved.result in
    let told = told g (goal.at.go_on-requires g c).After-deref marks c.moved_segments-moved.ensures c.requires.ready.0 c.requires.ready.1 in
    let led = led_next g (goal.at.go_on-requires g c).In-Next in (
      c.type_bounds.sync-R,
      (
        c.in_ok-gathered.ensures.told,
        (
          told.ran.placed,
          (
            done_before account moving c.requires.ready.0 gathered marks told c.in-Next.moving led,
            leads_next account moving c.requires.ready.0 gathered marks told c.in-Next.moving led,
          ),
        ),
      ),
    )

pub judge_end-requires : goal.judge_end-requires
judge_end-requires g c =
    let account = c.args.ready.account in
    let moving = c.args.ready.moving in
    let gathered = c.in_ok-gathered.gathered in
    let marks = c.moved_segments-moved.result in
    let told = told g (goal.at.judge_end-requires g c).After-deref marks c.moved_segments-moved.ensures c.requires.ready.0 c.requires.ready.1 in
    let led = led_end g (goal.at.judge_end-requires g c).In-Ended in (
      c.type_bounds.sync-R,
      (
        c.deref-in-Ended.ensures.value ∙ c.in_ok-gathered.ensures.told,
        (
          told.marks,
          (
            last_stage account moving c.requires.ready.0 gathered marks told led,
            (
              done_at_last account moving c.requires.ready.0 gathered marks told led,
              has_ended account moving c.requires.ready.0 gathered marks told led,
            ),
          ),
        ),
      ),
    )

pub judge_stopped-requires : goal.judge_stopped-requires
judge_stopped-requires g c =
    let told = told g (goal.at.judge_stopped-requires g c).After-deref c.moved_segments-moved.result c.moved_segments-moved.ensures c.requires.ready.0 c.requires.ready.1 in
    record {
      told = c.deref-in-Missing.ensures.value ∙ c.in_ok-gathered.ensures.told;
      moved = told.marks;
      missing = not_done c.args.ready.account c.args.ready.moving c.requires.ready.0 c.in_ok-gathered.gathered c.moved_segments-moved.result told (led_missing g (goal.at.judge_stopped-requires g c).In-Missing);
    }

pub returns-in-Next : goal.returns-in-Next
returns-in-Next g c =
    let folds = c.args.manner.folds in
    let account = c.args.ready.account in
    let moving = c.args.ready.moving in
    let gathered = c.in_ok-gathered.gathered in
    let marks = c.moved_segments-moved.result in
    let moved = c.moved_segments-moved.ensures in
    let led = led_next g (goal.at.returns-in-Next g c).In-Next in
    let stage = (goal.at.returns-in-Next g c).After-deref in
    IfOk-weaker c.go_on.result (GoesOnTo folds account gathered) _
    (λ after goes. λ began ready.
    let told = told g stage marks moved began ready in
    goes_on_comes folds account began gathered told.ran led.2 (went_on account moving began gathered marks told c.in-Next.moving led)
    (done_before account moving began gathered marks told c.in-Next.moving led) after goes)
    c.go_on.ensures

pub returns-in_ok-outcome-in-Ended : goal.returns-in_ok-outcome-in-Ended
returns-in_ok-outcome-in-Ended g c = λ began ready.
    (c.in_ok-gathered.gathered, ran g (goal.at.returns-in_ok-outcome-in-Ended g c).After-deref began ready, c.in_ok-outcome-in-Ended.ensures c.args.manner.folds)

pub returns-in_ok-outcome-in-Missing : goal.returns-in_ok-outcome-in-Missing
returns-in_ok-outcome-in-Missing g c = λ began ready.
    (c.in_ok-gathered.gathered, ran g (goal.at.returns-in_ok-outcome-in-Missing g c).After-deref began ready, c.in_ok-outcome-in-Missing.ensures c.args.manner.folds)
