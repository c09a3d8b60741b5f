use Rattle.std.proofs.Common.{◌∙◌, subst}
use Rattle.sq_live.specs.Account.{IsAccount}
use Rattle.sq_live.specs.Stages.{ComesAfterStage}
use Rattle.sq_live.proofs.Passing.{at_first, at_next, were_run, fewer_left}
use Rattle.sq_live.proofs.stages.run_stages.Goals as goal

pub loop-outcome-init : goal.loop-outcome-init
loop-outcome-init g c =
    let is = subst IsAccount c.in_ok-ready.ensures.account c.in_ok-ready.ensures.ready.is_account in
    at_first c.args.manner.folds c.args.account.opening c.args.account.jobs c.in_ok-ready.ready is.is_opening is.differ (c.in_ok-ready.ensures.account ∙ c.requires.first) c.in_ok-ready.ensures.ready

pub run_stage-requires-clause-ready : goal.run_stage-requires-clause-ready
run_stage-requires-clause-ready g c = λ κs within. let at = c.loop-outcome.invariant in (at.began, at.is_ready)

pub loop-outcome-preserved : goal.loop-outcome-preserved
loop-outcome-preserved g c =
    let at = c.loop-outcome.invariant in
    let comes = subst (ComesAfterStage c.args.manner.folds c.loop-outcome.ready.account at.began) c.in-Continue.is (c.in_ok-outcome.ensures at.began at.is_ready) in
    at_next c.args.manner.folds c.args.account.opening c.args.account.jobs c.loop-outcome.ready at c.in-Continue.next comes

pub loop-outcome-smaller : goal.loop-outcome-smaller
loop-outcome-smaller g c =
    let at = c.loop-outcome.invariant in
    let comes = subst (ComesAfterStage c.args.manner.folds c.loop-outcome.ready.account at.began) c.in-Continue.is (c.in_ok-outcome.ensures at.began at.is_ready) in
    fewer_left c.args.manner.folds c.args.account.opening c.args.account.jobs c.loop-outcome.ready at c.in-Continue.next comes

pub returns-in-Break : goal.returns-in-Break
returns-in-Break g c =
    let at = c.loop-outcome.invariant in
    let comes = subst (ComesAfterStage c.args.manner.folds c.loop-outcome.ready.account at.began) c.in-Break.is (c.in_ok-outcome.ensures at.began at.is_ready) in
    were_run c.args.manner.folds c.args.account.opening c.args.account.jobs c.loop-outcome.ready at c.in-Break.outcome comes
