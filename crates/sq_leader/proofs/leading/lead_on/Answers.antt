use Rattle.std.proofs.Common.{subst}
use Rattle.sq_leader.specs.Segments.{is_marked_complete}
use Rattle.sq_leader.specs.Leading.{Leads}
use Rattle.sq_leader.proofs.LedStages.{goes_on, stays_between, same_stage}
use Rattle.sq_leader.proofs.leading.lead_on.Goals as goal

pub returns-in-Ok : goal.returns-in-Ok
returns-in-Ok c = goes_on c.args.opening.now c.args.moving.stage c.args.whole.now c.hear_reports.result c.hear_reports.ensures.heard c.in-Ok.moving c.in-Ok.ensures.answer

pub returns-in-NotFinished : goal.returns-in-NotFinished
returns-in-NotFinished c =
    stays_between c.args.opening.now c.args.moving.stage c.args.whole.now c.hear_reports.result c.hear_reports.ensures.heard c.hear_reports.ensures.opening c.in-Err.refused c.in-Err.ensures.answer c.in-NotFinished.is

pub returns-in-LastStage : goal.returns-in-LastStage
returns-in-LastStage c =
    subst (λ stage. Leads c.args.opening.now stage (is_marked_complete c.args.whole.now) c.end_move.result)
    (same_stage c.args.opening.now c.args.moving.stage c.args.whole.now c.hear_reports.result c.hear_reports.ensures.heard c.in-Err.refused c.in-Err.ensures.answer)
    c.end_move.ensures
