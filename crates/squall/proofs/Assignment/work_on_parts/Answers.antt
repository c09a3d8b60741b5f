use Rattle.squall.proofs.Parts.{with_plans}
use Rattle.squall.proofs.Assignment.work_on_parts.Goals as goal

pub returns-in-Ok-open_input : goal.returns-in-Ok-open_input
returns-in-Ok-open_input g c =
    with_plans c.args.self.now.task c.args.self.now.input.plans c.in-Some.plans c.in-Some-rows.name (g.R.Read.remaining c.args.main) c.in-Ok.lines.items c.deref.result.now _ _ _ c.in-Some.is c.in-Some-rows.is c.in-Ok.ensures c.deref.ensures.value
    c.work_with_rows.ensures
