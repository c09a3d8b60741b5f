use Rattle.sq_input.specs.declared.input_plans.TheConstants.{PLAN_ROOM}
use Rattle.sq_input.proofs.Inserts.{all_taken}
use Rattle.sq_input.proofs.input_plans.plan_text.Goals as goal

pub returns : goal.returns
returns g c =
    all_taken g.R.Read.remaining c.take-start.result c.args.file PLAN_ROOM c.new-text.result.items c.read_to_end.new.buf.items c.take-start.ensures.inner c.take-start.ensures.limit c.new-text.ensures.items
    c.in_ok-read_to_end.ensures.bytes
