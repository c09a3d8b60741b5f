use Rattle.sq_command.proofs.Arguments.{begun}
use Rattle.sq_command.proofs.tasks.steps.Goals as goal

pub returns : goal.returns
returns c =
    c.with_input.ensures _ (begun _ _ c.subcommand-plain.ensures.shape c.subcommand-plain.ensures.local)
