use Rattle.sq_command.proofs.Arguments.{argument_added}
use Rattle.sq_command.proofs.commands.with.Goals as goal

pub returns : goal.returns
returns c = λ shape rule had told. argument_added _ _ _ c.arg.result shape rule c.in_ok-command.was c.arg.ensures c.requires had told
