use Rattle.sq_command.proofs.Arguments.{begun}
use Rattle.std.proofs.Common.{rules}
use Rattle.sq_command.specs.Commands.{number_rule}
use Rattle.sq_command.proofs.explain.explain.Goals as goal

pub returns : goal.returns
returns c = c.with.ensures _ number_rule (begun _ _ c.subcommand.ensures.shape c.subcommand.ensures.local) (search rules)
