use Rattle.sq_command.proofs.Arguments.{subcommand_added}
use Rattle.sq_command.proofs.commands.also.Goals as goal

pub returns : goal.returns
returns c = λ app shape had shaped. subcommand_added _ _ _ _ c.subcommand.result app shape c.in_ok-command.was c.in_ok-sub.was c.subcommand.ensures had shaped
