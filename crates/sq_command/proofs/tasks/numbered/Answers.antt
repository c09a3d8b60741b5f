use Rattle.sq_command.proofs.Arguments.{begun}
use Rattle.sq_command.proofs.tasks.numbered.Goals as goal

pub returns : goal.returns
returns c =
    let turns = c.with.ensures _ _ (begun _ _ c.subcommand.ensures.shape c.subcommand.ensures.local) c.counted-turns.ensures.rule in
    c.with-2.ensures _ _ turns c.counted-pumps.ensures.rule
