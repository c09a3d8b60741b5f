use Rattle.sq_command.proofs.Arguments.{begun}
use Rattle.sq_command.proofs.demo.placed.Goals as goal

pub returns : goal.returns
returns c =
    let parted = c.with-parted.ensures _ _ (begun _ _ c.subcommand.ensures.shape c.subcommand.ensures.local) c.partitions.ensures.rule in
    let rooted = c.with-rooted.ensures _ _ parted c.counted-roots.ensures.rule in
    c.with.ensures _ _ rooted c.counted-rows.ensures.rule
