use Rattle.sq_command.proofs.Arguments.{begun}
use Rattle.sq_command.proofs.serve.served.Goals as goal

pub returns : goal.returns
returns c =
    let pumped = c.with-pumped.ensures _ _ (begun _ _ c.subcommand.ensures.shape c.subcommand.ensures.local) c.counted-pumps.ensures.rule in
    c.with_flag.ensures _ pumped
