use Rattle.sq_command.proofs.Arguments.{begun}
use Rattle.sq_command.proofs.tasks.run.Goals as goal

pub returns : goal.returns
returns c =
    let echoing = c.with_flag-echoing.ensures _ (begun _ _ c.subcommand.ensures.shape c.subcommand.ensures.local) in
    let with_json = c.with_flag-with_json.ensures _ echoing in
    let stopping = c.with_flag-stopping.ensures _ with_json in
    let keeping = c.with_path-keeping.ensures _ stopping in
    c.with_input.ensures _ keeping
