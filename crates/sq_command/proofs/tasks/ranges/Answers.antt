use Rattle.sq_command.proofs.Arguments.{begun}
use Rattle.sq_command.proofs.tasks.ranges.Goals as goal

pub returns : goal.returns
returns c =
    let with_json = c.with_flag-with_json.ensures _ (begun _ _ c.subcommand.ensures.shape c.subcommand.ensures.local) in
    let with_svg = c.with_flag-with_svg.ensures _ with_json in
    let sizing = c.with_flag-sizing.ensures _ with_svg in
    c.with_input.ensures _ sizing
