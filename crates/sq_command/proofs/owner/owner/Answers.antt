use Rattle.sq_command.proofs.Arguments.{begun}
use Rattle.sq_command.proofs.owner.owner.Goals as goal

pub returns : goal.returns
returns c =
    let with_old = c.with-with_old.ensures _ _ (begun _ _ c.subcommand.ensures.shape c.subcommand.ensures.local) c.needed_path.ensures.rule in
    let with_new = c.with-with_new.ensures _ _ with_old c.needed_path-2.ensures.rule in
    let with_width = c.with-with_width.ensures _ _ with_new c.width.ensures.rule in
    let with_json = c.with_flag-with_json.ensures _ with_width in
    c.with.ensures _ _ with_json c.keys.ensures.rule
