use Rattle.sq_command.proofs.demo.demo.Goals as goal

pub returns : goal.returns
returns c =
    let staged = c.with_flag-staged.ensures _ c.worked.ensures in
    c.with.ensures _ _ staged c.folder.ensures.rule
