use Rattle.sq_command.proofs.serve.serve.Goals as goal

pub returns : goal.returns
returns c =
    let planned = c.with_path-planned.ensures _ c.reported.ensures in
    let filled = c.with_path-filled.ensures _ planned in
    c.with.ensures _ _ filled c.file.ensures.rule
