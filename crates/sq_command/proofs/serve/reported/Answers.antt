use Rattle.sq_command.proofs.serve.reported.Goals as goal

pub returns : goal.returns
returns c =
    let accounting = c.with_path-accounting.ensures _ c.served.ensures in
    let timed = c.with_path-timed.ensures _ accounting in
    let filed = c.with_path-filed.ensures _ timed in
    c.with_path.ensures _ filed
