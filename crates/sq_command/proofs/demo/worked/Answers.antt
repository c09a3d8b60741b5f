use Rattle.sq_command.proofs.demo.worked.Goals as goal

pub returns : goal.returns
returns c =
    let busy = c.with-busy.ensures _ _ c.placed.ensures c.counted-jobs.ensures.rule in
    let heated = c.with-heated.ensures _ _ busy c.counted-hot.ensures.rule in
    c.with.ensures _ _ heated c.counted-seed.ensures.rule
