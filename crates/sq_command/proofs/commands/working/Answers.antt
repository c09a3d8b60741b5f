use Rattle.sq_command.proofs.commands.working.Goals as goal

pub returns : goal.returns
returns c =
    let runs = c.also-runs.ensures _ _ c.program.ensures.app c.run.ensures in
    let tells = c.also-tells.ensures _ _ runs c.ranges-2.ensures in
    let lives = c.also-lives.ensures _ _ tells c.live.ensures in
    c.also.ensures _ _ lives c.steps.ensures
