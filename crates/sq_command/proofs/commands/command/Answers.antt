use Rattle.sq_command.proofs.commands.command.Goals as goal

pub returns : goal.returns
returns c =
    let finds = c.also-finds.ensures _ _ c.working.ensures c.owner.ensures in
    let begins = c.also-begins.ensures _ _ finds c.demo.ensures in
    let serves = c.also-serves.ensures _ _ begins c.serve.ensures in
    c.also.ensures _ _ serves c.explain.ensures
