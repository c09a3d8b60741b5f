use Rattle.sq_command.proofs.commands.with_path.Goals as goal

pub returns : goal.returns
returns c = λ shape had.
    c.with.ensures shape _ had c.path.ensures.rule
