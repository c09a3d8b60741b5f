use Rattle.sq_command.proofs.commands.with_flag.Goals as goal

pub returns : goal.returns
returns c = λ shape had.
    c.with.ensures shape _ had c.flag.ensures.rule
