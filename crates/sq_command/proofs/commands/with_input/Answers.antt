use Rattle.sq_command.proofs.commands.with_input.Goals as goal

pub returns : goal.returns
returns c = λ shape had.
    let with_file = c.with-with_file.ensures _ _ had c.file.ensures.rule in
    let with_old = c.with_path-with_old.ensures _ with_file in
    let with_new = c.with_path-with_new.ensures _ with_old in
    c.with_path.ensures _ with_new
