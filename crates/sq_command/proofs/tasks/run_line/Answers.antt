use Rattle.sq_command.proofs.tasks.run_line.Goals as goal

pub returns-clause-line : goal.returns-clause-line
returns-clause-line c = ((c.is_given.ensures, c.is_given-2.ensures, c.in_ok-json_of.ensures, c.name_of.ensures), c.in_ok-input_of.ensures)
