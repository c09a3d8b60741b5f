use Rattle.sq_command.proofs.tasks.ranges_line.Goals as goal

pub returns-clause-line : goal.returns-clause-line
returns-clause-line c = ((c.in_ok-form_of.ensures, c.is_given.ensures), c.in_ok-input_of.ensures)
