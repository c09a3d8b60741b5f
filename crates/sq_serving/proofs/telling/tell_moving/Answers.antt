use Rattle.sq_serving.proofs.telling.tell_moving.Goals as goal

pub returns-clause-line : goal.returns-clause-line
returns-clause-line g c =
    let says = c.say.ensures.line in
    record { goes_on = says.goes_on; writes_on = says.writes_on; written = says.written; wishes = says.wishes }

pub returns-clause-standing : goal.returns-clause-standing
returns-clause-standing g c = c.say.ensures.line.standing
