use Rattle.sq_command.proofs.Numbers.{number_given, number_missing}
use Rattle.sq_command.proofs.options.number_of.Goals as goal

pub returns-in-Some-clause-number : goal.returns-in-Some-clause-number
returns-in-Some-clause-number c = number_given c.args.least c.args.most c.args.default _ c.in-Some.number c.in-Some.ensures.number

pub returns-in-None-clause-number : goal.returns-in-None-clause-number
returns-in-None-clause-number c = number_missing c.args.least c.args.most c.args.default _ c.in-None.ensures.number
