use Rattle.std.proofs.Common.{ap}
use Rattle.std.proofs.lemmas.Result.{err_from_is_err_and}
use Rattle.sq_text.specs.declared.located.LocatedFault.{LocatedFault}
use Rattle.sq_world.proofs.input.open_world.Goals as goal

pub returns-in_err-opening-clause-fault : goal.returns-in_err-opening-clause-fault
returns-in_err-opening-clause-fault g c = let p = err_from_is_err_and c.from_residual.result c.from_residual.ensures.1 in rw (p.1, p.2) c.in_err-opening.ensures.header

pub returns-clause-fault : goal.returns-clause-fault
returns-clause-fault g c = λ end left can. let n = c.in_ok-opening.ensures.header end left can in (n.0, n.1, λ apart. absurd (apart (ap (λ (l : LocatedFault). l.fault) c.at_no_line.ensures)))
