use Rattle.sq_moves.specs.OpeningValue.{opening_of}
use Rattle.sq_moves.proofs.Openings.{limits-set_up}
use Rattle.sq_moves.proofs.opening.Opening.set_limit.Goals as goal

pub invariant_of-self : goal.invariant_of-self
invariant_of-self c =
    let o = opening_of c.self.inside.parts in
    limits-set_up o c.args.limit o.config.log_limit c.requires.some c.requires.small c.self.invariant
