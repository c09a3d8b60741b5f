use Rattle.sq_schema.specs.declared.family.TheConstants.{MAX_LOG}
use Rattle.sq_moves.specs.OpeningValue.{opening_of}
use Rattle.sq_moves.proofs.Openings.{limits-set_up}
use Rattle.sq_moves.proofs.opening.Opening.without_log_limit.Goals as goal

pub invariant_of-result : goal.invariant_of-result
invariant_of-result c =
    let o = opening_of c.self.inside.parts in
    limits-set_up o o.config.limit MAX_LOG c.self.invariant.opening.some_limit c.self.invariant.small_limit c.self.invariant
