use Rattle.sq_moves.specs.OpeningValue.{opening_of}
use Rattle.sq_moves.proofs.Openings.{table-set_up}
use Rattle.sq_moves.proofs.opening.Opening.with_table.Goals as goal

pub invariant_of-result : goal.invariant_of-result
invariant_of-result c = table-set_up (opening_of c.self.inside.parts) c.args.table c.self.invariant c.iter-rows.ensures.rising c.iter-rows.ensures.opening c.requires
