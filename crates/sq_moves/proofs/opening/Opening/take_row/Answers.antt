use Rattle.sq_moves.specs.OpeningValue.{opening_of}
use Rattle.sq_moves.specs.SetUp.{IsSetUp}
use Rattle.sq_moves.specs.Given.{value_of}
use Rattle.sq_moves.proofs.Openings.{table-set_up, taken-below}
use Rattle.sq_moves.proofs.opening.Opening.take_row.Goals as goal
use Rattle.sq_moves.proofs.opening.Opening.take_row.Goals.{After-iter-rows}

-- the opening is set up with the table as it is after the row
still_set_up : (c : After-iter-rows) → IsSetUp (record (opening_of c.self.inside.parts) { table = c.take_over-taken.new.table })
still_set_up c =
    table-set_up (opening_of c.self.inside.parts) c.take_over-taken.new.table c.self.invariant c.iter-rows.ensures.rising c.iter-rows.ensures.opening
    (taken-below c.take_over-taken.result _ _ c.args.at (value_of c.args.given) c.self.inside.parts.table c.take_over-taken.new.table c.self.invariant.roots c.take_over-taken.ensures.fault c.take_over-taken.ensures.ok c.take_over-taken.ensures.err)

pub invariant_of-self : goal.invariant_of-self
invariant_of-self c = still_set_up (goal.at.invariant_of-self c).After-iter-rows

pub returns-clause-set_up : goal.returns-clause-set_up
returns-clause-set_up c = still_set_up (goal.at.returns-clause-set_up c).After-iter-rows
