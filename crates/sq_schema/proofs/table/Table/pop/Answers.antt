use Rattle.sq_schema.specs.RootList.{table_of}
use Rattle.sq_schema.proofs.Tables.{IsTable-popped}
use Rattle.sq_schema.proofs.table.Table.pop.Goals as goal

pub invariant_of-self : goal.invariant_of-self
invariant_of-self c = (IsTable-popped c.pop.result (table_of c.self.inside.rows) (table_of c.pop.new.self) c.self.invariant c.pop.ensures.last c.pop.ensures.kept).0

pub returns-clause-opening : goal.returns-clause-opening
returns-clause-opening c = (IsTable-popped c.pop.result (table_of c.self.inside.rows) (table_of c.pop.new.self) c.self.invariant c.pop.ensures.last c.pop.ensures.kept).1
