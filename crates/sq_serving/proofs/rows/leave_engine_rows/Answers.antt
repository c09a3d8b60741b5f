use Rattle.std.proofs.Common.{List, subst}
use Rattle.std.specs.Prelude.{Option}
use Rattle.sq_store.specs.StoreValue.{StoreValue}
use Rattle.sq_serving.specs.Rows.{LeavesRows}
use Rattle.sq_serving.proofs.rows.leave_engine_rows.Goals as goal

pub returns-in-Some : goal.returns-in-Some
returns-in-Some g c =
    subst (λ (rows : Option (List StoreValue)). LeavesRows (g.V.RowsLeft.Leaves c.args.watch.now) rows) c.in-Some.ensures c.leave_stored_rows.ensures

pub returns-in-None : goal.returns-in-None
returns-in-None g c =
    subst (λ (rows : Option (List StoreValue)). LeavesRows (g.V.RowsLeft.Leaves c.args.watch.now) rows) c.in-None.ensures tt
