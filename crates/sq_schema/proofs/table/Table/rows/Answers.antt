use Rattle.std.proofs.Common.{◌≡◌, true}
use Rattle.std.specs.Ordering.{nat_cmp}
use Rattle.std.specs.FinMap.Entries.{find}
use Rattle.sq_schema.specs.RootList.{table_of}
use Rattle.sq_schema.specs.Table.{is_opening}
use Rattle.sq_rows.proofs.Latest.{IfSome-copied}
use Rattle.sq_schema.proofs.Tables.{found_opening}
use Rattle.sq_schema.proofs.table.Table.rows.Goals as goal

pub returns-clause-opening : goal.returns-clause-opening
returns-clause-opening c =
    let table = table_of c.self.inside.rows in
    IfSome-copied (λ rows. is_opening rows ≡ true) c.get.result (find nat_cmp c.args.root table) c.get.ensures (found_opening table c.args.root c.self.invariant)
