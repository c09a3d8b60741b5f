use Rattle.std.proofs.Common.{Some, ap, arith}
use Rattle.std.proofs.lemmas.Bool.Decides.{nat_tests}
use Rattle.sq_rows.specs.EntryList.{entries_of}
use Rattle.sq_rows.specs.Writes.{size_of_row}
use Rattle.sq_rows.proofs.Kept.{IsRowList-with_row}
use Rattle.sq_rows.proofs.Sizes.{rows_size_bound}
use Rattle.sq_rows.proofs.Weights.{rows_size-with_write}
use Rattle.sq_rows.proofs.rows.Rows.insert_new.Goals as goal

pub overflow_add-self : goal.overflow_add-self
overflow_add-self c = omega (arith, rows_size_bound (entries_of c.self.inside.rows) c.self.invariant.0, c.self.invariant.1, c.size-added.ensures, c.requires)

pub invariant_of-self-2 : goal.invariant_of-self-2
invariant_of-self-2 c =
    let rows = entries_of c.self.inside.rows in
    let none = ap size_of_row c.in_ok-insert_new.ensures.absent in
    rw c.in_ok-insert_new.ensures.ok (
      IsRowList-with_row rows c.args.key c.args.row (grind (arith, nat_tests)) c.self.invariant.0,
      omega (arith, none, rows_size-with_write rows c.args.key (Some c.args.row) c.self.invariant.0.rising, c.self.invariant.1, c.size-added.ensures),
    )
