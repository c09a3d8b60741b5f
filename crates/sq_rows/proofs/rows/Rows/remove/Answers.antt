use Rattle.std.proofs.Common.{◌≡◌, ◌-◌, None, sym, ap, ◌∙◌, arith}
use Rattle.sq_rows.specs.EntryList.{entries_of}
use Rattle.sq_rows.specs.RowList.{row_at, without_row}
use Rattle.sq_rows.specs.Sizes.{rows_size}
use Rattle.sq_rows.specs.Writes.{size_of_row}
use Rattle.sq_rows.proofs.Weights.{rows_size-with_write}
use Rattle.sq_rows.proofs.rows.Rows.remove.Goals as goal
use Rattle.sq_rows.proofs.rows.Rows.remove.Goals.{After-weight-old_size}

-- the size of the row that was there
old_size : (c : After-weight-old_size) → c.weight-old_size.result.1 ≡ size_of_row (row_at (entries_of c.self.inside.rows) c.args.key)
old_size c = c.weight-old_size.ensures.size ∙ ap size_of_row (c.get.ensures ∙ ap (λ rows. row_at rows c.args.key) (sym c.self.view_is))

pub overflow_sub-size : goal.overflow_sub-size
overflow_sub-size c =
    let old = old_size (goal.at.overflow_sub-size c).After-weight-old_size in
    omega (arith, old, rows_size-with_write (entries_of c.self.inside.rows) c.args.key None c.self.invariant.0.rising, c.self.invariant.1)

pub write_all-requires-clause-size : goal.write_all-requires-clause-size
write_all-requires-clause-size c =
    let rows = entries_of c.self.inside.rows in
    let old = old_size (goal.at.write_all-requires-clause-size c).After-weight-old_size in
    let size : c.self.inside.size - c.weight-old_size.result.1 ≡ rows_size (without_row rows c.args.key) = omega (arith, old, rows_size-with_write rows c.args.key None c.self.invariant.0.rising, c.self.invariant.1) in
    size ∙ ap (λ rows. rows_size (without_row rows c.args.key)) c.self.view_is
