use Rattle.std.proofs.Common.{◌≡◌, Some, ap, ◌∙◌, arith}
use Rattle.std.proofs.lemmas.Bool.Decides.{nat_tests}
use Rattle.sq_rows.specs.RowList.{row_at, with_row}
use Rattle.sq_rows.specs.EntryList.{entries_of}
use Rattle.sq_rows.specs.Writes.{size_of_row}
use Rattle.sq_rows.proofs.Kept.{IsRowList-with_row}
use Rattle.sq_rows.proofs.Sizes.{rows_size_bound}
use Rattle.sq_rows.proofs.Weights.{rows_size-with_write}
use Rattle.sq_rows.proofs.rows.Rows.insert.Goals as goal
use Rattle.sq_rows.proofs.rows.Rows.insert.Goals.{After-weight-old_size}

-- the size of the row that was there
old_size : (c : After-weight-old_size) → c.weight-old_size.result.1 ≡ size_of_row (row_at (entries_of c.self.inside.rows) c.args.key)
old_size c = c.weight-old_size.ensures.size ∙ ap size_of_row (c.as_ref.ensures.value ∙ c.in_ok-old.ensures.old)

pub overflow_add-self : goal.overflow_add-self
overflow_add-self c = omega (arith, rows_size_bound (entries_of c.self.inside.rows) c.self.invariant.0, c.self.invariant.1, c.size-added.ensures, c.requires)

pub overflow_sub-self : goal.overflow_sub-self
overflow_sub-self c =
    let rows = entries_of c.self.inside.rows in
    let old = old_size (goal.at.overflow_sub-self c).After-weight-old_size in
    omega (arith, old, rows_size-with_write rows c.args.key (Some c.args.row) c.self.invariant.0.rising, c.self.invariant.1, c.size-added.ensures)

pub invariant_of-self : goal.invariant_of-self
invariant_of-self c = rw c.in_err-old.ensures.err c.self.invariant

pub invariant_of-self-2 : goal.invariant_of-self-2
invariant_of-self-2 c =
    let rows = entries_of c.self.inside.rows in
    let old = old_size (goal.at.invariant_of-self-2 c).After-weight-old_size in
    rw c.in_ok-old.ensures.ok (
      IsRowList-with_row rows c.args.key c.args.row (grind (arith, nat_tests)) c.self.invariant.0,
      omega (arith, old, rows_size-with_write rows c.args.key (Some c.args.row) c.self.invariant.0.rising, c.self.invariant.1, c.size-added.ensures),
    )

pub returns : goal.returns
returns c = record { ok = c.in_ok-old.ensures.ok ∙ ap (λ rows. with_row rows c.args.key c.args.row) c.self.view_is; err = tt; row_returned = tt }
