use Rattle.std.proofs.Common.{refl}
use Rattle.sq_schema.specs.Table.{rows_in}
use Rattle.sq_moves.specs.Given.{value_of}
use Rattle.sq_text.proofs.HeaderRun.{row_unread, row_malformed, row_fits, row_refused, row_line_of}
use Rattle.sq_text.proofs.header.take_row.Goals as goal

pub returns-in-Err-Memory-clause-row : goal.returns-in-Err-Memory-clause-row
returns-in-Err-Memory-clause-row g c = rw c.at_no_line.ensures (row_unread c.args.opening.now.tables (rows_in c.args.opening.now.table) c.args.at _ _ (rows_in c.args.opening.now.table) _ c.in-Err-Memory.ensures.row)

pub returns-in-Err-clause-row : goal.returns-in-Err-clause-row
returns-in-Err-clause-row g c = rw c.at.ensures (row_malformed c.args.opening.now.tables (rows_in c.args.opening.now.table) c.args.at _ _ (rows_in c.args.opening.now.table) c.in-Err.fault c.in-Err.ensures.row)

pub returns-in-Err-clause-line : goal.returns-in-Err-clause-line
returns-in-Err-clause-line g c = rw c.at.ensures refl

pub returns-in-Err-take_row-clause-row : goal.returns-in-Err-take_row-clause-row
returns-in-Err-take_row-clause-row g c =
    rw c.from.ensures (row_refused c.args.opening.now.tables (rows_in c.args.opening.now.table) c.args.at _ _ c.in-Ok.given c.in-Ok.ensures.row (rows_in c.args.opening.now.table) c.in-Err-take_row.fault c.in-Err-take_row.ensures.fault)

pub returns-in-Err-take_row-clause-line : goal.returns-in-Err-take_row-clause-line
returns-in-Err-take_row-clause-line g c = rw c.from.ensures (row_line_of c.args.opening.now.tables (rows_in c.args.opening.now.table) c.args.at (value_of c.in-Ok.given) c.in-Err-take_row.fault c.in-Err-take_row.ensures.fault)

pub returns-clause-row : goal.returns-clause-row
returns-clause-row g c =
    row_fits c.args.opening.now.tables (rows_in c.args.opening.now.table) c.args.at _ _ c.in-Ok.given c.in-Ok.ensures.row c.take_row.new.self.table c.in_default.ensures.fault c.in_default.ensures.ok
