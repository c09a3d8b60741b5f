use Rattle.std.proofs.Common.{◌≡◌, ◌-◌, ap, ◌∙◌, arith, Ok, Err}
use Rattle.std.proofs.lemmas.Result.{err_from_is_err_and}
use Rattle.sq_schema.specs.Table.{rows_in}
use Rattle.sq_moves.specs.OpeningValue.{OpeningValue}
use Rattle.sq_text.proofs.HeaderRun.{row_read_at, one_more, no_more, bad_row, other_table}
use Rattle.sq_text.proofs.header.take_rows.Goals as goal

pub loop-alloc-preserved : goal.loop-alloc-preserved
loop-alloc-preserved g c =
    let so_far = c.loop-alloc.invariant in
    let table = rows_in c.loop-alloc.opening.table in
    let same : c.lines_left.result ≡ c.loop-alloc.lines.lines_left = c.lines_left.ensures ∙ c.begins_read.ensures.goes_on.1 in
    let read =
    row_read_at c.args.opening.now.tables c.loop-alloc.opening.tables table (c.lines_left-most.result - c.loop-alloc.lines.lines_left) (c.lines_left-most.result - c.lines_left.result) (rows_in c.take_row.new.opening.table) (Ok tt) c.begins_read.new.self c.take_row.new.lines
    (ap (λ (o : OpeningValue). o.tables) so_far.kept) (ap (λ n. c.lines_left-most.result - n) same) c.in_ok-take_row.ensures.row in
    record {
      rows = one_more _ _ table (c.lines_left-most.result - c.loop-alloc.lines.lines_left) _ _ _ _ so_far.rows c.begins_read.ensures.goes_on _ (c.lines_left-most.result - c.take_row.new.lines.lines_left) c.loop-alloc-test.ensures.begins read (omega (arith, c.lines_left.ensures, c.in_ok-take_row.ensures.fewer, so_far.taken, same));
      kept = other_table c.args.opening.now c.loop-alloc.opening c.take_row.new.opening so_far.kept c.in_ok-take_row.ensures.kept;
      taken = omega (arith, c.lines_left.ensures, c.in_ok-take_row.ensures.fewer, so_far.taken, same);
    }

pub returns-in_err-take_row-clause-rows : goal.returns-in_err-take_row-clause-rows
returns-in_err-take_row-clause-rows g c =
    let p = err_from_is_err_and c.from_residual.result c.from_residual.ensures.1 in
    let so_far = c.loop-alloc.invariant in
    let table = rows_in c.loop-alloc.opening.table in
    let read =
    row_read_at c.args.opening.now.tables c.loop-alloc.opening.tables table (c.lines_left-most.result - c.loop-alloc.lines.lines_left) (c.lines_left-most.result - c.lines_left.result) (rows_in c.take_row.new.opening.table) (Err c.in_err-take_row.field-0.0) c.begins_read.new.self c.take_row.new.lines
    (ap (λ (o : OpeningValue). o.tables) so_far.kept) (ap (λ n. c.lines_left-most.result - n) (c.lines_left.ensures ∙ c.begins_read.ensures.goes_on.1)) c.in_err-take_row.ensures.row in
    rw (p.1, p.2) (bad_row _ _ table (c.lines_left-most.result - c.loop-alloc.lines.lines_left) _ _ _ _ so_far.rows c.begins_read.ensures.goes_on (rows_in c.take_row.new.opening.table) c.in_err-take_row.field-0.0 c.loop-alloc-test.ensures.begins read)

pub returns-clause-rows : goal.returns-clause-rows
returns-clause-rows g c =
    no_more _ _ _ _ _ _ _ c.begins_read.new.self c.loop-alloc.invariant.rows c.begins_read.ensures.goes_on c.loop-alloc-test.ensures.begins
