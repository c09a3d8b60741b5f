use Rattle.std.proofs.Common.{inl}
use Rattle.sq_schema.specs.declared.schema.TheConstants.{MAX_TABLES}
use Rattle.sq_text.proofs.Givens.{given_first}
use Rattle.sq_live.proofs.LiveRuns.{none_read}
use Rattle.sq_live.proofs.input.end_input.Goals as goal

pub returns-in-Ok : goal.returns-in-Ok
returns-in-Ok g c =
    let ends = c.end_lines.ensures in
    (ends.0, given_first c.in-Ok.lines _ ends.0 c.in-Ok.ensures.held c.in-Ok.ensures.open c.in-Ok.ensures.lines c.in-Ok.ensures.known ends.1, ends.2)

pub returns-in-Err : goal.returns-in-Err
returns-in-Err g c =
    let none = none_read MAX_TABLES (g.R.Read.remaining c.args.reader.now) in
    rw c.from.ensures (none.0, none.1, inl none.2)
