use Rattle.std.proofs.Common.{rules, ◌≡◌, true, false, length, nat_eq, nat_lt}
use Rattle.std.specs.Prelude.{codes}
use Rattle.std.specs.List.{starts_with}
use Rattle.sq_text.specs.declared.step.TheConstants.{MAX_LINE}
use Rattle.sq_serving.proofs.Names.{rest_of}
use Rattle.sq_serving.proofs.serve_line.read_serve_line.Goals as goal

pub returns-then-starts_with-clause-asks : goal.returns-then-starts_with-clause-asks
returns-then-starts_with-clause-asks c =
    let short : nat_lt MAX_LINE (length c.args.line.now) ≡ false = search rules in
    let begins : starts_with nat_eq c.args.line.now (codes "move ") ≡ true = search rules in
    rw (short, begins, rest_of c.args.line.now 5) c.move_to.ensures

pub returns-then-starts_with-2-clause-asks : goal.returns-then-starts_with-2-clause-asks
returns-then-starts_with-2-clause-asks c =
    let short : nat_lt MAX_LINE (length c.args.line.now) ≡ false = search rules in
    let no_move : starts_with nat_eq c.args.line.now (codes "move ") ≡ false = search rules in
    let begins : starts_with nat_eq c.args.line.now (codes "rows ") ≡ true = search rules in
    rw (short, no_move, begins, rest_of c.args.line.now 5) c.rows_to.ensures
