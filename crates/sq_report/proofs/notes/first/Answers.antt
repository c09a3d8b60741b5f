use Rattle.std.proofs.Common.{sym, arith}
use Rattle.std.specs.Prelude.{◌<◌, ◌≤◌}
use Rattle.sq_store.proofs.Firsts.{first_is, first_later, first_none}
use Rattle.sq_report.proofs.notes.first.Goals as goal

pub returns-in_err-family : goal.returns-in_err-family
returns-in_err-family c =
    rw c.from_residual.ensures (first_none c.args.store.now c.args.lo c.walk.ensures.rooted c.args.hi (sym c.in_err-family.ensures.family))

pub returns-then-number-hi : goal.returns-then-number-hi
returns-then-number-hi c =
    let below : c.in_ok-family.family.now.root < c.args.hi = omega (arith, c.if-number-hi.true, c.number.ensures.number, c.root.ensures) in
    first_is c.args.store.now c.args.lo c.walk.ensures.rooted c.args.hi c.in_ok-family.family.now (sym c.in_ok-family.ensures.family) below

pub returns-else-number-hi : goal.returns-else-number-hi
returns-else-number-hi c =
    let upto : c.args.hi ≤ c.in_ok-family.family.now.root = omega (arith, c.if-number-hi.false, c.number.ensures.number, c.root.ensures) in
    first_later c.args.store.now c.args.lo c.walk.ensures.rooted c.args.hi c.in_ok-family.family.now (sym c.in_ok-family.ensures.family) upto
