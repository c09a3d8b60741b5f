use Rattle.std.proofs.Common.{sym, subst, arith}
use Rattle.sq_gather.specs.Prelude.{rows_in}
use Rattle.sq_audit.proofs.Tables.{AddedTo, added_none, added_next, added_all, added_past}
use Rattle.sq_audit.proofs.table.add_store.Goals as goal

pub loop-family-init : goal.loop-family-init
loop-family-init c = record { added = added_none (rows_in c.args.table.now) c.args.store.now; upto = omega arith }

pub loop-family-preserved : goal.loop-family-preserved
loop-family-preserved c =
    let old = rows_in c.args.table.now in
    let new = rows_in c.add_family.new.table in
    let is = c.in-Some.ensures.some in
    let next = added_next old (rows_in c.loop-family.table) new c.args.store.now c.loop-family.at c.in-Some.family.now c.next_family.ensures.rooted c.loop-family.invariant.added is.found c.in_ok-add_family.ensures in
    record { added = subst (λ n. AddedTo old c.args.store.now n new) (sym is.behind) next; upto = is.bound }

pub returns : goal.returns
returns c = record {
  rows = added_all (rows_in c.args.table.now) (rows_in c.loop-family.table) c.args.store.now c.loop-family.at c.next_family.ensures.rooted c.loop-family.invariant.added c.in_default.ensures.none;
  bound = λ root past. added_past (rows_in c.args.table.now) (rows_in c.loop-family.table) c.args.store.now c.loop-family.at c.loop-family.invariant.added root (let upto = c.loop-family.invariant.upto in omega (arith, upto, past));
}
