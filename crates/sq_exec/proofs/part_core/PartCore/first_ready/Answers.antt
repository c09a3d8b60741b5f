use Rattle.std.proofs.Common.{◌≡◌, true, sym, ap, subst, ◌∙◌, arith}
use Rattle.std.specs.Prelude.{find, position, slice_get}
use Rattle.std.specs.List.{list_all}
use Rattle.sq_exec.specs.Waiting.{is_due_from}
use Rattle.sq_exec.specs.CoreValue.{PartCoreValue}
use Rattle.sq_exec.specs.Kept.{is_due_here}
use Rattle.sq_exec.specs.Serving.{is_ready_here, stays_by}
use Rattle.sq_exec.proofs.Due.{pass_below_0}
use Rattle.sq_exec.proofs.Readies.{Found, comes, is_off, found_as, found_none, not_below, one_stays, one_off, one_ready, one_goes, none_is_ready}
use Rattle.sq_exec.proofs.part_core.PartCore.first_ready.Given.{Over}
use Rattle.sq_exec.proofs.part_core.PartCore.first_ready.Goals as goal
use Rattle.sq_exec.proofs.part_core.PartCore.first_ready.Goals.{After-next_due, In-Some}

pub loop-number-init : goal.loop-number-init
loop-number-init g c = record {
  fault = sym (ap stays_by (pass_below_0 (comes c.args.self.now.core) c.self.inside.waiting.arrivals));
  off = pass_below_0 (is_off c.args.self.now.core) c.self.inside.waiting.arrivals;
}

-- all that waits is due, or its rows are on their way here
due : (g : Over) (c : After-next_due g) → list_all (is_due_here c.args.self.now.core) c.self.inside.waiting.arrivals ≡ true
due g c = subst (λ (v : PartCoreValue). list_all (is_due_here v.core) c.self.inside.waiting.arrivals ≡ true) c.self.view_is c.self.invariant.due

-- the next that is due was found
found : (g : Over) (c : In-Some g) → Found (find (is_due_from c.loop-number.from) c.self.inside.waiting.arrivals) c.in-Some.number (c.in-Some.txn).now
found g c = found_as (find (is_due_from c.loop-number.from) c.self.inside.waiting.arrivals) c.in-Some.number (c.in-Some.txn).now c.in-Some.ensures.due

pub returns-in-Ok-clause-ok : goal.returns-in-Ok-clause-ok
returns-in-Ok-clause-ok g c =
    let core = c.args.self.now.core in
    let there = goal.at.returns-in-Ok-clause-ok g c in
    let first = one_ready core c.self.inside.waiting.arrivals (due g there.After-next_due) c.loop-number.from c.in-Some.number (c.in-Some.txn).now (found g there.In-Some) c.in-Ok.ensures.ready c.loop-number.invariant.off in
    record {
      place = first.0;
      first = sym (ap (λ (v : PartCoreValue). position (is_ready_here core) v.core.waiting) c.self.view_is) ∙ first.1;
      found = sym (ap (λ (v : PartCoreValue). slice_get v.numbering.numbers first.0) c.self.view_is) ∙ first.2;
    }

pub returns-in-Ok-clause-goes : goal.returns-in-Ok-clause-goes
returns-in-Ok-clause-goes g c =
    let there = goal.at.returns-in-Ok-clause-goes g c in
    one_goes c.args.self.now.core c.self.inside.waiting.arrivals (due g there.After-next_due) c.loop-number.from c.in-Some.number (c.in-Some.txn).now (found g there.In-Some) c.in-Ok.who c.in-Ok.ensures.goes c.in-Ok.ensures.ready c.loop-number.invariant.off
    (sym (ap (λ (v : PartCoreValue). v.core.waiting) c.self.view_is))

pub loop-number-smaller : goal.loop-number-smaller
loop-number-smaller g c =
    let there = goal.at.loop-number-smaller g c in
    omega (arith, not_below c.args.self.now.core c.self.inside.waiting.arrivals (due g there.After-next_due) c.loop-number.from c.in-Some.number (c.in-Some.txn).now (found g there.In-Some), c.in-Some.ensures.below)

pub loop-number-preserved : goal.loop-number-preserved
loop-number-preserved g c =
    let core = c.args.self.now.core in
    let arrivals = c.self.inside.waiting.arrivals in
    let there = goal.at.loop-number-preserved g c in
    let due = due g there.After-next_due in
    let found = found g there.In-Some in
    record {
      fault = one_stays core arrivals due c.loop-number.from c.in-Some.number (c.in-Some.txn).now found c.in-Some.ensures.rises c.graver-fault.result c.loop-number.fault c.in-Err.other c.in-Err.ensures.why c.loop-number.invariant.fault c.graver-fault.ensures;
      off = one_off core arrivals due c.loop-number.from c.in-Some.number (c.in-Some.txn).now found c.in-Some.ensures.rises c.in-Err.ensures.stays c.loop-number.invariant.off;
    }

pub returns-clause-err : goal.returns-clause-err
returns-clause-err g c =
    let arrivals = c.self.inside.waiting.arrivals in
    none_is_ready c.args.self.now.core arrivals (due g (goal.at.returns-clause-err g c).After-next_due) c.loop-number.from c.loop-number.fault (found_none (find (is_due_from c.loop-number.from) arrivals) c.in_default.ensures.due) c.loop-number.invariant.off c.loop-number.invariant.fault
    (sym (ap (λ (v : PartCoreValue). v.core.waiting) c.self.view_is))
