use Rattle.std.proofs.Common.{length, ap, vec_capacity, arith}
use Rattle.sq_exec.specs.Waiting.{WaitingValue, is_due_from}
use Rattle.sq_gather.proofs.Waits.{found_waits, takes_first, takes_more, takes_none, takes_all}
use Rattle.sq_gather.proofs.left.add_waiting.Goals as goal

pub loop-number-init : goal.loop-number-init
loop-number-init c = record {
  takes = takes_none c.args.waiting.arrivals c.make_all_due.new.self.arrivals c.args.jobs.now.items (vec_capacity c.args.jobs.now) (ap (λ (w : WaitingValue). w.arrivals) c.make_all_due.ensures) c.requires;
  room = omega arith;
}

pub remove-requires : goal.remove-requires
remove-requires c = found_waits (is_due_from 0) c.loop-number.waiting.arrivals c.in-Some.number c.in-Some.field-0-1.now c.in-Some.ensures.due

pub loop-number-preserved : goal.loop-number-preserved
loop-number-preserved c =
    let at = c.loop-number in
    let first = takes_first at.waiting.arrivals c.in-Some.number c.in-Some.field-0-1.now c.remove.result at.invariant.takes.due c.in-Some.ensures.due c.remove.ensures.txn in
    record {
      takes = takes_more c.args.waiting.arrivals at.waiting.arrivals c.remove.new.self.arrivals at.jobs.items c.push.new.jobs.items (vec_capacity c.args.jobs.now) c.in-Some.number c.remove.result at.invariant.takes first
          (ap (λ (w : WaitingValue). w.arrivals) c.remove.ensures.rest)
          (λ low. c.push.ensures.roomy (omega (arith, low, at.invariant.room)));
      room = omega (arith, at.invariant.room, c.push.ensures.capacity);
    }

pub loop-number-smaller : goal.loop-number-smaller
loop-number-smaller c =
    let at = c.loop-number in
    let first = takes_first at.waiting.arrivals c.in-Some.number c.in-Some.field-0-1.now c.remove.result at.invariant.takes.due c.in-Some.ensures.due c.remove.ensures.txn in
    omega (arith, first.fewer, ap (λ (w : WaitingValue). length w.arrivals) c.remove.ensures.rest)

pub returns : goal.returns
returns c = takes_all c.args.waiting.arrivals c.loop-number.waiting.arrivals c.loop-number.jobs.items (vec_capacity c.args.jobs.now) c.loop-number.invariant.takes c.in_default.ensures.due
