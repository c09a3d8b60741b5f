use Rattle.std.proofs.Common.{◌≤◌, length, vec_capacity}
use Rattle.sq_gather.proofs.Waits.{Takes}
use Rattle.sq_gather.proofs.left.add_waiting.Given as goal

-- those that are taken are the jobs, and the others are due
abbrev pub invariant-loop-number : goal.invariant-loop-number
invariant-loop-number l = record {
  takes : Takes l.fn.waiting.arrivals l.waiting.arrivals l.jobs.items (vec_capacity l.fn.jobs);
  room : vec_capacity l.fn.jobs ≤ vec_capacity l.jobs;
}

abbrev pub decreases-loop-number : goal.decreases-loop-number
decreases-loop-number l = length l.waiting.arrivals
