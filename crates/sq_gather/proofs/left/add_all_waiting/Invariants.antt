use Rattle.std.proofs.Common.{map, vec_capacity, vec_len}
use Rattle.sq_exec.specs.Waiting.{txns_of}
use Rattle.sq_gather.proofs.Filled.{Fills}
use Rattle.sq_gather.proofs.left.add_all_waiting.Given as goal

-- those that aren't left are put into the rooms of their partitions
abbrev pub invariant-loop-one : goal.invariant-loop-one
invariant-loop-one l =
    Fills (map (λ one. txns_of one.arrivals) l.fn.waiting.items) (map (λ one. txns_of one.arrivals) l.waiting.items)
    (map (λ jobs. (jobs.items, vec_capacity jobs)) l.fn.left.items) (map (λ jobs. (jobs.items, vec_capacity jobs)) l.left.items)

abbrev pub decreases-loop-one : goal.decreases-loop-one
decreases-loop-one l = vec_len l.waiting
