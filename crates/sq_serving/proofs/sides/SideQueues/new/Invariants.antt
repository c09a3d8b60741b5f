use Rattle.std.proofs.Common.{◌≡◌, [], length, replicate, sum_by}
use Rattle.sq_serving.proofs.Changes.{jobs_of}
use Rattle.sq_serving.proofs.sides.SideQueues.new.Given as goal

abbrev pub invariant-loop-part : goal.invariant-loop-part
invariant-loop-part g l =
    (jobs_of l.sides.items ≡ replicate l._part [])
    × (sum_by (λ side. length side.jobs.items) l.sides.items ≡ 0)
    × (length l.sides.items ≡ l._part)
