use Rattle.std.proofs.Common.{map}
use Rattle.sq_gather.specs.Left.{OnlyGrow}
use Rattle.sq_gather.proofs.left.add_each.Given as goal

-- the jobs only grow
abbrev pub invariant-loop-to : goal.invariant-loop-to
invariant-loop-to l = OnlyGrow (map (λ jobs. jobs.items) l.initial.left.items) (map (λ jobs. jobs.items) l.left.items)
