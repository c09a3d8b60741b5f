use Rattle.std.proofs.Common.{length}
use Rattle.std.specs.Prelude.{◌==◌}
use Rattle.sq_node.specs.Ends.{link_at, link_between}
use Rattle.sq_node.specs.Opened.{new_end}
use Rattle.sq_node.proofs.Taken.{Takes}
use Rattle.sq_node.proofs.fabric.workers.take_ends.Given as goal

-- the ends for the partitions so far are taken
abbrev pub invariant-loop-number : goal.invariant-loop-number
invariant-loop-number g l =
    Takes (new_end l.links) (length l.links) (λ i. g.S.Side.near (link_at l.links i) == l.part) (λ i. g.S.Side.far (link_at l.links i)) (link_between g.S.Side.near g.S.Side.far l.links l.part) l.initial.ends l.number l.ends l.taken.items
