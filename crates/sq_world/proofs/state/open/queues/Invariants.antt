use Rattle.std.proofs.Common.{◌≡◌, map, take}
use Rattle.sq_world.specs.Queue.{opened_queue}
use Rattle.sq_world.proofs.state.open.queues.Given as goal

-- the queues so far are there
abbrev pub invariant-loop-link : goal.invariant-loop-link
invariant-loop-link l = l.queues.items ≡ map opened_queue (take l.link-index l.link-items)
