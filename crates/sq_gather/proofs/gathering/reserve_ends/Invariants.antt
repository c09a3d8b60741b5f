use Rattle.std.proofs.Common.{take}
use Rattle.sq_gather.specs.GatheringValue.{AreReserved}
use Rattle.sq_gather.proofs.gathering.reserve_ends.Given as goal

-- there is room for the links so far
abbrev pub invariant-loop-link : goal.invariant-loop-link
invariant-loop-link l = AreReserved (take l.link-index l.links) l.ends.items
