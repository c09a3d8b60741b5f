use Rattle.std.proofs.Common.{arith}
use Rattle.sq_node.proofs.ends.PartEnd+Sends.send.Goals as goal

pub bounds-links-link : goal.bounds-links-link
bounds-links-link g c = (c.requires c.in-Some.field-0 (cc)).exists

pub offset_bounds-links-link : goal.offset_bounds-links-link
offset_bounds-links-link g c = omega (arith, (c.requires c.in-Some.field-0 (cc)).exists)
