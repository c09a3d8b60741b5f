use Rattle.std.proofs.Common.{arith}
use Rattle.sq_exec.proofs.Filled.{filled_within}
use Rattle.sq_exec.proofs.slots.Slots.len.Goals as goal

pub returns-clause-small : goal.returns-clause-small
returns-clause-small c =
    let slots = c.self.inside.slots in
    omega (arith, c.self.invariant.count, filled_within slots.items, slots.ok.0, slots.ok.1, slots.small)
