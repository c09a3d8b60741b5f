use Rattle.std.proofs.Common.{refl, sym, subst}
use Rattle.sq_exec.specs.Slots.{AreSlots}
use Rattle.sq_exec.proofs.Places.{sorted_none}
use Rattle.sq_exec.proofs.slots.Slots.new.Goals as goal

pub invariant_of-result : goal.invariant_of-result
invariant_of-result c = subst (λ slots. AreSlots slots 0 c.args.next) (sym c.new.ensures.items) (record { rising = record { rise = sorted_none; below = tt }; count = refl })
