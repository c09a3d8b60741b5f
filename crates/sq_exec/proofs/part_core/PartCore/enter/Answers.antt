use Rattle.std.proofs.Common.{refl}
use Rattle.sq_exec.proofs.Enters.{entered_kept, was_entered}
use Rattle.sq_exec.proofs.part_core.PartCore.enter.Goals as goal

pub invariant_of-self : goal.invariant_of-self
invariant_of-self g c = entered_kept c.args.stage c.self.inside.waiting c.make_all_due.new.self c.make_all_due.ensures _ refl c.self.invariant

pub returns : goal.returns
returns g c = was_entered c.args.stage c.self.inside.waiting c.make_all_due.new.self c.make_all_due.ensures c.self.view_is refl refl
