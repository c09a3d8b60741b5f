use Rattle.sq_exec.proofs.Coming.{started_kept}
use Rattle.sq_exec.proofs.part_core.PartCore.start.Goals as goal

pub invariant_of-self : goal.invariant_of-self
invariant_of-self g c = started_kept c.self.view_is c.self.inside.waiting.arrivals c.self.invariant
