use Rattle.std.proofs.Common.{◌≡◌, ◌-◌, true}
use Rattle.std.specs.List.{list_all}
use Rattle.sq_exec.specs.Waiting.{no_number}
use Rattle.sq_exec.proofs.Due.{pass_below}
use Rattle.sq_exec.specs.Serving.{stays_by}
use Rattle.sq_exec.proofs.Readies.{comes, is_off}
use Rattle.sq_exec.proofs.part_core.PartCore.first_ready.Given as goal

abbrev pub invariant-loop-number : goal.invariant-loop-number
invariant-loop-number g l = record {
  fault : l.fault ≡ stays_by (list_all (pass_below (comes l.self.core) l.from) l.self-inside.waiting.arrivals);
  off : list_all (pass_below (is_off l.self.core) l.from) l.self-inside.waiting.arrivals ≡ true;
}

abbrev pub decreases-loop-number : goal.decreases-loop-number
decreases-loop-number g l = no_number - l.from
