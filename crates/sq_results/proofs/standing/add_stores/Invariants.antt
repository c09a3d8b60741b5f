use Rattle.std.proofs.Common.{◌≡◌, ◌-◌, ◌≤◌, ◌++◌, length, take}
use Rattle.std.specs.List.{flat_map}
use Rattle.sq_store.specs.InOrder.{families_in}
use Rattle.sq_exec.specs.CoreValue.{CoreValue}
use Rattle.sq_results.specs.RowLines.{lent_values}
use Rattle.sq_results.proofs.standing.add_stores.Given as goal

abbrev pub invariant-loop-store : goal.invariant-loop-store
invariant-loop-store l = record {
  within : l.part ≤ length l.world.cores;
  added : lent_values l.families.items
      ≡ lent_values l.initial.families.items ++ flat_map (λ (core : CoreValue). families_in core.store) (take l.part l.world.cores);
}

abbrev pub decreases-loop-store : goal.decreases-loop-store
decreases-loop-store l = length l.world.cores - l.part
