use Rattle.std.proofs.Common.{◌≡◌, true, length}
use Rattle.std.specs.Prelude.{nat_lt}
use Rattle.std.specs.List.{AllPass}
use Rattle.std.specs.Ordering.{nat_cmp}
use Rattle.std.specs.FinMap.Entries.{is_sorted}
use Rattle.sq_schema.specs.declared.root.TheConstants.{ROOT_END}
use Rattle.sq_store.specs.Opened.{owned_entries, IsOwned, IsSuffix}
use Rattle.sq_store.proofs.owned.OwnedEntriesIterator.next.Given as goal

-- those that the partition owns are still to come
abbrev pub invariant-loop-root : goal.invariant-loop-root
invariant-loop-root l = record {
  plan : l.self-inside.plan.now ≡ l.initial.self-inside.plan.now;
  part : l.self-inside.part ≡ l.initial.self-inside.part;
  owned : owned_entries l.self-inside.plan.now l.self-inside.part l.self-inside.left ≡ owned_entries l.initial.self-inside.plan.now l.initial.self-inside.part l.initial.self-inside.left;
  range : IsOwned l.self-inside.plan.now l.self-inside.range;
  suffix : IsSuffix l.self-inside.left l.self-inside.table.now;
  rising : is_sorted nat_cmp l.self-inside.table.now ≡ true;
  roots : AllPass (λ entry. nat_lt entry.0 ROOT_END) l.self-inside.table.now;
}

abbrev pub decreases-loop-root : goal.decreases-loop-root
decreases-loop-root l = length l.self-inside.left
