use Rattle.std.proofs.Common.{◌≡◌, ◌++◌, true, map}
use Rattle.std.specs.List.{AllPass}
use Rattle.std.specs.Ordering.{nat_cmp}
use Rattle.std.specs.FinMap.Entries.{is_sorted}
use Rattle.sq_schema.specs.Table.{is_opening}
use Rattle.sq_store.specs.Opened.{opened_family, opened_families}
use Rattle.sq_store.specs.Runs.{families_in_runs, AreRuns}
use Rattle.sq_store.proofs.OpenedRuns.{first_key}
use Rattle.sq_store.proofs.slab_store.SlabStore.opened.Given as goal

-- the families so far go before those of the root keys that are still to come
abbrev pub invariant-loop-root : goal.invariant-loop-root
invariant-loop-root l =
    (goal.iterator-loop-root).can_next l.root-iterator
    × (goal.iterator-loop-root).is_finite l.root-iterator
    × (families_in_runs l.runs ++ map opened_family l.root-iterator ≡ opened_families l.fn.plan l.fn.part l.fn.table)
    × AreRuns (first_key l.root-iterator) l.runs
    × (is_sorted nat_cmp l.root-iterator ≡ true)
    × AllPass (λ entry. is_opening entry.1) l.root-iterator
