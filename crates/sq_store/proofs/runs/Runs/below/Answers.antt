use Rattle.std.proofs.Common.{rules, ◌≡◌, true, false, length, sym, subst}
use Rattle.std.specs.Prelude.{◌≤◌, nat_lt}
use Rattle.std.specs.List.Sorted.{IsPartitionedBy, IsPartitionPoint}
use Rattle.std.proofs.lemmas.Fn.{always_returns_same}
use Rattle.sq_schema.specs.declared.root.TheConstants.{ROOT_END}
use Rattle.sq_store.specs.Runs.{AreRuns, IsBoundPlace}
use Rattle.sq_store.specs.declared.runs.RunEntry.{RunEntry}
use Rattle.sq_store.proofs.Indexes.{placed_index}
use Rattle.sq_store.proofs.runs.Runs.below.Goals as goal

-- the closure says whether a run's bound is below
pub returns : goal.returns
returns c =
    let point = c.partition_point.ensures in
    let index = c.self.inside.index.items in
    let slab = c.self.inside.slab in
    subst (λ rs. IsBoundPlace rs c.args.key c.partition_point.result) c.self.view_is
    (placed_index slab index c.args.key c.partition_point.result (subst (AreRuns ROOT_END) (sym c.self.view_is) c.requires)
    (subst (λ es. c.partition_point.result ≤ length es) c.deref.ensures.value point.bound)
    (subst (λ es. IsPartitionedBy (λ (entry : RunEntry). nat_lt entry.lo c.args.key) es → IsPartitionPoint (λ (entry : RunEntry). nat_lt entry.lo c.args.key ≡ true) (λ (entry : RunEntry). nat_lt entry.lo c.args.key ≡ false) es c.partition_point.result) c.deref.ensures.value
    (point.partitioned (λ entry. nat_lt entry.lo c.args.key) (always_returns_same _ _ _ (λ a r f k. search rules)))))
