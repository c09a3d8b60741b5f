use Rattle.std.proofs.Common.{◌+◌, ◌++◌, ◌≤◌, length, vec_len, vec_capacity}
use Rattle.sq_store.specs.StoreValue.{with_families}
use Rattle.sq_store.specs.Listed.{store_of}
use Rattle.sq_store.proofs.Merges.{IsMerging}
use Rattle.sq_store.proofs.merge.merge.Given as goal

abbrev pub invariant-loop-family : goal.invariant-loop-family
invariant-loop-family l = record {
  merging : IsMerging (with_families (store_of (l.initial.into.items ++ l.initial.left.items)) l.initial.right.items) l.into.items l.left.items l.right.items;
  room : vec_len l.into + (length l.left.items + length l.right.items) ≤ vec_capacity l.into;
}

abbrev pub decreases-loop-family : goal.decreases-loop-family
decreases-loop-family l = length l.left.items + length l.right.items
