use Rattle.std.proofs.Common.{List, ◌+◌, ◌≤◌, vec_len, vec_capacity}
use Rattle.std.specs.Prelude.{IsTrue}
use Rattle.sq_schema.specs.Family.{FamilyValue}
use Rattle.sq_store.specs.StoreValue.{StoreValue, roots_differ, has_none_of}
use Rattle.sq_store.specs.PutIn.{IsPutIn}
use Rattle.sq_store.proofs.slab_store.SlabStore.take_back.Given as goal

-- those that are left to take back are still in, and there is room for them
abbrev pub invariant-loop-root : goal.invariant-loop-root
invariant-loop-root l = record {
  still : (before : StoreValue) (given : List FamilyValue) → IsTrue (roots_differ given) → IsTrue (has_none_of before given)
      → IsPutIn before given l.initial.families.items l.initial.roots.items l.initial.self → IsPutIn before given l.families.items l.roots.items l.self;
  room : vec_len l.families + vec_len l.roots ≤ vec_capacity l.families;
}

abbrev pub decreases-loop-root : goal.decreases-loop-root
decreases-loop-root l = vec_len l.roots
