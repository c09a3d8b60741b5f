use Rattle.std.proofs.Common.{◌≡◌, ◌+◌, vec_len, vec_capacity}
use Rattle.sq_store.specs.PutIn.{IsPutIn}
use Rattle.sq_store.proofs.slab_store.SlabStore.put_in.Given as goal

-- those that are left are still to be put in, and there is room for their root keys
abbrev pub invariant-loop-family : goal.invariant-loop-family
invariant-loop-family l = record {
  put : IsPutIn l.initial.self l.initial.families.items l.families.items l.roots.items l.self;
  capacity : vec_capacity l.families ≡ vec_capacity l.initial.families;
  room : vec_capacity l.roots ≡ vec_capacity l.initial.roots;
  count : vec_len l.families + vec_len l.roots ≡ vec_len l.initial.families;
}

abbrev pub decreases-loop-family : goal.decreases-loop-family
decreases-loop-family l = vec_len l.families
