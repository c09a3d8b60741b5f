use Rattle.std.proofs.Common.{◌≡◌, ◌++◌, map, take, drop}
use Rattle.sq_gather.specs.Prelude.{folded_store}
use Rattle.sq_audit.proofs.folding.fold_stores.Given as goal

-- the stores so far are folded
abbrev pub invariant-loop-store : goal.invariant-loop-store
invariant-loop-store l = l.stores ≡ map folded_store (take l.store-index l.initial.stores) ++ drop l.store-index l.initial.stores
