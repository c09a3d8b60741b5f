use Rattle.std.proofs.Common.{arith}
use Rattle.sq_store.proofs.Joins.{store_of_none}
use Rattle.sq_store.proofs.slab_store.SlabStore.new.Goals as goal

pub returns : goal.returns
returns c = grind (arith, store_of_none)
