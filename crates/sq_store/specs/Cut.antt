-- What is taken out of a store at once.
use Rattle.std.specs.Prelude.{◌≡◌, ◌==◌, ℕ}
use Rattle.sq_moves.specs.declared.recon.Extent.{Extent}
use Rattle.sq_store.specs.declared.store.Cut.{Cut}
use Rattle.sq_store.specs.StoreValue.{StoreValue, families_between, take_end}

-- the families of an extent that a chunk of this limit takes, where it ends, and whether that is
-- the extent's end
pub record IsCutOf (store : StoreValue) (extent : Extent) (limit : ℕ) (cut : Cut) : Type 0 where
  pub end : cut.end ≡ take_end store extent.lo extent.hi limit
  pub last : cut.last ≡ (cut.end == extent.hi)
  pub families : cut.families.items ≡ families_between store extent.lo cut.end
