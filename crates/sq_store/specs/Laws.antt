-- What laws say of the families that are taken out of a store.
use Rattle.std.specs.Prelude.{◌≡◌, ◌+◌, ◌<◌, ◌≤◌, ◌⊎◌, ℕ, List, length, sum_by, Option, Some, is_some, if◌then◌else◌}
use Rattle.std.specs.FinMap.{get}
use Rattle.sq_schema.specs.Family.{FamilyValue}
use Rattle.sq_store.specs.StoreValue.{StoreValue, families_between, family_in}
use Rattle.sq_store.specs.Counting.{family_size}

-- the family of this root key among these, or else this one
abbrev pub family_or : List FamilyValue → ℕ → Option FamilyValue → Option FamilyValue
family_or families root other = if is_some (family_in families root) then family_in families root else other

-- the sizes of families together
abbrev pub total_size : List FamilyValue → ℕ
total_size families = sum_by family_size families

-- the families from lo up to this end are as many as a chunk of this limit takes: they fit, or
-- there is only one; and if it ends before hi there is one, and the family at the end doesn't fit
-- with them
pub record IsFullest (store : StoreValue) (lo hi limit end : ℕ) : Type 0 where
  pub fits : (total_size (families_between store lo end) ≤ limit) ⊎ (length (families_between store lo end) ≡ 1)
  pub some : end < hi → 0 < length (families_between store lo end)
  pub next : end < hi → (family : FamilyValue) × (get store end ≡ Some family)
      × (limit < total_size (families_between store lo end) + family_size family)
