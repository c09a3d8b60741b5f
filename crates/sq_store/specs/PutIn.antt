-- Families that are put in one after another, from the last on.
use Rattle.std.specs.Prelude.{◌≡◌, ℕ, IsTrue, List, ◌++◌, map, reverse}
use Rattle.sq_schema.specs.Family.{FamilyValue}
use Rattle.sq_store.specs.StoreValue.{StoreValue, with_families, roots_differ, has_none_of}

-- of the given families these are left, and the others are in the store, their root keys listed in
-- the order of insertion
pub record IsPutIn (before : StoreValue) (given left : List FamilyValue) (roots : List ℕ) (after : StoreValue) : Type 0 where
  pub put : List FamilyValue
  pub whole : given ≡ left ++ put
  pub listed : reverse roots ≡ map (λ family. family.root) put
  pub store : after ≡ with_families before put

-- whichever store and families these were inserted from, both are as they were
abbrev pub TakesBack : List FamilyValue → List ℕ → StoreValue → List FamilyValue → StoreValue → Type 0
TakesBack left roots filled families store =
    (before : StoreValue) (given : List FamilyValue) → IsTrue (roots_differ given) → IsTrue (has_none_of before given)
    → IsPutIn before given left roots filled → (store ≡ before) × (families ≡ given)
