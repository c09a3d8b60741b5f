-- The families of a store in the order of their root keys.
use Rattle.std.specs.Prelude.{◌≡◌, ℕ, Bool, true, ◌+◌, ◌&&◌, nat_lt, nat_le, List, [], ◌∷◌, map, find, All, Option, Some}
use Rattle.std.specs.FinMap.{get, entries}
use Rattle.sq_schema.specs.Family.{FamilyValue}
use Rattle.sq_store.specs.StoreValue.{StoreValue}

-- the families by rising root key
abbrev pub families_in : StoreValue → List FamilyValue
families_in store = map (λ entry. entry.1) (entries store)

-- the family with the least root key from this number on
abbrev pub family_from : StoreValue → ℕ → Option FamilyValue
family_from store least = find (λ family. nat_le least family.root) (families_in store)

-- each family is kept under its own root key
abbrev pub HoldsByRoot : StoreValue → Type 0
HoldsByRoot store = (root : ℕ) (family : FamilyValue) → get store root ≡ Some family → family.root ≡ root

-- the logs are those of the families' own root keys
abbrev pub AreKeyed : List FamilyValue → Type 0
AreKeyed families = All (λ family. All (λ txn. txn.root ≡ family.root) family.log) families

-- the families' roots rise strictly, from lo on and below hi
abbrev pub are_within : ℕ → ℕ → List FamilyValue → Bool
are_within lo hi [] = true
are_within lo hi (family ∷ families) =
    nat_le lo family.root && (nat_lt family.root hi && are_within (family.root + 1) hi families)
