-- The first family of a store from one root key on and below another.
use Rattle.std.specs.Prelude.{◌≡◌, ◌+◌, ◌<◌, ◌≤◌, ℕ, [], ◌∷◌, Option, Some, None}
use Rattle.std.specs.FinMap.{get}
use Rattle.sq_schema.specs.Family.{FamilyValue}
use Rattle.sq_store.specs.StoreValue.{StoreValue, families_between}

-- this family is the first from lo on, and its root key is below hi
pub record IsFirst (store : StoreValue) (lo hi : ℕ) (family : FamilyValue) : Type 0 where
  pub stands : get store family.root ≡ Some family
  pub from : lo ≤ family.root
  pub below : family.root < hi
  pub before : (end : ℕ) → end ≤ family.root → families_between store lo end ≡ []
  pub next : (end : ℕ) → family.root < end → families_between store lo end ≡ family ∷ families_between store (family.root + 1) end

-- the first family from lo on and below hi, if there is one
abbrev pub FirstIs : StoreValue → ℕ → ℕ → Option FamilyValue → Type 0
FirstIs store lo hi (Some family) = IsFirst store lo hi family
FirstIs store lo hi None = families_between store lo hi ≡ []
