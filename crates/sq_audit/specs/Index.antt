-- An index from keys to places in a list, and what holds of root keys and their families.
use Rattle.std.specs.Prelude.{◌≡◌, ◌<◌, ℕ, List, slice_get, Some, Contains}
use Rattle.sq_gather.specs.Prelude.{RowList, RowTable, FamilyValue, rows_of, TableValue}
use Rattle.sq_audit.specs.Located.{Entry}
use Rattle.sq_audit.specs.ById.{AreById}

-- the element at this place has this key
pub record HasKeyAt {X : Type 0} (key : X → ℕ) (xs : List X) (k place : ℕ) : Type 0 where
  pub one : X
  pub there : slice_get xs place ≡ Some one
  pub key_is : key one ≡ k

-- the index has only places of elements with the key, and the place of each element before `upto`
pub record IsIndexTo {X : Type 0} (key : X → ℕ) (xs : List X) (upto : ℕ) (places : List (ℕ × ℕ)) : Type 0 where
  pub found : (k place : ℕ) → Contains places (k, place) → HasKeyAt key xs k place
  pub each : (place : ℕ) (x : X) → place < upto → slice_get xs place ≡ Some x → Contains places (key x, place)

-- the index has only places of elements with the key, a place for each key of an element, and is
-- sorted by key
pub record IsIndexOf {X : Type 0} (key : X → ℕ) (xs : List X) (places : List (ℕ × ℕ)) : Type 0 where
  pub by : AreById places
  pub found : (k place : ℕ) → Contains places (k, place) → HasKeyAt key xs k place
  pub each : (x : X) → Contains xs x → (place : ℕ) × Contains places (key x, place)

-- two entries of the same root key have the same spot
abbrev pub Agree : Entry → Entry → Type 0
Agree one other = one.1.root ≡ other.1.root → one.0 ≡ other.0

-- entries of the same root key before place `upto` have the same spot
abbrev pub AgreeTo : List Entry → ℕ → Type 0
AgreeTo entries upto =
    (i j : ℕ) (one other : Entry) → i < upto → j < upto → slice_get entries i ≡ Some one → slice_get entries j ≡ Some other
    → Agree one other

-- entries of the same root key have the same spot
abbrev pub AgreeOnSpots : List Entry → Type 0
AgreeOnSpots entries = (one other : Entry) → Contains entries one → Contains entries other → Agree one other

-- the root key has a family
abbrev pub HasFamily : List Entry → ℕ → Type 0
HasFamily entries root = (entry : Entry) × Contains entries entry × (entry.1.root ≡ root)

-- each root key of the table has a family
abbrev pub HaveFamilies : TableValue → List Entry → Type 0
HaveFamilies table entries = (row : ℕ × RowList) → Contains table row → HasFamily entries row.0

-- the family has the rows of its root key in the table
abbrev pub HasRows : RowTable → FamilyValue → Type 0
HasRows rows family = rows_of family ≡ rows family.root
