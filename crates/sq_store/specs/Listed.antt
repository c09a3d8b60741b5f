-- A store as a list of families whose root keys rise.
use Rattle.std.specs.Prelude.{◌≡◌, ◌<◌, ◌≤◌, ℕ, Bool, not, ◌==◌, List, length, map, filter, get_or, Result, Ok, Err}
use Rattle.std.specs.Ordering.{nat_cmp}
use Rattle.std.specs.FinMap.{from_sorted, is_sorted}
use Rattle.std.specs.List.{insert}
use Rattle.sq_schema.specs.TxnValue.{TxnValue}
use Rattle.sq_schema.specs.declared.txn.Reply.{Reply}
use Rattle.sq_schema.specs.declared.txn.Reply.TheVariants.{Committed, Aborted}
use Rattle.sq_schema.specs.Family.{FamilyValue, rows_of, folded, logged}
use Rattle.sq_store.specs.StoreValue.{StoreValue, absent}

-- each family with its root key
abbrev pub keyed_families : List FamilyValue → List (ℕ × FamilyValue)
keyed_families families = map (λ family. (family.root, family)) families

-- the root keys strictly rise
abbrev pub roots_rise : List FamilyValue → Bool
roots_rise families = is_sorted nat_cmp (keyed_families families)

-- the store of rising families
abbrev pub store_of : List FamilyValue → StoreValue
store_of families = from_sorted (keyed_families families)

-- the family of this root key is at this place
pub record IsRootAt (families : List FamilyValue) (root at : ℕ) : Type 0 where
  pub within : at < length families
  pub here : (d : FamilyValue) → (get_or families at d).root ≡ root

-- no family has this root key: those before this place have lower ones, and the others have higher
-- ones
pub record IsRootGap (families : List FamilyValue) (root at : ℕ) : Type 0 where
  pub within : at ≤ length families
  pub below : (k : ℕ) (d : FamilyValue) → 0 ≤ k → k < at → (get_or families k d).root < root
  pub above : (k : ℕ) (d : FamilyValue) → at ≤ k → k < length families → root < (get_or families k d).root

-- the result of a search for a root key
abbrev pub IsRootPlace : List FamilyValue → ℕ → Result ℕ ℕ → Type 0
IsRootPlace families root (Ok at) = IsRootAt families root at
IsRootPlace families root (Err at) = IsRootGap families root at

-- the families before this place have root keys below this number, and the others don't
pub record IsStart (families : List FamilyValue) (key at : ℕ) : Type 0 where
  pub within : at ≤ length families
  pub below : (k : ℕ) (d : FamilyValue) → 0 ≤ k → k < at → (get_or families k d).root < key
  pub from : (k : ℕ) (d : FamilyValue) → at ≤ k → k < length families → key ≤ (get_or families k d).root

-- the families that have rows, with their logs folded
abbrev pub folded_families : List FamilyValue → List FamilyValue
folded_families families = map folded (filter (λ family. not (length (rows_of family) == 0)) families)

-- the list after a transaction with this reply, of a root key without a family: a commit inserts a
-- family at this place
abbrev pub opened : List FamilyValue → ℕ → TxnValue → Reply → List FamilyValue
opened families at txn (Committed answers) = insert families at (logged (absent txn.root) txn)
opened families at txn (Aborted n cause) = families
