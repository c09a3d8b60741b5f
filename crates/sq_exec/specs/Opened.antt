-- What the partitions of an opening hold.
use Rattle.std.specs.Prelude.{◌≡◌, ℕ, true, ◌==◌, not, if◌then◌else◌, List, length, map, Option, Some, None}
use Rattle.std.specs.List.{range_with_len}
use Rattle.std.specs.Ordering.{nat_cmp}
use Rattle.std.specs.FinMap.{get, empty}
use Rattle.std.specs.FinMap.Entries.{is_sorted}
use Rattle.sq_schema.specs.Effect.{RowList}
use Rattle.sq_schema.specs.Family.{FamilyValue}
use Rattle.sq_schema.specs.Table.{TableValue, rows_in}
use Rattle.sq_plan.specs.PlanValue.{PlanValue, owner}
use Rattle.sq_moves.specs.OpeningValue.{OpeningValue}
use Rattle.sq_store.specs.StoreValue.{StoreValue, with_families}
use Rattle.sq_store.specs.Opened.{blank, opened_family, opened_families}
use Rattle.sq_exec.specs.CoreValue.{CoreValue, opened_core}

-- a partition with the families of the root keys that it owns, before the move
abbrev pub opened_part : OpeningValue → ℕ → CoreValue
opened_part o part = opened_core o part (with_families empty (opened_families o.old part o.table))

-- a partition with those families, each without rows
abbrev pub blank_part : OpeningValue → ℕ → CoreValue
blank_part o part = opened_core o part (with_families empty (opened_families o.old part (blank o.table)))

-- the partition with the families of the root keys of a table that it owns, in place of those that
-- it had
abbrev pub with_opened : PlanValue → TableValue → CoreValue → CoreValue
with_opened plan table core = record core { store = with_families empty (opened_families plan core.part table) }

-- these are all partitions of the plan, with a family without rows for each root key of the table
pub record AreBlank (plan : PlanValue) (table : TableValue) (cores : List CoreValue) : Type 0 where
  pub rising : is_sorted nat_cmp table ≡ true
  pub parts : map (λ core. core.part) cores ≡ range_with_len 0 plan.parts
  pub stores : map (with_opened plan (blank table)) cores ≡ cores

-- the family that a root key with these rows opens with, if it has rows
abbrev pub opened_at : RowList → ℕ → Option FamilyValue
opened_at rows root = if not (length rows == 0) then Some (opened_family (root, rows)) else None

-- the store has the families of the root keys that the partition owns, by these owners and families
-- of root keys, and no others
abbrev pub HasOwnedOf : (ℕ → ℕ) → (ℕ → Option FamilyValue) → ℕ → StoreValue → Type 0
HasOwnedOf owners families part store = (root : ℕ) → get store root ≡ (if owners root == part then families root else None)

-- the store has the family of each root key with opening rows that the partition owns, as it opens,
-- and no other
abbrev pub HasOwned : OpeningValue → ℕ → StoreValue → Type 0
HasOwned o part store = HasOwnedOf (owner o.old) (λ root. opened_at (rows_in o.table root) root) part store

-- these are the families of a partition before the move, those of the root keys that it owns
pub record IsOpenStore (o : OpeningValue) (part : ℕ) (store : StoreValue) : Type 0 where
  pub is : store ≡ (opened_part o part).store
  pub owned : HasOwned o part store
