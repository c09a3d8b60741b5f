-- What was gathered, once its logs are folded into its bases.
use Rattle.std.specs.Prelude.{◌≡◌, ℕ, ◌==◌, true, if◌then◌else◌, List, [], length, slice_get, Option, Some, None, option_and_then}
use Rattle.std.specs.FinMap.{get}
use Rattle.sq_schema.specs.Table.{TableValue}
use Rattle.sq_schema.specs.Family.{FamilyValue, rows_of}
use Rattle.sq_store.specs.StoreValue.{StoreValue}
use Rattle.sq_moves.specs.OpeningValue.{OpeningValue}
use Rattle.sq_model.specs.Tables.{opening_rows}
use Rattle.sq_node_model.specs.BeganWith.{is_opened}
use Rattle.sq_node_model.specs.declared.spot.Spot.{Spot}
use Rattle.sq_node_model.specs.declared.spot.Spot.TheVariants.{Store}
use Rattle.sq_node_model.specs.Gathered.{GatheredValue}
use Rattle.sq_node_model.specs.Spots.{family_at_spot, StandsAt}

-- a family whose log is folded: its base is its rows, and its log is empty; none if it has no rows
abbrev pub folded_family : FamilyValue → Option FamilyValue
folded_family family = if length (rows_of family) == 0 then None else Some (record { root = family.root; base = rows_of family; log = [] })

-- the opening with this table
abbrev pub folded_opening : OpeningValue → TableValue → OpeningValue
folded_opening o table = record o { table = table }

-- what was gathered with these stores and no receipts
abbrev pub folded_gathered : GatheredValue → List StoreValue → GatheredValue
folded_gathered g stores = record { stage = g.stage; stores = stores; links = g.links; statuses = g.statuses; receipts = []; left = g.left }

-- the table has the rows of all families, and no others; and the stores have the families folded
pub record IsFolded (o : OpeningValue) (g : GatheredValue) (table : TableValue) (stores : List StoreValue) : Type 0 where
  pub rows : (spot : Spot) (root : ℕ) (family : FamilyValue) → StandsAt g spot root family
      → opening_rows (folded_opening o table) root ≡ rows_of family
  pub opened : (root : ℕ) → is_opened (folded_opening o table) root ≡ true
      → (spot : Spot) × (family : FamilyValue) × StandsAt g spot root family
  pub count : length stores ≡ length g.stores
  pub families : (part root : ℕ)
      → option_and_then (λ store. get store root) (slice_get stores part)
      ≡ option_and_then folded_family (family_at_spot g (Store part) root)
