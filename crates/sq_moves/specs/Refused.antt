-- Why an opening is refused.
use Rattle.std.specs.Prelude.{◌≡◌, ◌≤◌, ℕ, ◌+◌, Bool, ◌&&◌, not, nat_lt, nat_le, if◌then◌else◌, List, [], ◌∷◌, Option, Some, None}
use Rattle.std.specs.Option.{option_map, option_or}
use Rattle.sq_schema.specs.Effect.{RowTable}
use Rattle.sq_schema.specs.Refusals.{row_fault}
use Rattle.sq_schema.specs.Table.{row_given_fault}
use Rattle.sq_schema.specs.declared.fault.TxnFault.{TxnFault}
use Rattle.sq_schema.specs.declared.fault.TxnFault.TheVariants.{BadRoot}
use Rattle.sq_schema.specs.declared.root.TheConstants.{ROOT_END}
use Rattle.sq_plan.specs.PlanValue.{PlanValue}
use Rattle.sq_moves.specs.declared.opening_fault.OpeningFault.{OpeningFault}
use Rattle.sq_moves.specs.declared.opening_fault.OpeningFault.TheVariants.{Limit, Capacity, Row, Memory}
use Rattle.sq_moves.specs.declared.opening.TheConstants.{MIN_LIMIT, MAX_LIMIT, MAX_CAPACITY}
use Rattle.sq_moves.specs.declared.opening.Config.{Config}
use Rattle.sq_moves.specs.declared.opening.GivenRow.{GivenRow}
use Rattle.sq_moves.specs.Between.{recon_fault}
use Rattle.sq_moves.specs.OpeningFaults.{of_recon, of_row}
use Rattle.sq_moves.specs.Given.{GivenValue, value_of, no_rows, with_one}

-- a chunk may be set to hold this many bytes of families
abbrev pub is_limit : ℕ → Bool
is_limit limit = nat_le MIN_LIMIT limit && nat_le limit MAX_LIMIT

-- the queue of a link may be set to hold this many chunks
abbrev pub is_capacity : ℕ → Bool
is_capacity capacity = nat_le 1 capacity && nat_le capacity MAX_CAPACITY

-- the sizes are within their limits
pub record HasFitSizes (config : Config) : Type 0 where
  pub some_limit : MIN_LIMIT ≤ config.limit
  pub small_limit : config.limit ≤ MAX_LIMIT
  pub some_capacity : 1 ≤ config.capacity
  pub small_capacity : config.capacity ≤ MAX_CAPACITY

abbrev pub sizes_fault : Config → Option OpeningFault
sizes_fault config =
    if not (is_limit config.limit) then Some Limit
    else if not (is_capacity config.capacity) then Some Capacity
    else None

-- the first fault of the plans, the width of a leaf, and then the other sizes
abbrev pub config_fault : PlanValue → PlanValue → Config → Option OpeningFault
config_fault old new config = option_or (option_map of_recon (recon_fault old new config.width)) (sizes_fault config)

-- a row of a database with this many tables: its root key, and then its table, its sub key and its
-- note
abbrev pub shape_fault : ℕ → GivenValue → Option TxnFault
shape_fault tables given =
    if not (nat_lt given.root ROOT_END) then Some BadRoot
    else row_fault tables given.key given.row

-- why a given row, the one with this number, is refused by a table
abbrev pub given_fault : ℕ → RowTable → ℕ → GivenValue → Option OpeningFault
given_fault tables table at given =
    option_or (option_map (Row at) (shape_fault tables given)) (option_map (of_row at) (row_given_fault (table given.root) given.key))

-- the fault of the first row that has one, each taken after those before it; the rows are numbered
-- from this on
abbrev pub rows_fault : ℕ → RowTable → ℕ → List GivenRow → Option OpeningFault
rows_fault tables table at [] = None
rows_fault tables table at (given ∷ rows) =
    option_or (given_fault tables table at (value_of given)) (rows_fault tables (with_one table (value_of given)) (at + 1) rows)

-- the fault of the first row, which has this number, if it has one
abbrev pub first_fault : ℕ → RowTable → ℕ → List GivenRow → Option OpeningFault
first_fault tables table at [] = None
first_fault tables table at (given ∷ rows) = given_fault tables table at (value_of given)

-- the first fault of an opening: of plans and sizes, and then row by row, the rows numbered from 0
abbrev pub opening_fault : ℕ → PlanValue → PlanValue → Config → List GivenRow → Option OpeningFault
opening_fault tables old new config rows = option_or (config_fault old new config) (rows_fault tables no_rows 0 rows)

-- the first fault that is found before any memory is taken: of plans and sizes, and then of the
-- first row
abbrev pub early_fault : ℕ → PlanValue → PlanValue → Config → List GivenRow → Option OpeningFault
early_fault tables old new config rows = option_or (config_fault old new config) (first_fault tables no_rows 0 rows)

-- an opening may be refused for its first fault, or because memory ran out if it has no early fault
abbrev pub MayRefuse : Option OpeningFault → Option OpeningFault → OpeningFault → Type 0
MayRefuse early first Memory = early ≡ None
MayRefuse early first fault = first ≡ Some fault

-- the opening of two plans with these sizes and rows may be refused for this fault
abbrev pub MayRefuseOpening : ℕ → PlanValue → PlanValue → Config → List GivenRow → OpeningFault → Type 0
MayRefuseOpening tables old new config rows fault =
    MayRefuse (early_fault tables old new config rows) (opening_fault tables old new config rows) fault
