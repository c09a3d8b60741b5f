-- What a world opens with: the plans, what moves between them, the sizes, and the rows.
use Rattle.std.specs.Prelude.{ℕ}
use Rattle.sq_schema.specs.Table.{TableValue}
use Rattle.sq_schema.specs.declared.family.TheConstants.{MAX_LOG}
use Rattle.sq_plan.specs.PlanValue.{PlanValue}
use Rattle.sq_moves.specs.declared.opening.Config.{Config}
use Rattle.sq_moves.specs.declared.opening.OpeningParts.{OpeningParts}
use Rattle.sq_moves.specs.ReconValue.{ReconValue}

pub record OpeningValue : Type 0 where
  pub tables : ℕ
  pub old : PlanValue
  pub new : PlanValue
  pub recon : ReconValue
  pub config : Config
  pub table : TableValue

-- the opening with these parts
abbrev pub opening_of : OpeningParts → OpeningValue
opening_of parts =
    record { tables = parts.schema; old = parts.old; new = parts.new; recon = parts.recon; config = parts.config; table = parts.table }

-- the opening with logs that hold as many transactions as can be counted
abbrev pub unlimited : OpeningValue → OpeningValue
unlimited o = record o { config = record o.config { log_limit = MAX_LOG } }

-- the opening with chunks of at most `limit` bytes
abbrev pub limited : ℕ → OpeningValue → OpeningValue
limited limit o = record o { config = record o.config { limit = limit } }
