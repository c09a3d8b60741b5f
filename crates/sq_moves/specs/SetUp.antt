-- The invariant of each opening, whatever it was made of.
use Rattle.std.specs.Prelude.{◌≡◌, ◌≤◌, true, nat_lt}
use Rattle.std.specs.List.{AllPass}
use Rattle.std.specs.Ordering.{nat_cmp}
use Rattle.std.specs.FinMap.Entries.{is_sorted}
use Rattle.sq_schema.specs.declared.schema.TheConstants.{MAX_TABLES}
use Rattle.sq_schema.specs.Table.{is_opening}
use Rattle.sq_schema.specs.declared.root.TheConstants.{ROOT_END}
use Rattle.sq_moves.specs.declared.opening.TheConstants.{MAX_LIMIT}
use Rattle.sq_moves.specs.OpeningValue.{OpeningValue}
use Rattle.sq_moves.specs.Opening.{IsOpening}

-- an opening with a schema and with rows by root key
pub record IsSetUp (o : OpeningValue) : Type 0 where
  pub opening : IsOpening o
  pub some_table : 1 ≤ o.tables
  pub few_tables : o.tables ≤ MAX_TABLES
  pub width : o.recon.width ≡ o.config.width
  pub small_limit : o.config.limit ≤ MAX_LIMIT
  pub rising : is_sorted nat_cmp o.table ≡ true
  pub rows : AllPass (λ entry. is_opening entry.1) o.table
  pub roots : AllPass (λ entry. nat_lt entry.0 ROOT_END) o.table
