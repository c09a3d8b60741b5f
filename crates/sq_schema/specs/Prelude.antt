-- The words of this crate that contracts of other crates cite, passed on from one place. Declares
-- nothing.
pub use Rattle.sq_schema.specs.TxnValue.{TxnValue}
pub use Rattle.sq_schema.specs.Effect.{reply}
pub use Rattle.sq_schema.specs.Family.{FamilyValue, rows_of, folded}
pub use Rattle.sq_schema.specs.Table.{TableValue, rows_in, is_opening}
pub use Rattle.sq_rows.specs.declared.row.TheConstants.{MAX_NOTE}
