-- When rows, transactions and replies are equal.
pub mod Replies
pub mod Txns
pub use Rattle.sq_rows.specs.Equal.{row_eq, row_key_eq, rows_eq}
