-- A row, apart from where it is stored.
use Rattle.std.specs.Prelude.{ℕ, ℤ, List}

pub record RowValue : Type 0 where
  pub number : ℤ
  pub note : List ℕ
