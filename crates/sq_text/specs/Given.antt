-- The bytes that a reader returns.
use Rattle.std.specs.Prelude.{◌≡◌, ℕ, List, Option}
use Rattle.sq_text.specs.declared.reader.ReadState.TheVariants.{Open}
use Rattle.sq_text.specs.Pieces.{PieceValue, InputEnd, pieces}
use Rattle.sq_text.specs.Coming.{Comes}

-- these are the pieces of a reader's bytes: of all that it has, or of those before a read fails
pub record IsGiven (known : Option (List ℕ)) (given : List PieceValue) : Type 0 where
  pub input : List ℕ
  pub end : InputEnd
  pub comes : Comes Open known end input
  pub are : given ≡ pieces end input
