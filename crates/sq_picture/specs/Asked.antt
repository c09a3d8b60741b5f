-- What is written about an opening.
use Rattle.std.specs.Prelude.{◌≡◌, ◌⊎◌, ℕ, List, [], Option, None, Ok, Err}
use Rattle.std.specs.Io.KnownBytes.{Appends}
use Rattle.sq_moves.specs.OpeningValue.{OpeningValue}
use Rattle.sq_text.specs.Pieces.{PieceValue}
use Rattle.sq_text.specs.Coming.{LinesValue}
use Rattle.sq_text.specs.declared.located.LocatedFault.{LocatedFault}
use Rattle.sq_text.specs.declared.input_fault.InputFault.TheVariants.{Memory}
use Rattle.sq_text.specs.Located.{located}
use Rattle.sq_text.specs.Header.{header_of, Opens}
use Rattle.sq_world.specs.declared.ending.Ending.{Ending}
use Rattle.sq_world.specs.declared.ending.Ending.TheVariants.{Done}
use Rattle.sq_world.specs.declared.telling.Told.{Told}
use Rattle.sq_world.specs.declared.telling.Told.TheVariants.{Written, NoMemory}
use Rattle.sq_world.specs.Inputs.{Writing, OfLines, OfReader}
use Rattle.sq_world.specs.Run.{IsFault}

-- a text about an opening is appended to what a writer holds; if memory ran out for it, nothing is
abbrev pub IsToldOf : (OpeningValue → List ℕ → Type 0) → OpeningValue
    → Option (List ℕ) → Option (List ℕ) → Told → Type 0
IsToldOf tells o before now Written = (out : List ℕ) × Appends before now out × tells o out
IsToldOf tells o before now NoMemory = Appends before now []

-- a text about an opening is all that is written, or else the fault that memory ran out
abbrev pub IsToldOrRefusedOf : (OpeningValue → List ℕ → Type 0)
    → OpeningValue → List ℕ → Ending → Type 0
IsToldOrRefusedOf tells o out ending =
    (tells o out × (ending ≡ Done)) ⊎ IsFault (located Memory None) out ending

-- the header spells an opening, and a text about it is all that is written
pub record IsWholeAnswer (tells : OpeningValue → List ℕ → Type 0) (tables : ℕ)
    (given : List PieceValue) (out : List ℕ) (ending : Ending) : Type 0 where
  pub opening : OpeningValue
  pub left : List PieceValue
  pub header : Opens tables (Ok opening) left (header_of tables given)
  pub says : tells opening out
  pub ends : ending ≡ Done

-- the header has a fault, which is its first, or memory ran out
pub record IsRefusedAnswer (tables : ℕ) (given : List PieceValue) (out : List ℕ)
    (ending : Ending) : Type 0 where
  pub fault : LocatedFault
  pub left : List PieceValue
  pub header : Opens tables (Err fault) left (header_of tables given)
  pub wrote : IsFault fault out ending

-- what is written for the pieces of an input, and how that ends
abbrev pub IsAnswerOf : (OpeningValue → List ℕ → Type 0) → ℕ → List PieceValue
    → List ℕ → Ending → Type 0
IsAnswerOf tells tables given out ending =
    IsWholeAnswer tells tables given out ending ⊎ IsRefusedAnswer tables given out ending

-- what is read is answered by a text about its opening, which is appended to what a writer holds
abbrev pub TellsOpening : (OpeningValue → List ℕ → Type 0) → ℕ
    → Option (List ℕ) → Option (List ℕ) → Option (List ℕ) → Ending → Type 0
TellsOpening tells tables = OfReader (IsAnswerOf tells tables)

-- the same of the pieces that a reader of lines may have
abbrev pub TellsOpeningOfLines : (OpeningValue → List ℕ → Type 0) → ℕ
    → LinesValue → Option (List ℕ) → Option (List ℕ) → Ending → Type 0
TellsOpeningOfLines tells tables = OfLines (IsAnswerOf tells tables)

-- a text about an opening, or the fault that memory ran out, is appended to what a writer holds
abbrev pub TellsOrRefusesOf : (OpeningValue → List ℕ → Type 0) → OpeningValue
    → Option (List ℕ) → Option (List ℕ) → Ending → Type 0
TellsOrRefusesOf tells o = Writing (IsToldOrRefusedOf tells o)

-- any text: the format of sizes isn't proved
abbrev pub IsAnyText : OpeningValue → List ℕ → Type 0
IsAnyText o out = Unit {0}
