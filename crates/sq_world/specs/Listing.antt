-- What moves between two plans, as it is written.
use Rattle.std.specs.Prelude.{◌≡◌, ◌⊎◌, ℕ, List, [], Option, None, Ok, Err}
use Rattle.std.specs.Io.KnownBytes.{Appends}
use Rattle.sq_moves.specs.OpeningValue.{OpeningValue}
use Rattle.sq_moves.specs.ReconValue.{ReconValue}
use Rattle.sq_text.specs.Pieces.{PieceValue}
use Rattle.sq_text.specs.Coming.{LinesValue}
use Rattle.sq_text.specs.declared.located.LocatedFault.{LocatedFault}
use Rattle.sq_text.specs.declared.input_fault.InputFault.TheVariants.{Memory}
use Rattle.sq_text.specs.Located.{located}
use Rattle.sq_text.specs.Texts.{moves_text}
use Rattle.sq_text.specs.Header.{plans_of, Opens}
use Rattle.sq_world.specs.declared.ending.Ending.{Ending}
use Rattle.sq_world.specs.declared.ending.Ending.TheVariants.{Done}
use Rattle.sq_world.specs.declared.telling.Told.{Told}
use Rattle.sq_world.specs.declared.telling.Told.TheVariants.{Written, NoMemory}
use Rattle.sq_world.specs.Inputs.{Writing, OfLines, OfReader}
use Rattle.sq_world.specs.Run.{IsFault}

-- a text of a reconfiguration is appended to what a writer holds; nothing is if memory ran out
abbrev pub IsTold : (ReconValue → List ℕ → Type 0) → ReconValue → Option (List ℕ) → Option (List ℕ) → Told → Type 0
IsTold tells recon before now Written = (out : List ℕ) × Appends before now out × tells recon out
IsTold tells recon before now NoMemory = Appends before now []

-- only a text of a reconfiguration is written, or else that memory ran out
abbrev pub IsToldOrRefused : (ReconValue → List ℕ → Type 0) → ReconValue → List ℕ → Ending → Type 0
IsToldOrRefused tells recon out ending = (tells recon out × (ending ≡ Done)) ⊎ IsFault (located Memory None) out ending

-- the first three lines spell plans and sizes, and only a text of their reconfiguration is written
pub record IsWholeListing (tells : ReconValue → List ℕ → Type 0) (tables : ℕ) (given : List PieceValue) (out : List ℕ)
    (ending : Ending) : Type 0 where
  pub opening : OpeningValue
  pub left : List PieceValue
  pub plans : Opens tables (Ok opening) left (plans_of given)
  pub says : tells opening.recon out
  pub ends : ending ≡ Done

-- the first three lines have a fault, this being the first, or memory ran out
pub record IsRefusedListing (tables : ℕ) (given : List PieceValue) (out : List ℕ) (ending : Ending) : Type 0 where
  pub fault : LocatedFault
  pub left : List PieceValue
  pub plans : Opens tables (Err fault) left (plans_of given)
  pub wrote : IsFault fault out ending

-- what is written for the pieces of an input, and how that ends
abbrev pub IsListing : (ReconValue → List ℕ → Type 0) → ℕ → List PieceValue → List ℕ → Ending → Type 0
IsListing tells tables given out ending = IsWholeListing tells tables given out ending ⊎ IsRefusedListing tables given out ending

-- a text of its reconfiguration answers what a reader returns, and is appended to what a writer
-- holds
abbrev pub Tells : (ReconValue → List ℕ → Type 0) → ℕ → Option (List ℕ) → Option (List ℕ) → Option (List ℕ) → Ending → Type 0
Tells tells tables = OfReader (IsListing tells tables)

-- the same for pieces that a reader of lines may return
abbrev pub TellsLines : (ReconValue → List ℕ → Type 0) → ℕ → LinesValue → Option (List ℕ) → Option (List ℕ) → Ending → Type 0
TellsLines tells tables = OfLines (IsListing tells tables)

-- a text of a reconfiguration, or that memory ran out, is appended to what a writer holds
abbrev pub TellsOrRefuses : (ReconValue → List ℕ → Type 0) → ReconValue → Option (List ℕ) → Option (List ℕ) → Ending → Type 0
TellsOrRefuses tells recon = Writing (IsToldOrRefused tells recon)

-- the lines of what moves
abbrev pub IsMovesText : ReconValue → List ℕ → Type 0
IsMovesText recon out = out ≡ moves_text recon

-- the lines of what moves answer what a reader returns, and are appended to what a writer holds
abbrev pub Lists : ℕ → Option (List ℕ) → Option (List ℕ) → Option (List ℕ) → Ending → Type 0
Lists = Tells IsMovesText
