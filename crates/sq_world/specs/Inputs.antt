-- What is written for an input, and how its run ends.
use Rattle.std.specs.Prelude.{ℕ, List, Option}
use Rattle.std.specs.Io.KnownBytes.{Appends}
use Rattle.sq_text.specs.Pieces.{PieceValue}
use Rattle.sq_text.specs.Coming.{LinesValue, CanCome}
use Rattle.sq_text.specs.Given.{IsGiven}
use Rattle.sq_world.specs.declared.ending.Ending.{Ending}

-- a text is appended to what a writer holds, and this holds of the text and the ending
abbrev pub Writing : (List ℕ → Ending → Type 0) → Option (List ℕ) → Option (List ℕ) → Ending → Type 0
Writing says before now ending = (out : List ℕ) × Appends before now out × says out ending

-- a text answers pieces that a reader of lines may return, and this holds of both and the ending
abbrev pub OfLines : (List PieceValue → List ℕ → Ending → Type 0) → LinesValue → Option (List ℕ) → Option (List ℕ) → Ending → Type 0
OfLines says lines before now ending =
    (given : List PieceValue) × CanCome lines given × (out : List ℕ) × Appends before now out × says given out ending

-- a text answers what a reader returns, and this holds of both and the ending
abbrev pub OfReader : (List PieceValue → List ℕ → Ending → Type 0) → Option (List ℕ) → Option (List ℕ) → Option (List ℕ) → Ending → Type 0
OfReader says known before now ending =
    (given : List PieceValue) × IsGiven known given × (out : List ℕ) × Appends before now out × says given out ending
