-- What a reader of lines returns, and what it can still return.
use Rattle.std.specs.Prelude.{◌≡◌, ◌<◌, ◌≤◌, ◌⊎◌, ℕ, ◌+◌, ◌-◌, List, [], ◌∷◌, ◌++◌, length, Option, Some}
use Rattle.std.specs.Io.KnownBytes.{Consumes}
use Rattle.sq_text.specs.declared.buffer.TheConstants.{MAX_UNENDED}
use Rattle.sq_text.specs.declared.reader.ReadState.{ReadState}
use Rattle.sq_text.specs.declared.reader.ReadState.TheVariants as reading
use Rattle.sq_text.specs.declared.reader.Next.{Next as NextPiece}
use Rattle.sq_text.specs.declared.reader.Next.TheVariants as next
use Rattle.sq_text.specs.Pieces.{cut_at_ends, PieceValue, Line, Rest, Failed, TooMany, InputEnd, Whole, Cut, pieces_in, next_line_number, bytes_of}

-- a reader of lines: the bytes of its last piece, the bytes read and not yet returned, the state of
-- the reading, how many more lines may come, and what its reader has left, if that is known
pub record LinesValue : Type 0 where
  pub piece : List ℕ
  pub held : List ℕ
  pub reading : ReadState
  pub lines_left : ℕ
  pub known : Option (List ℕ)

-- what a reader has left if its bytes end so
abbrev pub left_behind : InputEnd → Option (List ℕ)
left_behind Whole = Some []
left_behind (Cut left) = left

-- a reader that has this left, if that is known, may return these bytes, and then the reading ends
-- so
abbrev pub Comes : ReadState → Option (List ℕ) → InputEnd → List ℕ → Type 0
Comes reading.Ended known end bytes = (end ≡ Whole) × (bytes ≡ [])
Comes reading.Failed known end bytes = (end ≡ Cut known) × (bytes ≡ [])
Comes reading.Open known end bytes = Consumes known (left_behind end) bytes

-- a reader of lines may return these pieces, and then the reading ends so
pub record CanEnd (v : LinesValue) (end : InputEnd) (ps : List PieceValue) : Type 0 where
  pub more : List ℕ
  pub comes : Comes v.reading v.known end more
  pub are : ps ≡ pieces_in end v.lines_left (v.held ++ more)

-- a reader of lines may return these pieces
abbrev pub CanCome : LinesValue → List PieceValue → Type 0
CanCome v ps = (end : InputEnd) × CanEnd v end ps

-- what can come afterwards can come here after this piece, and then the reading ends in the same
-- way
abbrev pub CameBefore : LinesValue → PieceValue → LinesValue → Type 0
CameBefore old piece new = (end : InputEnd) (ps : List PieceValue) → CanEnd new end ps → CanEnd old end (piece ∷ ps)

-- these pieces can come, and then the reading ends as it can end now
abbrev pub EndsIn : LinesValue → List PieceValue → LinesValue → Type 0
EndsIn old pieces new = (end : InputEnd) (left : List PieceValue) → CanEnd new end left → CanEnd old end pieces

-- the bytes held have no line end, and what comes next is unknown without a read
pub record IsUndecided (most : ℕ) (v : LinesValue) : Type 0 where
  pub unended : cut_at_ends v.held ≡ v.held ∷ []
  pub short : length v.held ≤ most
  pub goes_on : v.reading ≡ reading.Open
  pub some_line : (v.held ≡ []) ⊎ (0 < v.lines_left)

-- pieces begin with one that has over this many bytes
abbrev pub BeginLong : ℕ → List PieceValue → Type 0
BeginLong most [] = ⊥
BeginLong most (piece ∷ others) = most < length (bytes_of piece)

-- whatever comes begins with a piece that has over this many bytes
abbrev pub IsLong : ℕ → LinesValue → Type 0
IsLong most v = (ps : List PieceValue) → CanCome v ps → BeginLong most ps

-- the next line is returned
abbrev pub GivesLine : LinesValue → LinesValue → Type 0
GivesLine old new =
    CameBefore old (Line (next_line_number old.lines_left) new.piece) new
    × (old.lines_left ≡ new.lines_left + 1)
    × (length new.piece ≤ MAX_UNENDED)

-- what a reader of lines returns next, if it looks for the end of a line in this many bytes
abbrev pub Gives : ℕ → LinesValue → NextPiece → LinesValue → Type 0
Gives most old next.Line new = GivesLine old new
Gives most old next.Rest new =
    EndsIn old (Rest (next_line_number old.lines_left) new.piece ∷ []) new × (new.lines_left ≡ old.lines_left)
    × (length new.piece ≤ most)
Gives most old next.Failed new =
    EndsIn old (Failed (next_line_number old.lines_left) old.held ∷ []) new × (length old.held ≤ most) × (new ≡ old)
    × (old.reading ≡ reading.Failed)
Gives most old next.Long new = IsLong most old × (new ≡ old)
Gives most old next.TooMany new = EndsIn old (TooMany ∷ []) new × (new ≡ old)
Gives most old next.End new = EndsIn old [] new × (new ≡ old)
Gives most old next.Unread new = IsUndecided most old × (new ≡ old)

-- the most reads that are left, with this many bytes held
abbrev pub reads_for : ReadState → ℕ → ℕ
reads_for reading.Open held = MAX_UNENDED + 1 - held
reads_for reading.Ended held = 0
reads_for reading.Failed held = 0

-- a bound of the reads before what comes next is known
abbrev pub reads_left : LinesValue → ℕ
reads_left v = reads_for v.reading (length v.held)

-- what can come now could come before, and the reading ended as it can end now
abbrev pub ReadsOn : LinesValue → LinesValue → Type 0
ReadsOn old new =
    ((end : InputEnd) (ps : List PieceValue) → CanEnd new end ps → CanEnd old end ps)
    × (new.lines_left ≡ old.lines_left)

-- what a reader of lines returns next, if it reads as much as it needs to know
abbrev pub Finds : ℕ → LinesValue → NextPiece → LinesValue → Type 0
Finds most old next.Line new = GivesLine old new
Finds most old next.Rest new =
    EndsIn old (Rest (next_line_number old.lines_left) new.piece ∷ []) new × (length new.piece ≤ most)
Finds most old next.Failed new =
    (bytes : List ℕ) × EndsIn old (Failed (next_line_number old.lines_left) bytes ∷ []) new × (length bytes ≤ most)
    × (new.reading ≡ reading.Failed)
Finds most old next.Long new = ReadsOn old new × IsLong most new
Finds most old next.TooMany new = EndsIn old (TooMany ∷ []) new
Finds most old next.End new = EndsIn old [] new
Finds most old next.Unread new = ⊥

-- whatever can come afterwards, something with this property can come before, and the reading ends
-- in the same way
abbrev pub Leaves : LinesValue → LinesValue → (List PieceValue → List PieceValue → Type 0) → Type 0
Leaves old new holds =
    (end : InputEnd) (left : List PieceValue) → CanEnd new end left
    → (all : List PieceValue) × CanEnd old end all × holds all left
