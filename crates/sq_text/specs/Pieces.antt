-- The pieces of an input: its lines, and how the reading of it ends.
use Rattle.std.specs.Prelude.{ℕ, Bool, false, ◌+◌, ◌-◌, ◌==◌, nat_eq, nat_lt, if◌then◌else◌, List, [], ◌∷◌, length, Option}
use Rattle.std.specs.List.{starts_with, slice_split}
use Rattle.sq_text.specs.declared.buffer.TheConstants.{MAX_UNENDED}
use Rattle.sq_text.specs.declared.reader.TheConstants.{MAX_LINES}

-- bytes cut at the bytes that end lines
abbrev pub cut_at_ends : List ℕ → List (List ℕ)
cut_at_ends bytes = slice_split (λ byte. byte == 10) bytes

-- the number of the next line, from 1, if this many may still come
abbrev pub next_line_number : ℕ → ℕ
next_line_number left = MAX_LINES - left + 1

-- what comes next of an input, with the number of the line that it is, or in which the reading ends
pub data PieceValue : Type 0 where
  -- the bytes of a line, without its end
  Line : (number : ℕ) (bytes : List ℕ) → PieceValue
  -- the bytes after the last line end
  Rest : (number : ℕ) (bytes : List ℕ) → PieceValue
  -- the bytes after the last line end and before a read that failed
  Failed : (number : ℕ) (bytes : List ℕ) → PieceValue
  -- more bytes than may come without a line end
  Endless : (number : ℕ) (bytes : List ℕ) → PieceValue
  -- a byte after the last line that may come
  TooMany : PieceValue

-- how the bytes of an input end: there are no more, or a read failed after them, and its reader
-- then had this left, if that is known
pub data InputEnd : Type 0 where
  Whole : InputEnd
  Cut : (left : Option (List ℕ)) → InputEnd

-- what is after the last line end, if it isn't too long: a rest, unless it is empty, or what came
-- before a read failed
abbrev pub ending_piece : InputEnd → ℕ → List ℕ → List PieceValue
ending_piece (Cut known) left bytes = Failed (next_line_number left) bytes ∷ []
ending_piece Whole left [] = []
ending_piece Whole left (byte ∷ bytes) = Rest (next_line_number left) (byte ∷ bytes) ∷ []

-- what is after the last line end, if at most this many lines may come
abbrev pub last_piece : InputEnd → ℕ → List ℕ → List PieceValue
last_piece end left [] = ending_piece end left []
last_piece end left (byte ∷ bytes) =
    if left == 0 then TooMany ∷ []
    else if nat_lt MAX_UNENDED (length (byte ∷ bytes)) then Endless (next_line_number left) (byte ∷ bytes) ∷ []
    else ending_piece end left (byte ∷ bytes)

-- a line with its end, and what comes after it
abbrev pub line_then : ℕ → List ℕ → List PieceValue → List PieceValue
line_then left line others =
    if left == 0 then TooMany ∷ []
    else if nat_lt MAX_UNENDED (length line) then Endless (next_line_number left) line ∷ []
    else Line (next_line_number left) line ∷ others

-- the pieces of an input, made of what is between its line ends, if at most this many lines may
-- come
abbrev pub pieces_of : InputEnd → ℕ → List (List ℕ) → List PieceValue
pieces_of end left [] = []
pieces_of end left (rest ∷ []) = last_piece end left rest
pieces_of end left (line ∷ next ∷ others) = line_then left line (pieces_of end (left - 1) (next ∷ others))

-- the pieces of bytes, if at most this many lines may come
abbrev pub pieces_in : InputEnd → ℕ → List ℕ → List PieceValue
pieces_in end left bytes = pieces_of end left (cut_at_ends bytes)

-- the pieces of an input
abbrev pub pieces : InputEnd → List ℕ → List PieceValue
pieces end input = pieces_in end MAX_LINES input

-- the bytes of a piece
abbrev pub bytes_of : PieceValue → List ℕ
bytes_of (Line number bytes) = bytes
bytes_of (Rest number bytes) = bytes
bytes_of (Failed number bytes) = bytes
bytes_of (Endless number bytes) = bytes
bytes_of TooMany = []

-- the next piece begins so
abbrev pub next_begins : List ℕ → List PieceValue → Bool
next_begins front [] = false
next_begins front (piece ∷ others) = starts_with nat_eq (bytes_of piece) front
