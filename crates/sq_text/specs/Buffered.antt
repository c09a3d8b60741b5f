-- The buffer of a reader of lines.
use Rattle.std.specs.Prelude.{◌≡◌, ◌≤◌, ℕ, List, [], ◌∷◌, length, slice_range, Option}
use Rattle.std.specs.Io.KnownBytes.{IsAtEnd}
use Rattle.sq_text.specs.declared.buffer.TheConstants.{ROOM}
use Rattle.sq_text.specs.declared.reader.ReadState.{ReadState}
use Rattle.sq_text.specs.declared.reader.ReadState.TheVariants.{Ended}
use Rattle.sq_text.specs.Pieces.{cut_at_ends}

-- the room of a buffer and its places: of the last piece, and of the bytes not yet returned, which
-- have no line end in their searched part
pub record IsBuffered (buffer : List ℕ) (capacity : ℕ) (piece_start piece_end start searched end : ℕ)
    (reading : ReadState) (known : Option (List ℕ)) : Type 0 where
  pub room : ROOM ≤ capacity
  pub piece : piece_start ≤ piece_end
  pub piece_within : piece_end ≤ length buffer
  pub searched_after : start ≤ searched
  pub searched_before : searched ≤ end
  pub within : end ≤ length buffer
  pub unended : cut_at_ends (slice_range buffer start searched) ≡ slice_range buffer start searched ∷ []
  pub at_end : reading ≡ Ended → IsAtEnd known
