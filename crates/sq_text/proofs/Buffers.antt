-- The buffer of a reader of lines, as it continues.
use Rattle.std.proofs.Common.{◌≡◌, ℕ, ◌+◌, ◌-◌, ◌≤◌, List, [], ◌∷◌, ◌++◌, length, take, Option, None, sym, ap, ◌∙◌, arith}
use Rattle.std.specs.Prelude.{slice_range, position, Some, ◌==◌}
use Rattle.std.specs.Io.KnownBytes.{IsAtEnd}
use Rattle.sq_text.specs.declared.reader.ReadState.{ReadState}
use Rattle.sq_text.specs.declared.reader.ReadState.TheVariants.{Ended}
use Rattle.sq_text.specs.Pieces.{cut_at_ends}
use Rattle.sq_text.specs.Buffered.{IsBuffered}
use Rattle.sq_text.proofs.Ranges.{FoundLine, length_range, found_line, found_none, split_range, take_range}

-- what is held, which has no line end
pub record HeldUnended (xs : List ℕ) (start end : ℕ) : Type 0 where
  pub unended : cut_at_ends (slice_range xs start end) ≡ slice_range xs start end ∷ []
  pub count : length (slice_range xs start end) ≡ end - start

pub none_held : {xs : List ℕ} {capacity ps pe start searched end : ℕ} {status : ReadState} {known : Option (List ℕ)} → IsBuffered xs capacity ps pe start searched end status known → position (λ b. b == 10) (slice_range xs searched end) ≡ None
    → HeldUnended xs start end
none_held {xs} {capacity} {ps} {pe} {start} {searched} {end} is none = record {
  unended = found_none xs start searched end is.searched_after is.searched_before is.unended none;
  count = length_range xs start end is.within;
}

-- a line of it that ends
pub line_held : {xs : List ℕ} {capacity ps pe start searched end : ℕ} {status : ReadState} {known : Option (List ℕ)} → IsBuffered xs capacity ps pe start searched end status known → (at : ℕ) → position (λ b. b == 10) (slice_range xs searched end) ≡ Some at
    → FoundLine xs start (searched + at) end
line_held {xs} {capacity} {ps} {pe} {start} {searched} {end} is at some = found_line xs start searched end at is.searched_after is.searched_before is.within is.unended some

-- all that is held was searched
pub all_searched : (xs : List ℕ) (capacity ps pe start searched end : ℕ) (status : ReadState) (known : Option (List ℕ)) → IsBuffered xs capacity ps pe start searched end status known
    → position (λ b. b == 10) (slice_range xs searched end) ≡ None → IsBuffered xs capacity ps pe start end end status known
all_searched xs capacity ps pe start searched end status known is none = record {
  room = is.room;
  piece = is.piece;
  piece_within = is.piece_within;
  searched_after = omega (arith, is.searched_after, is.searched_before);
  searched_before = omega arith;
  within = is.within;
  unended = (none_held is none).unended;
  at_end = is.at_end;
}

-- ---- a block more

-- what was held is at the front, and what was read behind it
pub record ReadBehind (old new : List ℕ) (start end now : ℕ) : Type 0 where
  pub held : slice_range new 0 now ≡ slice_range old start end ++ slice_range new (end - start) now
  pub front : (at : ℕ) → start ≤ at → at ≤ end → slice_range new 0 (at - start) ≡ slice_range old start at

from_zero : (xs : List ℕ) (n : ℕ) → slice_range xs 0 n ≡ take n xs
from_zero xs n = ap (λ k. take k xs) (omega arith)

pub read_behind : (old mid new : List ℕ) (start end now : ℕ) → start ≤ end → end - start ≤ now → slice_range mid 0 (end - start) ≡ slice_range old start end → take (end - start) new ≡ take (end - start) mid → ReadBehind old new start end now
read_behind old mid new start end now order after moved before = record {
  held = split_range new 0 (end - start) now (omega arith) after ∙ ap (λ (l : List ℕ). l ++ slice_range new (end - start) now) same;
  front = λ at below above.
      let sum : start + (at - start) ≡ at = omega (arith, below) in
      let less : 0 + (at - start) ≡ at - start = omega arith in
      ap (slice_range new 0) (sym less) ∙ sym (take_range new 0 (end - start) (at - start) (omega (arith, above))) ∙ ap (take (at - start)) same
      ∙ take_range old start end (at - start) (omega (arith, above, below)) ∙ ap (slice_range old start) sum;
}
  where
    same : slice_range new 0 (end - start) ≡ slice_range old start end
    same = from_zero new (end - start) ∙ before ∙ sym (from_zero mid (end - start)) ∙ moved

pub read_on : (old mid new : List ℕ) (capacity capacity_now ps pe start searched end now : ℕ) (before_it status : ReadState) (was known : Option (List ℕ)) → IsBuffered old capacity ps pe start searched end before_it was
    → slice_range mid 0 (end - start) ≡ slice_range old start end → take (end - start) new ≡ take (end - start) mid → capacity ≤ capacity_now → end - start ≤ now → now ≤ length new
    → (status ≡ Ended → IsAtEnd known) → IsBuffered new capacity_now 0 0 0 (searched - start) now status known
read_on old mid new capacity capacity_now ps pe start searched end now before_it status was known is moved before more after within ended =
    let read = read_behind old mid new start end now (omega (arith, is.searched_after, is.searched_before)) after moved before in
    let front : slice_range new 0 (searched - start) ≡ slice_range old start searched = read.front searched is.searched_after is.searched_before in
    record {
      room = omega (arith, is.room, more);
      piece = omega arith;
      piece_within = omega arith;
      searched_after = omega arith;
      searched_before = omega (arith, is.searched_before, after);
      within = within;
      unended = rw front is.unended;
      at_end = ended;
    }
