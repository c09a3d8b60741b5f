-- Pieces that are too long.
use Rattle.std.proofs.Common.{◌≡◌, ℕ, ◌-◌, ◌<◌, ◌≤◌, Bool, true, false, cond, eqb, List, [], ◌∷◌, ◌++◌, length, refl, sym, ap, arith}
use Rattle.std.specs.Prelude.{nat_lt}
use Rattle.std.proofs.lemmas.Bool.{ltb-false}
use Rattle.sq_text.specs.declared.buffer.TheConstants.{MAX_UNENDED}
use Rattle.sq_text.specs.Pieces.{cut_at_ends, PieceValue, Line, Rest, Failed, Endless, TooMany, InputEnd, Whole, Cut, ending_piece, last_piece, pieces_of, next_line_number, bytes_of}
use Rattle.sq_text.specs.Coming.{LinesValue, CanCome, IsLong}

-- a piece with more bytes than may come without a line end has no end
abbrev FirstLong : ℕ → List PieceValue → Type 0
FirstLong number ps = (piece : PieceValue) (others : List PieceValue) → ps ≡ piece ∷ others → MAX_UNENDED < length (bytes_of piece) → (bytes : List ℕ) × (piece ≡ Endless number bytes)

abbrev head_or : PieceValue → List PieceValue → PieceValue
head_or none [] = none
head_or none (piece ∷ others) = piece

same_head : (one piece : PieceValue) (rest others : List PieceValue) → one ∷ rest ≡ piece ∷ others → one ≡ piece
same_head one piece rest others e = ap (head_or one) e

one_endless : (number : ℕ) (bytes : List ℕ) (rest : List PieceValue) → FirstLong number (Endless number bytes ∷ rest)
one_endless number bytes rest piece others e long = (bytes, sym (same_head (Endless number bytes) piece rest others e))

one_short : (number : ℕ) (one : PieceValue) (rest : List PieceValue) → length (bytes_of one) ≤ MAX_UNENDED → FirstLong number (one ∷ rest)
one_short number one rest short piece others e long =
    let same : length (bytes_of one) ≡ length (bytes_of piece) = ap (λ p. length (bytes_of p)) (same_head one piece rest others e) in
    absurd (omega (arith, same, short, long))

nothing_long : (number : ℕ) → FirstLong number []
nothing_long number piece others e long = absurd cc

either_long : (number : ℕ) (b : Bool) (one other : List PieceValue) → (b ≡ true → FirstLong number one) → (b ≡ false → FirstLong number other) → FirstLong number (cond b one other)
either_long number true one other first second = first refl
either_long number false one other first second = second refl

ending_long : (end : InputEnd) (lines : ℕ) (bytes : List ℕ) → length bytes ≤ MAX_UNENDED → FirstLong (next_line_number lines) (ending_piece end lines bytes)
ending_long (Cut known) lines bytes short = one_short (next_line_number lines) (Failed (next_line_number lines) bytes) [] short
ending_long Whole lines [] short = nothing_long (next_line_number lines)
ending_long Whole lines (x ∷ xs) short = one_short (next_line_number lines) (Rest (next_line_number lines) (x ∷ xs)) [] short

last_long : (end : InputEnd) (lines : ℕ) (bytes : List ℕ) → FirstLong (next_line_number lines) (last_piece end lines bytes)
last_long end lines [] = ending_long end lines [] (omega arith)
last_long end lines (x ∷ xs) =
    let number = next_line_number lines in
    either_long number (eqb lines 0) (TooMany ∷ []) _ (λ e. one_short number TooMany [] (omega arith))
    (λ e. either_long number (nat_lt MAX_UNENDED (length (x ∷ xs))) (Endless number (x ∷ xs) ∷ []) (ending_piece end lines (x ∷ xs)) (λ l. one_endless number (x ∷ xs) []) (λ s. ending_long end lines (x ∷ xs) (ltb-false _ _ s)))

pieces_long : (end : InputEnd) (lines : ℕ) (parts : List (List ℕ)) → FirstLong (next_line_number lines) (pieces_of end lines parts)
pieces_long end lines [] = nothing_long (next_line_number lines)
pieces_long end lines (rest ∷ []) = last_long end lines rest
pieces_long end lines (line ∷ next ∷ others) =
    let number = next_line_number lines in
    either_long number (eqb lines 0) (TooMany ∷ []) _ (λ e. one_short number TooMany [] (omega arith))
    (λ e. either_long number (nat_lt MAX_UNENDED (length line)) (Endless number line ∷ []) (Line number line ∷ pieces_of end (lines - 1) (next ∷ others)) (λ l. one_endless number line []) (λ s. one_short number (Line number line) (pieces_of end (lines - 1) (next ∷ others)) (ltb-false _ _ s)))

-- pieces begin with one of this number that has no end
pub record IsEndless (number : ℕ) (ps : List PieceValue) : Type 0 where
  pub bytes : List ℕ
  pub others : List PieceValue
  pub are : ps ≡ Endless number bytes ∷ others

pub is_endless : (v : LinesValue) → IsLong MAX_UNENDED v → (ps : List PieceValue) → CanCome v ps → IsEndless (next_line_number v.lines_left) ps
is_endless v long [] can = absurd (long [] can)
is_endless v long (piece ∷ others) can =
    let endless = pieces_long can.0 v.lines_left (cut_at_ends (v.held ++ can.1.more)) piece others (sym can.1.are) (long (piece ∷ others) can) in
    record { bytes = endless.0; others = others; are = ap (λ (p : PieceValue). p ∷ others) endless.1 }
