-- The line of a step, read by a script.
use Rattle.std.proofs.Common.{◌≡◌, ℕ, zero, suc, ◌+◌, ◌*◌, ◌^◌, ◌<◌, ◌≤◌, ◌==◌, ◌&&◌, Bool, true, false, not, List, [], ◌∷◌, map, length, get_or, refl, sym, ap, ◌∙◌, arith}
use Rattle.std.specs.Prelude.{if◌then◌else◌, Some, Ok, Err, decimal}
use Rattle.std.specs.List.{All, list_all, join_with_byte}
use Rattle.std.specs.Char.{digit_value, is_ascii_digit}
use Rattle.std.specs.Str.Parse.{AllDigits, digits_value}
use Rattle.std.proofs.lemmas.Bool.{and_from, eqb-true, le-ltb, lt-ltb}
use Rattle.std.proofs.lemmas.Bool.Decides.{nat_tests}
use Rattle.std.proofs.lemmas.Fmt.{decimal_is_IsNumeral, decimal_digit, length-decimal-le, first_decimal}
use Rattle.std.proofs.lemmas.List.{length-append}
use Rattle.std.proofs.lemmas.List.Elements.{All-nil, All-cons, All-head, All-tail, All-weaker}
use Rattle.std.proofs.lemmas.List.Splits.{slice_split_none, slice_split_at}
use Rattle.std.proofs.lemmas.List.Sums.{AllPass-from_list_all}
use Rattle.sq_text.specs.declared.fault.LineFault.TheVariants.{TooLong}
use Rattle.sq_text.specs.declared.step.TheConstants.{MAX_LINE}
use Rattle.sq_text.specs.Words.{Word, words_of}
use Rattle.sq_text.specs.Numbers.{unsigned_in}
use Rattle.sq_text.specs.Verbs.{verb_in}
use Rattle.sq_text.specs.Steps.{pair_field, pull_field, step_with, step_in}
use Rattle.sq_world.specs.declared.move_step.MoveStep.{MoveStep}
use Rattle.sq_world.specs.declared.move_step.MoveStep.TheVariants as move
use Rattle.sq_world.specs.declared.move_step.TheConstants.{WHOLE, PULL}
use Rattle.sq_world.specs.Lines.{NumbersFit, step_of_move, verb_of, move_numbers, words_of_move, IsReadBack}

-- the number fits 64 bits
abbrev Fits_word : ℕ → Type 0
Fits_word n = n < 2 ^ 64

-- the word has no space
abbrev is_plain : Word → Bool
is_plain word = list_all (λ byte. not (byte == 32)) word

-- digits

digit_is : (c : ℕ) → digit_value c < 10 → is_ascii_digit c ≡ true
digit_is c small = grind (arith, nat_tests)

digit_is_plain : (c : ℕ) → digit_value c < 10 → not (c == 32) ≡ true
digit_is_plain c small = grind (arith, nat_tests)

pub all_digits : (text : List ℕ) → AllDigits 10 text → list_all is_ascii_digit text ≡ true
all_digits [] all = refl
all_digits (c ∷ cs) all = and_from _ _ (digit_is c all.0) (all_digits cs all.1)

digits_are_plain : (text : List ℕ) → AllDigits 10 text → is_plain text ≡ true
digits_are_plain [] all = refl
digits_are_plain (c ∷ cs) all = and_from _ _ (digit_is_plain c all.0) (digits_are_plain cs all.1)

-- a number whose first digit is 0 has no other
no_leading_zero : (n : ℕ) → n < 2 ^ 64 → get_or (decimal n) 0 0 ≡ 48 → length (decimal n) ≡ 1
no_leading_zero zero fits first = ap length (decimal_digit 0 (omega arith))
no_leading_zero (suc n) fits first = absurd (omega (arith, first_decimal (suc n) (omega arith) fits, first))

lone : (first : ℕ) (others : List ℕ) → (first ≡ 48 → length others ≡ 0) → (first == 48 && not (length others == 0)) ≡ false
lone first others alone = by_test (first == 48) refl
  where
    by_test : (t : Bool) → (first == 48) ≡ t → (t && not (length others == 0)) ≡ false
    by_test false is = refl
    by_test true is = rw (alone (eqb-true first 48 is)) refl

reads : (text : List ℕ) (n : ℕ) → 0 < length text → list_all is_ascii_digit text ≡ true → digits_value 10 text ≡ n → n < 2 ^ 64 → (get_or text 0 0 ≡ 48 → length text ≡ 1) → unsigned_in text ≡ Some n
reads [] n some digits value fits alone = absurd (omega arith)
reads (first ∷ others) n some digits value fits alone =
    rw (lone first others (λ e. omega (arith, alone e)), digits, value, lt-ltb n (2 ^ 64) fits) refl

-- a number is read as it was written
pub number_is_read : (n : ℕ) → n < 2 ^ 64 → unsigned_in (decimal n) ≡ Some n
number_is_read n fits =
    let is = decimal_is_IsNumeral n fits in
    reads (decimal n) n is.0.0 (all_digits (decimal n) is.0.1) is.1 fits (no_leading_zero n fits)

-- verbs

-- a verb has no space, and is short
pub record IsVerbWord (word : Word) : Type 0 where
  pub plain : is_plain word ≡ true
  pub short : length word ≤ 20

verb_is : (step : MoveStep) → IsVerbWord (verb_of step)
verb_is (move.Prepare part) = record { plain = refl; short = omega arith }
verb_is move.Start = record { plain = refl; short = omega arith }
verb_is (move.Claim seg) = record { plain = refl; short = omega arith }
verb_is (move.Begin seg) = record { plain = refl; short = omega arith }
verb_is (move.Cut src dst) = record { plain = refl; short = omega arith }
verb_is (move.Push src dst) = record { plain = refl; short = omega arith }
verb_is (move.Pop src dst) = record { plain = refl; short = omega arith }
verb_is (move.Load src dst) = record { plain = refl; short = omega arith }
verb_is (move.Complete seg) = record { plain = refl; short = omega arith }
verb_is (move.Report part) = record { plain = refl; short = omega arith }
verb_is move.Next = record { plain = refl; short = omega arith }
verb_is move.Finish = record { plain = refl; short = omega arith }

-- lines

flipped : (b : Bool) → not b ≡ true → b ≡ false
flipped true e = sym e
flipped false e = refl

no_space : (word : Word) → is_plain word ≡ true → All (λ byte. (byte == 32) ≡ false) word
no_space word plain =
    All-weaker (λ byte. not (byte == 32) ≡ true) (λ byte. (byte == 32) ≡ false) (λ byte e. flipped (byte == 32) e) word
    (AllPass-from_list_all (λ byte. not (byte == 32)) word plain)

-- a line of a word and numbers is split into them
split : (word : Word) (numbers : List ℕ) → is_plain word ≡ true → All Fits_word numbers → words_of (join_with_byte 32 (word ∷ map decimal numbers)) ≡ word ∷ map decimal numbers
split word [] plain fit = slice_split_none (λ byte. byte == 32) word (no_space word plain)
split word (n ∷ numbers) plain fit =
    let digits = (decimal_is_IsNumeral n (All-head Fits_word n numbers fit)).0.1 in
    slice_split_at (λ byte. byte == 32) word 32 (join_with_byte 32 (decimal n ∷ map decimal numbers)) (no_space word plain) refl
    ∙ ap (λ (words : List Word). word ∷ words) (split (decimal n) numbers (digits_are_plain (decimal n) digits) (All-tail Fits_word n numbers fit))

-- it is short
size : (word : Word) (numbers : List ℕ) → length word ≤ 20 → All Fits_word numbers → length (join_with_byte 32 (word ∷ map decimal numbers)) ≤ 20 + 21 * length numbers
size word [] short fit = omega (arith, short)
size word (n ∷ numbers) short fit =
    let below = All-head Fits_word n numbers fit in
    let others = size (decimal n) numbers (length-decimal-le 20 n (omega arith) (omega (arith, below)) below) (All-tail Fits_word n numbers fit) in
    omega (arith, short, others, length-append word (32 ∷ join_with_byte 32 (decimal n ∷ map decimal numbers)))

few : (step : MoveStep) → length (move_numbers step) ≤ 3
few (move.Prepare part) = omega arith
few move.Start = omega arith
few (move.Claim seg) = omega arith
few (move.Begin seg) = omega arith
few (move.Cut src dst) = omega arith
few (move.Push src dst) = omega arith
few (move.Pop src dst) = omega arith
few (move.Load src dst) = omega arith
few (move.Complete seg) = omega arith
few (move.Report part) = omega arith
few move.Next = omega arith
few move.Finish = omega arith

-- steps

one : (n : ℕ) (numbers : List ℕ) → All Fits_word (n ∷ numbers) → unsigned_in (decimal n) ≡ Some n
one n numbers fit = number_is_read n (All-head Fits_word n numbers fit)

two : (n m : ℕ) (numbers : List ℕ) → All Fits_word (n ∷ m ∷ numbers) → unsigned_in (decimal m) ≡ Some m
two n m numbers fit = one m numbers (All-tail Fits_word n (m ∷ numbers) fit)

words_are_read : (tables : ℕ) (step : MoveStep) → All Fits_word (move_numbers step) → step_in tables (words_of_move step) ≡ Ok (step_of_move step)
unfolding verb_in step_with pair_field pull_field
words_are_read tables (move.Prepare part) fit = rw (one part [] fit) refl
words_are_read tables move.Start fit = refl
words_are_read tables (move.Claim seg) fit = rw (one seg (WHOLE ∷ PULL ∷ []) fit, number_is_read WHOLE (omega arith), number_is_read PULL (omega arith)) refl
words_are_read tables (move.Begin seg) fit = rw (one seg (WHOLE ∷ PULL ∷ []) fit, number_is_read WHOLE (omega arith), number_is_read PULL (omega arith)) refl
words_are_read tables (move.Cut src dst) fit = rw (one src (dst ∷ []) fit, two src dst [] fit) refl
words_are_read tables (move.Push src dst) fit = rw (one src (dst ∷ []) fit, two src dst [] fit) refl
words_are_read tables (move.Pop src dst) fit = rw (one src (dst ∷ []) fit, two src dst [] fit) refl
words_are_read tables (move.Load src dst) fit = rw (one src (dst ∷ []) fit, two src dst [] fit) refl
words_are_read tables (move.Complete seg) fit = rw (one seg (WHOLE ∷ PULL ∷ []) fit, number_is_read WHOLE (omega arith), number_is_read PULL (omega arith)) refl
words_are_read tables (move.Report part) fit = rw (one part [] fit) refl
words_are_read tables move.Next fit = refl
words_are_read tables move.Finish fit = refl

-- its numbers, and those that each line of its verb has
fits_one : (n : ℕ) (numbers : List ℕ) → n < 2 ^ 64 → All Fits_word numbers → All Fits_word (n ∷ numbers)
fits_one n numbers fit others = All-cons Fits_word n numbers fit others

no_number : All Fits_word []
no_number = All-nil Fits_word

fits_two : (n m : ℕ) → (n < 2 ^ 64) × (m < 2 ^ 64) → All Fits_word (n ∷ m ∷ [])
fits_two n m fit = fits_one n (m ∷ []) fit.0 (fits_one m [] fit.1 no_number)

fits_whole : (n : ℕ) → n < 2 ^ 64 → All Fits_word (n ∷ WHOLE ∷ PULL ∷ [])
fits_whole n fit = fits_one n (WHOLE ∷ PULL ∷ []) fit (fits_two WHOLE PULL (omega arith, omega arith))

all_fit : (step : MoveStep) → NumbersFit step → All Fits_word (move_numbers step)
all_fit (move.Prepare part) fit = fits_one part [] fit no_number
all_fit move.Start fit = no_number
all_fit (move.Claim seg) fit = fits_whole seg fit
all_fit (move.Begin seg) fit = fits_whole seg fit
all_fit (move.Cut src dst) fit = fits_two src dst fit
all_fit (move.Push src dst) fit = fits_two src dst fit
all_fit (move.Pop src dst) fit = fits_two src dst fit
all_fit (move.Load src dst) fit = fits_two src dst fit
all_fit (move.Complete seg) fit = fits_whole seg fit
all_fit (move.Report part) fit = fits_one part [] fit no_number
all_fit move.Next fit = no_number
all_fit move.Finish fit = no_number

-- a script reads the line of a step as this step
pub line_is_read : (step : MoveStep) → NumbersFit step → IsReadBack step
line_is_read step numbers_fit = λ tables.
    let fit = all_fit step numbers_fit in
    let is = verb_is step in
    let line = join_with_byte 32 (words_of_move step) in
    let short = size (verb_of step) (move_numbers step) is.short fit in
    ap (λ (b : Bool). if b then Err TooLong else step_in tables (words_of line)) (le-ltb MAX_LINE (length line) (omega (arith, short, few step)))
    ∙ ap (step_in tables) (split (verb_of step) (move_numbers step) is.plain fit)
    ∙ words_are_read tables step fit
