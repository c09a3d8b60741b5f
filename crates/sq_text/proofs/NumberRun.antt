-- A number read from the front of bytes, up to the space that ends its word.
use Rattle.std.proofs.Common.{◌≡◌, ℕ, ◌+◌, ◌<◌, ◌≤◌, ◌^◌, Bool, true, false, eqb, List, [], ◌∷◌, length, get_or, drop, Option, Some, None, refl, sym, ap, ◌∙◌, arith}
use Rattle.std.specs.Prelude.{option_map}
use Rattle.std.specs.Char.{is_ascii_digit}
use Rattle.std.proofs.lemmas.Bool.{lt-ltb, eqb-true}
use Rattle.std.proofs.lemmas.Bool.Decides.{nat_tests}
use Rattle.std.proofs.lemmas.List.{at_drop_more, at_drop_all}
use Rattle.sq_text.specs.Words.{Word, words_of}
use Rattle.sq_text.specs.Numbers.{digit_behind}
use Rattle.sq_text.specs.Fields.{word_field}
use Rattle.sq_text.proofs.DigitRun.{digits_after, some_digit, more_digits, no_digit}

-- bytes have a first word
pub record HasWord (bytes : List ℕ) : Type 0 where
  pub first : Word
  pub others : List Word
  pub are : words_of bytes ≡ first ∷ others

put_first : (x : ℕ) (xs : List ℕ) → HasWord xs → HasWord (x ∷ xs)
put_first x xs rest = by_test (eqb x 32) refl
  where
    by_test : (b : Bool) → eqb x 32 ≡ b → HasWord (x ∷ xs)
    by_test true e = record { first = []; others = words_of xs; are = rw e refl }
    by_test false e = record { first = x ∷ rest.first; others = rest.others; are = rw (e, rest.are) refl }

pub has_word : (bytes : List ℕ) → HasWord bytes
has_word [] = record { first = []; others = []; are = refl }
has_word (x ∷ xs) = put_first x xs (has_word xs)

-- the number that the digits of the first word write behind those of n, and the words after it
abbrev pub number_after : ℕ → List ℕ → Option (ℕ × List Word)
number_after n bytes = word_field (digits_after n) (words_of bytes)

no_space : (c : ℕ) → is_ascii_digit c ≡ true → eqb c 32 ≡ false
no_space c e = grind (arith, nat_tests)

differs : (c : ℕ) → ¬ (c ≡ 32) → eqb c 32 ≡ false
differs c apart = by_test (eqb c 32) refl
  where
    by_test : (b : Bool) → eqb c 32 ≡ b → eqb c 32 ≡ false
    by_test true e = absurd (apart (eqb-true c 32 e))
    by_test false e = e

more : (n c m : ℕ) (bytes : List ℕ) → digit_behind n c ≡ Some m → number_after n (c ∷ bytes) ≡ number_after m bytes
more n c m bytes e =
    let word = has_word bytes in
    let apart : eqb c 32 ≡ false = no_space c (some_digit n c m e).digit in
    rw (apart, word.are) (ap (option_map (λ k. (k, word.others))) (more_digits n c m word.first e))

no_more : (n c : ℕ) (bytes : List ℕ) → digit_behind n c ≡ None → eqb c 32 ≡ false → number_after n (c ∷ bytes) ≡ None
no_more n c bytes e apart =
    let word = has_word bytes in
    rw (apart, word.are) (ap (option_map (λ k. (k, word.others))) (no_digit n c word.first e))

at_space : (n : ℕ) (bytes : List ℕ) → n < 2 ^ 64 → number_after n (32 ∷ bytes) ≡ Some (n, words_of bytes)
at_space n bytes small = rw (lt-ltb n (2 ^ 64) small) refl

at_end : (n : ℕ) → n < 2 ^ 64 → number_after n [] ≡ Some (n, [])
at_end n small = rw (lt-ltb n (2 ^ 64) small) refl

-- the byte at i ends it, or leaves no number, or is a digit more
pub ends : (xs : List ℕ) (i n : ℕ) (all : Option (ℕ × List Word)) → i < length xs → get_or xs i 0 ≡ 32 → n < 2 ^ 64 → number_after n (drop i xs) ≡ all → all ≡ Some (n, words_of (drop (i + 1) xs))
ends xs i n all lt space small so_far =
    sym so_far ∙ at_drop_more (number_after n) xs i 0 lt ∙ ap (λ c. number_after n (c ∷ drop (i + 1) xs)) space ∙ at_space n (drop (i + 1) xs) small

pub stops : (xs : List ℕ) (i n : ℕ) (all : Option (ℕ × List Word)) → i < length xs → digit_behind n (get_or xs i 0) ≡ None → ¬ (get_or xs i 0 ≡ 32) → number_after n (drop i xs) ≡ all → all ≡ None
stops xs i n all lt none apart so_far = sym so_far ∙ at_drop_more (number_after n) xs i 0 lt ∙ no_more n (get_or xs i 0) (drop (i + 1) xs) none (differs (get_or xs i 0) apart)

pub goes_on : (xs : List ℕ) (i n m : ℕ) (all : Option (ℕ × List Word)) → i < length xs → digit_behind n (get_or xs i 0) ≡ Some m → number_after n (drop i xs) ≡ all → number_after m (drop (i + 1) xs) ≡ all
goes_on xs i n m all lt some so_far = sym (more n (get_or xs i 0) m (drop (i + 1) xs) some) ∙ sym (at_drop_more (number_after n) xs i 0 lt) ∙ so_far

pub all_read : (xs : List ℕ) (i n : ℕ) (all : Option (ℕ × List Word)) → length xs ≤ i → n < 2 ^ 64 → number_after n (drop i xs) ≡ all → all ≡ Some (n, [])
all_read xs i n all le small so_far = sym so_far ∙ at_drop_all (number_after n) xs i le ∙ at_end n small
