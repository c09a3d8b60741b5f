-- The words of a row's line: none has a byte at which a line is split, and each is read as what it was written for.
use Rattle.std.proofs.Common.{◌≡◌, ℕ, ℤ, suc, ◌+◌, ◌-◌, ◌*◌, ◌/◌, ◌%◌, ◌^◌, ◌<◌, ◌≤◌, ◌==◌, ◌&&◌, Bool, true, false, not, List, [], ◌∷◌, length, inl, inr, refl, ap, ◌∙◌, arith}
use Rattle.std.specs.Prelude.{if◌then◌else◌, nat_lt, nat_le, pos, negsuc, Option, Some, None, Ok, ok_or, decimal, codes, option_and_then}
use Rattle.std.specs.Char.{digit_value, is_ascii_digit}
use Rattle.std.specs.Fmt.{digit_glyph, signed_decimal}
use Rattle.std.specs.List.{All, list_all, flat_map, join_with_byte}
use Rattle.std.specs.Str.Parse.{AllDigits}
use Rattle.std.proofs.lemmas.Bool.{and_from, and_parts, cases_lt, le-ltb, lt-ltb, ltb-true}
use Rattle.std.proofs.lemmas.Bool.Decides.{nat_tests}
use Rattle.std.proofs.lemmas.Fmt.{decimal_is_IsNumeral, length-decimal-le}
use Rattle.std.proofs.lemmas.List.{length-append}
use Rattle.std.proofs.lemmas.List.Elements.{All-nil, All-cons, All-head, All-tail, All-append, All-weaker}
use Rattle.std.proofs.lemmas.List.Splits.{slice_split_none, slice_split_at}
use Rattle.std.proofs.lemmas.List.Sums.{AllPass-from_list_all}
use Rattle.sq_rows.specs.declared.row.RowKey.{RowKey}
use Rattle.sq_rows.specs.Values.{RowValue}
use Rattle.sq_schema.specs.Effect.{is_i64}
use Rattle.sq_moves.specs.Given.{GivenValue}
use Rattle.sq_text.specs.declared.input_fault.InputFault.TheVariants.{BadHeader}
use Rattle.sq_text.specs.Words.{Word, words_of, ◌>>=◌}
use Rattle.sq_text.specs.Numbers.{unsigned_in, signed_in, positive_of, negative_of}
use Rattle.sq_text.specs.Notes.{hex_digit_in, hex_byte_in, hex_in, note_in}
use Rattle.sq_text.specs.Fields.{key_field}
use Rattle.sq_text.specs.HeaderFields.{given_in}
use Rattle.sq_text.specs.Header.{given_of}
use Rattle.sq_text.specs.Texts.{hex_byte_text, note_text}
use Rattle.sq_world.proofs.ReadBack.{number_is_read, all_digits}
use Rattle.sq_laws.specs.Fit.{IsFitRow}

-- each byte is above a space
abbrev pub is_solid : Word → Bool
is_solid word = list_all (λ byte. nat_lt 32 byte) word

-- a word of a line: it is solid, and short
pub record IsLineWord (word : Word) : Type 0 where
  pub solid : is_solid word ≡ true
  pub short : length word ≤ 510

-- numbers

digit_is_solid : (c : ℕ) → digit_value c < 10 → nat_lt 32 c ≡ true
digit_is_solid c small = grind (arith, nat_tests)

digits_are_solid : (text : List ℕ) → AllDigits 10 text → is_solid text ≡ true
digits_are_solid [] all = refl
digits_are_solid (c ∷ cs) all = and_from _ _ (digit_is_solid c all.0) (digits_are_solid cs all.1)

number_is_solid : (n : ℕ) → n < 2 ^ 64 → is_solid (decimal n) ≡ true
number_is_solid n fits = digits_are_solid (decimal n) (decimal_is_IsNumeral n fits).0.1

number_is_short : (n : ℕ) → n < 2 ^ 64 → length (decimal n) ≤ 20
number_is_short n fits = length-decimal-le 20 n (omega arith) (omega (arith, fits)) fits

number_word : (n : ℕ) → n < 2 ^ 64 → IsLineWord (decimal n)
number_word n fits = record { solid = number_is_solid n fits; short = omega (arith, number_is_short n fits) }

-- signed numbers

-- below 2 ^ 63, as its test says
small_from : (n : ℕ) → nat_lt n (2 ^ 63) ≡ true → n < 2 ^ 63
small_from n is = ltb-true n (2 ^ 63) is

signed_word : (z : ℤ) → is_i64 z ≡ true → IsLineWord (signed_decimal z)
signed_word (pos n) fits = number_word n (omega (arith, small_from n fits))
signed_word (negsuc n) fits =
    let within : suc n < 2 ^ 64 = omega (arith, small_from n fits) in
    record { solid = number_is_solid (suc n) within; short = omega (arith, number_is_short (suc n) within) }

no_minus : (c : ℕ) → is_ascii_digit c ≡ true → (c == 45) ≡ false
no_minus c digit = grind (arith, nat_tests)

-- a number without a sign
unsigned_is_read : (text : Word) (n : ℕ) → list_all is_ascii_digit text ≡ true → unsigned_in text ≡ Some n → n < 2 ^ 63 → signed_in text ≡ Some (pos n)
unsigned_is_read [] n digits is small = absurd cc
unsigned_is_read (first ∷ others) n digits is small =
    ap (λ (minus : Bool). if minus then option_and_then negative_of (unsigned_in others) else option_and_then positive_of (unsigned_in (first ∷ others)))
    (no_minus first (and_parts (is_ascii_digit first) (list_all is_ascii_digit others) digits).0)
    ∙ ap (λ (read : Option ℕ). option_and_then positive_of read) is
    ∙ ap (λ (below : Bool). if below then Some (pos n) else None) (lt-ltb n (2 ^ 63) small)

within_bounds : (n : ℕ) → n < 2 ^ 63 → (not (suc n == 0) && nat_le (suc n) (2 ^ 63)) ≡ true
within_bounds n small = grind (arith, nat_tests)

signed_is_read : (z : ℤ) → is_i64 z ≡ true → signed_in (signed_decimal z) ≡ Some z
signed_is_read (pos n) fits =
    let small = small_from n fits in
    let within : n < 2 ^ 64 = omega (arith, small) in
    unsigned_is_read (decimal n) n (all_digits (decimal n) (decimal_is_IsNumeral n within).0.1) (number_is_read n within) small
signed_is_read (negsuc n) fits =
    let small = small_from n fits in
    let within : suc n < 2 ^ 64 = omega (arith, small) in
    ap (λ (read : Option ℕ). option_and_then negative_of read) (number_is_read (suc n) within)
    ∙ ap (λ (fit : Bool). if fit then Some (negsuc n) else None) (within_bounds n small)

-- notes

glyph_is_solid : (d : ℕ) → d < 16 → nat_lt 32 (digit_glyph false d) ≡ true
glyph_is_solid d small = grind (arith, nat_tests)

glyph_no_minus : (d : ℕ) → d < 16 → (digit_glyph false d == 45) ≡ false
glyph_no_minus d small = grind (arith, nat_tests)

low_digit : (d : ℕ) → d < 10 → is_ascii_digit (48 + d) ≡ true
low_digit d below = grind (arith, nat_tests)

high_no_digit : (d : ℕ) → 10 ≤ d → is_ascii_digit (87 + d) ≡ false
high_no_digit d from = grind (arith, nat_tests)

high_letter : (d : ℕ) → 10 ≤ d → d < 16 → (nat_le 97 (87 + d) && nat_le (87 + d) 102) ≡ true
high_letter d from small = grind (arith, nat_tests)

-- the value of a digit, or else of a letter
abbrev letter_in : ℕ → Option ℕ
letter_in c = if nat_le 97 c && nat_le c 102 then Some (c - 87) else None

glyph_is_read : (d : ℕ) → d < 16 → hex_digit_in (digit_glyph false d) ≡ Some d
glyph_is_read d small =
    elim (cases_lt d 10) [
      | inl below ↦
          let same : 48 + d - 48 ≡ d = omega arith in
          ap (λ (low : Bool). hex_digit_in (if low then 48 + d else 87 + d)) (lt-ltb d 10 below)
          ∙ ap (λ (digit : Bool). if digit then Some (48 + d - 48) else letter_in (48 + d)) (low_digit d below)
          ∙ ap (λ (n : ℕ). Some n) same
      | inr from ↦
          let same : 87 + d - 87 ≡ d = omega arith in
          ap (λ (low : Bool). hex_digit_in (if low then 48 + d else 87 + d)) (le-ltb d 10 from)
          ∙ ap (λ (digit : Bool). if digit then Some (87 + d - 48) else letter_in (87 + d)) (high_no_digit d from)
          ∙ ap (λ (letter : Bool). if letter then Some (87 + d - 87) else None) (high_letter d from small)
          ∙ ap (λ (n : ℕ). Some n) same
    ]

-- the byte of two digits that are read so
abbrev byte_of : Option ℕ → Option ℕ → Option ℕ
byte_of high low = high >>= λ h. low >>= λ l. Some (16 * h + l)

byte_is_read : (b : ℕ) → b < 2 ^ 8 → hex_byte_in (digit_glyph false (b / 16)) (digit_glyph false (b % 16)) ≡ Some b
byte_is_read b fits =
    let high : b / 16 < 16 = omega (arith, fits) in
    let low : b % 16 < 16 = omega arith in
    let same : 16 * (b / 16) + b % 16 ≡ b = omega arith in
    ap (λ (h : Option ℕ). byte_of h (hex_digit_in (digit_glyph false (b % 16)))) (glyph_is_read (b / 16) high)
    ∙ ap (λ (l : Option ℕ). byte_of (Some (b / 16)) l) (glyph_is_read (b % 16) low)
    ∙ ap (λ (n : ℕ). Some n) same

-- the bytes that begin with this one
abbrev bytes_from : Option ℕ → Option (List ℕ) → Option (List ℕ)
bytes_from byte bytes = byte >>= λ b. bytes >>= λ bs. Some (b ∷ bs)

abbrev IsByte : ℕ → Type 0
IsByte byte = byte < 2 ^ 8

hex_is_read : (bytes : List ℕ) → All IsByte bytes → hex_in (flat_map hex_byte_text bytes) ≡ Some bytes
hex_is_read [] fit = refl
hex_is_read (b ∷ bs) fit =
    ap (λ (byte : Option ℕ). bytes_from byte (hex_in (flat_map hex_byte_text bs))) (byte_is_read b (All-head IsByte b bs fit))
    ∙ ap (λ (others : Option (List ℕ)). bytes_from (Some b) others) (hex_is_read bs (All-tail IsByte b bs fit))

note_is_read : (note : List ℕ) → All IsByte note → note_in (note_text note) ≡ Some note
note_is_read [] fit = refl
note_is_read (b ∷ bs) fit =
    let digits = flat_map hex_byte_text (b ∷ bs) in
    let others = digit_glyph false (b % 16) ∷ flat_map hex_byte_text bs in
    let small : b / 16 < 16 = omega (arith, All-head IsByte b bs fit) in
    ap (λ (minus : Bool). if minus && length others == 0 then Some [] else hex_in digits) (glyph_no_minus (b / 16) small)
    ∙ hex_is_read (b ∷ bs) fit

hex_length : (bytes : List ℕ) → length (flat_map hex_byte_text bytes) ≡ 2 * length bytes
hex_length [] = refl
hex_length (b ∷ bs) = let others = hex_length bs in omega (arith, others)

hex_is_solid : (bytes : List ℕ) → All IsByte bytes → is_solid (flat_map hex_byte_text bytes) ≡ true
hex_is_solid [] fit = refl
hex_is_solid (b ∷ bs) fit =
    let small : b / 16 < 16 = omega (arith, All-head IsByte b bs fit) in
    and_from _ _ (glyph_is_solid (b / 16) small) (and_from _ _ (glyph_is_solid (b % 16) (omega arith)) (hex_is_solid bs (All-tail IsByte b bs fit)))

note_word : (note : List ℕ) → length note ≤ 255 → All IsByte note → IsLineWord (note_text note)
note_word [] few fit = record { solid = refl; short = omega arith }
note_word (b ∷ bs) few fit = record { solid = hex_is_solid (b ∷ bs) fit; short = omega (arith, hex_length (b ∷ bs), few) }

-- lines

-- no byte of a solid word is a space or one below it
no_cut : (cut : ℕ) → cut ≤ 32 → (word : Word) → is_solid word ≡ true → All (λ byte. (byte == cut) ≡ false) word
no_cut cut low word solid =
    All-weaker (λ byte. nat_lt 32 byte ≡ true) (λ byte. (byte == cut) ≡ false) (λ byte e. apart byte e) word
    (AllPass-from_list_all (λ byte. nat_lt 32 byte) word solid)
  where
    apart : (byte : ℕ) → nat_lt 32 byte ≡ true → (byte == cut) ≡ false
    apart byte e = grind (arith, nat_tests)

-- a line is split into its words
pub split_words : (word : Word) (words : List Word) → All IsLineWord (word ∷ words) → words_of (join_with_byte 32 (word ∷ words)) ≡ word ∷ words
split_words word [] all = slice_split_none (λ byte. byte == 32) word (no_cut 32 (omega arith) word (All-head IsLineWord word [] all).solid)
split_words word (next ∷ words) all =
    slice_split_at (λ byte. byte == 32) word 32 (join_with_byte 32 (next ∷ words)) (no_cut 32 (omega arith) word (All-head IsLineWord word (next ∷ words) all).solid) refl
    ∙ ap (λ (others : List Word). word ∷ others) (split_words next words (All-tail IsLineWord word (next ∷ words) all))

-- it has no line end within it
pub unended : (word : Word) (words : List Word) → All IsLineWord (word ∷ words) → All (λ byte. (byte == 10) ≡ false) (join_with_byte 32 (word ∷ words))
unended word [] all = no_cut 10 (omega arith) word (All-head IsLineWord word [] all).solid
unended word (next ∷ words) all =
    let no_end : ℕ → Type 0 = λ byte. (byte == 10) ≡ false in
    All-append no_end word (32 ∷ join_with_byte 32 (next ∷ words)) (no_cut 10 (omega arith) word (All-head IsLineWord word (next ∷ words) all).solid)
    (All-cons no_end 32 (join_with_byte 32 (next ∷ words)) refl (unended next words (All-tail IsLineWord word (next ∷ words) all)))

-- and isn't long
pub line_length : (word : Word) (words : List Word) → All IsLineWord (word ∷ words) → length (join_with_byte 32 (word ∷ words)) ≤ 511 * (1 + length words)
line_length word [] all = let short = (All-head IsLineWord word [] all).short in omega (arith, short)
line_length word (next ∷ words) all =
    let short = (All-head IsLineWord word (next ∷ words) all).short in
    let others = line_length next words (All-tail IsLineWord word (next ∷ words) all) in
    omega (arith, short, others, length-append word (32 ∷ join_with_byte 32 (next ∷ words)))

-- rows

-- the words of a row's line, behind the first
abbrev pub row_words : ℕ → RowKey × RowValue → List Word
row_words root entry = decimal root ∷ decimal entry.0.table ∷ decimal entry.0.sub ∷ signed_decimal entry.1.number ∷ note_text entry.1.note ∷ []

-- the row that it gives
abbrev pub given_row : ℕ → RowKey × RowValue → GivenValue
given_row root entry = record { root = root; key = entry.0; row = entry.1 }

module _ (tables root : ℕ) (entry : RowKey × RowValue) (below : root < 2 ^ 32) (fit : IsFitRow tables entry) where
  table_below : entry.0.table < 2 ^ 8
  table_below = let range = fit.in_range in grind (arith, nat_tests)

  sub_below : entry.0.sub < 2 ^ 32
  sub_below = let range = fit.in_range in grind (arith, nat_tests)

  few_bytes : length entry.1.note ≤ 255
  few_bytes = let range = fit.in_range in grind (arith, nat_tests)

  pub all_words : All IsLineWord (row_words root entry)
  all_words =
      let note = note_text entry.1.note in
      let number = signed_decimal entry.1.number in
      let sub = decimal entry.0.sub in
      let table = decimal entry.0.table in
      All-cons IsLineWord (decimal root) (table ∷ sub ∷ number ∷ note ∷ []) (number_word root (omega (arith, below)))
      (All-cons IsLineWord table (sub ∷ number ∷ note ∷ []) (number_word entry.0.table (omega (arith, table_below)))
      (All-cons IsLineWord sub (number ∷ note ∷ []) (number_word entry.0.sub (omega (arith, sub_below)))
      (All-cons IsLineWord number (note ∷ []) (signed_word entry.1.number fit.number)
      (All-cons IsLineWord note [] (note_word entry.1.note few_bytes fit.note) (All-nil IsLineWord)))))

  words_are_read : given_in (row_words root entry) ≡ Some (given_row root entry)
  unfolding given_in key_field
  words_are_read =
      rw (
        number_is_read root (omega (arith, below)),
        number_is_read entry.0.table (omega (arith, table_below)),
        lt-ltb entry.0.table (2 ^ 8) table_below,
        number_is_read entry.0.sub (omega (arith, sub_below)),
        lt-ltb entry.0.sub (2 ^ 32) sub_below,
        signed_is_read entry.1.number fit.number,
        note_is_read entry.1.note fit.note,
      ) refl

  -- a row's line is read as that row
  pub row_is_read : given_of (join_with_byte 32 (codes "row" ∷ row_words root entry)) ≡ Ok (given_row root entry)
  row_is_read =
      let rest = decimal entry.0.table ∷ decimal entry.0.sub ∷ signed_decimal entry.1.number ∷ note_text entry.1.note ∷ [] in
      ap (λ (words : List Word). ok_or (given_in words) BadHeader) (split_words (decimal root) rest all_words)
      ∙ ap (λ (given : Option GivenValue). ok_or given BadHeader) words_are_read
