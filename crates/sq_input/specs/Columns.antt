-- The columns of a record of a table of values, and the line of the row that it describes.
use Rattle.std.specs.Prelude.{ℕ, ◌==◌, nat_eq, nat_lt, if◌then◌else◌, List, [], ◌∷◌, drop, map, codes}
use Rattle.std.specs.List.{flat_map, starts_with, enumerate_from}
use Rattle.sq_text.specs.Words.{Word}
use Rattle.sq_text.specs.Texts.{line, note_text}
use Rattle.sq_input.specs.declared.columns.TheConstants.{NOTE_COLUMN}

-- the byte of a word for a byte: a question mark if no word has that byte
abbrev pub word_byte : ℕ → ℕ
word_byte byte = if nat_lt 32 byte then byte else 63

-- the same among hexadecimal digits, which include no hyphen
abbrev pub digit_byte : ℕ → ℕ
digit_byte byte = if byte == 45 then 63 else word_byte byte

-- the note that hexadecimal digits spell
abbrev pub digits_note : List ℕ → Word
digits_note [] = codes "-"
digits_note (digit ∷ digits) = map digit_byte (digit ∷ digits)

-- the note of a field: the digits after hex:, or else the bytes of a text
abbrev pub field_note : List ℕ → Word
field_note field = if starts_with nat_eq field (codes "hex:") then digits_note (drop 4 field) else note_text field

-- the word of the field in this column
abbrev pub field_word : ℕ × List ℕ → Word
field_word placed = if placed.0 == NOTE_COLUMN then field_note placed.1 else map word_byte placed.1

-- the words of fields, each after a space
abbrev pub fields_text : List (List ℕ) → List ℕ
fields_text fields = flat_map (λ placed. 32 ∷ field_word placed) (enumerate_from 0 fields)

-- the line of the row that a record describes
abbrev pub record_line : List (List ℕ) → List ℕ
record_line fields = line (codes "row" ∷ map field_word (enumerate_from 0 fields))
