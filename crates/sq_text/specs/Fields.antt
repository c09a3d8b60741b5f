-- The fields of a line, each read from the front of the words: its value, and the words after it.
use Rattle.std.specs.Prelude.{ℕ, ℤ, ◌^◌, nat_lt, if◌then◌else◌, List, [], ◌∷◌, Option, Some, None, option_map}
use Rattle.sq_schema.specs.RowKey.{RowKey}
use Rattle.sq_schema.specs.Values.{RowValue}
use Rattle.sq_text.specs.Words.{Word, ◌>>=◌}
use Rattle.sq_text.specs.Numbers.{unsigned_in, signed_in}
use Rattle.sq_text.specs.Notes.{note_in}

-- the next word, read so
abbrev pub word_field : {A : Type 0} → (Word → Option A) → List Word → Option (A × List Word)
word_field read [] = None
word_field read (word ∷ words) = option_map (λ x. (x, words)) (read word)

-- the next word, a number
abbrev pub number_field : List Word → Option (ℕ × List Word)
number_field words = word_field unsigned_in words

-- the next word, a signed number
abbrev pub signed_field : List Word → Option (ℤ × List Word)
signed_field words = word_field signed_in words

-- the next word, a note
abbrev pub note_field : List Word → Option (List ℕ × List Word)
note_field words = word_field note_in words

-- the next word, a number below this bound
abbrev pub number_below : ℕ → List Word → Option (ℕ × List Word)
number_below end words = do
  number ← number_field words
  if nat_lt number.0 end then Some number else None

-- a table and a sub key
unfoldable pub key_field : List Word → Option (RowKey × List Word)
key_field words = do
  table ← number_below (2 ^ 8) words
  sub ← number_below (2 ^ 32) table.1
  Some (record { table = table.0; sub = sub.0 }, sub.1)

-- a number and a note
unfoldable pub row_field : List Word → Option (RowValue × List Word)
row_field words = do
  number ← signed_field words
  note ← note_field number.1
  Some (record { number = number.0; note = note.0 }, note.1)

-- the value read, if no word is left
abbrev pub value_at_end : {A : Type 0} → Option (A × List Word) → Option A
value_at_end None = None
value_at_end (Some (x, [])) = Some x
value_at_end (Some (x, word ∷ words)) = None
