-- The words of a line.
use Rattle.std.specs.Prelude.{ℕ, ◌==◌, List, [], Option, Some, None}
use Rattle.std.specs.List.{slice_split}

-- a word is its bytes
abbrev pub Word : Type 0
Word = List ℕ

-- bytes split at each place of this byte
abbrev pub split_by : ℕ → List ℕ → List (List ℕ)
split_by at bytes = slice_split (λ byte. byte == at) bytes

-- a line split at its spaces; between two adjacent spaces there is an empty word, as there is
-- before a leading and after a trailing space
abbrev pub words_of : List ℕ → List Word
words_of line = split_by 32 line

-- the words of what is left of a line
abbrev pub words_left : Option (List ℕ) → List Word
words_left None = []
words_left (Some rest) = words_of rest

-- the next step takes what this one found
infixl 10 ◌>>=◌
abbrev pub ◌>>=◌ : {A B : Type 0} → Option A → (A → Option B) → Option B
(Some x) >>= f = f x
None >>= f = None
