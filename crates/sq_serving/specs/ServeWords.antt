-- The first words of lines that ask something of an engine.
use Rattle.std.specs.Prelude.{ℕ, Bool, false, ◌||◌, List, [], ◌∷◌, bytes_eq, codes}
use Rattle.sq_text.specs.Words.{Word, words_of}

-- whether a word is one of these
unfoldable pub is_serve_word : Word → Bool
is_serve_word word =
    bytes_eq word (codes "txn") || bytes_eq word (codes "move") || bytes_eq word (codes "fold")
    || bytes_eq word (codes "status") || bytes_eq word (codes "rows") || bytes_eq word (codes "plan")
    || bytes_eq word (codes "pause") || bytes_eq word (codes "resume") || bytes_eq word (codes "pumps")
    || bytes_eq word (codes "chunk") || bytes_eq word (codes "drop") || bytes_eq word (codes "owner")

-- whether the first of these words is one of them
abbrev pub begins_with_one : List Word → Bool
begins_with_one [] = false
begins_with_one (first ∷ words) = is_serve_word first

-- whether a line begins with one of them
abbrev pub begins_serve_line : List ℕ → Bool
begins_serve_line line = begins_with_one (words_of line)
