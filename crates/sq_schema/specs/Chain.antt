-- Steps, each with what the one before it found, up to the first that fails.
use Rattle.std.specs.Prelude.{Result, Ok, Err}

-- the next step takes what this one found, and a fault stops
infixl 10 ◌>>=◌
abbrev pub ◌>>=◌ : {A B F : Type 0} → Result A F → (A → Result B F) → Result B F
(Ok x) >>= next = next x
(Err fault) >>= next = Err fault
