-- The portions of a reader, and what is left of one.
use Rattle.std.specs.Prelude.{ℕ, zero, suc, ◌==◌, if◌then◌else◌, List, [], ◌∷◌, Option, option_map}
use Rattle.sq_serving.specs.declared.portions.Portions.{Portions}

-- the bytes up to the last of this many line ends
unfoldable pub portion_bytes : ℕ → List ℕ → List ℕ
portion_bytes lines [] = []
portion_bytes zero (byte ∷ bytes) = []
portion_bytes (suc lines) (byte ∷ bytes) = byte ∷ portion_bytes (if byte == 10 then lines else suc lines) bytes

-- the same of what a reader reads, if that is known
abbrev pub portion_of : ℕ → Option (List ℕ) → Option (List ℕ)
portion_of lines known = option_map (portion_bytes lines) known

-- what the reader has left, including what comes after the portion
abbrev pub unread : {R : Type 0} → (R → Option (List ℕ)) → Portions R → Option (List ℕ)
unread remaining p = remaining p.reader

-- what is left of a portion, if it is known what the reader has left
abbrev pub portion_remaining : {R : Type 0} → (R → Option (List ℕ)) → Portions R → Option (List ℕ)
portion_remaining remaining p = portion_of p.lines_left (unread remaining p)
