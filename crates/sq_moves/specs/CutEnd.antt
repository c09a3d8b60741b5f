-- Where a chunk of bounded size ends that takes families from the front of a list of root keys.
use Rattle.std.specs.Prelude.{ℕ, ◌-◌, nat_le, if◌then◌else◌, List, [], ◌∷◌}

-- the first key whose family no longer fits into this room, or hi
abbrev pub end_within : (ℕ → ℕ) → ℕ → ℕ → List ℕ → ℕ
end_within size hi room [] = hi
end_within size hi room (root ∷ roots) = if nat_le (size root) room then end_within size hi (room - size root) roots else root

-- a chunk takes the first family, and then as many as fit
abbrev pub end_of : (ℕ → ℕ) → ℕ → ℕ → List ℕ → ℕ
end_of size hi limit [] = hi
end_of size hi limit (root ∷ roots) = end_within size hi (limit - size root) roots
