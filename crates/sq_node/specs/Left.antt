-- The jobs left over from an earlier stage.
use Rattle.std.specs.Prelude.{ℕ, ◌≤◌, List, [], ◌∷◌}

-- there is a room for each of these counts, and it holds as many
abbrev pub HaveRoom : List ℕ → List ℕ → Type 0
HaveRoom [] [] = Unit
HaveRoom [] (room ∷ rooms) = ⊥
HaveRoom (count ∷ counts) [] = ⊥
HaveRoom (count ∷ counts) (room ∷ rooms) = (count ≤ room) × HaveRoom counts rooms
