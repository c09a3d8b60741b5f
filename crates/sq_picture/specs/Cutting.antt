-- How many chunks it takes to move families of given sizes.
use Rattle.std.specs.Prelude.{ℕ, ◌+◌, ◌-◌, nat_le, if◌then◌else◌, List, [], ◌∷◌, Option, Some, None}

-- the room left in a chunk after one more family; an empty chunk takes any family
abbrev pub room_behind : ℕ → Option ℕ → ℕ → ℕ
room_behind limit None size = limit - size
room_behind limit (Some room) size = if nat_le size room then room - size else limit - size

-- how many chunks one more family adds
abbrev pub chunks_more : Option ℕ → ℕ → ℕ
chunks_more None size = 0
chunks_more (Some room) size = if nat_le size room then 0 else 1

-- how many chunks these families take, including the current one, which has this room left
abbrev pub chunks_from : ℕ → Option ℕ → List ℕ → ℕ
chunks_from limit room [] = 1
chunks_from limit room (size ∷ sizes) =
    chunks_more room size + chunks_from limit (Some (room_behind limit room size)) sizes

-- each chunk takes the first family, and then as many as fit into the limit; without families there
-- is one empty chunk
abbrev pub chunks_to_cut : ℕ → List ℕ → ℕ
chunks_to_cut limit sizes = chunks_from limit None sizes
