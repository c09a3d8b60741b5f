-- How many families a chunk takes.
use Rattle.std.specs.Prelude.{ℕ, suc, ◌-◌, nat_le, if◌then◌else◌, List, [], ◌∷◌, take, slice_get}
use Rattle.std.specs.Option.{option_map_or}
use Rattle.sq_schema.specs.Family.{FamilyValue, rows_of, rows_size}

-- the size of a family in bytes
abbrev pub family_size : FamilyValue → ℕ
family_size family = rows_size (rows_of family)

-- how many families from the front fit into this room
abbrev pub fitting : ℕ → List FamilyValue → ℕ
fitting room [] = 0
fitting room (family ∷ families) = if nat_le (family_size family) room then suc (fitting (room - family_size family) families) else 0

-- how many a chunk takes: the first, and then as many as fit
abbrev pub chunk_count : ℕ → List FamilyValue → ℕ
chunk_count limit [] = 0
chunk_count limit (family ∷ families) = suc (fitting (limit - family_size family) families)

-- the root key after this many families, or the upper bound
abbrev pub root_after : ℕ → List FamilyValue → ℕ → ℕ
root_after hi families count = option_map_or (λ family. family.root) (slice_get families count) hi

-- the families that a chunk takes
abbrev pub chunk_of : ℕ → List FamilyValue → List FamilyValue
chunk_of limit families = take (chunk_count limit families) families
