-- Chunks that are cut one after another.
use Rattle.std.specs.Prelude.{◌≡◌, ℕ, List, [], ◌∷◌, ◌++◌}
use Rattle.sq_schema.specs.Family.{FamilyValue}
use Rattle.sq_store.specs.Counting.{chunk_of}

-- the families are cut into these chunks: each takes the families that fit of those that are left,
-- until none are left
abbrev pub AreCutInto : ℕ → List FamilyValue → List (List FamilyValue) → Type 0
AreCutInto limit [] chunks = chunks ≡ []
AreCutInto limit (family ∷ families) [] = ⊥
AreCutInto limit (family ∷ families) (chunk ∷ chunks) =
    (left : List FamilyValue) × (family ∷ families ≡ chunk ++ left) × (chunk ≡ chunk_of limit (family ∷ families))
    × AreCutInto limit left chunks
