-- The lines of the owners of root keys, and of where the root keys move.
use Rattle.std.specs.Prelude.{◌≡◌, ℕ, Bool, if◌then◌else◌, List, [], ◌∷◌, ◌++◌, Option, Some, None, find, decimal, codes}
use Rattle.std.specs.List.{flat_map}
use Rattle.sq_plan.specs.PlanValue.{owner}
use Rattle.sq_moves.specs.declared.recon.Range.{Range}
use Rattle.sq_moves.specs.ReconValue.{ReconValue, has_key, leaf_at, stage_in}
use Rattle.sq_moves.specs.OpeningValue.{OpeningValue}

-- the reconfiguration range that contains a root key
abbrev pub range_with : ReconValue → ℕ → Option Range
range_with recon key = find (λ range. has_key range key) recon.ranges

-- the ends of the range that a root key moves in, and its stage; nothing if it doesn't move
abbrev pub key_range_text : ReconValue → Option Range → List ℕ
key_range_text recon None = []
key_range_text recon (Some range) =
    codes " range " ++ decimal range.lo ++ codes " " ++ decimal range.hi
    ++ codes " stage " ++ decimal (stage_in recon range)

-- the segment and the leaf that hold a root key, if they are asked for
abbrev pub told_leaf : Bool → ReconValue → ℕ → Option (ℕ × ℕ)
told_leaf tells_leaf recon key = if tells_leaf then leaf_at recon key else None

-- a segment and a leaf of it
abbrev pub leaf_text : Option (ℕ × ℕ) → List ℕ
leaf_text None = []
leaf_text (Some place) = codes " segment " ++ decimal place.0 ++ codes " leaf " ++ decimal place.1

-- a root key, and its owner by either plan
abbrev pub key_owners_text : OpeningValue → ℕ → List ℕ
key_owners_text o key =
    codes "key " ++ decimal key ++ codes " " ++ decimal (owner o.old key)
    ++ codes " " ++ decimal (owner o.new key)

-- the same with the range and the stage if it moves, and with the segment and the leaf if these are
-- asked for, too
abbrev pub owner_line : Bool → OpeningValue → ℕ → List ℕ
owner_line tells_leaf o key =
    key_owners_text o key
    ++ (key_range_text o.recon (range_with o.recon key)
    ++ (leaf_text (told_leaf tells_leaf o.recon key) ++ 10 ∷ []))

-- the lines of these root keys
abbrev pub IsOwnersText : Bool → List ℕ → OpeningValue → List ℕ → Type 0
IsOwnersText tells_leaves keys o out = out ≡ flat_map (owner_line tells_leaves o) keys
