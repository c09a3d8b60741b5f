-- Which of two lists of families the next one comes from, as they are merged by root key.
use Rattle.std.specs.Prelude.{◌≡◌, Bool, true, false, nat_lt, List, [], ◌∷◌, Option, Some, None}
use Rattle.sq_schema.specs.Family.{FamilyValue}

-- whether it comes from the first list
abbrev pub is_first_next : List FamilyValue → List FamilyValue → Bool
is_first_next [] right = false
is_first_next (one ∷ left) [] = true
is_first_next (one ∷ left) (other ∷ right) = nat_lt one.root other.root

-- the first family of a list is taken, if there is one
abbrev pub IsFirstTaken : List FamilyValue → Option FamilyValue → List FamilyValue → Type 0
IsFirstTaken [] taken after = (taken ≡ None) × (after ≡ [])
IsFirstTaken (family ∷ families) taken after = (taken ≡ Some family) × (after ≡ families)

-- the first family of one of the two lists is taken, and the other list stays
abbrev pub TakesNext : Bool → List FamilyValue → List FamilyValue → Option FamilyValue
    → List FamilyValue → List FamilyValue → Type 0
TakesNext true left right taken left_after right_after = IsFirstTaken left taken left_after × (right_after ≡ right)
TakesNext false left right taken left_after right_after = IsFirstTaken right taken right_after × (left_after ≡ left)
