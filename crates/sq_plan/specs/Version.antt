-- Versions of the format of plans: their numbers, their stages, and how many partitions they allow.
use Rattle.std.specs.Prelude.{ℕ, Bool, true, false, List, [], ◌∷◌, Option, bytes_eq, codes, find}
use Rattle.sq_plan.specs.declared.plan.TheConstants.{MAX_PARTS, FIRST_MAX_PARTS}
use Rattle.sq_plan.specs.declared.version.Stages.{Stages}
use Rattle.sq_plan.specs.declared.version.Stages.TheVariants.{One, Auto}
use Rattle.sq_plan.specs.declared.version.Version.{Version}
use Rattle.sq_plan.specs.declared.version.Version.TheVariants.{First, Second}

-- the number of a version in a plan
abbrev pub version_number : Version → ℕ
version_number First = 1
version_number (Second stages) = 2

-- the most partitions of a plan of this version
abbrev pub parts_limit : Version → ℕ
parts_limit First = FIRST_MAX_PARTS
parts_limit (Second stages) = MAX_PARTS

-- what moves to a plan of this version moves in stages
abbrev pub is_auto : Version → Bool
is_auto First = false
is_auto (Second One) = false
is_auto (Second Auto) = true

-- the text of stages in a plan
abbrev pub stages_name : Stages → List ℕ
stages_name One = codes "one"
stages_name Auto = codes "auto"

-- the stages that a text names
unfoldable pub stages_named : List ℕ → Option Stages
stages_named name = find (λ stages. bytes_eq (stages_name stages) name) (One ∷ Auto ∷ [])
