-- A run of families.
use Rattle.std.specs.Prelude.{ℕ, Bool, not, ◌==◌, List, [], length}
use Rattle.sq_schema.specs.Family.{FamilyValue}

-- families by rising root key, from a lower bound on
pub record Run : Type 0 where
  pub lo : ℕ
  pub families : List FamilyValue

-- a run without families
abbrev pub empty_run : Run
empty_run = record { lo = 0; families = [] }

-- whether a run has families
abbrev pub has_families : Run → Bool
has_families run = not (length run.families == 0)
