-- Sequences of steps, and how several things change, each by its own steps.
use Rattle.std.specs.Prelude.{◌≡◌, ℕ, ◌<◌, List, [], ◌∷◌, length, slice_index_or}

-- `last` is reached from `first` by such steps through the states in the list, the latest first
abbrev pub ComesBySteps : {X : Type 0} → (X → X → Type 0) → X → List X → X → Type 0
ComesBySteps step first [] last = last ≡ first
ComesBySteps step first (before ∷ earlier) last = ComesBySteps step first earlier before × step before last

-- `last` is reached from `first` by such steps
abbrev pub ComesStepByStep : {X : Type 0} → (X → X → Type 0) → X → X → Type 0
ComesStepByStep {X} step first last = (way : List X) × ComesBySteps step first way last

-- each worker was driven, and keeps its place
pub record EachDriven {X : Type 0} (driven : X → X → Type 0) (old new : List X) : Type 0 where
  pub count : length new ≡ length old
  pub each : (i : ℕ) (d : X) → i < length old → driven (slice_index_or old i d) (slice_index_or new i d)
