-- Files to be written, and those that are read.
use Rattle.std.specs.Prelude.{◌≡◌, ◌⊎◌, ℕ, ◌<◌, List, length, take, Any, Contains, slice_index_or, String, string_bytes}
use Rattle.std.specs.Global.{Global}
use Rattle.sq_outputs.specs.declared.conflict.Output.{Output}
use Rattle.sq_outputs.specs.declared.conflict.Conflict.{Conflict}
use Rattle.sq_outputs.specs.declared.conflict.Conflict.TheVariants.{IsRead, NamedTwice}

-- the file at this place is read
abbrev pub IsReadAt : List (String Global) → List ℕ → Type 0
IsReadAt read place = Any (λ (file : String Global). string_bytes file ≡ place) read

-- the file at this place is written
abbrev pub IsWrittenAt : List Output → List ℕ → Type 0
IsWrittenAt outputs place = Any (λ (output : Output). string_bytes output.place ≡ place) outputs

-- the file is read, or is the same as an earlier one
abbrev pub IsInUse : List (String Global) → List Output → ℕ → Output → Type 0
IsInUse read outputs at output =
    IsReadAt read (string_bytes output.place) ⊎ IsWrittenAt (take at outputs) (string_bytes output.place)

-- none of the files is read, and all are different
abbrev pub AreFree : List (String Global) → List Output → Type 0
AreFree read outputs =
    (at : ℕ) → at < length outputs → (any : Output) → ¬ IsInUse read outputs at (slice_index_or outputs at any)

-- one of the files is read, or is the same as an earlier one
abbrev pub IsConflict : List (String Global) → List Output → Conflict → Type 0
IsConflict read outputs (IsRead output) = Contains outputs output.now × IsReadAt read (string_bytes output.now.place)
IsConflict read outputs (NamedTwice output) =
    (at : ℕ) × (at < length outputs) × (slice_index_or outputs at output.now ≡ output.now)
    × IsWrittenAt (take at outputs) (string_bytes output.now.place)
