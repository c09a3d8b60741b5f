-- Runs in a slab, with an index of their bounds.
use Rattle.std.specs.Prelude.{◌≢◌, ℕ, List, [], ◌∷◌, map, ⊤}
use Rattle.std.specs.Option.{option_map_or}
use Rattle.std.specs.Global.{Vec}
use Rattle.slab.specs.Slab.{Slab, get, ContainsKey}
use Rattle.sq_schema.specs.Family.{FamilyValue}
use Rattle.sq_store.specs.Run.{Run}
use Rattle.sq_store.specs.declared.runs.RunEntry.{RunEntry}

-- the families at a key of the slab
abbrev pub families_under : Slab (Vec FamilyValue) → ℕ → List FamilyValue
families_under slab key = option_map_or (λ families. families.items) (get slab key) []

-- the run that an entry of the index leads to
abbrev pub run_under : Slab (Vec FamilyValue) → RunEntry → Run
run_under slab entry = record { lo = entry.lo; families = families_under slab entry.key }

-- the runs by rising bound
abbrev pub runs_of : Slab (Vec FamilyValue) → List RunEntry → List Run
runs_of slab index = map (run_under slab) index

-- no entry has this key
abbrev pub HasNot : ℕ → List RunEntry → Type 0
HasNot key [] = ⊤
HasNot key (entry ∷ index) = (entry.key ≢ key) × HasNot key index

-- each entry leads to a run of the slab, and no two lead to the same
abbrev pub IsIndex : Slab (Vec FamilyValue) → List RunEntry → Type 0
IsIndex slab [] = ⊤
IsIndex slab (entry ∷ index) = ContainsKey slab entry.key × HasNot entry.key index × IsIndex slab index
