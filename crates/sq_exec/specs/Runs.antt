-- What is loaded of a segment: runs of root keys.
use Rattle.std.specs.Prelude.{ℕ, Bool, ◌==◌, ◌&&◌, ◌||◌, nat_lt, nat_le, max, min, List, [], ◌∷◌, ◌++◌, position, slice_set, slice_index_or, Option, Some, None}
use Rattle.std.specs.List.{list_any}
use Rattle.sq_store.specs.declared.chunk.Note.{Note}
use Rattle.sq_exec.specs.declared.run.Run.{Run}

-- the root key is in the run
abbrev pub run_has : Run → ℕ → Bool
run_has run key = nat_le run.lo key && nat_lt key run.hi

-- one of the keys that the chunk covers is in the run
abbrev pub meets : Note → Run → Bool
meets note run = nat_lt (max run.lo note.lo) (min run.hi note.hi)

-- the chunk continues at the end of the run
abbrev pub goes_on : Note → Run → Bool
goes_on note run = (run.node == note.node) && (nat_le run.lo run.hi && (run.hi == note.lo))

-- the run with the keys of a chunk that continues at its end
abbrev pub run_with : Note → Run → Run
run_with note run = record { node = run.node; lo = run.lo; hi = max run.hi note.hi; whole = run.whole || note.last }

-- a chunk alone, as a run
abbrev pub run_of : Note → Run
run_of note = record { node = note.node; lo = note.lo; hi = note.hi; whole = note.last }

abbrev pub grown : List Run → Note → Option ℕ → List Run
grown runs note None = runs ++ run_of note ∷ []
grown runs note (Some i) = slice_set runs i (run_with note (slice_index_or runs i (run_of note)))

-- the runs after a chunk was loaded: the first that it continues has its keys too, or it is a run
-- of its own
abbrev pub runs_with : List Run → Note → List Run
runs_with runs note = grown runs note (position (goes_on note) runs)

-- the root key is loaded
abbrev pub is_loaded : List Run → ℕ → Bool
is_loaded runs key = list_any (λ run. run_has run key) runs

-- one of the keys that the chunk covers is loaded
abbrev pub is_met : List Run → Note → Bool
is_met runs note = list_any (meets note) runs

-- the last chunk of the node is loaded
abbrev pub is_whole : List Run → ℕ → Bool
is_whole runs node = list_any (λ run. (run.node == node) && run.whole) runs
