-- The counts of the notes of a link.
use Rattle.std.specs.Prelude.{ℕ, ◌-◌, ◌^◌, min, length}
use Rattle.sq_store.specs.StoreValue.{StoreValue, families_between}
use Rattle.sq_store.specs.declared.chunk.Note.{Note}

-- a count, or the largest 64-bit number if it doesn't fit
abbrev pub told : ℕ → ℕ
told count = min count (2 ^ 64 - 1)

-- how many root keys a note covers
abbrev pub covered_keys : Note → ℕ
covered_keys note = note.hi - note.lo

-- how many families a store has with root keys that a note covers
abbrev pub stored_in : StoreValue → Note → ℕ
stored_in store note = length (families_between store note.lo note.hi)
