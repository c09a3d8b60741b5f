use Rattle.std.proofs.Common.{◌≡◌, ℕ, ◌+◌, ◌<◌, true, slice_get, Some}
use Rattle.sq_gather.specs.Prelude.{ChunkValue, are_within}
use Rattle.sq_audit.proofs.Each.{EachTo}
use Rattle.sq_audit.proofs.notes.are_of_last.Given as goal

-- the notes of the chunks so far follow those of what was loaded
abbrev pub invariant-loop-at : goal.invariant-loop-at
invariant-loop-at l = record {
  last : (i : ℕ) (chunk : ChunkValue) → i < l.at → slice_get l.chunks i ≡ Some chunk → slice_get l.notes (l.loaded + i) ≡ Some chunk.note;
  within : EachTo (λ (chunk : ChunkValue). are_within chunk.note.lo chunk.note.hi chunk.families ≡ true) l.chunks l.at;
}
