-- The notes of one link.
use Rattle.std.proofs.Common.{◌≡◌, ℕ, true, ◌==◌, ◌&&◌, List, ◌∷◌, Contains}
use Rattle.std.proofs.lemmas.Bool.{and_parts, and_from, eqb-true, eq-eqb, cond_both}
use Rattle.sq_store.specs.declared.chunk.Note.{Note}
use Rattle.sq_model.specs.Trace.{link}
use Rattle.sq_model.proofs.Lists.{kept_in, Contains-filter}

-- the note is of this link
pub record IsOf (src dst : ℕ) (note : Note) : Type 0 where
  pub source : note.src ≡ src
  pub destination : note.dst ≡ dst

is_of_test : (src dst : ℕ) (note : Note) → ((note.src == src) && (note.dst == dst)) ≡ true → IsOf src dst note
is_of_test src dst note test =
    let parts = and_parts (note.src == src) (note.dst == dst) test in
    record { source = eqb-true note.src src parts.0; destination = eqb-true note.dst dst parts.1 }

test_is_of : (src dst : ℕ) (note : Note) → IsOf src dst note → ((note.src == src) && (note.dst == dst)) ≡ true
test_is_of src dst note is = and_from (note.src == src) (note.dst == dst) (eq-eqb note.src src is.source) (eq-eqb note.dst dst is.destination)

pub link_has : (src dst : ℕ) (notes : List Note) (note : Note) → Contains (link src dst notes) note → Contains notes note × IsOf src dst note
link_has src dst notes note has =
    let kept = kept_in (λ (other : Note). (other.src == src) && (other.dst == dst)) notes note has in
    (kept.0, is_of_test src dst note kept.1)

pub Contains-link : (src dst : ℕ) (notes : List Note) (note : Note) → Contains notes note → IsOf src dst note → Contains (link src dst notes) note
Contains-link src dst notes note has is = Contains-filter (λ (other : Note). (other.src == src) && (other.dst == dst)) notes note has (test_is_of src dst note is)

-- one more note is of the link, or isn't
pub link_at : (P : List Note → Type 0) (src dst : ℕ) (note : Note) (notes : List Note) → (IsOf src dst note → P (note ∷ link src dst notes)) → P (link src dst notes) → P (link src dst (note ∷ notes))
link_at P src dst note notes more same =
    cond_both ((note.src == src) && (note.dst == dst)) (note ∷ link src dst notes) (link src dst notes) P
    (λ test. more (is_of_test src dst note test)) (λ other. same)
