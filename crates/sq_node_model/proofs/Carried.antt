-- The families of a chunk.
use Rattle.std.proofs.Common.{◌≡◌, ⊎_elim, ℕ, ◌+◌, ◌≤◌, ◌<◌, true, nat_le, nat_lt, if◌then◌else◌, List, [], ◌∷◌, Some, sym, ap, ◌∙◌, arith}
use Rattle.std.proofs.lemmas.Bool.{and_from, le-leb, lt-ltb}
use Rattle.std.proofs.lemmas.Bool.Decides.{eqb_tells}
use Rattle.sq_schema.specs.Family.{FamilyValue}
use Rattle.sq_store.specs.StoreValue.{family_in}
use Rattle.sq_store.proofs.Rising.{rises}
use Rattle.sq_store.specs.ChunkValue.{ChunkValue, covers, are_within}
use Rattle.sq_node_model.specs.FamiliesHold.{IsCarried}

-- a family of rising ones lies between their bounds
found_within : (lo hi : ℕ) (families : List FamilyValue) (root : ℕ) (family : FamilyValue) → are_within lo hi families ≡ true → family_in families root ≡ Some family → (lo ≤ root) × (root < hi)
found_within lo hi [] root family rise found = absurd cc
found_within lo hi (first ∷ families) root family rise found =
    let r = rises lo hi first families rise in
    let low = r.low in
    let high = r.high in
    ⊎_elim
    (λ here. (omega (arith, here.1), omega (arith, here.1)))
    (λ other.
    let later = found_within (first.root + 1) hi families root family r.rest (sym (ap (λ b. if b then Some first else family_in families root) other.0) ∙ found) in
    (omega (arith, later.0), later.1))
    (eqb_tells first.root root)

-- a chunk has families of its note's keys alone
pub carried_covered : (chunk : ChunkValue) (root : ℕ) (family : FamilyValue) → are_within chunk.note.lo chunk.note.hi chunk.families ≡ true → IsCarried chunk root family → covers chunk.note root ≡ true
carried_covered chunk root family rise found =
    let within = found_within chunk.note.lo chunk.note.hi chunk.families root family rise found in
    and_from (nat_le chunk.note.lo root) (nat_lt root chunk.note.hi) (le-leb chunk.note.lo root within.0) (lt-ltb root chunk.note.hi within.1)
