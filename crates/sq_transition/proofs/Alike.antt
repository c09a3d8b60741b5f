-- What a history says of chunks.
use Rattle.std.proofs.Common.{⊎_elim, ◌≡◌, ◌≢◌, ℕ, ◌+◌, ◌<◌, ◌≤◌, true, if◌then◌else◌, List, [], ◌∷◌, Some, None, refl, sym, ap, ◌∙◌, arith}
use Rattle.std.proofs.lemmas.Bool.{cases_eq, cases_lt, eq-eqb, ne_eqb}
use Rattle.sq_schema.specs.Family.{FamilyValue}
use Rattle.sq_store.specs.ChunkValue.{ChunkValue, covers, are_within}
use Rattle.sq_store.specs.StoreValue.{family_in}
use Rattle.sq_store.proofs.Rising.{Rises, rises, none_below}
use Rattle.sq_moves.specs.OpeningValue.{OpeningValue}
use Rattle.sq_model.specs.Trace.{Trace}
use Rattle.sq_transition.specs.Holds.{ChunkHolds, share}

-- the first of rising families is the one of its root key
at_first : (family : FamilyValue) (families : List FamilyValue) (root : ℕ) → family.root ≡ root → family_in (family ∷ families) root ≡ Some family
at_first family families root same = ap (λ b. if b then Some family else family_in families root) (eq-eqb family.root root same)

at_others : (family : FamilyValue) (families : List FamilyValue) (root : ℕ) → family.root ≢ root → family_in (family ∷ families) root ≡ family_in families root
at_others family families root apart = ap (λ b. if b then Some family else family_in families root) (ne_eqb family.root root apart)

-- below the first root key there is none
before_first : (lo hi : ℕ) (family : FamilyValue) (families : List FamilyValue) → Rises lo hi family families → (root : ℕ) → root < family.root → family_in (family ∷ families) root ≡ None
before_first lo hi family families r root below =
    at_others family families root (λ same. absurd (omega (arith, same, below))) ∙ none_below (family.root + 1) hi families root r.rest (omega (arith, below))

-- rising families are those that each root key has
same_families : (lo hi from upto : ℕ) (ones others : List FamilyValue) → are_within lo hi ones ≡ true → are_within from upto others ≡ true
    → ((root : ℕ) → family_in ones root ≡ family_in others root) → ones ≡ others
same_families lo hi from upto [] [] rising also same = refl
same_families lo hi from upto [] (other ∷ others) rising also same =
    let none : None ≡ Some other = same other.root ∙ at_first other others other.root refl in
    absurd cc
same_families lo hi from upto (one ∷ ones) [] rising also same =
    let none : Some one ≡ None = sym (at_first one ones one.root refl) ∙ same one.root in
    absurd cc
same_families lo hi from upto (one ∷ ones) (other ∷ others) rising also same =
    let a = rises lo hi one ones rising in
    let b = rises from upto other others also in
    let roots : one.root ≡ other.root =
    ⊎_elim
    (λ (below : one.root < other.root).
    let none : Some one ≡ None = sym (at_first one ones one.root refl) ∙ same one.root ∙ before_first from upto other others b one.root below in
    absurd cc)
    (λ (past : other.root ≤ one.root).
    ⊎_elim
    (λ (above : other.root < one.root).
    let none : None ≡ Some other = sym (before_first lo hi one ones a other.root above) ∙ same other.root ∙ at_first other others other.root refl in
    absurd cc)
    (λ (upto : one.root ≤ other.root). omega (arith, past, upto))
    (cases_lt other.root one.root))
    (cases_lt one.root other.root) in
    let firsts : Some one ≡ Some other = sym (at_first one ones one.root refl) ∙ same one.root ∙ at_first other others one.root (sym roots) in
    let first : one ≡ other = cc in
    let rest : (root : ℕ) → family_in ones root ≡ family_in others root =
    λ root.
    ⊎_elim
    (λ (here : one.root ≡ root).
    none_below (one.root + 1) hi ones root a.rest (omega (arith, here)) ∙ sym (none_below (other.root + 1) upto others root b.rest (omega (arith, here, roots))))
    (λ (apart : one.root ≢ root).
    sym (at_others one ones root apart) ∙ same root ∙ at_others other others root (λ again. apart (roots ∙ again)))
    (cases_eq one.root root) in
    λ k. first k ∷ same_families (one.root + 1) hi (other.root + 1) upto ones others a.rest b.rest rest k

-- a chunk is the one that the history has for its note
pub chunk_is : (o : OpeningValue) (t : Trace) (one other : ChunkValue) → ChunkHolds o t one → ChunkHolds o t other → one.note ≡ other.note → one ≡ other
chunk_is o t one other holds also same =
    let families = same_families one.note.lo one.note.hi other.note.lo other.note.hi one.families other.families holds.rising also.rising
    (λ root. holds.families root ∙ ap (λ note. share o t (covers note) root) same ∙ sym (also.families root)) in
    λ k. record { note = same k; families = families k }
