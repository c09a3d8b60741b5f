-- Notes of a link that are numbered from 0.
use Rattle.std.proofs.Common.{◌≡◌, inl, inr, ℕ, suc, ◌<◌, ◌≤◌, Bool, ◌==◌, List, [], ◌∷◌, ◌++◌, length, find, Contains, Some, sym, ap, ◌∙◌, subst, length-append, arith}
use Rattle.std.proofs.lemmas.Bool.{cases_Bool, cond-true, cond-false, eqb-true, eq-eqb, ne_eqb}
use Rattle.std.proofs.lemmas.List.{nil_from_length}
use Rattle.sq_store.specs.declared.chunk.Note.{Note}
use Rattle.sq_model.specs.Orderly.{AreNumbered}
use Rattle.sq_model.proofs.Lists.{Contains-nothing, Contains-cases, found_in}

abbrev has_number : ℕ → Note → Bool
has_number number note = note.number == number

-- each number is below how many there are
pub number_below : (ns : List Note) → AreNumbered ns → (note : Note) → Contains ns note → note.number < length ns
number_below [] numbered note has = absurd (Contains-nothing note has)
number_below (next ∷ ns) numbered note has =
    elim (Contains-cases next ns note has) [
      | inl same ↦ subst (λ (k : Note). k.number < suc (length ns)) same (omega (arith, numbered.0))
      | inr older ↦ omega (arith, number_below ns numbered.1 note older)
    ]

pub numbered_rest : (front ns : List Note) → AreNumbered (front ++ ns) → AreNumbered ns
numbered_rest [] ns numbered = numbered
numbered_rest (note ∷ front) ns numbered = numbered_rest front ns numbered.1

-- the note whose number is how many came before it is the one right after them
pub find_next : (front : List Note) (note : Note) (ns : List Note) → AreNumbered (front ++ note ∷ ns) → find (λ other. other.number == length ns) (front ++ note ∷ ns) ≡ Some note
find_next [] note ns numbered = cond-true (note.number == length ns) (Some note) (find (has_number (length ns)) ns) (eq-eqb note.number (length ns) numbered.0)
find_next (next ∷ front) note ns numbered =
    cond-false (next.number == length ns) (Some next) (find (has_number (length ns)) (front ++ note ∷ ns))
    (ne_eqb next.number (length ns) (λ e. omega (arith, e, numbered.0, length-append front (note ∷ ns))))
    ∙ find_next front note ns numbered.1

-- and it is among those that come after them
pub found_next : (way ns : List Note) (note : Note) → AreNumbered (way ++ ns) → find (λ other. other.number == length ns) (way ++ ns) ≡ Some note → (front : List Note) × (way ≡ front ++ note ∷ [])
found_next [] ns note numbered found =
    let at = found_in (has_number (length ns)) ns note found in
    absurd (omega (arith, number_below ns numbered note at.0, eqb-true note.number (length ns) at.1))
found_next (next ∷ way) ns note numbered found =
    elim (cases_Bool (next.number == length ns)) [
      | inl here ↦
          let none : length way ≡ 0 = omega (arith, eqb-true next.number (length ns) here, numbered.0, length-append way ns) in
          let same : next ≡ note = let e = sym (cond-true (next.number == length ns) (Some next) (find (has_number (length ns)) (way ++ ns)) here) ∙ found in cc in
          ([], ap (λ rest. next ∷ rest) (nil_from_length way none) ∙ ap (λ n. n ∷ []) same)
      | inr other ↦
          let rest = found_next way ns note numbered.1 (sym (cond-false (next.number == length ns) (Some next) (find (has_number (length ns)) (way ++ ns)) other) ∙ found) in
          (next ∷ rest.0, ap (λ more. next ∷ more) rest.1)
    ]

-- notes that come after others have numbers from how many those are on
pub number_from : (way ns : List Note) → AreNumbered (way ++ ns) → (note : Note) → Contains way note → length ns ≤ note.number
number_from [] ns numbered note has = absurd (Contains-nothing note has)
number_from (next ∷ way) ns numbered note has =
    elim (Contains-cases next way note has) [
      | inl same ↦ subst (λ (k : Note). length ns ≤ k.number) same (omega (arith, numbered.0, length-append way ns))
      | inr older ↦ number_from way ns numbered.1 note older
    ]
