-- The place of a partition among those to which another gives keys, found by a walk over the ranges.
use Rattle.std.proofs.Common.{◌≡◌, ◌≢◌, ℕ, suc, ◌+◌, ◌<◌, Bool, true, false, not, ◌==◌, ◌&&◌, ltb, cond, List, [], ◌∷◌, length, get_or, set, replicate, get_or-set_same, get_or-set_other, filter, position, unwrap_or, Some, None, refl, sym, ap, inl, inr, ◌∙◌, arith}
use Rattle.std.specs.List.{prefix_len}
use Rattle.std.proofs.lemmas.Bool.{cases_Bool, cases_lt, cond-true, cond-false, eqb-true, eq-eqb, ltb-true, false≢true}
use Rattle.std.proofs.lemmas.Bool.Decides.{nat_tests}
use Rattle.std.proofs.lemmas.List.{get_or-replicate, get_or_past, length-replicate}
use Rattle.sq_moves.specs.declared.recon.Range.{Range}
use Rattle.sq_moves.specs.ReconValue.{destinations, place_on}

-- the place of the first that is this one, where places count on from here; 0 where none is
abbrev pub found : ℕ → ℕ → List ℕ → ℕ
found n dst [] = 0
found n dst (other ∷ others) = cond (other == dst) n (found (n + 1) dst others)

abbrev is_not : ℕ → ℕ → Bool
is_not dst other = not (other == dst)

found_more : (n : ℕ) (dst other : ℕ) (others : List ℕ) (same : Bool) → other == dst ≡ same → found (n + 1) dst others ≡ cond (ltb (prefix_len (is_not dst) others) (length others)) (n + 1 + prefix_len (is_not dst) others) 0
    → cond same n (found (n + 1) dst others) ≡ cond (ltb (cond (not same) (1 + prefix_len (is_not dst) others) 0) (suc (length others))) (n + cond (not same) (1 + prefix_len (is_not dst) others) 0) 0
found_more n dst other others true is more = grind (arith, ltb-true)
found_more n dst other others false is more = more ∙ grind (arith, nat_tests)

found_by : (n dst : ℕ) (others : List ℕ) → found n dst others ≡ cond (ltb (prefix_len (is_not dst) others) (length others)) (n + prefix_len (is_not dst) others) 0
found_by n dst [] = refl
found_by n dst (other ∷ others) = found_more n dst other others (other == dst) refl (found_by (n + 1) dst others)

-- what a walk finds is the place
place_found : (dst : ℕ) (others : List ℕ) → found 0 dst others ≡ unwrap_or (position (λ other. other == dst) others) 0
place_found dst others = found_by 0 dst others ∙ told (ltb (prefix_len (is_not dst) others) (length others)) (prefix_len (is_not dst) others)
  where
    told : (there : Bool) (n : ℕ) → cond there (0 + n) 0 ≡ unwrap_or (cond there (Some n) None) 0
    told true n = omega arith
    told false n = refl

-- two tests are one
both_pass : (p q r : ℕ → Bool) → ((x : ℕ) → (q x && p x) ≡ r x) → (xs : List ℕ) → filter p (filter q xs) ≡ filter r xs
both_pass p q r both [] = refl
both_pass p q r both (x ∷ xs) =
    let more = both_pass p q r both xs in
    elim (cases_Bool (q x)) [
      | inl passes ↦
          let same : p x ≡ r x = sym (ap (λ a. a && p x) passes) ∙ both x in
          ap (filter p) (cond-true (q x) (x ∷ filter q xs) (filter q xs) passes) ∙ (λ k. cond (same k) (x ∷ more k) (more k))
      | inr fails ↦
          let none : r x ≡ false = sym (both x) ∙ ap (λ a. a && p x) fails in
          ap (filter p) (cond-false (q x) (x ∷ filter q xs) (filter q xs) fails) ∙ more ∙ sym (cond-false (r x) (x ∷ filter r xs) (filter r xs) none)
    ]

-- the partitions that weren't passed
abbrev pub is_unseen : List Bool → ℕ → Bool
is_unseen seen other = not (get_or seen other false)

-- where the walk has passed these, and the rest lies ahead
abbrev pub ahead : List Bool → ℕ → ℕ → ℕ → List Range → ℕ
ahead seen n src dst rest = found n dst (filter (is_unseen seen) (destinations src rest))

pub ahead-other : (seen : List Bool) (n src dst : ℕ) (range : Range) (rest : List Range) → range.src == src ≡ false → ahead seen n src dst (range ∷ rest) ≡ ahead seen n src dst rest
ahead-other seen n src dst range rest other = ap (λ ds. found n dst (filter (is_unseen seen) ds)) (cond-false _ _ _ other)

abbrev others_of : ℕ → List ℕ → List ℕ
others_of first rest = filter (λ dst. not (dst == first)) rest

-- a range of the source leads to its destination, and then to others
ahead-from : (seen : List Bool) (n src dst : ℕ) (range : Range) (rest : List Range) → range.src == src ≡ true → ahead seen n src dst (range ∷ rest) ≡ found n dst (filter (is_unseen seen) (range.dst ∷ others_of range.dst (destinations src rest)))
ahead-from seen n src dst range rest same = ap (λ ds. found n dst (filter (is_unseen seen) ds)) (cond-true (range.src == src) (range.dst ∷ others_of range.dst (destinations src rest)) (destinations src rest) same)

pub ahead-here : (seen : List Bool) (n src dst : ℕ) (range : Range) (rest : List Range) → range.src == src ≡ true → range.dst == dst ≡ true → get_or seen dst false ≡ false → n ≡ ahead seen n src dst (range ∷ rest)
ahead-here seen n src dst range rest same is unseen =
    let fresh : is_unseen seen range.dst ≡ true = ap (λ d. not (get_or seen d false)) (eqb-true _ _ is) ∙ ap not unseen in
    sym (
    ahead-from seen n src dst range rest same
    ∙ ap (found n dst) (cond-true (is_unseen seen range.dst) _ _ fresh) ∙ cond-true _ _ _ is)

pub ahead-seen : (seen : List Bool) (n src dst : ℕ) (range : Range) (rest : List Range) → range.src == src ≡ true → get_or seen range.dst false ≡ true → ahead seen n src dst (range ∷ rest) ≡ ahead seen n src dst rest
ahead-seen seen n src dst range rest same passed =
    let stale : is_unseen seen range.dst ≡ false = ap not passed in
    ahead-from seen n src dst range rest same
    ∙ ap (found n dst) (cond-false (is_unseen seen range.dst) _ _ stale ∙ both_pass (is_unseen seen) (λ d. not (d == range.dst)) (is_unseen seen) tests (destinations src rest))
  where
    tests : (d : ℕ) → (not (d == range.dst) && is_unseen seen d) ≡ is_unseen seen d
    tests d =
        elim (cases_Bool (d == range.dst)) [
          | inl one ↦ ap (λ a. not a && is_unseen seen d) one ∙ sym (ap (λ (e : ℕ). is_unseen seen e) (eqb-true _ _ one) ∙ ap not passed)
          | inr apart ↦ ap (λ a. not a && is_unseen seen d) apart
        ]

pub ahead-new : (seen : List Bool) (n src dst : ℕ) (range : Range) (rest : List Range) → range.src == src ≡ true → range.dst == dst ≡ false → get_or seen range.dst false ≡ false → range.dst < length seen
    → ahead seen n src dst (range ∷ rest) ≡ ahead (set seen range.dst true) (n + 1) src dst rest
ahead-new seen n src dst range rest same apart fresh low =
    let first : is_unseen seen range.dst ≡ true = ap not fresh in
    ahead-from seen n src dst range rest same
    ∙ ap (found n dst) (cond-true (is_unseen seen range.dst) _ _ first)
    ∙ cond-false _ _ _ apart
    ∙ ap (found (n + 1) dst) (both_pass (is_unseen seen) (λ d. not (d == range.dst)) (is_unseen (set seen range.dst true)) tests (destinations src rest))
  where
    tests : (d : ℕ) → (not (d == range.dst) && is_unseen seen d) ≡ is_unseen (set seen range.dst true) d
    tests d =
        elim (cases_Bool (d == range.dst)) [
          | inl one ↦
              let is : d ≡ range.dst = eqb-true _ _ one in
              ap (λ a. not a && is_unseen seen d) one ∙ sym (ap (λ (e : ℕ). is_unseen (set seen range.dst true) e) is ∙ ap not (get_or-set_same seen range.dst true false low))
          | inr other ↦
              let ne : d ≢ range.dst = λ is. false≢true (sym other ∙ eq-eqb _ _ is) in
              ap (λ a. not a && is_unseen seen d) other ∙ sym (ap not (get_or-set_other seen range.dst d true false ne))
        ]

-- before the walk nothing was passed
pub none_seen : (size d : ℕ) → get_or (replicate size false) d false ≡ false
none_seen size d =
    elim (cases_lt d size) [
      | inl low ↦ get_or-replicate size d false false low
      | inr past ↦ get_or_past (replicate size false) d false (omega (arith, length-replicate size false))
    ]

pub ahead-first : (size src dst : ℕ) (ranges : List Range) → ahead (replicate size false) 0 src dst ranges ≡ place_on ranges src dst
ahead-first size src dst ranges = ap (found 0 dst) (none_passed (destinations src ranges)) ∙ place_found dst (destinations src ranges)
  where
    none_passed : (ds : List ℕ) → filter (is_unseen (replicate size false)) ds ≡ ds
    none_passed [] = refl
    none_passed (d ∷ ds) = cond-true _ _ _ (ap not (none_seen size d)) ∙ ap (λ (rest : List ℕ). d ∷ rest) (none_passed ds)
