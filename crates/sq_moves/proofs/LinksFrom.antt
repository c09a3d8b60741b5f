-- The places of links among those that there are for ranges.
use Rattle.std.proofs.Common.{◌≡◌, ℕ, ◌<◌, ◌≤◌, Bool, true, ◌&&◌, ◌==◌, List, length, get_or, map, Option, Some, None, refl, sym, ap, ◌∙◌, subst, ⊎_elim, arith}
use Rattle.std.specs.Prelude.{slice_get, position, is_some, Contains}
use Rattle.std.specs.Cmp.{nat_cmp_is}
use Rattle.std.specs.declared.cmp.Ordering.{Ordering}
use Rattle.std.specs.declared.cmp.Ordering.TheVariants.{Less, Equal}
use Rattle.std.specs.Ordering.{nat_cmp, ordering_then}
use Rattle.std.proofs.lemmas.Bool.{false_from_ne_true, cases_lt, and_parts, and_from, eq-eqb, eqb-true}
use Rattle.std.proofs.lemmas.List.{length-map, get_or-map, get_or_default}
use Rattle.std.proofs.lemmas.List.Elements.{Contains-get_or}
use Rattle.std.proofs.lemmas.List.Quantifiers.{position-Some}
use Rattle.std.proofs.lemmas.Map.Keys.{Less-from_sorted}
use Rattle.std.proofs.lemmas.Option.{slice_get_within, slice_get-get_or, get_or_from_slice_get}
use Rattle.sq_moves.specs.declared.recon.Range.{Range}
use Rattle.sq_moves.specs.declared.recon.Link.{Link}
use Rattle.sq_moves.specs.ReconValue.{is_link, link_cmp, AreLinks}
use Rattle.sq_moves.proofs.Found.{position_at}
use Rattle.sq_moves.proofs.Bools.{same_test}

abbrev no_ends : Link
no_ends = record { src = 0; dst = 0 }

-- of things that have the ends of the ranges' links, in the links' order
module _ {X : Type 0} (ends : X → Link) (ranges : List Range) (links : List X) (none : X) (are : AreLinks ranges (map ends links)) where
  abbrev joins : ℕ → ℕ → X → Bool
  joins src dst link = ((ends link).src == src) && ((ends link).dst == dst)

  ends_at : (i : ℕ) → i < length links → get_or (map ends links) i no_ends ≡ ends (get_or links i none)
  ends_at i lt = get_or-map ends links i none no_ends lt

  -- none comes before another with its ends
  not_twice : (i j : ℕ) → i < j → j < length links → (ends (get_or links i none)).src ≡ (ends (get_or links j none)).src → (ends (get_or links i none)).dst ≡ (ends (get_or links j none)).dst → ⊥
  not_twice i j before low same_src same_dst =
      let one = ends (get_or links i none) in
      let other = ends (get_or links j none) in
      let less : link_cmp one other ≡ Less
      = (λ k. link_cmp (sym (ends_at i (omega arith)) k) (sym (ends_at j low) k))
      ∙ Less-from_sorted link_cmp (map ends links) i j no_ends are.rising before (omega (arith, length-map links ends)) in
      let ties : link_cmp one other ≡ Equal =
      ap (λ (r : Ordering). ordering_then r (nat_cmp one.dst other.dst)) (sym (nat_cmp_is one.src other.src Equal same_src)) ∙ sym (nat_cmp_is one.dst other.dst Equal same_dst) in
      apart (sym less ∙ ties)
    where
      apart : Less ≡ Equal → ⊥
      apart e = cc

  pub one_at : (i j : ℕ) → i < length links → j < length links → (ends (get_or links i none)).src ≡ (ends (get_or links j none)).src → (ends (get_or links i none)).dst ≡ (ends (get_or links j none)).dst → i ≡ j
  one_at i j low_i low_j same_src same_dst =
      ⊎_elim
      (λ (before : i < j). absurd (not_twice i j before low_j same_src same_dst))
      (λ (not_before : j ≤ i).
      ⊎_elim
      (λ (after : j < i). absurd (not_twice j i after low_i (sym same_src) (sym same_dst)))
      (λ (not_after : i ≤ j). omega arith)
      (cases_lt j i))
      (cases_lt i j)

  pub one_each : (i j : ℕ) (one other : X) → slice_get links i ≡ Some one → slice_get links j ≡ Some other → (ends one).src ≡ (ends other).src → (ends one).dst ≡ (ends other).dst → i ≡ j
  one_each i j one other one_there other_there same_src same_dst =
      let one_is : get_or links i none ≡ one = get_or_from_slice_get links i one none one_there in
      let other_is : get_or links j none ≡ other = get_or_from_slice_get links j other none other_there in
      one_at i j (slice_get_within links i one one_there) (slice_get_within links j other other_there)
      (ap (λ (x : X). (ends x).src) one_is ∙ same_src ∙ ap (λ (x : X). (ends x).src) (sym other_is))
      (ap (λ (x : X). (ends x).dst) one_is ∙ same_dst ∙ ap (λ (x : X). (ends x).dst) (sym other_is))

  -- it is found at its place
  pub stands_from : (i : ℕ) (link : X) → slice_get links i ≡ Some link → position (joins (ends link).src (ends link).dst) links ≡ Some i
  stands_from i link there =
      let low = slice_get_within links i link there in
      let is : get_or links i none ≡ link = get_or_from_slice_get links i link none there in
      position_at (joins (ends link).src (ends link).dst) links i none low
      (ap (joins (ends link).src (ends link).dst) is ∙ and_from ((ends link).src == (ends link).src) ((ends link).dst == (ends link).dst) (eq-eqb (ends link).src (ends link).src refl) (eq-eqb (ends link).dst (ends link).dst refl))
      (λ k before. false_from_ne_true (joins (ends link).src (ends link).dst (get_or links k none))
      (λ passes.
      let parts = and_parts ((ends (get_or links k none)).src == (ends link).src) ((ends (get_or links k none)).dst == (ends link).dst) passes in
      not_twice k i before low (eqb-true (ends (get_or links k none)).src (ends link).src parts.0 ∙ ap (λ (x : X). (ends x).src) (sym is))
      (eqb-true (ends (get_or links k none)).dst (ends link).dst parts.1 ∙ ap (λ (x : X). (ends x).dst) (sym is))))

  -- what is found has the ends that were sought
  pub found_from : (src dst i : ℕ) → position (joins src dst) links ≡ Some i → (link : X) × (slice_get links i ≡ Some link) × ((ends link).src ≡ src) × ((ends link).dst ≡ dst)
  found_from src dst i found =
      let facts = position-Some (joins src dst) links i none found in
      let link = get_or links i none in
      let parts = and_parts ((ends link).src == src) ((ends link).dst == dst) facts.1 in
      (link, slice_get-get_or links i none facts.0, eqb-true (ends link).src src parts.0, eqb-true (ends link).dst dst parts.1)

  linked_at : (src dst : ℕ) (found : Option ℕ) → position (joins src dst) links ≡ found → is_some found ≡ true → is_link ranges src dst ≡ true
  linked_at src dst None e some = absurd cc
  linked_at src dst (Some i) e some =
      let at = found_from src dst i e in
      let low = slice_get_within links i at.0 at.1 in
      let has : Contains (map ends links) (ends at.0)
      = subst (Contains (map ends links)) (ends_at i low ∙ ap ends (get_or_from_slice_get links i at.0 none at.1)) (Contains-get_or (map ends links) i no_ends (omega (arith, length-map links ends))) in
      (λ k. is_link ranges (sym at.2 k) (sym at.3 k)) ∙ (are.all (ends at.0)).0 has

  at_linked : (src dst : ℕ) → is_link ranges src dst ≡ true → is_some (position (joins src dst) links) ≡ true
  at_linked src dst linked =
      let there : Contains (map ends links) (record { src = src; dst = dst }) = (are.all (record { src = src; dst = dst })).1 linked in
      let low : there.0 < length links = let lt = there.1 in omega (arith, length-map links ends) in
      let link = get_or links there.0 none in
      let ends_are : ends link ≡ record { src = src; dst = dst } = sym (ends_at there.0 low) ∙ get_or_default (map ends links) there.0 no_ends (record { src = src; dst = dst }) there.1 ∙ there.2 in
      (λ k. is_some (position (joins (sym (ap (λ (l : Link). l.src) ends_are) k) (sym (ap (λ (l : Link). l.dst) ends_are) k)) links))
      ∙ ap is_some (stands_from there.0 link (slice_get-get_or links there.0 none low))

  -- it is found just where a range leads
  pub each_link : (src dst : ℕ) → is_some (position (joins src dst) links) ≡ is_link ranges src dst
  each_link src dst = same_test (is_some (position (joins src dst) links)) (is_link ranges src dst) (linked_at src dst (position (joins src dst) links) refl) (at_linked src dst)
