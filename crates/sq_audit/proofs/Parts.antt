-- There is just one link wherever a range moves.
use Rattle.std.proofs.Common.{◌≡◌, inl, inr, ⊎_elim, ℕ, zero, suc, ◌+◌, ◌<◌, ◌≤◌, ◌==◌, ◌||◌, Bool, true, List, [], ◌∷◌, length, take, drop, slice_get, Some, None, refl, sym, ap, ◌∙◌, subst, arith, true≢false, eqb-true, eq-eqb}
use Rattle.std.specs.Prelude.{cond, count_by, position, is_some, not, nat_lt}
use Rattle.std.specs.List.{prefix_len, list_any}
use Rattle.std.proofs.lemmas.Bool.{cases_Bool, cases_lt, and_parts, and_from, lt-ltb, le-ltb}
use Rattle.sq_gather.specs.Prelude.{Link, ReconValue, AreLinks, is_link, stage_on, OpeningValue, is_link_in, GatheredLink, HasEachLink}
use Rattle.sq_gather.proofs.Prelude.{Contains-slice_get, slice_get-Contains, list_any-Contains, any_in}
use Rattle.sq_gather.specs.Gathered.{closed_ends}
use Rattle.sq_audit.specs.Fits.{is_of_link, AreKnownLinks, HaveOneEach}
use Rattle.sq_audit.proofs.Lists.{counted, count_parts, at_dropped}
use Rattle.sq_audit.proofs.Knowing.{count_first}

-- what passes a test is counted, and has a position
at_counted : {X : Type 0} (p : X → Bool) (xs : List X) (k : ℕ) (x : X) → slice_get xs k ≡ Some x → p x ≡ true → 1 ≤ count_by p xs
at_counted p [] k x at passes = absurd cc
at_counted p (y ∷ xs) zero x at passes =
    let same : y ≡ x = cc in
    let first = count_first p y xs ∙ ap (λ b. cond b 1 0 + count_by p xs) (ap p same ∙ passes) in
    omega (arith, first)
at_counted p (y ∷ xs) (suc k) x at passes =
    let first = count_first p y xs in
    let rest = at_counted p xs k x at passes in
    omega (arith, first, rest)

pub at_taken : {X : Type 0} (xs : List X) (i k : ℕ) (x : X) → slice_get xs k ≡ Some x → k < i → slice_get (take i xs) k ≡ Some x
at_taken [] i k x at below = absurd cc
at_taken (y ∷ xs) zero k x at below = absurd (omega (arith, below))
at_taken (y ∷ xs) (suc i) zero x at below = at
at_taken (y ∷ xs) (suc i) (suc k) x at below = at_taken xs i k x at (omega (arith, below))

not_before : {X : Type 0} (p : X → Bool) (xs : List X) → count_by p xs ≡ 1 → (i j : ℕ) (x y : X) → slice_get xs i ≡ Some x → slice_get xs j ≡ Some y → p x ≡ true → p y ≡ true → i < j → ⊥
not_before p xs once i j x y at there passes also before =
    let one = at_counted p (take j xs) i x (at_taken xs j i x at before) passes in
    let two = at_counted p (drop j xs) 0 y (at_dropped xs j 0 y (subst (λ n. slice_get xs n ≡ Some y) (let e : j ≡ j + 0 = omega arith in e) there)) also in
    let all = count_parts p xs j in
    omega (arith, once, one, two, all)

pub counted_once : {X : Type 0} (p : X → Bool) (xs : List X) → count_by p xs ≡ 1 → (i j : ℕ) (x y : X) → slice_get xs i ≡ Some x → slice_get xs j ≡ Some y → p x ≡ true → p y ≡ true → i ≡ j
counted_once p xs once i j x y at there passes also =
    ⊎_elim
    (λ before. absurd (not_before p xs once i j x y at there passes also before))
    (λ from. ⊎_elim (λ after. absurd (not_before p xs once j i y x there at also passes after)) (λ upto. omega (arith, from, upto)) (cases_lt j i))
    (cases_lt i j)

pub at_most_once : {X : Type 0} (p : X → Bool) (xs : List X) → ((i j : ℕ) (x y : X) → slice_get xs i ≡ Some x → slice_get xs j ≡ Some y → p x ≡ true → p y ≡ true → i ≡ j) → count_by p xs ≤ 1
at_most_once p [] alone = omega arith
at_most_once p (x ∷ xs) alone =
    let first = count_first p x xs in
    elim (cases_Bool (p x)) [
      | inl passes ↦
          let one : count_by p (x ∷ xs) ≡ 1 + count_by p xs = first ∙ ap (λ b. cond b 1 0 + count_by p xs) passes in
          ⊎_elim
          (λ some.
          let more = counted p xs some in
          let same = alone 0 (suc more.place) x more.one refl more.there passes more.passes in
          absurd (omega (arith, same)))
          (λ none. omega (arith, one, none))
          (cases_lt 0 (count_by p xs))
      | inr fails ↦
          let none : count_by p (x ∷ xs) ≡ 0 + count_by p xs = first ∙ ap (λ b. cond b 1 0 + count_by p xs) fails in
          let rest = at_most_once p xs (λ i j y z at there passes also. let same = alone (suc i) (suc j) y z at there passes also in omega (arith, same)) in
          omega (arith, none, rest)
    ]

-- a test has a position exactly where something passes it
before_end : {X : Type 0} (p : X → Bool) (xs : List X) → nat_lt (prefix_len (λ x. not (p x)) xs) (length xs) ≡ list_any p xs
before_end p [] = refl
before_end p (x ∷ xs) =
    let rest = prefix_len (λ y. not (p y)) xs in
    elim (cases_Bool (p x)) [
      | inl passes ↦ ap (λ b. nat_lt (cond (not b) (1 + rest) 0) (suc (length xs))) passes ∙ lt-ltb 0 (suc (length xs)) (omega arith) ∙ ap (λ b. b || list_any p xs) (sym passes)
      | inr fails ↦
          ap (λ b. nat_lt (cond (not b) (1 + rest) 0) (suc (length xs))) fails
          ∙ ⊎_elim
          (λ low. lt-ltb (1 + rest) (suc (length xs)) (omega (arith, low)) ∙ sym (lt-ltb rest (length xs) low))
          (λ from. le-ltb (1 + rest) (suc (length xs)) (omega (arith, from)) ∙ sym (le-ltb rest (length xs) from))
          (cases_lt rest (length xs))
          ∙ before_end p xs ∙ ap (λ b. b || list_any p xs) (sym fails)
    ]

position_any : {X : Type 0} (p : X → Bool) (xs : List X) → is_some (position p xs) ≡ list_any p xs
position_any p xs =
    elim (cases_Bool (nat_lt (prefix_len (λ x. not (p x)) xs) (length xs))) [
      | inl some ↦ ap (λ b. is_some (cond b (Some (prefix_len (λ x. not (p x)) xs)) None)) some ∙ sym some ∙ before_end p xs
      | inr none ↦ ap (λ b. is_some (cond b (Some (prefix_len (λ x. not (p x)) xs)) None)) none ∙ sym none ∙ before_end p xs
    ]

module _ (o : OpeningValue) (stage : ℕ) (gathered : List GatheredLink) (links : List Link) (are : AreLinks o.recon.ranges links) where
  passes_ends : (at : GatheredLink) (link : Link) → at.src ≡ link.src → at.dst ≡ link.dst → is_of_link link at ≡ true
  passes_ends at link src dst = and_from (at.src == link.src) (at.dst == link.dst) (eq-eqb at.src link.src src) (eq-eqb at.dst link.dst dst)

  -- a link of the stage is one of these links, and of the stage
  of_both : (src dst : ℕ) → is_link o.recon.ranges src dst ≡ true → stage_on o.recon src dst ≡ stage → is_link_in o stage src dst ≡ true
  of_both src dst linked here = and_from (is_link o.recon.ranges src dst) (stage_on o.recon src dst == stage) linked (eq-eqb (stage_on o.recon src dst) stage here)

  both_of : (src dst : ℕ) → is_link_in o stage src dst ≡ true → (is_link o.recon.ranges src dst ≡ true) × (stage_on o.recon src dst ≡ stage)
  both_of src dst linked =
      let parts = and_parts (is_link o.recon.ranges src dst) (stage_on o.recon src dst == stage) linked in
      (parts.0, eqb-true (stage_on o.recon src dst) stage parts.1)

  pub each_link_from : AreKnownLinks o.recon stage links gathered → HaveOneEach o.recon stage links gathered → HasEachLink o stage gathered
  each_link_from known once =
      record {
        ends = λ src dst. position_any (is_of_link (record { src = src; dst = dst })) gathered ∙ any_is src dst;
        one_each = λ i j one other at there src dst.
            let link = closed_ends one in
            let is = known one (Contains-slice_get gathered i one at) in
            counted_once (is_of_link link) gathered (once link is.0 is.1) i j one other at there (passes_ends one link refl refl) (passes_ends other link (sym src) (sym dst));
      }
    where
      any_is : (src dst : ℕ) → list_any (is_of_link (record { src = src; dst = dst })) gathered ≡ is_link_in o stage src dst
      any_is src dst =
          let link : Link = record { src = src; dst = dst } in
          elim (cases_Bool (is_link_in o stage src dst)) [
            | inl moves ↦
                let both = both_of src dst moves in
                let found = counted (is_of_link link) gathered (let one = once link ((are.all link).1 both.0) both.1 in omega (arith, one)) in
                list_any-Contains (is_of_link link) gathered found.one (Contains-slice_get gathered found.place found.one found.there) found.passes ∙ sym moves
            | inr none ↦
                elim (cases_Bool (list_any (is_of_link link) gathered)) [
                  | inl some ↦
                      let found = any_in (is_of_link link) gathered some in
                      let parts = and_parts (found.0.src == src) (found.0.dst == dst) found.2 in
                      let is = known found.0 found.1 in
                      let moves : is_link_in o stage src dst ≡ true =
                      (λ i. is_link_in o stage (sym (eqb-true found.0.src src parts.0) i) (sym (eqb-true found.0.dst dst parts.1) i)) ∙ of_both found.0.src found.0.dst ((are.all (closed_ends found.0)).0 is.0) is.1 in
                      absurd (true≢false (sym moves ∙ none))
                  | inr nothing ↦ nothing ∙ sym none
                ]
          ]

  pub known_links : HasEachLink o stage gathered → AreKnownLinks o.recon stage links gathered
  known_links each at has =
      let link = closed_ends at in
      let both = both_of at.src at.dst (sym (each.ends at.src at.dst) ∙ position_any (is_of_link link) gathered ∙ list_any-Contains (is_of_link link) gathered at has (passes_ends at link refl refl)) in
      ((are.all link).1 both.0, both.1)

  pub one_of_each : HasEachLink o stage gathered → HaveOneEach o.recon stage links gathered
  one_of_each each link has here =
      let found = any_in (is_of_link link) gathered (sym (position_any (is_of_link link) gathered) ∙ each.ends link.src link.dst ∙ of_both link.src link.dst ((are.all link).0 has) here) in
      let there = slice_get-Contains gathered found.0 found.1 in
      let some = at_counted (is_of_link link) gathered (found.1).0 found.0 there found.2 in
      let few = at_most_once (is_of_link link) gathered
      (λ i j x y at also passes too.
      let one = and_parts (x.src == link.src) (x.dst == link.dst) passes in
      let other = and_parts (y.src == link.src) (y.dst == link.dst) too in
      each.one_each i j x y at also (eqb-true x.src link.src one.0 ∙ sym (eqb-true y.src link.src other.0)) (eqb-true x.dst link.dst one.1 ∙ sym (eqb-true y.dst link.dst other.1))) in
      omega (arith, some, few)

pub same_link : {one other : Link} → one.src ≡ other.src → one.dst ≡ other.dst → one ≡ other
same_link src dst = λ i. record { src = src i; dst = dst i }

-- links of two lists that are those of the same ranges
pub known_again : (o : OpeningValue) (stage : ℕ) (gathered : List GatheredLink) (links others : List Link) → AreLinks o.recon.ranges links → AreLinks o.recon.ranges others → AreKnownLinks o.recon stage links gathered → AreKnownLinks o.recon stage others gathered
known_again o stage gathered links others are also known at has =
    let is = known at has in
    ((also.all (closed_ends at)).1 ((are.all (closed_ends at)).0 is.0), is.1)

-- what holds of a reconfiguration, a stage and links holds of equal ones
pub told_of : (P : ReconValue → ℕ → List GatheredLink → Type 0) (r s : ReconValue) (i j : ℕ) (xs ys : List GatheredLink) → r ≡ s → i ≡ j → xs ≡ ys → P r i xs → P s j ys
told_of P r s i j xs ys recon stage links told = subst (P s j) links (subst (λ k. P s k xs) stage (subst (λ q. P q i xs) recon told))
