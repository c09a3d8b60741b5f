-- How many elements of a list pass a test, where those that do are one at each place below a number.
use Rattle.std.proofs.Common.{◌≡◌, inl, inr, ℕ, zero, suc, ◌+◌, ◌<◌, ◌≤◌, ◌==◌, Bool, true, false, List, [], ◌∷◌, Contains, refl, sym, ap, ◌∙◌, eq-eqb, arith}
use Rattle.std.specs.Prelude.{◌&&◌, cond, nat_lt, count_by, if◌then◌else◌}
use Rattle.std.proofs.lemmas.Bool.{cases_Bool, cases_eq, ne_eqb, lt-ltb, ltb-true}
use Rattle.sq_model.proofs.Lists.{Contains-cases, Contains-first, Contains-later, Contains-nothing}
use Rattle.sq_audit.proofs.Knowing.{count_first}

and_false : (a b : Bool) → b ≡ false → (a && b) ≡ false
and_false true b fails = fails
and_false false b fails = refl

-- what is there and passes counts
counted_some : {X : Type 0} (p : X → Bool) (xs : List X) (x : X) → Contains xs x → p x ≡ true → 1 ≤ count_by p xs
counted_some p [] x has passes = absurd (Contains-nothing x has)
counted_some p (y ∷ ys) x has passes = elim (Contains-cases y ys x has) [
  | inl here ↦
      let first = count_first p y ys ∙ ap (λ b. cond b 1 0 + count_by p ys) (ap p here ∙ passes) in
      omega (arith, first)
  | inr later ↦
      let rest = counted_some p ys x later passes in
      let first = count_first p y ys in
      omega (arith, first, rest)
]

module _ {X : Type 0} (passes : X → Bool) (place : X → ℕ) where
  abbrev pub passes_at : ℕ → X → Bool
  passes_at p x = passes x && (place x == p)

  -- how many pass at the places below a number
  abbrev below : ℕ → List X → ℕ
  below zero xs = 0
  below (suc n) xs = below n xs + count_by (passes_at n) xs

  below_none : (n : ℕ) → below n [] ≡ 0
  below_none zero = refl
  below_none (suc n) =
      let rest = below_none n in
      let none : count_by (passes_at n) [] ≡ 0 = refl in
      omega (arith, rest, none)

  below_fails : (x : X) (xs : List X) → passes x ≡ false → (n : ℕ) → below n (x ∷ xs) ≡ below n xs
  below_fails x xs fails zero = refl
  below_fails x xs fails (suc n) =
      let rest = below_fails x xs fails n in
      let first : count_by (passes_at n) (x ∷ xs) ≡ 0 + count_by (passes_at n) xs =
      count_first (passes_at n) x xs ∙ ap (λ (b : Bool). cond (b && (place x == n)) 1 0 + count_by (passes_at n) xs) fails in
      omega (arith, rest, first)

  below_above : (x : X) (xs : List X) (n : ℕ) → n ≤ place x → below n (x ∷ xs) ≡ below n xs
  below_above x xs zero le = refl
  below_above x xs (suc n) le =
      let rest = below_above x xs n (omega (arith, le)) in
      let apart = and_false (passes x) (place x == n) (ne_eqb (place x) n (λ same. omega (arith, le, same))) in
      let first : count_by (passes_at n) (x ∷ xs) ≡ 0 + count_by (passes_at n) xs =
      count_first (passes_at n) x xs ∙ ap (λ (b : Bool). cond b 1 0 + count_by (passes_at n) xs) apart in
      omega (arith, rest, first)

  below_passes : (x : X) (xs : List X) → passes x ≡ true → (n : ℕ) → place x < n → below n (x ∷ xs) ≡ 1 + below n xs
  below_passes x xs does zero lt = absurd (omega (arith, lt))
  below_passes x xs does (suc n) lt = elim (cases_eq (place x) n) [
    | inl same ↦
        let rest = below_above x xs n (omega (arith, same)) in
        let here : passes_at n x ≡ true = ap (λ (b : Bool). b && (place x == n)) does ∙ eq-eqb (place x) n same in
        let first : count_by (passes_at n) (x ∷ xs) ≡ 1 + count_by (passes_at n) xs =
        count_first (passes_at n) x xs ∙ ap (λ (b : Bool). cond b 1 0 + count_by (passes_at n) xs) here in
        omega (arith, rest, first)
    | inr apart ↦
        let rest = below_passes x xs does n (omega (arith, lt, apart)) in
        let here : passes_at n x ≡ false = and_false (passes x) (place x == n) (ne_eqb (place x) n apart) in
        let first : count_by (passes_at n) (x ∷ xs) ≡ 0 + count_by (passes_at n) xs =
        count_first (passes_at n) x xs ∙ ap (λ (b : Bool). cond b 1 0 + count_by (passes_at n) xs) here in
        omega (arith, rest, first)
  ]

  counted_below : (n : ℕ) (xs : List X) → ((x : X) → Contains xs x → passes x ≡ true → place x < n) → count_by passes xs ≡ below n xs
  counted_below n [] all = sym (below_none n)
  counted_below n (x ∷ xs) all =
      let rest = counted_below n xs (λ y has. all y (Contains-later x xs y has)) in
      elim (cases_Bool (passes x)) [
        | inl does ↦
            let first : count_by passes (x ∷ xs) ≡ 1 + count_by passes xs =
            count_first passes x xs ∙ ap (λ (b : Bool). cond b 1 0 + count_by passes xs) does in
            let more = below_passes x xs does n (all x (Contains-first x xs) does) in
            omega (arith, rest, first, more)
        | inr fails ↦
            let first : count_by passes (x ∷ xs) ≡ 0 + count_by passes xs =
            count_first passes x xs ∙ ap (λ (b : Bool). cond b 1 0 + count_by passes xs) fails in
            let same = below_fails x xs fails n in
            omega (arith, rest, first, same)
      ]

  one_each : (n : ℕ) (xs : List X) → ((p : ℕ) → p < n → count_by (passes_at p) xs ≡ 1) → below n xs ≡ n
  one_each zero xs each = refl
  one_each (suc n) xs each =
      let rest = one_each n xs (λ p lt. each p (omega (arith, lt))) in
      let last = each n (omega arith) in
      omega (arith, rest, last)

  pub tally : (n : ℕ) (xs : List X) → ((p : ℕ) → count_by (passes_at p) xs ≡ (if nat_lt p n then 1 else 0)) → count_by passes xs ≡ n
  tally n xs each =
      counted_below n xs within
      ∙ one_each n xs (λ p lt. each p ∙ ap (λ (b : Bool). if b then 1 else 0) (lt-ltb p n lt))
    where
      within : (x : X) → Contains xs x → passes x ≡ true → place x < n
      within x has does = elim (cases_Bool (nat_lt (place x) n)) [
        | inl low ↦ ltb-true (place x) n low
        | inr high ↦
            let none : count_by (passes_at (place x)) xs ≡ 0 = each (place x) ∙ ap (λ (b : Bool). if b then 1 else 0) high in
            let here : passes_at (place x) x ≡ true = ap (λ (b : Bool). b && (place x == place x)) does ∙ eq-eqb (place x) (place x) refl in
            let some = counted_some (passes_at (place x)) xs x has here in
            absurd (omega (arith, none, some))
      ]
