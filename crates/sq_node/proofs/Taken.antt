-- Ends that are taken off a list, one for each number.
use Rattle.std.proofs.Common.{◌≡◌, ℕ, zero, suc, ◌+◌, ◌<◌, ◌≤◌, Bool, true, false, List, [], ◌∷◌, ◌++◌, length, get_or, set, Option, Some, None, refl, sym, ap, ◌∙◌, subst, ⊎_elim, true≢false, length-append, arith}
use Rattle.std.specs.Prelude.{◌≢◌, ◌==◌, ◌&&◌, option_map, MatchOption}
use Rattle.std.proofs.lemmas.Bool.{cases_lt, and_parts, eqb-true}
use Rattle.std.proofs.lemmas.List.Quantifiers.{position-Some}
use Rattle.sq_shared.specs.Values.{LinkValue}
use Rattle.sq_node.specs.Ends.{no_link, link_at, link_between}
use Rattle.std.proofs.lemmas.List.{get_or-set_other, length-set}

-- what was taken for the numbers so far, and what is left
pub record Takes {X : Type 0} (fresh : ℕ → X) (count : ℕ) (mine : ℕ → Bool) (other : ℕ → ℕ) (which : ℕ → Option ℕ) (old : List (Option X)) (number : ℕ) (ends taken : List (Option X)) : Type 0 where
  pub many : length taken ≡ number
  pub each : (k : ℕ) → k < number → get_or taken k None ≡ option_map fresh (which k)
  pub still : length ends ≡ length old
  pub left : (i : ℕ) → i < count → mine i ≡ true → number ≤ other i → get_or ends i None ≡ Some (fresh i)
  pub others : (i : ℕ) → mine i ≡ false → get_or ends i None ≡ get_or old i None

pushed_last : {X : Type 0} (xs : List (Option X)) (x : Option X) (k : ℕ) → length xs ≡ k → get_or (xs ++ x ∷ []) k None ≡ x
pushed_last [] x k is = subst (λ (n : ℕ). get_or (x ∷ []) n None ≡ x) is refl
pushed_last (y ∷ xs) x k is = subst (λ (n : ℕ). get_or ((y ∷ xs) ++ x ∷ []) n None ≡ x) is (pushed_last xs x (length xs) refl)

pushed_before : {X : Type 0} (xs : List (Option X)) (x : Option X) (k : ℕ) → k < length xs → get_or (xs ++ x ∷ []) k None ≡ get_or xs k None
pushed_before [] x k lt = absurd (omega (arith, lt))
pushed_before (y ∷ xs) x zero lt = refl
pushed_before (y ∷ xs) x (suc k) lt = pushed_before xs x k (omega (arith, lt))

module _ {X : Type 0} (fresh : ℕ → X) (count : ℕ) (mine : ℕ → Bool) (other : ℕ → ℕ) (which : ℕ → Option ℕ) (old : List (Option X)) (number : ℕ) (ends taken : List (Option X)) (so_far : Takes fresh count mine other which old number ends taken) where
  each_more : (e : Option X) → e ≡ option_map fresh (which number) → (k : ℕ) → k < number + 1 → get_or (taken ++ e ∷ []) k None ≡ option_map fresh (which k)
  each_more e is k lt =
      ⊎_elim
      (λ (before : k < number). pushed_before taken e k (omega (arith, so_far.many)) ∙ so_far.each k before)
      (λ (here : number ≤ k). let same : number ≡ k = omega arith in pushed_last taken e k (so_far.many ∙ same) ∙ is ∙ ap (λ (n : ℕ). option_map fresh (which n)) same)
      (cases_lt k number)

  pub takes_none : (e : Option X) → which number ≡ None → e ≡ None → Takes fresh count mine other which old (number + 1) ends (taken ++ e ∷ [])
  takes_none e none is =
      record {
        many = length-append taken (e ∷ []) ∙ (let m = so_far.many in omega arith);
        each = each_more e (is ∙ sym (ap (option_map fresh) none));
        still = so_far.still;
        left = λ i lt own after. so_far.left i lt own (omega arith);
        others = so_far.others;
      }

  pub takes_some : (at : ℕ) (e : Option X) → which number ≡ Some at → at < count → mine at ≡ true → other at ≡ number → e ≡ get_or ends at None
      → Takes fresh count mine other which old (number + 1) (set ends at None) (taken ++ e ∷ [])
  takes_some at e found within own there is =
      let stood : get_or ends at None ≡ Some (fresh at) = so_far.left at within own (omega (arith, there)) in
      record {
        many = length-append taken (e ∷ []) ∙ (let m = so_far.many in omega arith);
        each = each_more e (is ∙ stood ∙ sym (ap (option_map fresh) found));
        still = length-set ends at None ∙ so_far.still;
        left = λ i lt own_too after.
            let apart : i ≢ at = λ same. let both : other i ≡ number = ap other same ∙ there in absurd (omega (arith, both, after)) in
            get_or-set_other ends at i None None apart ∙ so_far.left i lt own_too (omega arith);
        others = λ i else.
            let apart : i ≢ at = λ same. absurd (true≢false (sym own ∙ sym (ap mine same) ∙ else)) in
            get_or-set_other ends at i None None apart ∙ so_far.others i else;
      }

  pub takes_one : ((at : ℕ) → which number ≡ Some at → (at < count) × (mine at ≡ true) × (other at ≡ number)) → (e : Option X) (more now : List (Option X))
      → MatchOption (which number) ((e ≡ None) × (more ≡ ends)) (λ at. (e ≡ get_or ends at None) × (more ≡ set ends at None)) → now ≡ taken ++ e ∷ []
      → Takes fresh count mine other which old (number + 1) more now
  takes_one found e more now told pushed = by_case (which number) refl told
    where
      by_case : (w : Option ℕ) → which number ≡ w → MatchOption w ((e ≡ None) × (more ≡ ends)) (λ at. (e ≡ get_or ends at None) × (more ≡ set ends at None)) → Takes fresh count mine other which old (number + 1) more now
      by_case None is told =
          subst (λ (es : List (Option X)). Takes fresh count mine other which old (number + 1) es now) (sym told.1)
          (subst (λ (ts : List (Option X)). Takes fresh count mine other which old (number + 1) ends ts) (sym pushed) (takes_none e is told.0))
      by_case (Some at) is told =
          let there = found at is in
          subst (λ (es : List (Option X)). Takes fresh count mine other which old (number + 1) es now) (sym told.1)
          (subst (λ (ts : List (Option X)). Takes fresh count mine other which old (number + 1) (set ends at None) ts) (sym pushed) (takes_some at e is there.0 there.1 there.2 told.0))

-- the place of the link between two partitions
pub found_link : (near far : LinkValue → ℕ) (links : List LinkValue) (part other at : ℕ) → link_between near far links part other ≡ Some at
    → (at < length links) × (near (link_at links at) ≡ part) × (far (link_at links at) ≡ other)
found_link near far links part other at is =
    let found = position-Some (λ (link : LinkValue). (near link == part) && (far link == other)) links at no_link is in
    let both = and_parts (near (link_at links at) == part) (far (link_at links at) == other) found.1 in
    (found.0, eqb-true (near (link_at links at)) part both.0, eqb-true (far (link_at links at)) other both.1)
