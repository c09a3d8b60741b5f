-- What a loop over a list finds of each element.
use Rattle.std.proofs.Common.{◌≡◌, ⊎_elim, ℕ, ◌+◌, ◌<◌, ◌≤◌, Bool, true, false, List, length, slice_get, Contains, Some, refl, sym, ◌∙◌, subst, arith, true≢false, Bor, ltb-true, ltb-false, Option, None, ap, ◌==◌, ◌&&◌, eq-eqb}
use Rattle.std.specs.Bool.{Decides}
use Rattle.std.specs.Option.{option_copied}
use Rattle.std.specs.Slice.{IsItemAt}
use Rattle.std.proofs.lemmas.Bool.{cases_lt, cases_eq}
use Rattle.std.proofs.lemmas.Bool.Decides.{Decides-like, Decides-at, Decides-and}
use Rattle.std.proofs.lemmas.Option.{slice_get_within, slice_get_past, slice_get-get_or}
use Rattle.sq_gather.proofs.Prelude.{Contains-slice_get, slice_get-Contains}

-- two things at one place are one
pub same_of : {X : Type 0} (xs : List X) (i j : ℕ) (x y : X) → slice_get xs i ≡ Some x → slice_get xs j ≡ Some y → j ≡ i → y ≡ x
same_of xs i j x y at also same = let here = subst (λ k. slice_get xs k ≡ Some y) same also in cc

-- it holds of those before a place
abbrev pub EachTo : {X : Type 0} → (X → Type 0) → List X → ℕ → Type 0
EachTo {X} P xs n = (i : ℕ) (x : X) → i < n → slice_get xs i ≡ Some x → P x

-- and of the one there
pub each_more : {X : Type 0} (P : X → Type 0) (xs : List X) (n : ℕ) (x : X) → EachTo P xs n → slice_get xs n ≡ Some x → P x → EachTo P xs (n + 1)
each_more P xs n x before at here i y below there =
    ⊎_elim
    (λ low. before i y low there)
    (λ from. subst P (sym (same_of xs n i x y at there (omega (arith, below, from)))) here)
    (cases_lt i n)

-- it holds of all once the loop is done
pub each_done : {X : Type 0} (P : X → Type 0) (xs : List X) (n : ℕ) → EachTo P xs n → length xs ≤ n → Decides true ((x : X) → Contains xs x → P x)
each_done P xs n before whole = (
  (λ e x has.
      let within = slice_get_within xs has.0 x (slice_get-Contains xs x has) in
      before has.0 x (omega (arith, within, whole)) (slice_get-Contains xs x has)),
  (λ all. refl),
)

-- a test that failed decides what doesn't hold
pub decides_not : {P : Type 0} → (P → ⊥) → Decides false P
decides_not fails = ((λ e. absurd (true≢false (sym e))), (λ holds. absurd (fails holds)))

-- what a test found of those before a place
pub each_none : {X : Type 0} (P : X → Type 0) (xs : List X) → Decides true (EachTo P xs 0)
each_none P xs = ((λ e i x below at. absurd (omega (arith, below))), (λ all. refl))

-- and of the one there
pub each_and : {X : Type 0} (P : X → Type 0) (xs : List X) (n : ℕ) (x : X) (a b c : Bool) → c ≡ (a && b) → slice_get xs n ≡ Some x → Decides a (EachTo P xs n) → Decides b (P x) → Decides c (EachTo P xs (n + 1))
each_and P xs n x a b c is at before here =
    Decides-at c (a && b) is
    (Decides-like (a && b)
    (λ both. each_more P xs n x both.0 at both.1)
    (λ all. ((λ i y below there. all i y (omega (arith, below)) there), all n x (omega arith) at))
    (Decides-and a b before here))

-- and of all once the loop is done
pub each_all : {X : Type 0} (P : X → Type 0) (xs : List X) (n : ℕ) (b : Bool) → length xs ≤ n → Decides b (EachTo P xs n) → Decides b ((x : X) → Contains xs x → P x)
each_all P xs n b whole decides =
    Decides-like b
    (λ before. (each_done P xs n before whole).0 refl)
    (λ all i x below at. all x (Contains-slice_get xs i x at))
    decides

-- one that doesn't have the property
pub each_fails : {X : Type 0} (P : X → Type 0) (xs : List X) (n : ℕ) (x : X) → slice_get xs n ≡ Some x → (P x → ⊥) → Decides false ((x : X) → Contains xs x → P x)
each_fails P xs n x at fails = decides_not (λ all. fails (all x (Contains-slice_get xs n x at)))

-- the finding of a test where it failed, and where it didn't
pub refuted : {P : Type 0} (b : Bool) → Decides b P → b ≡ false → P → ⊥
refuted b d e p = true≢false (sym (d.1 p) ∙ e)

pub shown : {P : Type 0} (b : Bool) → Decides b P → b ≡ true → P
shown b d e = d.0 e

-- what a look-up by place gives
pub looked_up : {X : Type 0} (xs : List X) (i : ℕ) (r : Option (Bor X)) → IsItemAt xs i r → option_copied r ≡ slice_get xs i
looked_up xs i None is = sym (slice_get_past xs i (ltb-false i (length xs) (sym is.0)))
looked_up xs i (Some x) is = sym (slice_get-get_or xs i x.now (ltb-true i (length xs) (sym is.0)) ∙ ap Some (sym is.1))

pub some_same : {X : Type 0} {x y : X} → Some x ≡ Some y → x ≡ y
some_same e = cc

pub no_some : {X : Type 0} (x : X) → None ≡ Some x → ⊥
no_some x e = cc

-- a test of two numbers that can't be apart
pub by_cases : (m n : ℕ) → ((m ≡ n → ⊥) → ⊥) → (m == n) ≡ true
by_cases m n never = ⊎_elim (λ same. eq-eqb m n same) (λ apart. absurd (never apart)) (cases_eq m n)
