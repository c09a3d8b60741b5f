-- Waiting transactions that are due, looked at in their order.
use Rattle.std.proofs.Common.{⊎_elim, ◌≡◌, ℕ, ◌+◌, ◌<◌, ◌≤◌, Bool, true, false, not, ◌||◌, List, [], ◌∷◌, map, length, zero, suc, Some, None, refl, sym, ap, ◌∙◌, arith}
use Rattle.std.specs.Prelude.{cond, ◌&&◌, nat_le, nat_lt, find, slice_get, position}
use Rattle.std.specs.List.{list_all, position_or_len, AllByRecursion}
use Rattle.std.specs.List.Sorted.{IsStrictlySortedBy}
use Rattle.std.specs.Ordering.{nat_cmp}
use Rattle.std.specs.declared.cmp.Ordering.TheVariants.{Less}
use Rattle.std.proofs.lemmas.Bool.{cases_lt, and_parts, leb-true, le-leb, lt-leb, lt-ltb, le-ltb}
use Rattle.std.proofs.lemmas.Map.Keys.{sorted_head, sorted_tail}
use Rattle.sq_exec.specs.Waiting.{Arrival, numbers_of, is_due_from}
use Rattle.sq_exec.proofs.Entries.{less_from_less}

-- those below a number pass
abbrev pub pass_below : (Arrival → Bool) → ℕ → Arrival → Bool
pass_below q from a = nat_le from a.number || q a

-- those that aren't due pass
abbrev pub pass_unless_due : (Arrival → Bool) → Arrival → Bool
pass_unless_due q a = a.is_due || q a

pub pass_below_0 : (q : Arrival → Bool) (xs : List Arrival) → list_all (pass_below q 0) xs ≡ true
pass_below_0 q [] = refl
pass_below_0 q (a ∷ xs) = λ k. (le-leb 0 a.number (omega arith) k || q a) && pass_below_0 q xs k

-- all of greater numbers
all_above : (q : Arrival → Bool) (from k : ℕ) (xs : List Arrival) → from ≤ k + 1 → AllByRecursion (λ n. nat_cmp k n ≡ Less) (numbers_of xs) → list_all (pass_below q from) xs ≡ true
all_above q from k [] upto above = refl
all_above q from k (a ∷ xs) upto above =
    let past : from ≤ a.number = omega (arith, less_from_less k a.number above.0, upto) in
    λ i. (le-leb from a.number past i || q a) && all_above q from k xs upto above.1 i

and_true : (b : Bool) → (b && true) ≡ b
and_true true = refl
and_true false = refl

or_true : (b : Bool) → (b || true) ≡ true
or_true true = refl
or_true false = refl

and_grouped : (a b c : Bool) → (a && (b && c)) ≡ ((a && b) && c)
and_grouped true b c = refl
and_grouped false b c = refl

module _ (q : Arrival → Bool) (from : ℕ) where
  -- one that isn't found counts alike, where those that aren't due pass
  past_one : (a : Arrival) (next : ℕ) → from ≤ next → is_due_from from a ≡ false → pass_unless_due q a ≡ true → pass_below q next a ≡ pass_below q from a
  past_one a next upto off passes =
      ⊎_elim
      (λ (below : a.number < from). λ k. (lt-leb next a.number (omega (arith, below, upto)) ∙ sym (lt-leb from a.number below)) k || q a)
      (λ (past : from ≤ a.number).
      let not_due : a.is_due ≡ false = sym (ap (λ b. b && a.is_due) (le-leb from a.number past)) ∙ off in
      let passes_by : q a ≡ true = ap (λ b. b || q a) (sym not_due) ∙ passes in
      ap (λ b. nat_le next a.number || b) passes_by ∙ or_true (nat_le next a.number) ∙ sym (ap (λ b. nat_le from a.number || b) passes_by ∙ or_true (nat_le from a.number)))
      (cases_lt a.number from)

  -- none is found: all pass
  pub none_left : (xs : List Arrival) → find (is_due_from from) xs ≡ None → list_all (pass_unless_due q) xs ≡ true → list_all (pass_below q from) xs ≡ list_all q xs
  none_left [] none passes = refl
  none_left (a ∷ xs) none passes = by_test (λ later. none_left xs later parts.1) (is_due_from from a) refl
    where
      parts : (pass_unless_due q a ≡ true) × (list_all (pass_unless_due q) xs ≡ true)
      parts = and_parts (pass_unless_due q a) (list_all (pass_unless_due q) xs) passes

      whole : is_due_from from a ≡ false → pass_below q from a ≡ q a
      whole off =
          ⊎_elim
          (λ (below : a.number < from). ap (λ b. b || q a) (lt-leb from a.number below))
          (λ (past : from ≤ a.number).
          let not_due : a.is_due ≡ false = sym (ap (λ b. b && a.is_due) (le-leb from a.number past)) ∙ off in
          let passes_by : q a ≡ true = ap (λ b. b || q a) (sym not_due) ∙ parts.0 in
          ap (λ b. nat_le from a.number || b) passes_by ∙ or_true (nat_le from a.number) ∙ sym passes_by)
          (cases_lt a.number from)

      by_test : (find (is_due_from from) xs ≡ None → list_all (pass_below q from) xs ≡ list_all q xs) → (b : Bool) → is_due_from from a ≡ b → list_all (pass_below q from) (a ∷ xs) ≡ list_all q (a ∷ xs)
      by_test rest true here = let both : Some a ≡ None = sym (ap (λ b. cond b (Some a) (find (is_due_from from) xs)) here) ∙ none in absurd (cc)
      by_test rest false off =
          let later : find (is_due_from from) xs ≡ None = sym (ap (λ b. cond b (Some a) (find (is_due_from from) xs)) off) ∙ none in
          λ k. whole off k && rest later k

  module _ (found : Arrival) where
    pub from_found : (xs : List Arrival) → find (is_due_from from) xs ≡ Some found → from ≤ found.number
    from_found [] is = cc
    from_found (a ∷ xs) is = by_test (λ later. from_found xs later) (is_due_from from a) refl
      where
        by_test : (find (is_due_from from) xs ≡ Some found → from ≤ found.number) → (b : Bool) → is_due_from from a ≡ b → from ≤ found.number
        by_test rest true here =
            let both : Some a ≡ Some found = sym (ap (λ b. cond b (Some a) (find (is_due_from from) xs)) here) ∙ is in
            let same : a ≡ found = cc in
            let past : from ≤ a.number = leb-true from a.number (and_parts (nat_le from a.number) a.is_due here).0 in
            omega (arith, past, ap (λ (x : Arrival). x.number) same)
        by_test rest false off = rest (sym (ap (λ b. cond b (Some a) (find (is_due_from from) xs)) off) ∙ is)

    -- one is found: it decides of those up to it
    pub one_more : (xs : List Arrival) → IsStrictlySortedBy nat_cmp (numbers_of xs) → find (is_due_from from) xs ≡ Some found → list_all (pass_unless_due q) xs ≡ true
        → list_all (pass_below q (found.number + 1)) xs ≡ (list_all (pass_below q from) xs && q found)
    one_more [] sorted is passes = cc
    one_more (a ∷ xs) sorted is passes = by_test (λ later. one_more xs (sorted_tail nat_cmp a.number (numbers_of xs) sorted) later parts.1) (is_due_from from a) refl
      where
        parts : (pass_unless_due q a ≡ true) × (list_all (pass_unless_due q) xs ≡ true)
        parts = and_parts (pass_unless_due q a) (list_all (pass_unless_due q) xs) passes

        by_test : (find (is_due_from from) xs ≡ Some found → list_all (pass_below q (found.number + 1)) xs ≡ (list_all (pass_below q from) xs && q found)) → (b : Bool) → is_due_from from a ≡ b → list_all (pass_below q (found.number + 1)) (a ∷ xs) ≡ (list_all (pass_below q from) (a ∷ xs) && q found)
        by_test rest true here =
            let both : Some a ≡ Some found = sym (ap (λ b. cond b (Some a) (find (is_due_from from) xs)) here) ∙ is in
            let same : a ≡ found = cc in
            let past : from ≤ a.number = leb-true from a.number (and_parts (nat_le from a.number) a.is_due here).0 in
            let numbers : a.number ≡ found.number = ap (λ (x : Arrival). x.number) same in
            let above = sorted_head nat_cmp a.number (numbers_of xs) sorted in
            (λ k. (lt-leb (found.number + 1) a.number (omega (arith, numbers)) k || q a) && all_above q (found.number + 1) a.number xs (omega (arith, numbers)) above k)
            ∙ and_true (q a) ∙ ap q same
            ∙ sym (λ k. ((le-leb from a.number past k || q a) && all_above q from a.number xs (omega (arith, past)) above k) && q found)
        by_test rest false off =
            let later : find (is_due_from from) xs ≡ Some found = sym (ap (λ b. cond b (Some a) (find (is_due_from from) xs)) off) ∙ is in
            let upto : from ≤ found.number = from_found xs later in
            (λ k. past_one a (found.number + 1) (omega (arith, upto)) off parts.0 k && rest later k)
            ∙ and_grouped (pass_below q from a) (list_all (pass_below q from) xs) (q found)

    -- it is the first that doesn't pass
    pub first_found : (xs : List Arrival) → find (is_due_from from) xs ≡ Some found → list_all (pass_unless_due q) xs ≡ true → list_all (pass_below q from) xs ≡ true → q found ≡ false
        → (place : ℕ) × (position_or_len (λ a. not (q a)) xs ≡ place) × (slice_get xs place ≡ Some found) × (place < length xs)
    first_found [] is passes before off = cc
    first_found (a ∷ xs) is passes before off = by_test (λ later. first_found xs later parts.1 early.1 off) (is_due_from from a) refl
      where
        parts : (pass_unless_due q a ≡ true) × (list_all (pass_unless_due q) xs ≡ true)
        parts = and_parts (pass_unless_due q a) (list_all (pass_unless_due q) xs) passes

        early : (pass_below q from a ≡ true) × (list_all (pass_below q from) xs ≡ true)
        early = and_parts (pass_below q from a) (list_all (pass_below q from) xs) before

        passed : is_due_from from a ≡ false → q a ≡ true
        passed miss =
            ⊎_elim
            (λ (below : a.number < from). ap (λ b. b || q a) (sym (lt-leb from a.number below)) ∙ early.0)
            (λ (past : from ≤ a.number).
            let not_due : a.is_due ≡ false = sym (ap (λ b. b && a.is_due) (le-leb from a.number past)) ∙ miss in
            ap (λ b. b || q a) (sym not_due) ∙ parts.0)
            (cases_lt a.number from)

        by_test : (find (is_due_from from) xs ≡ Some found → (place : ℕ) × (position_or_len (λ a. not (q a)) xs ≡ place) × (slice_get xs place ≡ Some found) × (place < length xs)) → (b : Bool) → is_due_from from a ≡ b → (place : ℕ) × (position_or_len (λ a. not (q a)) (a ∷ xs) ≡ place) × (slice_get (a ∷ xs) place ≡ Some found) × (place < suc (length xs))
        by_test rest true here =
            let both : Some a ≡ Some found = sym (ap (λ b. cond b (Some a) (find (is_due_from from) xs)) here) ∙ is in
            let same : a ≡ found = cc in
            (0, ap (λ b. cond (not (not b)) (1 + position_or_len (λ a. not (q a)) xs) 0) (ap q same ∙ off), ap Some same, omega arith)
        by_test rest false miss =
            let later = rest (sym (ap (λ b. cond b (Some a) (find (is_due_from from) xs)) miss) ∙ is) in
            let more : 1 + position_or_len (λ a. not (q a)) xs ≡ suc later.0 = omega (arith, later.1) in
            (suc later.0, ap (λ b. cond (not (not b)) (1 + position_or_len (λ a. not (q a)) xs) 0) (passed miss) ∙ more, later.2, omega (arith, later.3))

module _ {X Y : Type 0} (f : X → Y) where
  pub position_or_len-map : (p : Y → Bool) (r : X → Bool) → ((x : X) → r x ≡ p (f x)) → (xs : List X) → position_or_len p (map f xs) ≡ position_or_len r xs
  position_or_len-map p r same [] = refl
  position_or_len-map p r same (x ∷ xs) = λ k. cond (not (sym (same x) k)) (1 + position_or_len-map p r same xs k) 0

  pub slice_get-map : (xs : List X) (i : ℕ) (x : X) → slice_get xs i ≡ Some x → slice_get (map f xs) i ≡ Some (f x)
  slice_get-map [] i x at = cc
  slice_get-map (y ∷ xs) zero x at = let same : y ≡ x = cc in ap (λ z. Some (f z)) same
  slice_get-map (y ∷ xs) (suc i) x at = slice_get-map xs i x at

pub position_at : {X : Type 0} (p : X → Bool) (xs : List X) (i : ℕ) → position_or_len p xs ≡ i → i < length xs → position p xs ≡ Some i
position_at p xs i is within = ap (λ n. cond (nat_lt n (length xs)) (Some n) None) is ∙ ap (λ b. cond b (Some i) None) (lt-ltb i (length xs) within)

-- where none passes there is no place
none_long : {X : Type 0} (p : X → Bool) (xs : List X) → list_all (λ x. not (p x)) xs ≡ true → position_or_len p xs ≡ length xs
none_long p [] none = refl
none_long p (x ∷ xs) none =
    let parts = and_parts (not (p x)) (list_all (λ y. not (p y)) xs) none in
    let more : 1 + position_or_len p xs ≡ suc (length xs) = omega (arith, none_long p xs parts.1) in
    ap (λ b. cond b (1 + position_or_len p xs) 0) parts.0 ∙ more

pub no_position : {X : Type 0} (p : X → Bool) (xs : List X) → list_all (λ x. not (p x)) xs ≡ true → position p xs ≡ None
no_position p xs none =
    let past : nat_lt (position_or_len p xs) (length xs) ≡ false = le-ltb (position_or_len p xs) (length xs) (omega (arith, none_long p xs none)) in
    ap (λ b. cond b (Some (position_or_len p xs)) None) past
