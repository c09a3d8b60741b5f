-- Decimal digits, read one after another.
use Rattle.std.proofs.Common.{◌≡◌, ℕ, ◌+◌, ◌-◌, ◌*◌, ◌^◌, ◌<◌, ◌≤◌, Bool, true, false, cond, ◌&&◌, ltb, List, [], ◌∷◌, length, get_or, drop, Option, Some, None, refl, sym, ap, subst, ◌∙◌, arith}
use Rattle.std.specs.Char.{is_ascii_digit, digit_value}
use Rattle.std.specs.List.{list_all}
use Rattle.std.specs.Str.Parse.{digits_value_after}
use Rattle.std.proofs.lemmas.Bool.{le-ltb, lt-ltb, ltb-true, ltb-false}
use Rattle.std.proofs.lemmas.List.{at_drop_more, at_drop_all}
use Rattle.std.proofs.lemmas.Bool.Decides.{nat_tests}
use Rattle.sq_text.specs.Numbers.{digit_behind}

-- the number that digits write behind those of n
abbrev pub digits_after : ℕ → List ℕ → Option ℕ
digits_after n digits = cond (list_all is_ascii_digit digits && ltb (digits_value_after 10 n digits) (2 ^ 64)) (Some (digits_value_after 10 n digits)) None

pub value_of_digit : (c : ℕ) → is_ascii_digit c ≡ true → digit_value c ≡ c - 48
value_of_digit c e = grind (arith, nat_tests)

-- more digits never make a number smaller
pub value_grows : (n : ℕ) (digits : List ℕ) → n ≤ digits_value_after 10 n digits
value_grows n [] = omega arith
value_grows n (c ∷ digits) = omega (arith, value_grows (n * 10 + digit_value c) digits)

pub step : (n c : ℕ) (digits : List ℕ) → is_ascii_digit c ≡ true → digits_after n (c ∷ digits) ≡ digits_after (n * 10 + (c - 48)) digits
step n c digits e = rw (e, value_of_digit c e) refl

-- a number that is too large stays so
pub too_large : (n : ℕ) (digits : List ℕ) → 2 ^ 64 ≤ n → digits_after n digits ≡ None
too_large n digits le = rw (le-ltb (digits_value_after 10 n digits) (2 ^ 64) (omega (arith, value_grows n digits))) (both_off (list_all is_ascii_digit digits) (digits_value_after 10 n digits))
  where
    both_off : (b : Bool) (x : ℕ) → cond (b && false) (Some x) None ≡ None
    both_off true x = refl
    both_off false x = refl

-- what a digit behind those of a number makes
pub record MoreDigits (number byte more : ℕ) : Type 0 where
  pub digit : is_ascii_digit byte ≡ true
  pub small : more < 2 ^ 64
  pub are : number * 10 + (byte - 48) ≡ more

pub some_digit : (n c m : ℕ) → digit_behind n c ≡ Some m → MoreDigits n c m
some_digit n c m e = by_tests (is_ascii_digit c) (ltb (n * 10 + (c - 48)) (2 ^ 64)) refl refl e
  where
    by_tests : (b s : Bool) → is_ascii_digit c ≡ b → ltb (n * 10 + (c - 48)) (2 ^ 64) ≡ s → cond (b && s) (Some (n * 10 + (c - 48))) None ≡ Some m → MoreDigits n c m
    by_tests true true digit small is =
        let same : n * 10 + (c - 48) ≡ m = cc in
        record { digit = digit; small = subst (λ k. k < 2 ^ 64) same (ltb-true _ _ small); are = same }
    by_tests true false digit small is = absurd cc
    by_tests false s digit small is = absurd cc

pub more_digits : (n c m : ℕ) (digits : List ℕ) → digit_behind n c ≡ Some m → digits_after n (c ∷ digits) ≡ digits_after m digits
more_digits n c m digits e =
    let more = some_digit n c m e in
    step n c digits more.digit ∙ ap (λ k. digits_after k digits) more.are

pub no_digit : (n c : ℕ) (digits : List ℕ) → digit_behind n c ≡ None → digits_after n (c ∷ digits) ≡ None
no_digit n c digits e = by_tests (is_ascii_digit c) (ltb (n * 10 + (c - 48)) (2 ^ 64)) refl refl e
  where
    by_tests : (b s : Bool) → is_ascii_digit c ≡ b → ltb (n * 10 + (c - 48)) (2 ^ 64) ≡ s → cond (b && s) (Some (n * 10 + (c - 48))) None ≡ None → digits_after n (c ∷ digits) ≡ None
    by_tests true true digit small is = absurd cc
    by_tests true false digit small is = step n c digits digit ∙ too_large (n * 10 + (c - 48)) digits (ltb-false _ _ small)
    by_tests false s digit small is = rw digit refl

-- with the byte at i there is no number
pub stops : (xs : List ℕ) (i n : ℕ) (total : Option ℕ) → i < length xs → digit_behind n (get_or xs i 0) ≡ None → digits_after n (drop i xs) ≡ total → None ≡ total
stops xs i n total lt e so_far = sym (no_digit n (get_or xs i 0) (drop (i + 1) xs) e) ∙ sym (at_drop_more (digits_after n) xs i 0 lt) ∙ so_far

pub all_read : (xs : List ℕ) (i n : ℕ) (total : Option ℕ) → length xs ≤ i → n < 2 ^ 64 → digits_after n (drop i xs) ≡ total → Some n ≡ total
all_read xs i n total le small so_far = sym (rw (lt-ltb n (2 ^ 64) small) refl) ∙ sym (at_drop_all (digits_after n) xs i le) ∙ so_far
