-- Tests that hold of the same, and two tests of numbers at once.
use Rattle.std.proofs.Common.{◌≡◌, ℕ, ◌&&◌, ◌==◌, Bool, true, false, refl, sym}
use Rattle.std.proofs.lemmas.Bool.{and_parts, and_from, eqb-true, eq-eqb}

-- two tests are one that hold of the same
pub same_test : (a b : Bool) → (a ≡ true → b ≡ true) → (b ≡ true → a ≡ true) → a ≡ b
same_test true true to from = refl
same_test true false to from = sym (to refl)
same_test false true to from = from refl
same_test false false to from = refl

-- two pairs of numbers are equal where both are tested so
pub both_equal : (a b x y : ℕ) → ((a == b) && (x == y)) ≡ true → (a ≡ b) × (x ≡ y)
both_equal a b x y both =
    let parts = and_parts (a == b) (x == y) both in
    (eqb-true a b parts.0, eqb-true x y parts.1)

pub equal-both : (a b x y : ℕ) → a ≡ b → x ≡ y → ((a == b) && (x == y)) ≡ true
equal-both a b x y one other = and_from (a == b) (x == y) (eq-eqb a b one) (eq-eqb x y other)
