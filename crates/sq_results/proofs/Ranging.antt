-- What is added for one number after another.
use Rattle.std.proofs.Common.{◌≡◌, ℕ, zero, suc, ◌+◌, List, ◌++◌, sym, ap, ◌∙◌, append_assoc, arith}
use Rattle.std.specs.List.{flat_map, range_with_len}
use Rattle.std.proofs.lemmas.List.{append-nil}
use Rattle.sq_schema.specs.Family.{FamilyValue}

-- the family of one more number goes to the end
one_number : (f : ℕ → List FamilyValue) (a n j : ℕ) → a + n ≡ j → flat_map f (range_with_len a (suc n)) ≡ flat_map f (range_with_len a n) ++ f j
one_number f a zero j e = let same : a ≡ j = omega (arith, e) in append-nil (f a) ∙ ap f same
one_number f a (suc n) j e =
    ap (λ (fs : List FamilyValue). f a ++ fs) (one_number f (a + 1) n j (omega (arith, e))) ∙ sym (append_assoc (f a) (flat_map f (range_with_len (a + 1) n)) (f j))

-- what is added for one more number goes behind what was added for those before
pub next_number : (f : ℕ → List FamilyValue) (n : ℕ) (before old new : List FamilyValue) → old ≡ before ++ flat_map f (range_with_len 0 n) → new ≡ old ++ f n → new ≡ before ++ flat_map f (range_with_len 0 (n + 1))
next_number f n before old new so_far added =
    let count : suc n ≡ n + 1 = omega arith in
    added ∙ ap (λ (fs : List FamilyValue). fs ++ f n) so_far ∙ append_assoc before (flat_map f (range_with_len 0 n)) (f n)
    ∙ ap (λ (fs : List FamilyValue). before ++ fs) (sym (one_number f 0 n n (omega arith)) ∙ ap (λ k. flat_map f (range_with_len 0 k)) count)
