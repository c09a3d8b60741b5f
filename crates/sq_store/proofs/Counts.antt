-- Where a chunk of bounded size ends.
use Rattle.std.proofs.Common.{◌≡◌, ℕ, zero, suc, true, false, List, [], ◌∷◌, length, refl, arith}
use Rattle.std.specs.Prelude.{◌-◌, ◌≤◌, nat_le, map, cond}
use Rattle.std.specs.List.{All}
use Rattle.std.proofs.lemmas.List.Elements.{All-tail}
use Rattle.sq_schema.specs.Family.{FamilyValue}
use Rattle.sq_moves.specs.CutEnd.{end_within, end_of}
use Rattle.sq_store.specs.Counting.{family_size, fitting, chunk_count, root_after}

-- no more fit than there are
pub fitting_within : (room : ℕ) (families : List FamilyValue) → fitting room families ≤ length families
fitting_within room [] = omega arith
fitting_within room (family ∷ families) =
    let rest = fitting_within (room - family_size family) families in
    elim (nat_le (family_size family) room) as (λ b. cond b (suc (fitting (room - family_size family) families)) zero ≤ suc (length families)) [ true ↦ omega (arith, rest) | false ↦ omega arith ]

pub count_within : (limit : ℕ) (families : List FamilyValue) → chunk_count limit families ≤ length families
count_within limit [] = omega arith
count_within limit (family ∷ families) = let rest = fitting_within (limit - family_size family) families in omega (arith, rest)

module _ (size : ℕ → ℕ) (hi : ℕ) where
  end_within_is : (room : ℕ) (families : List FamilyValue) → All (λ family. size family.root ≡ family_size family) families → end_within size hi room (map (λ family. family.root) families) ≡ root_after hi families (fitting room families)
  end_within_is room [] sized = refl
  end_within_is room (family ∷ families) sized =
      let rest = end_within_is (room - family_size family) families (All-tail (λ f. size f.root ≡ family_size f) family families sized) in
      rw (sized 0 family (omega arith)) (
      elim (nat_le (family_size family) room) as (λ b. cond b (end_within size hi (room - family_size family) (map (λ f. f.root) families)) family.root ≡ root_after hi (family ∷ families) (cond b (suc (fitting (room - family_size family) families)) zero)) [
        | true ↦ rest
        | false ↦ refl
      ])

  pub end_of_is : (limit : ℕ) (families : List FamilyValue) → All (λ family. size family.root ≡ family_size family) families → end_of size hi limit (map (λ family. family.root) families) ≡ root_after hi families (chunk_count limit families)
  end_of_is limit [] sized = refl
  end_of_is limit (family ∷ families) sized =
      rw (sized 0 family (omega arith)) (end_within_is (limit - family_size family) families (All-tail (λ f. size f.root ≡ family_size f) family families sized))
