-- The sizes that are proposed for a move.
use Rattle.std.proofs.Common.{◌≡◌, ◌∙◌, inl, inr, ℕ, ◌*◌, ◌/◌, ◌<◌, ◌≤◌, ◌^◌, min, max, suc, Option, None, sym, ap, subst, arith}
use Rattle.std.specs.Int.{IsPowerOfTwo}
use Rattle.std.proofs.lemmas.Bool.{cases_lt}
use Rattle.std.proofs.Math.Nat.{pow-suc}
use Rattle.sq_plan.specs.PlanValue.{PlanValue}
use Rattle.sq_moves.specs.declared.recon.TheConstants.{MAX_WIDTH}
use Rattle.sq_moves.specs.OpeningValue.{OpeningValue}
use Rattle.sq_moves.specs.declared.opening_fault.ReconFault.{ReconFault}
use Rattle.sq_moves.specs.Between.{recon_fault}
use Rattle.sq_picture.specs.Proposal.{keys_moved, width_of_keys, HasFaultAfter, IsWidthFor, IsLimitFor}
use Rattle.sq_picture.specs.Sizes.{in_64_bits}
use Rattle.sq_picture.specs.declared.proposal.TheConstants.{LEAST_LIMIT, MOST_LIMIT}

-- a power of two, cut to the limits
cut_power : (p : ℕ) → IsPowerOfTwo p → IsPowerOfTwo (min (max p LEAST_LIMIT) MOST_LIMIT)
cut_power p power = elim (cases_lt p LEAST_LIMIT) [
  | inl small ↦ (10, omega arith)
  | inr large ↦ elim (cases_lt MOST_LIMIT p) [
    | inl most ↦ (16, omega arith)
    | inr fits ↦ (power.0, let same : min (max p LEAST_LIMIT) MOST_LIMIT ≡ p = omega arith in same ∙ power.1)
  ]
]

pub limit_for : (bytes p limit : ℕ) → bytes ≤ MOST_LIMIT → IsPowerOfTwo p → bytes ≤ p → p / 2 < max 1 bytes
    → limit ≡ min (max p LEAST_LIMIT) MOST_LIMIT → IsLimitFor bytes limit
limit_for bytes p limit most power above tight is = record {
  power = subst IsPowerOfTwo (sym is) (cut_power p power);
  least = omega arith;
  room = omega arith;
  tight = λ large. omega arith;
}

-- the width after one more doubling
doubled : (power least width : ℕ) → width ≡ min MAX_WIDTH (power * least) → min (2 * width) MAX_WIDTH ≡ min MAX_WIDTH (power * 2 * least)
doubled power least width is = omega arith

pub width_doubled : (o : OpeningValue) (width more : ℕ) (was : IsWidthFor o width) → HasFaultAfter o was.doublings
    → more ≡ min (2 * width) MAX_WIDTH → IsWidthFor o more
width_doubled o width more was faulty is = record {
  doublings = suc was.doublings;
  is =
      let least = width_of_keys (in_64_bits (keys_moved o.recon)) in
      is ∙ doubled (2 ^ was.doublings) least width was.is
      ∙ ap (λ (power : ℕ). min MAX_WIDTH (power * least)) (sym (pow-suc 2 was.doublings));
  needed = λ fewer below. elim (cases_lt fewer was.doublings) [
    | inl fewer_still ↦ was.needed fewer fewer_still
    | inr last ↦ let same : was.doublings ≡ fewer = omega arith in subst (HasFaultAfter o) same faulty
  ];
}

-- a move has a fault with leaves of this width
pub has_fault : (o : OpeningValue) (width : ℕ) (was : IsWidthFor o width) (old new : PlanValue) (fault : Option ReconFault)
    → old ≡ o.old → new ≡ o.new → fault ≡ recon_fault old new width → (fault ≡ None → ⊥) → HasFaultAfter o was.doublings
has_fault o width was old new fault is_old is_new is some none =
    some (is ∙ (λ i. recon_fault (is_old i) (is_new i) (was.is i)) ∙ none)
