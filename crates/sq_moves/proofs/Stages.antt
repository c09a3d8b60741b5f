-- The stage of a link is one of those that there are.
use Rattle.std.proofs.Common.{◌≡◌, inl, inr, ℕ, ◌+◌, ◌<◌, max, true, ◌==◌, ◌&&◌, List, [], ◌∷◌, sym, true≢false, ap₂, arith}
use Rattle.std.proofs.lemmas.Bool.{and_parts, eqb-true, or_cases}
use Rattle.sq_moves.specs.declared.recon.Range.{Range}
use Rattle.sq_moves.specs.ReconValue.{ReconValue, stage_on, stage_in, stages_in, stages, is_link}

stage_below_in : (recon : ReconValue) (ranges : List Range) (src dst : ℕ) → is_link ranges src dst ≡ true → stage_on recon src dst < stages_in recon ranges
stage_below_in recon [] src dst linked = absurd (true≢false (sym linked))
stage_below_in recon (range ∷ ranges) src dst linked =
    elim (or_cases ((range.src == src) && (range.dst == dst)) (is_link ranges src dst) linked) [
      | inl here ↦
          let parts = and_parts (range.src == src) (range.dst == dst) here in
          let same : stage_in recon range ≡ stage_on recon src dst = ap₂ (stage_on recon) (eqb-true range.src src parts.0) (eqb-true range.dst dst parts.1) in
          first (stage_on recon src dst) (stage_in recon range) (stages_in recon ranges) same
      | inr later ↦ rest (stage_on recon src dst) (stage_in recon range) (stages_in recon ranges) (stage_below_in recon ranges src dst later)
    ]
  where
    first : (stage here most : ℕ) → here ≡ stage → stage < max (here + 1) most
    first stage here most same = omega arith

    rest : (stage here most : ℕ) → stage < most → stage < max (here + 1) most
    rest stage here most below = omega arith

pub stage_below : (recon : ReconValue) (src dst : ℕ) → is_link recon.ranges src dst ≡ true → stage_on recon src dst < stages recon
stage_below recon src dst linked = stage_below_in recon recon.ranges src dst linked

-- and there is one
some_stage_in : (recon : ReconValue) (ranges : List Range) → 0 < stages_in recon ranges
some_stage_in recon [] = omega arith
some_stage_in recon (range ∷ ranges) = more (stage_in recon range) (stages_in recon ranges)
  where
    more : (here most : ℕ) → 0 < max (here + 1) most
    more here most = omega arith

pub some_stage : (recon : ReconValue) → 0 < stages recon
some_stage recon = some_stage_in recon recon.ranges
