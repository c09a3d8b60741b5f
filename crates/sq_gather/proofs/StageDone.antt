-- Whether the segments of a stage are complete, looked at one after another.
use Rattle.std.proofs.Common.{◌≡◌, inl, inr, ℕ, ◌+◌, ◌<◌, ◌≤◌, true, length, Some, ap, ◌∙◌, subst, arith}
use Rattle.std.specs.Prelude.{slice_get}
use Rattle.std.proofs.lemmas.Bool.{cases_lt}
use Rattle.std.proofs.lemmas.Option.{slice_get_within}
use Rattle.sq_moves.specs.declared.recon.Range.{Range}
use Rattle.sq_moves.specs.ReconValue.{stage_in, stage_at, stage_found}
use Rattle.sq_moves.specs.OpeningValue.{OpeningValue}
use Rattle.sq_node_model.specs.Gathered.{GatheredValue}
use Rattle.sq_node_model.specs.Next.{is_complete_in, IsStageDone}

-- of the first segments those of the stage are complete
abbrev pub AreDoneTo : OpeningValue → GatheredValue → ℕ → Type 0
AreDoneTo o g count =
    (seg : ℕ) (segment : Range) → seg < count → slice_get o.recon.segments seg ≡ Some segment → stage_in o.recon segment ≡ g.stage → is_complete_in g seg ≡ true

module _ (o : OpeningValue) (g : GatheredValue) (count : ℕ) where
  pub one_more : AreDoneTo o g count → (stage_at o.recon count ≡ g.stage → is_complete_in g count ≡ true) → AreDoneTo o g (count + 1)
  one_more are here seg segment low there runs = elim (cases_lt seg count) [
    | inl lt ↦ are seg segment lt there runs
    | inr past ↦
        let same : count ≡ seg = omega (arith, low, past) in
        subst (λ (k : ℕ). is_complete_in g k ≡ true) same (here (ap (stage_at o.recon) same ∙ ap (stage_found o.recon) there ∙ runs))
  ]

  pub all_done : AreDoneTo o g count → length o.recon.segments ≤ count → IsStageDone o g
  all_done are all seg segment there runs = let low = slice_get_within o.recon.segments seg segment there in are seg segment (omega (arith, low, all)) there runs
