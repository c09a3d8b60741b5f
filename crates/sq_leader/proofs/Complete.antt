-- What the leader heard by one account of the complete segments, it heard by each that agrees with it.
use Rattle.std.proofs.Common.{◌≡◌, inl, inr, ℕ, ◌<◌, Bool, true, length, sym, ap, ◌∙◌, true≢false}
use Rattle.std.proofs.lemmas.Bool.{cases_lt}
use Rattle.std.proofs.lemmas.Option.{slice_get_within, slice_get_past}
use Rattle.sq_moves.specs.ReconValue.{of_stage, goes_into, moves_into}
use Rattle.sq_moves.specs.OpeningValue.{OpeningValue}
use Rattle.sq_leader.specs.LeaderValue.{StageValue}
use Rattle.sq_leader.specs.Leading.{AreComplete, HasHeard, HasGoneOn, HasEnded}

module _ (o : OpeningValue) (stage : ℕ) (by is_complete : ℕ → Bool) (same : (seg : ℕ) → seg < length o.recon.segments → by seg ≡ is_complete seg) where
  pub complete_by : AreComplete o stage by → AreComplete o stage is_complete
  complete_by all seg segment there is = sym (same seg (slice_get_within o.recon.segments seg segment there)) ∙ all seg segment there is

  pub marked_by : AreComplete o stage is_complete → AreComplete o stage by
  marked_by all seg segment there is = same seg (slice_get_within o.recon.segments seg segment there) ∙ all seg segment there is

  heard_by : (at : StageValue) → HasHeard o stage by at → HasHeard o stage is_complete at
  heard_by at has = record {
    leads = has.leads;
    heard = λ part seg marked into. sym (same seg (goes_within part seg into)) ∙ has.heard part seg marked into;
  }
    where
      goes_within : (part seg : ℕ) → moves_into o.recon stage part seg ≡ true → seg < length o.recon.segments
      goes_within part seg goes = elim (cases_lt seg (length o.recon.segments)) [
        | inl lt ↦ lt
        | inr past ↦ absurd (true≢false (sym goes ∙ ap (λ found. goes_into (of_stage o.recon stage found) part) (slice_get_past o.recon.segments seg past)))
      ]

  pub gone_on_by : (at : StageValue) → HasGoneOn o stage by at → HasGoneOn o stage is_complete at
  gone_on_by at has = record { hears = heard_by at has.hears; next = has.next }

  pub ended_by : (at : StageValue) → HasEnded o stage by at → HasEnded o stage is_complete at
  ended_by at has = record { hears = heard_by at has.hears; ended = has.ended }
