-- The store of a partition is the one of its history.
use Rattle.std.proofs.Common.{◌≡◌, ℕ, inl, inr, sym, arith, subst}
use Rattle.std.specs.Prelude.{◌<◌}
use Rattle.std.specs.Option.{option_map}
use Rattle.std.specs.FinMap.{get}
use Rattle.std.proofs.lemmas.Option.{slice_get_cases, get_or_from_slice_get}
use Rattle.sq_moves.specs.OpeningValue.{OpeningValue}
use Rattle.sq_exec.specs.CoreValue.{CoreValue}
use Rattle.sq_model.specs.Trace.{Trace}
use Rattle.sq_transition.specs.WorldValue.{WorldValue, no_core, core_at}
use Rattle.sq_transition.specs.Holds.{Holds, share_at}
use Rattle.sq_world.specs.Readers.{store_at, IsStoreAfter}

pub is_store_after : (o : OpeningValue) (t : Trace) (w : WorldValue) → Holds o t w → (part : ℕ) → IsStoreAfter o t part (store_at w part)
is_store_after o t w h part =
    elim (slice_get_cases w.cores part).1 [
      | inl there ↦
          let core = there.0 in
          let below : part < o.old.parts = omega (arith, there.1, h.partitions.count) in
          let here : core_at w part ≡ core = get_or_from_slice_get w.cores part core no_core there.2 in
          subst (λ found. IsStoreAfter o t part (option_map (λ (c : CoreValue). c.store) found)) (sym there.2) (
            below,
            λ root. subst (λ (c : CoreValue). get c.store root ≡ share_at o t part root) here ((h.partitions.each part below).store root),
          )
      | inr past ↦
          subst (λ found. IsStoreAfter o t part (option_map (λ (c : CoreValue). c.store) found)) (sym past.1) (omega (arith, past.0, h.partitions.count))
    ]
