-- The families of a partition's store.
use Rattle.std.proofs.Common.{◌≡◌, ℕ, Bool, true, false, refl, sym, ap, ◌∙◌, length, eq-eqb}
use Rattle.std.specs.Prelude.{◌<◌, ◌==◌, ◌&&◌, if◌then◌else◌, not, Some, None, unwrap_or}
use Rattle.std.proofs.lemmas.List.{nil_from_length}
use Rattle.std.proofs.lemmas.Bool.{eqb-true, or_parts, not-false}
use Rattle.sq_schema.specs.Family.{FamilyValue}
use Rattle.sq_store.specs.StoreValue.{family_at, absent}
use Rattle.sq_moves.specs.OpeningValue.{OpeningValue}
use Rattle.sq_exec.specs.CoreValue.{CoreValue}
use Rattle.sq_model.specs.Trace.{Trace}
use Rattle.sq_model.specs.Tables.{base_of, log_of, stands, family_of}
use Rattle.sq_model.specs.Place.{At, place}
use Rattle.sq_transition.specs.WorldValue.{WorldValue, core_at}
use Rattle.sq_transition.specs.Holds.{CoreHolds, share, is_at}
use Rattle.sq_transition.proofs.Changed.{PartsHold}

-- nothing is anywhere but at its place
pub share_none : (o : OpeningValue) (t : Trace) (here : ℕ → Bool) (root : ℕ) → here root ≡ false → share o t here root ≡ None
share_none o t here root away = ap (λ b. if stands o t root && b then Some (family_of o t root) else None) away ∙ none (stands o t root) (family_of o t root)
  where
    none : (b : Bool) (f : FamilyValue) → (if b && false then Some f else None) ≡ None
    none true f = refl
    none false f = refl

-- a root key that doesn't stand has no rows and no log
pub absent_is : (o : OpeningValue) (t : Trace) (root : ℕ) → stands o t root ≡ false → absent root ≡ family_of o t root
absent_is o t root e =
    let both = or_parts (not (length (base_of o t root) == 0)) (not (length (log_of o t root) == 0)) e in
    let no_rows = nil_from_length (base_of o t root) (eqb-true (length (base_of o t root)) 0 (not-false (length (base_of o t root) == 0) both.0)) in
    let no_log = nil_from_length (log_of o t root) (eqb-true (length (log_of o t root)) 0 (not-false (length (log_of o t root) == 0) both.1)) in
    λ i. record { root = root; base = sym no_rows i; log = sym no_log i }

-- the family that a store has of a root key that is at its partition is the history's
pub family_held : (o : OpeningValue) (t : Trace) (part root : ℕ) (core : CoreValue) → CoreHolds o t part core → place o t root ≡ At part → family_at core.store root ≡ family_of o t root
family_held o t part root core h at =
    ap (λ found. unwrap_or found (absent root)) (h.store root ∙ ap (λ p. if stands o t root && is_at part p then Some (family_of o t root) else None) at)
    ∙ ap (λ b. unwrap_or (if stands o t root && b then Some (family_of o t root) else None) (absent root)) (eq-eqb part part refl)
    ∙ here (stands o t root) refl
  where
    here : (b : Bool) → stands o t root ≡ b → unwrap_or (if b && true then Some (family_of o t root) else None) (absent root) ≡ family_of o t root
    here true e = refl
    here false e = absent_is o t root e

-- and so it is in a world
pub family_same : (o : OpeningValue) (t : Trace) (w : WorldValue) (part root : ℕ) → PartsHold o t w → part < o.old.parts → place o t root ≡ At part → family_at (core_at w part).store root ≡ family_of o t root
family_same o t w part root h there at = family_held o t part root (core_at w part) (h.partitions.each part there) at
