-- A reconfiguration that is made of the moves between two plans.
use Rattle.std.proofs.Common.{◌≡◌, ℕ, ◌≤◌, ◌==◌, Bool, true, false, not, nat_lt, if◌then◌else◌, List, length, Some, None, refl, sym, ap, ◌∙◌, subst, arith}
use Rattle.std.proofs.lemmas.Bool.{eqb-true, ltb-false}
use Rattle.std.proofs.lemmas.Option.{none-some}
use Rattle.sq_plan.specs.declared.version.Version.{Version}
use Rattle.sq_plan.specs.declared.version.Version.TheVariants.{First, Second}
use Rattle.sq_plan.specs.Version.{is_auto}
use Rattle.sq_plan.specs.PlanValue.{PlanValue, IsPlan}
use Rattle.sq_moves.specs.declared.recon.Range.{Range}
use Rattle.sq_moves.specs.declared.segment.TheConstants.{SEGMENT_LIMIT}
use Rattle.sq_moves.specs.ReconValue.{is_width, are_in_key_order, segments_of}
use Rattle.sq_moves.specs.Moves.{moves_of}
use Rattle.sq_moves.specs.Between.{segment_limit, recon_fault, recon_of, IsReconOf}
use Rattle.sq_moves.specs.declared.opening_fault.ReconFault.TheVariants.{PartitionsDiffer, Width, TooManySegments}
use Rattle.sq_moves.proofs.Overlaps.{moves_of-moves}
use Rattle.sq_moves.proofs.Segments.{moves-rising}

pub moves_of-rising : (old new : PlanValue) → IsPlan old → IsPlan new → are_in_key_order 0 (moves_of old new) ≡ true
moves_of-rising old new is_old is_new = moves-rising old new (moves_of old new) (moves_of-moves old new is_old is_new)

-- what isn't refused has a width and few segments
pub record IsFine (old new : PlanValue) (width : ℕ) : Type 0 where
  pub parts : old.parts ≡ new.parts
  pub leaf : is_width width ≡ true
  pub few : length (segments_of width (moves_of old new)) ≤ segment_limit new.version

fine_from : (a b c : Bool) → (if not a then Some PartitionsDiffer else if not b then Some Width else if c then Some TooManySegments else None) ≡ None → (a ≡ true) × (b ≡ true) × (c ≡ false)
fine_from true true true e = absurd (none-some TooManySegments (sym e))
fine_from true true false e = (refl, refl, refl)
fine_from true false c e = absurd (none-some Width (sym e))
fine_from false b c e = absurd (none-some PartitionsDiffer (sym e))

pub fine : (old new : PlanValue) (width : ℕ) → recon_fault old new width ≡ None → IsFine old new width
fine old new width none =
    let count = length (segments_of width (moves_of old new)) in
    let parts = fine_from (old.parts == new.parts) (is_width width) (nat_lt (segment_limit new.version) count) none in
    record { parts = eqb-true old.parts new.parts parts.0; leaf = parts.1; few = ltb-false (segment_limit new.version) count parts.2 }

-- no version allows more segments than there may be
most : (version : Version) → segment_limit version ≤ SEGMENT_LIMIT
most First = omega arith
most (Second stages) = omega arith

module _ (old new : PlanValue) (is_old : IsPlan old) (is_new : IsPlan new) (width : ℕ) (is : IsFine old new width) where
  is_recon_of : IsReconOf old new width (recon_of old new width)
  is_recon_of = record {
    moves = moves_of-moves old new is_old is_new;
    leaf = refl;
    whole = record {
      leaf = is.leaf;
      rising = moves_of-rising old new is_old is_new;
      cut = refl;
      few = omega (arith, is.few, most new.version);
    };
    few = is.few;
    staged = refl;
  }

  -- so is one of the same ranges and segments
  pub made : (ranges segments : List Range) → ranges ≡ moves_of old new → segments ≡ segments_of width ranges → IsReconOf old new width (record { width = width; ranges = ranges; segments = segments; auto = is_auto new.version })
  made ranges segments same_ranges cut =
      let same : segments ≡ segments_of width (moves_of old new) = cut ∙ ap (segments_of width) same_ranges in
      let value : recon_of old new width ≡ record { width = width; ranges = ranges; segments = segments; auto = is_auto new.version } = sym (λ i. record { width = width; ranges = same_ranges i; segments = same i; auto = is_auto new.version }) in
      subst (IsReconOf old new width) value is_recon_of
