-- The segments of an opening go from one of its partitions to another.
use Rattle.std.proofs.Common.{◌≡◌, ℕ, ◌<◌, true, List, [], ◌∷◌, refl, subst, arith}
use Rattle.std.specs.Prelude.{◌&&◌}
use Rattle.std.specs.List.{list_all}
use Rattle.std.proofs.lemmas.Bool.{lt-ltb}
use Rattle.sq_schema.specs.declared.root.TheConstants.{ROOT_END}
use Rattle.sq_plan.specs.PlanValue.{PlanValue, IsPlan, owner}
use Rattle.sq_plan.proofs.Owners.{owner_exists}
use Rattle.sq_moves.specs.declared.recon.Range.{Range}
use Rattle.sq_moves.specs.ReconValue.{IsRecon}
use Rattle.sq_moves.specs.Moves.{IsMovingRun}
use Rattle.sq_moves.specs.OpeningValue.{OpeningValue}
use Rattle.sq_moves.specs.SetUp.{IsSetUp}
use Rattle.sq_moves.proofs.Rows.{Row}
use Rattle.sq_moves.proofs.Segments.{segments_are_runs}
use Rattle.sq_exec.specs.CoreValue.{has_ends}

ends_in_row : (old new : PlanValue) (at : ℕ) (ranges : List Range) → IsPlan old → IsPlan new → new.parts ≡ old.parts → Row (IsMovingRun old new) at ROOT_END ranges → list_all (has_ends old.parts) ranges ≡ true
ends_in_row old new at [] is_old is_new same row = refl
ends_in_row old new at (range ∷ ranges) is_old is_new same row =
    let owned = row.2.owned range.lo (omega arith) row.1 in
    let src : range.src < old.parts = subst (λ part. part < old.parts) owned.0 (owner_exists old range.lo is_old) in
    let dst : range.dst < old.parts = subst (λ part. part < old.parts) owned.1 (subst (λ parts. owner new range.lo < parts) same (owner_exists new range.lo is_new)) in
    λ k. (lt-ltb range.src old.parts src k && lt-ltb range.dst old.parts dst k) && ends_in_row old new range.hi ranges is_old is_new same row.3 k

pub ends_within : (o : OpeningValue) → IsSetUp o → IsRecon o.recon → list_all (has_ends o.old.parts) o.recon.segments ≡ true
ends_within o is recon = ends_in_row o.old o.new 0 o.recon.segments is.opening.old_plan is.opening.new_plan is.opening.parts (segments_are_runs o.recon recon o.old o.new is.opening.moves)
