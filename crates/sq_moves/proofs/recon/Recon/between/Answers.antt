use Rattle.std.proofs.Common.{map, sym, ap, ◌∙◌, subst, List}
use Rattle.sq_plan.specs.Version.{is_auto}
use Rattle.sq_moves.specs.declared.recon.Range.{Range}
use Rattle.sq_moves.specs.Between.{IsReconOf}
use Rattle.sq_moves.specs.ReconValue.{are_in_key_order, segments_of, place_of, AreLinks}
use Rattle.sq_moves.proofs.Made.{moves_of-rising, fine, made}
use Rattle.sq_moves.proofs.recon.Recon.between.Goals as goal
use Rattle.sq_moves.proofs.recon.Recon.between.Goals.{In_ok-places}

pub segments-requires-clause-rising : goal.segments-requires-clause-rising
segments-requires-clause-rising c =
    ap (are_in_key_order 0) (c.as_slice.ensures.value ∙ c.in_ok-ranges.ensures.moves) ∙ moves_of-rising c.args.old.now c.args.new.now c.moves.ensures.plans.0 c.moves.ensures.plans.1

-- what was made of the plans is the reconfiguration between them
is_made : (c : In_ok-places) → IsReconOf c.args.old.now c.args.new.now c.args.width (record { width = c.args.width; ranges = c.in_ok-ranges.ranges.items; segments = c.in_ok-segments.segments.items; auto = is_auto c.args.new.now.version })
is_made c =
    let cut = c.in_ok-segments.ensures ∙ ap (segments_of c.args.width) c.as_slice.ensures.value in
    made c.args.old.now c.args.new.now c.moves.ensures.plans.0 c.moves.ensures.plans.1 c.args.width (fine c.args.old.now c.args.new.now c.args.width (sym c.in_default.ensures.fault)) c.in_ok-ranges.ranges.items c.in_ok-segments.segments.items c.in_ok-ranges.ensures.moves cut

pub invariant_of-result : goal.invariant_of-result
invariant_of-result c = record {
  recon = rw (c.is_auto.ensures, c.version.ensures) (is_made (goal.at.invariant_of-result c).In_ok-places).whole;
  links = subst (λ (ranges : List Range). AreLinks ranges c.in_ok-links.links.items) c.as_slice-2.ensures.value c.in_ok-links.ensures;
  places = c.in_ok-places.ensures ∙ (λ i. map (place_of (c.as_slice-3.ensures.value i)) (c.as_slice-4.ensures.value i));
}

pub returns-clause-ok : goal.returns-clause-ok
returns-clause-ok c = rw (c.is_auto.ensures, c.version.ensures) (is_made (goal.at.returns-clause-ok c).In_ok-places)
