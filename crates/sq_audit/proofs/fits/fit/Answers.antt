use Rattle.std.proofs.Common.{List, ap, ◌∙◌, subst}
use Rattle.std.specs.Bool.{Decides}
use Rattle.sq_gather.specs.Prelude.{Status, GatheredValue, AllGrown}
use Rattle.sq_audit.proofs.Each.{decides_not, refuted, shown}
use Rattle.sq_audit.proofs.Fitting.{FitsSoFar, notes_apart, fit_if_placed}
use Rattle.sq_audit.proofs.fits.fit.Goals as goal
use Rattle.sq_audit.proofs.fits.fit.Goals.{After-have_grown, Else-not-branch-2}

-- whether the trees grew
grown_is : (c : After-have_grown) → Decides c.have_grown.result (AllGrown c.args.g.now.statuses)
grown_is c =
    subst (λ (statuses : List (List Status)). Decides c.have_grown.result (AllGrown statuses)) (c.deref.ensures.value ∙ ap (λ (g : GatheredValue). g.statuses) c.g.view_is) c.have_grown.ensures

-- what is known once the tests before the last one are passed
so_far : (c : Else-not-branch-2) → Decides c.have_grown.result (AllGrown c.args.g.now.statuses) → FitsSoFar c.args.opening.now c.args.g.now
so_far c grown =
    record {
      parts = shown c.has_parts.result c.has_parts.ensures.parts c.if-not-has_parts.false;
      grown = shown c.have_grown.result grown c.if-not-have_grown.false;
      links = shown c.in_ok-links_fit.field-0 c.in_ok-links_fit.ensures c.if-not-branch.false;
      complete = shown c.in_ok-are_complete.field-0 c.in_ok-are_complete.ensures c.if-not-branch-2.false;
    }

pub returns-then-not-have_grown : goal.returns-then-not-have_grown
returns-then-not-have_grown c =
    decides_not (λ fit. refuted c.have_grown.result (grown_is (goal.at.returns-then-not-have_grown c).After-have_grown) c.if-not-have_grown.true fit.grown)

pub are_placed-requires-clause-links : goal.are_placed-requires-clause-links
are_placed-requires-clause-links c = shown c.in_ok-links_fit.field-0 c.in_ok-links_fit.ensures c.if-not-branch.false

pub are_placed-requires-clause-apart : goal.are_placed-requires-clause-apart
are_placed-requires-clause-apart c =
    let at = goal.at.are_placed-requires-clause-apart c in
    notes_apart c.args.opening.now c.has_parts.ensures.opening c.args.g.now (so_far at.Else-not-branch-2 (grown_is at.After-have_grown))

pub returns : goal.returns
returns c =
    let at = goal.at.returns c in
    fit_if_placed c.args.opening.now c.has_parts.ensures.opening c.args.g.now (so_far at.Else-not-branch-2 (grown_is at.After-have_grown))
    c.are_placed.result c.requires.keyed c.are_placed.ensures
