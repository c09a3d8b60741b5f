use Rattle.std.proofs.Common.{get_or, sym, ap, ap₂, ◌∙◌, arith, true≢false, ◌==◌, eqb-true, eq-eqb}
use Rattle.std.proofs.lemmas.Bool.{and_parts, and_from}
use Rattle.sq_gather.specs.Prelude.{Link, stage_on, GatheredLink}
use Rattle.sq_gather.specs.Gathered.{closed_ends}
use Rattle.sq_audit.specs.Fits.{IsKnownLink}
use Rattle.sq_audit.proofs.Listing.{item_at}
use Rattle.sq_audit.proofs.Each.{each_more, each_done, each_fails}
use Rattle.sq_audit.proofs.Parts.{same_link}
use Rattle.sq_audit.proofs.fits.are_known_links.Goals as goal

pub returns-then-not-contains : goal.returns-then-not-contains
returns-then-not-contains c =
    each_fails (λ (at : GatheredLink). IsKnownLink c.args.recon.now c.args.stage c.args.links.now at) c.args.gathered.now c.loop-link.link-index c.link-item.result
    (item_at c.args.gathered.now c.loop-link.link-index c.link-item.result c.link-item.is c.loop-link-test.true)
    (λ is.
    let has = is.0 in
    let ends = closed_ends c.link-item.result in
    let at = has.2 in
    let src = ap (λ (l : Link). l.src) at ∙ sym (ap (λ (l : GatheredLink). l.src) c.link.view_is) in
    let dst = ap (λ (l : Link). l.dst) at ∙ sym (ap (λ (l : GatheredLink). l.dst) c.link.view_is) in
    let one = get_or c.args.links.now has.0 ends in
    true≢false (sym (and_from (one.src == c.link.inside.src) (one.dst == c.link.inside.dst) (eq-eqb one.src c.link.inside.src src) (eq-eqb one.dst c.link.inside.dst dst)) ∙ c.if-not-contains.ensures.cases has.0 ends (omega arith) has.1))

pub returns-then-stage_on-stage : goal.returns-then-stage_on-stage
returns-then-stage_on-stage c =
    each_fails (λ (at : GatheredLink). IsKnownLink c.args.recon.now c.args.stage c.args.links.now at) c.args.gathered.now c.loop-link.link-index c.link-item.result
    (item_at c.args.gathered.now c.loop-link.link-index c.link-item.result c.link-item.is c.loop-link-test.true)
    (λ is.
    let src = ap (λ (l : GatheredLink). l.src) c.link.view_is in
    let dst = ap (λ (l : GatheredLink). l.dst) c.link.view_is in
    c.if-stage_on-stage.true (c.stage_on.ensures.stage ∙ ap₂ (stage_on c.args.recon.now) src dst ∙ is.1))

pub loop-link-preserved : goal.loop-link-preserved
loop-link-preserved c =
    each_more (λ (at : GatheredLink). IsKnownLink c.args.recon.now c.args.stage c.args.links.now at) c.args.gathered.now c.loop-link.link-index c.link-item.result c.loop-link.invariant
    (item_at c.args.gathered.now c.loop-link.link-index c.link-item.result c.link-item.is c.loop-link-test.true)
    (let ends = closed_ends c.link-item.result in
    let found = c.if-not-contains.ensures.cases in
    let one = get_or c.args.links.now found.0 ends in
    let parts = and_parts (one.src == c.link.inside.src) (one.dst == c.link.inside.dst) (found.2 ends) in
    let src = eqb-true one.src c.link.inside.src parts.0 ∙ ap (λ (l : GatheredLink). l.src) c.link.view_is in
    let dst = eqb-true one.dst c.link.inside.dst parts.1 ∙ ap (λ (l : GatheredLink). l.dst) c.link.view_is in
    let here = ap₂ (stage_on c.args.recon.now) (sym (ap (λ (l : GatheredLink). l.src) c.link.view_is)) (sym (ap (λ (l : GatheredLink). l.dst) c.link.view_is)) in
    ((found.0, found.1, same_link src dst), here ∙ sym c.stage_on.ensures.stage ∙ c.if-stage_on-stage.false))

pub returns : goal.returns
returns c = each_done (λ (at : GatheredLink). IsKnownLink c.args.recon.now c.args.stage c.args.links.now at) c.args.gathered.now c.loop-link.link-index c.loop-link.invariant c.loop-link-test.false
