use Rattle.std.proofs.Common.{◌≡◌, ◌≤◌, List, length, refl, ap, ◌∙◌, subst}
use Rattle.sq_gather.proofs.Prelude.{Contains-slice_get}
use Rattle.sq_gather.specs.Prelude.{GatheredLink, GatheredValue, IsLinkPlaced}
use Rattle.sq_audit.proofs.Listing.{item_of}
use Rattle.sq_audit.proofs.Each.{each_more, each_done, shown}
use Rattle.sq_audit.proofs.notes.links_fit.Goals as goal

pub loop-link-preserved : goal.loop-link-preserved
loop-link-preserved c =
    let i = c.loop-link.link-index in
    let here = c.deref-link-items.ensures.value ∙ ap (λ (g : GatheredValue). g.links) c.g.view_is in
    let at = item_of c.deref-link-items.result.now c.args.g.now.links i c.link-item.result here c.link-item.is c.loop-link-test.true in
    each_more (IsLinkPlaced c.args.opening.now c.args.g.now) c.args.g.now.links i c.link-item.result c.loop-link.invariant at
    (shown c.in_ok-link_fits.field-0 c.in_ok-link_fits.ensures c.if-not-branch.false)

pub returns : goal.returns
returns c =
    let i = c.loop-link.link-index in
    let here : c.deref-link-items.result.now ≡ c.args.g.now.links = c.deref-link-items.ensures.value ∙ ap (λ (g : GatheredValue). g.links) c.g.view_is in
    let whole : length c.args.g.now.links ≤ i = subst (λ (ls : List GatheredLink). length ls ≤ i) here c.loop-link-test.false in
    let all = each_done (IsLinkPlaced c.args.opening.now c.args.g.now) c.args.g.now.links i c.loop-link.invariant whole in
    ((λ e k link at. all.0 e link (Contains-slice_get c.args.g.now.links k link at)), (λ fit. refl))
