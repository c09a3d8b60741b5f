use Rattle.std.proofs.Common.{rules, vec_len, ◌≡◌, ℕ, List, length, sym, ap, ◌∙◌, subst}
use Rattle.std.specs.Bool.{Decides}
use Rattle.std.proofs.lemmas.Bool.Decides.{Decides-like}
use Rattle.sq_gather.specs.Prelude.{PlanValue, Range, ReconValue, AreLinks, GatheredLink, GatheredValue}
use Rattle.sq_audit.specs.Fits.{AreKnownLinks, HaveOneEach}
use Rattle.sq_audit.proofs.Each.{decides_not, refuted, shown}
use Rattle.sq_audit.proofs.Parts.{each_link_from, known_links, known_again, one_of_each, told_of}
use Rattle.sq_audit.proofs.fits.has_parts.Goals as goal
use Rattle.sq_audit.proofs.fits.has_parts.Goals.{After-are_known_links}

-- whether the links that were gathered are known, by the opening and the stage
known_are : (c : After-are_known_links) → Decides c.are_known_links.result (AreKnownLinks c.args.opening.now.recon c.args.g.now.stage c.links.result.now c.args.g.now.links)
known_are c =
    told_of (λ (r : ReconValue) (i : ℕ) (ls : List GatheredLink). Decides c.are_known_links.result (AreKnownLinks r i c.links.result.now ls))
    c.recon-recon.result.now c.args.opening.now.recon c.g.inside.stage c.args.g.now.stage c.deref.result.now c.args.g.now.links
    c.recon-recon.ensures.recon
    (ap (λ (g : GatheredValue). g.stage) c.g.view_is)
    (c.deref.ensures.value ∙ ap (λ (g : GatheredValue). g.links) c.g.view_is)
    c.are_known_links.ensures

pub returns-then-not-are_known_links-clause-parts : goal.returns-then-not-are_known_links-clause-parts
returns-then-not-are_known_links-clause-parts c =
    let o = c.args.opening.now in
    let g = c.args.g.now in
    let are = subst (λ (r : ReconValue). AreLinks r.ranges c.links.result.now) c.recon-recon.ensures.recon c.links.ensures in
    decides_not (λ parts. refuted c.are_known_links.result (known_are (goal.at.returns-then-not-are_known_links-clause-parts c).After-are_known_links) c.if-not-are_known_links.true (known_links o g.stage g.links c.links.result.now are parts.each_link))

pub returns-clause-parts : goal.returns-clause-parts
returns-clause-parts c =
    let o = c.args.opening.now in
    let g = c.args.g.now in
    let are = subst (λ (r : ReconValue). AreLinks r.ranges c.links.result.now) c.recon-recon.ensures.recon c.links.ensures in
    let are_too = subst (λ (r : ReconValue). AreLinks r.ranges c.links-2.result.now) c.recon-recon.ensures.recon c.links-2.ensures in
    let known = shown c.are_known_links.result (known_are (goal.at.returns-clause-parts c).After-are_known_links) c.if-not-are_known_links.false in
    let known_too = known_again o g.stage g.links c.links.result.now c.links-2.result.now are are_too known in
    let stores : length g.stores ≡ o.old.parts = ap (λ (v : GatheredValue). length v.stores) (sym c.g.view_is) ∙ (let e : length c.g.inside.stores.items ≡ vec_len c.g.inside.stores = search rules in e) ∙ sym c.len.ensures ∙ c.if-len-from.false ∙ c.from.ensures ∙ c.parts.ensures.parts ∙ ap (λ (p : PlanValue). p.parts) c.old_plan.ensures.plan in
    let statuses : length g.statuses ≡ length o.recon.segments = ap (λ (v : GatheredValue). length v.statuses) (sym c.g.view_is) ∙ (let e : length c.g.inside.statuses.items ≡ vec_len c.g.inside.statuses = search rules in e) ∙ sym c.len-2.ensures ∙ c.if-len-segments.false ∙ ap (λ (r : List Range). length r) c.segments.ensures.segments ∙ ap (λ (r : ReconValue). length r.segments) c.recon-recon.ensures.recon in
    Decides-like c.have_one_each.result
    (λ once. record { all_stores = stores; each_link = each_link_from o g.stage g.links c.links-2.result.now are_too known_too once; all_statuses = statuses })
    (λ parts. one_of_each o g.stage g.links c.links-2.result.now are_too parts.each_link)
    (told_of (λ (r : ReconValue) (i : ℕ) (ls : List GatheredLink). Decides c.have_one_each.result (HaveOneEach r i c.links-2.result.now ls))
    c.recon-recon.result.now o.recon c.g.inside.stage g.stage c.deref-2.result.now g.links
    c.recon-recon.ensures.recon
    (ap (λ (v : GatheredValue). v.stage) c.g.view_is)
    (c.deref-2.ensures.value ∙ ap (λ (v : GatheredValue). v.links) c.g.view_is)
    c.have_one_each.ensures)
