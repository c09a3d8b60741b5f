use Rattle.sq_gather.specs.Prelude.{Link}
use Rattle.sq_audit.specs.Fits.{HasOne}
use Rattle.sq_audit.proofs.Listing.{item_at}
use Rattle.sq_audit.proofs.Each.{each_more, each_done, each_fails, refuted, shown}
use Rattle.sq_audit.proofs.fits.have_one_each.Goals as goal

pub returns-then-not-has_one : goal.returns-then-not-has_one
returns-then-not-has_one c =
    each_fails (λ (link : Link). HasOne c.args.recon.now c.args.stage c.args.gathered.now link) c.args.links.now c.loop-link.link-index c.link-item.result
    (item_at c.args.links.now c.loop-link.link-index c.link-item.result c.link-item.is c.loop-link-test.true)
    (refuted c.has_one.result c.has_one.ensures c.if-not-has_one.true)

pub loop-link-preserved : goal.loop-link-preserved
loop-link-preserved c =
    each_more (λ (link : Link). HasOne c.args.recon.now c.args.stage c.args.gathered.now link) c.args.links.now c.loop-link.link-index c.link-item.result c.loop-link.invariant
    (item_at c.args.links.now c.loop-link.link-index c.link-item.result c.link-item.is c.loop-link-test.true)
    (shown c.has_one.result c.has_one.ensures c.if-not-has_one.false)

pub returns : goal.returns
returns c = each_done (λ (link : Link). HasOne c.args.recon.now c.args.stage c.args.gathered.now link) c.args.links.now c.loop-link.link-index c.loop-link.invariant c.loop-link-test.false
