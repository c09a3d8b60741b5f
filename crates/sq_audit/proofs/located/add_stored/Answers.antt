use Rattle.std.proofs.Common.{List, refl, ap, ◌∙◌, subst, sym}
use Rattle.sq_audit.specs.declared.located.Located.{Located}
use Rattle.sq_audit.specs.Located.{Entry, spot_of, entries_in}
use Rattle.sq_audit.proofs.Listing.{SomeAdded, none_added, more_added, all_added}
use Rattle.sq_audit.proofs.located.add_stored.Goals as goal

pub loop-family-init : goal.loop-family-init
loop-family-init c = (tt, tt, none_added (spot_of c.args.site) c.args.store.now (entries_in c.args.all.now.items) _ (c.into_iter-family-iterator.ensures.into_iter_gives ∙ c.families-family-items.ensures.families))

pub loop-family-preserved : goal.loop-family-preserved
loop-family-preserved c =
    let family = c.in-Some.family.now in
    let one : Located = record { site = c.args.site; family = c.in-Some.family } in
    let before = entries_in c.args.all.now.items in
    let more = more_added (spot_of c.args.site) c.args.store.now before c.loop-family.family-iterator c.next.new.self c.loop-family.all.items one family c.loop-family.invariant.2 c.in-Some.ensures.steps refl c.position.ensures.own in (
      tt,
      tt,
      subst (λ (now : List Entry). SomeAdded (spot_of c.args.site) c.args.store.now before c.next.new.self now) (sym (ap entries_in c.in_ok-push.ensures.items)) more,
    )

pub returns : goal.returns
returns c = all_added (spot_of c.args.site) c.args.store.now (entries_in c.args.all.now.items) c.loop-family.family-iterator (entries_in c.loop-family.all.items) c.families-family-items.ensures.rooted (c.in-None.ensures.steps).0 c.loop-family.invariant.2
