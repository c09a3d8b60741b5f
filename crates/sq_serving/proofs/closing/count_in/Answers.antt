use Rattle.std.proofs.Common.{List, ap, ◌∙◌, arith}
use Rattle.std.specs.Prelude.{length, sum_by}
use Rattle.sq_schema.specs.Family.{FamilyValue}
use Rattle.sq_serving.proofs.Tallied.{one_counted, all_counted}
use Rattle.sq_engine.specs.Ending.{logged_in}
use Rattle.sq_serving.proofs.closing.count_in.Goals as goal

pub loop-family-init : goal.loop-family-init
loop-family-init c = (
  tt,
  tt,
  λ fits.
      let all = ap (λ (l : List FamilyValue). sum_by (λ (family : FamilyValue). length family.log) l)
      (c.into_iter-family-iterator.ensures.into_iter_gives ∙ c.families-family-items.ensures.families) in
      omega (arith, all),
)

pub loop-family-preserved : goal.loop-family-preserved
loop-family-preserved c =
    let family = c.in-Some.family.now in
    let position = c.position.ensures.position in
    let sum = c.saturating_add-count.ensures in (
      tt,
      tt,
      one_counted (λ (f : FamilyValue). length f.log) c.loop-family.count _ family c.loop-family.family-iterator c.next.new.self (logged_in c.args.store.now)
          c.in-Some.ensures.steps c.loop-family.invariant.2 (λ small. omega (arith, small, position, sum)),
    )

pub returns : goal.returns
returns c =
    all_counted (λ (f : FamilyValue). length f.log) c.loop-family.count c.loop-family.family-iterator (logged_in c.args.store.now)
    (c.in-None.ensures.steps).0 c.loop-family.invariant.2
