use Rattle.std.proofs.Common.{List, ◌++◌, ap, ◌∙◌}
use Rattle.sq_schema.specs.Family.{FamilyValue}
use Rattle.sq_results.specs.RowLines.{lent_values}
use Rattle.sq_results.proofs.Lent.{one_lent, all_lent}
use Rattle.sq_results.proofs.standing.add_store.Goals as goal

pub loop-family-init : goal.loop-family-init
loop-family-init c = (
  tt,
  tt,
  ap (λ (fs : List FamilyValue). lent_values c.args.families.now.items ++ fs) (c.into_iter-family-iterator.ensures.into_iter_gives ∙ c.families-family-items.ensures.families),
)

pub loop-family-preserved : goal.loop-family-preserved
loop-family-preserved c = (
  tt,
  tt,
  one_lent c.loop-family.families.items _ c.in-Some.family _ _ _ c.in_ok-push.ensures.items c.in-Some.ensures.steps c.loop-family.invariant.2,
)

pub returns : goal.returns
returns c = all_lent c.loop-family.families.items _ _ (c.in-None.ensures.steps).0 c.loop-family.invariant.2
