-- The search comes out at the range that holds the key.
use Rattle.std.proofs.Common.{List, length, Some, rules, leb, sym, ap, get_or, ◌∙◌, arith}
use Rattle.std.proofs.lemmas.Fn.{always_returns_same}
use Rattle.sq_plan.specs.declared.plan.PlanRange.{PlanRange}
use Rattle.sq_plan.specs.PlanValue.{holds, owner}
use Rattle.sq_plan.proofs.Owners.{find_at_point, owner_found, owner_held}
use Rattle.sq_store.proofs.Suffixes.{range_found}
use Rattle.sq_store.proofs.owned.range_of.Goals as goal

pub bounds-ranges-at : goal.bounds-ranges-at
bounds-ranges-at c =
    let found = find_at_point c.args.plan.now c.ranges-ranges.result.now c.number-key.result c.partition_point-at.result (record { lo = 0; hi = 0; owner = 0 }) c.ranges-ranges.ensures.plan c.ranges-ranges.ensures.ranges c.number-key.ensures.bound c.partition_point-at.ensures.bound
    (c.partition_point-at.ensures.partitioned (λ range. leb range.hi c.number-key.result) (always_returns_same _ _ _ (λ a r f k. search rules))) in
    let same = ap length c.ranges-ranges.ensures.ranges in
    omega (arith, found.0, same)

pub returns-clause-owned : goal.returns-clause-owned
returns-clause-owned c =
    let found = find_at_point c.args.plan.now c.ranges-ranges.result.now c.number-key.result c.partition_point-at.result (record { lo = 0; hi = 0; owner = 0 }) c.ranges-ranges.ensures.plan c.ranges-ranges.ensures.ranges c.number-key.ensures.bound c.partition_point-at.ensures.bound
    (c.partition_point-at.ensures.partitioned (λ range. leb range.hi c.number-key.result) (always_returns_same _ _ _ (λ a r f k. search rules))) in
    λ key holding. owner_held c.args.plan.now key c.partition_point-at.result c.index-ranges-at.result c.ranges-ranges.ensures.plan found.0 (c.index-ranges-at.is ∙ ap (λ (ranges : List PlanRange). get_or ranges c.partition_point-at.result c.index-ranges-at.result) c.ranges-ranges.ensures.ranges) holding

pub returns-clause-owner : goal.returns-clause-owner
returns-clause-owner c =
    let found = find_at_point c.args.plan.now c.ranges-ranges.result.now c.number-key.result c.partition_point-at.result c.index-ranges-at.result c.ranges-ranges.ensures.plan c.ranges-ranges.ensures.ranges c.number-key.ensures.bound c.partition_point-at.ensures.bound
    (c.partition_point-at.ensures.partitioned (λ range. leb range.hi c.number-key.result) (always_returns_same _ _ _ (λ a r f k. search rules))) in
    let same = c.index-ranges-at.is ∙ ap (λ (ranges : List PlanRange). get_or ranges c.partition_point-at.result c.index-ranges-at.result) c.ranges-ranges.ensures.ranges in
    (owner_found c.args.plan.now c.number-key.result c.index-ranges-at.result c.ranges-ranges.ensures.plan (found.1 ∙ ap Some (sym same))).0 ∙ ap (owner c.args.plan.now) c.number-key.ensures.number

pub returns-clause-held : goal.returns-clause-held
returns-clause-held c =
    let found = find_at_point c.args.plan.now c.ranges-ranges.result.now c.number-key.result c.partition_point-at.result c.index-ranges-at.result c.ranges-ranges.ensures.plan c.ranges-ranges.ensures.ranges c.number-key.ensures.bound c.partition_point-at.ensures.bound
    (c.partition_point-at.ensures.partitioned (λ range. leb range.hi c.number-key.result) (always_returns_same _ _ _ (λ a r f k. search rules))) in
    let same = c.index-ranges-at.is ∙ ap (λ (ranges : List PlanRange). get_or ranges c.partition_point-at.result c.index-ranges-at.result) c.ranges-ranges.ensures.ranges in
    ap (holds c.index-ranges-at.result) (sym c.number-key.ensures.number) ∙ range_found c.args.plan.now.ranges c.number-key.result c.index-ranges-at.result (found.1 ∙ ap Some (sym same))
