-- The search comes out at the range that holds the key.
use Rattle.std.proofs.Common.{length, Some, rules, leb, sym, ap, ◌∙◌, arith}
use Rattle.std.proofs.lemmas.Fn.{always_returns_same}
use Rattle.sq_plan.specs.PlanValue.{PlanValue}
use Rattle.sq_plan.proofs.Owners.{find_at_point, owner_found}
use Rattle.sq_plan.proofs.plan.Plan.owner.Goals as goal

pub index-requires : goal.index-requires
index-requires c =
    let plan : PlanValue = record { version = c.self.inside.version; parts = c.self.inside.parts; ranges = c.self.inside.ranges.items } in
    let found = find_at_point plan c.as_slice.result.now c.number-key.result c.partition_point-at.result (record { lo = 0; hi = 0; owner = 0 }) c.self.invariant c.as_slice.ensures.value c.number-key.ensures.bound c.partition_point-at.ensures.bound
    (c.partition_point-at.ensures.partitioned (λ range. leb range.hi c.number-key.result) (always_returns_same _ _ _ (λ a r f k. search rules))) in
    let n = c.as_slice.ensures.len in
    let e = ap length c.as_slice.ensures.value in
    omega (arith, found.0)

pub returns : goal.returns
returns c =
    let plan : PlanValue = record { version = c.self.inside.version; parts = c.self.inside.parts; ranges = c.self.inside.ranges.items } in
    let found = find_at_point plan c.as_slice.result.now c.number-key.result c.partition_point-at.result c.index.result.now c.self.invariant c.as_slice.ensures.value c.number-key.ensures.bound c.partition_point-at.ensures.bound
    (c.partition_point-at.ensures.partitioned (λ range. leb range.hi c.number-key.result) (always_returns_same _ _ _ (λ a r f k. search rules))) in
    let owns = owner_found plan c.number-key.result c.index.result.now c.self.invariant (found.1 ∙ ap Some (sym c.index.ensures)) in
    record {
      owner = rw (← c.self.view_is, ← c.number-key.ensures.number) owns.0;
      exists = rw (← c.self.view_is) owns.1;
    }
