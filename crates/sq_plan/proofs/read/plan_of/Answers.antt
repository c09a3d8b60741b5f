-- The owners passed the checks.
use Rattle.std.proofs.Common.{sym, subst, arith}
use Rattle.sq_plan.proofs.Checks.{checked-ok, parts_bound, small_owners}
use Rattle.sq_plan.proofs.Ranges.{AreSmall}
use Rattle.sq_plan.proofs.read.plan_of.Goals as goal

pub ranges_of-requires : goal.ranges_of-requires
ranges_of-requires c =
    let fields = c.in_ok-fields.ensures in
    let passed = c.in_ok-heading.ensures fields.0 fields.1 in
    let checks = checked-ok _ c.in_ok-fields.fields.parts fields.0 _ passed in
    let few = parts_bound _ checks.is_plan in
    subst AreSmall (sym fields.1.items) (small_owners c.in_ok-heading.heading.parts fields.0 (omega (arith, few)) checks.is_plan.owners)
