use Rattle.std.proofs.Common.{◌≡◌, ℕ, ◌+◌, subst, arith}
use Rattle.sq_audit.specs.Sound.{with_receipts}
use Rattle.sq_audit.specs.Defects.{ClearBelow}
use Rattle.sq_audit.proofs.Verdicts.{none_below, all_clear, lower_clear, first_found, next_below}
use Rattle.sq_audit.proofs.passes.first_defect.Goals as goal

pub loop-defect-init : goal.loop-defect-init
loop-defect-init c = none_below c.args.opening.now (with_receipts c.args.g.now c.args.receipts.now) c.args.jobs.now

pub clears-requires-clause-lower : goal.clears-requires-clause-lower
clears-requires-clause-lower c =
    lower_clear c.args.opening.now (with_receipts c.args.g.now c.args.receipts.now) c.args.jobs.now c.loop-defect.defect-index c.loop-defect-test.true c.loop-defect.invariant

pub returns-then-not-branch : goal.returns-then-not-branch
returns-then-not-branch c =
    first_found c.args.opening.now (with_receipts c.args.g.now c.args.receipts.now) c.args.jobs.now c.loop-defect.defect-index c.loop-defect-test.true c.loop-defect.invariant
    c.in_ok-clears.field-0 c.in_ok-clears.ensures c.if-not-branch.true

pub loop-defect-preserved : goal.loop-defect-preserved
loop-defect-preserved c =
    next_below c.args.opening.now (with_receipts c.args.g.now c.args.receipts.now) c.args.jobs.now c.loop-defect.defect-index c.loop-defect-test.true c.loop-defect.invariant
    c.in_ok-clears.field-0 c.in_ok-clears.ensures c.if-not-branch.false

pub returns : goal.returns
returns c =
    let o = c.args.opening.now in
    let g = with_receipts c.args.g.now c.args.receipts.now in
    let jobs = c.args.jobs.now in
    let all : c.loop-defect.defect-index ≡ 6 = omega arith in
    all_clear o g jobs (subst (λ (i : ℕ). ClearBelow o g jobs (301 + i)) all c.loop-defect.invariant)
