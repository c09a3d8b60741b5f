use Rattle.std.proofs.Common.{◌≡◌, ℕ, sym, ap, ◌∙◌, subst, below_more, arith}
use Rattle.std.proofs.lemmas.Bool.{false≢true}
use Rattle.sq_exec.specs.CoreValue.{CoreValue}
use Rattle.sq_exec.specs.Kept.{IsCore}
use Rattle.sq_node.specs.NodeState.{NodeState}
use Rattle.sq_node.specs.Idle.{IsQuiet}
use Rattle.sq_node.proofs.Resting.{all_quiet}
use Rattle.sq_node.proofs.node.Node.is_quiet.Goals as goal

pub loop-number-preserved : goal.loop-number-preserved
loop-number-preserved c =
    let core = c.args.self.now.core in
    below_more (λ (other : ℕ). IsQuiet core other) c.loop-number.number c.loop-number.invariant (subst (IsQuiet core) c.new.ensures (c.is_quiet_with.ensures.0 c.if-not-is_quiet_with.false))

pub returns-clause-quiet : goal.returns-clause-quiet
returns-clause-quiet c = λ _.
    let parts = c.parts-number-end.ensures in
    let core : c.self.inside.core.core ≡ c.args.self.now.core = ap (λ (node : NodeState). node.core) c.self.view_is in
    let count = ap (λ (of : CoreValue). of.plan.parts) core in
    all_quiet c.args.self.now.core parts.kept.0 (subst (λ (of : CoreValue). IsCore of parts.kept.0) core parts.kept.1)
    (λ other below. c.loop-number.invariant other (omega (arith, below, parts.parts, count, c.loop-number-test.false)))

pub returns-then-not-is_quiet_with-clause-work : goal.returns-then-not-is_quiet_with-clause-work
returns-then-not-is_quiet_with-clause-work c = λ _. (
  c.loop-number.number,
  λ quiet. absurd (false≢true (sym c.if-not-is_quiet_with.true ∙ c.is_quiet_with.ensures.1 (subst (IsQuiet c.args.self.now.core) (sym c.new.ensures) quiet))),
)
