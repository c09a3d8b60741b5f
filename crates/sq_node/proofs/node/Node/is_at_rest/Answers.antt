use Rattle.std.proofs.Common.{◌≡◌, ℕ, ◌<◌, true, length, sym, ◌∙◌, subst, inl, inr, vec_len, arith}
use Rattle.std.specs.Prelude.{◌==◌}
use Rattle.std.proofs.lemmas.Bool.{eqb-true, false≢true}
use Rattle.std.proofs.lemmas.Bool.Decides.{nat_tests}
use Rattle.sq_exec.specs.CoreValue.{loaded_at}
use Rattle.sq_exec.specs.Runs.{is_whole}
use Rattle.sq_node.specs.Settled.{HasSettled}
use Rattle.sq_node.specs.NodeState.{NodeState}
use Rattle.sq_node.proofs.Resting.{none_left, some_left}
use Rattle.sq_node.proofs.Completing.{all_settled}
use Rattle.sq_node.proofs.node.Node.is_at_rest.Goals as goal

pub returns-then-has_late_jobs-clause-work : goal.returns-then-has_late_jobs-clause-work
returns-then-has_late_jobs-clause-work c = λ _. inr (inr (c.has_late_jobs.ensures.0 c.if-has_late_jobs.true))

pub returns-then-not-is_empty-clause-work : goal.returns-then-not-is_empty-clause-work
returns-then-not-is_empty-clause-work c = λ _.
    let inside = c.self.inside in
    let nodes = inside.to_complete in
    let some : 0 < length nodes.items = grind (arith, nat_tests, nodes.ok.0, c.is_empty.ensures, c.if-not-is_empty.true) in
    let first = some_left nodes.items some in
    inr (inl (
      first.0.0,
      first.0.1,
      subst (λ (node : NodeState). is_whole (loaded_at node.core first.0.0) first.0.1 ≡ true) c.self.view_is (c.self.invariant.1.whole first.0.0 first.0.1 first.1),
    ))

pub returns-clause-settled : goal.returns-clause-settled
returns-clause-settled c = λ _ seg n.
    let inside = c.self.inside in
    let nodes = inside.to_complete in
    let zero = eqb-true (vec_len nodes) 0 (sym c.is_empty.ensures ∙ c.if-not-is_empty.false) in
    subst (λ (node : NodeState). is_whole (loaded_at node.core seg) n ≡ true → HasSettled node.seats seg n) c.self.view_is
    (all_settled inside.core.core inside.seats.items nodes.items inside.complete.items (none_left nodes.items (λ some. omega (arith, zero, some, nodes.ok.0))) c.self.invariant.1 seg n)

pub returns-clause-waiting : goal.returns-clause-waiting
returns-clause-waiting c = λ _ last.
    none_left c.args.self.now.core.waiting (λ some. false≢true (sym c.if-has_late_jobs.false ∙ c.has_late_jobs.ensures.1 (last, some)))

pub returns-clause-work : goal.returns-clause-work
returns-clause-work c = λ no. inl (c.is_quiet.ensures.work no)
