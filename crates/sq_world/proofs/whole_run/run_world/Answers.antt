use Rattle.std.proofs.Common.{◌≡◌, subst, sym, ap, ◌∙◌, arith, ◌+◌, length, take}
use Rattle.std.proofs.Math.Seq.{take-length}
use Rattle.sq_model.proofs.Ended.{ended_place}
use Rattle.sq_transition.specs.Headline.{KeepsHeadline}
use Rattle.sq_world.specs.History.{history_of}
use Rattle.sq_world.proofs.Histories.{history_grows}
use Rattle.sq_world.proofs.whole_run.run_world.Goals as goal

-- src/whole_run.rt:29:5
pub loop-step-preserved : goal.loop-step-preserved
loop-step-preserved c =
    let steps = c.args.steps.now in
    let answers = c.loop-step.answers.items in
    let at = c.loop-step.step-index in
    let step = c.step-item.result in
    let given = c.step.result in
    let so_far = c.loop-step.invariant in
    let went = c.step.ensures.headline c.args.opening (history_of (take at steps) answers) c.in_ok-world.ensures.opened.0 so_far.goes.legal so_far.goes.holds in
    let grown = history_grows steps answers at step given c.loop-step-test.true so_far.count c.step-item.is in
    record {
      count = omega (arith, so_far.count, c.push_reserved.ensures.len);
      room = omega (arith, so_far.room, c.push_reserved.ensures.capacity);
      goes = subst (λ t. KeepsHeadline c.args.opening t c.step.new.self) (sym (ap (history_of (take (at + 1) steps)) c.push_reserved.ensures.items ∙ grown)) went;
    }

pub returns-clause-finished : goal.returns-clause-finished
returns-clause-finished c = λ ended.
    let steps = c.args.steps.now in
    let answers = c.loop-step.answers.items in
    let at = c.loop-step.step-index in
    let end : at ≡ length steps = omega (arith, c.loop-step-test.false, c.loop-step.auto.step-index-end) in
    let all : take at steps ≡ steps = ap (λ n. take n steps) end ∙ take-length steps in
    let goes = subst (λ made. KeepsHeadline c.args.opening (history_of made answers) c.loop-step.world) all c.loop-step.invariant.goes in
    ended_place c.args.opening c.in_ok-world.ensures.opened.0 (history_of steps answers) goes.legal (sym goes.holds.leader.phase ∙ ended)
