use Rattle.std.proofs.Common.{◌≡◌, length, subst, arith}
use Rattle.std.specs.Vec.Iter.{into_iter_items}
use Rattle.sq_store.specs.Commands.{AreStoreAnswers}
use Rattle.sq_store.proofs.RunStore.{completes_more, completes_all}
use Rattle.sq_store.proofs.run.run_store.Goals as goal

pub loop-command-preserved : goal.loop-command-preserved
loop-command-preserved g c =
    let contents = g.S.FamilyStore.contents in
    let steps = c.in-Some.ensures.steps in
    let so_far = c.loop-command.invariant in (
      tt,
      tt,
      completes_more (contents c.args.store.now) (into_iter_items c.into_iter-command-iterator.result) c.loop-command.answers.items c.push_reserved.new.self.items (contents c.loop-command.store) (contents c.answer.new.store)
          (into_iter_items c.loop-command.command-iterator) (into_iter_items c.next.new.self) c.in-Some.command c.answer.result so_far.2 steps.0 c.answer.ensures c.push_reserved.ensures.items,
      omega (arith, so_far.3, steps.1, c.push_reserved.ensures.len, c.push_reserved.ensures.capacity),
    )

pub returns-clause-ok : goal.returns-clause-ok
returns-clause-ok g c =
    let contents = g.S.FamilyStore.contents in
    let left = c.loop-command.command-iterator in
    let none : length (into_iter_items left) ≡ 0 = omega (arith, c.in-None.ensures.steps.0, left.rest.ok) in
    subst (λ commands. AreStoreAnswers (contents c.args.store.now) commands c.loop-command.answers.items (contents c.loop-command.store)) c.into_iter-command-iterator.ensures.into_iter_gives.0
    (completes_all (contents c.args.store.now) (into_iter_items c.into_iter-command-iterator.result) c.loop-command.answers.items (contents c.loop-command.store) (into_iter_items left) c.loop-command.invariant.2 none)
