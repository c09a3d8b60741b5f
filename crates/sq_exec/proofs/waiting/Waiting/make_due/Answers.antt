use Rattle.std.proofs.Common.{Result, Ok, Err, ap, ◌∙◌}
use Rattle.std.specs.Prelude.{OnOk, OnErr}
use Rattle.sq_exec.specs.Index.{is_between}
use Rattle.sq_exec.specs.Waiting.{with_due}
use Rattle.sq_exec.proofs.Indexes.{adds_indexed, adds_all, due_alike}
use Rattle.sq_exec.proofs.waiting.Waiting.make_due.Goals as goal

-- what follows from what holds on success holds on success
on_ok : {T E : Type 0} {P Q : Type 0} → (P → Q) → (result : Result T E) → OnOk result P → OnOk result Q
on_ok follows (Ok x) p = follows p
on_ok follows (Err e) p = tt

on_err : {T E : Type 0} {P Q : Type 0} → (P → Q) → (result : Result T E) → OnErr result P → OnErr result Q
on_err follows (Ok x) p = tt
on_err follows (Err e) p = follows p

pub invariant_of-self : goal.invariant_of-self
invariant_of-self c = adds_indexed c.self.inside.txns.entries c.self.inside.by_root c.self.inside.due c.self.inside.due_below c.self.inside.txns.next c.self.invariant c.args.lo c.args.hi c.add_between.new.numbers c.add_between.ensures.adds

pub returns-clause-ok : goal.returns-clause-ok
returns-clause-ok c =
    on_ok (λ all.
    adds_all c.self.inside.txns.entries c.self.inside.by_root c.self.inside.due c.self.inside.due_below c.self.inside.txns.next c.self.invariant c.args.lo c.args.hi c.add_between.new.numbers c.add_between.ensures.adds all
    ∙ ap (with_due (λ a. is_between c.args.lo c.args.hi (a.txn).root)) c.self.view_is) c.add_between.result c.add_between.ensures.ok

pub returns-clause-err : goal.returns-clause-err
returns-clause-err c =
    on_err (λ same.
    due_alike c.self.inside.txns.entries c.self.inside.by_root c.self.inside.due c.self.inside.due_below c.self.inside.txns.next c.self.invariant c.add_between.new.numbers same
    ∙ c.self.view_is) c.add_between.result c.add_between.ensures.err
