use Rattle.std.proofs.Common.{ap, subst, ◌∙◌}
use Rattle.std.specs.Prelude.{nat_le, find}
use Rattle.std.specs.Ordering.{nat_cmp}
use Rattle.std.specs.List.Sorted.{IsStrictlySortedBy}
use Rattle.sq_exec.proofs.Places.{first_at, none_at}
use Rattle.sq_exec.proofs.numbers.Numbers.first_from.Goals as goal

pub returns-in-Some-clause-first : goal.returns-in-Some-clause-first
returns-in-Some-clause-first c =
    first_at c.self.inside.list.items c.args.from c.place_in.result c.self.invariant c.place_in.ensures (c.in-Some.first).now c.in-Some.ensures.item.3.0 c.in-Some.ensures.lookup
    ∙ ap (find (λ n. nat_le c.args.from n)) c.self.view_is

pub returns-in-Some-clause-rise : goal.returns-in-Some-clause-rise
returns-in-Some-clause-rise c = subst (IsStrictlySortedBy nat_cmp) c.self.view_is c.self.invariant

pub returns-in-None-clause-first : goal.returns-in-None-clause-first
returns-in-None-clause-first c =
    none_at c.self.inside.list.items c.args.from c.place_in.result c.self.invariant c.place_in.ensures c.in-None.ensures.item.3
    ∙ ap (find (λ n. nat_le c.args.from n)) c.self.view_is

pub returns-in-None-clause-rise : goal.returns-in-None-clause-rise
returns-in-None-clause-rise c = subst (IsStrictlySortedBy nat_cmp) c.self.view_is c.self.invariant
