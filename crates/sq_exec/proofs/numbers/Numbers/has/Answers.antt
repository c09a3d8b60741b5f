use Rattle.std.proofs.Common.{ap, ◌∙◌}
use Rattle.sq_exec.specs.Index.{is_among}
use Rattle.sq_exec.proofs.Places.{among_at, none_among_at}
use Rattle.sq_exec.proofs.numbers.Numbers.has.Goals as goal

pub returns-in-Some : goal.returns-in-Some
returns-in-Some c =
    among_at c.self.inside.list.items c.args.number c.place_in.result c.self.invariant c.place_in.ensures (c.in-Some.first).now c.in-Some.ensures.item.3.0 c.in-Some.ensures.lookup
    ∙ ap (λ ns. is_among ns c.args.number) c.self.view_is

pub returns-in-None : goal.returns-in-None
returns-in-None c =
    none_among_at c.self.inside.list.items c.args.number c.place_in.result c.self.invariant c.place_in.ensures c.in-None.ensures.item.3
    ∙ ap (λ ns. is_among ns c.args.number) c.self.view_is
