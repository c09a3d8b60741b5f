use Rattle.std.proofs.Common.{sym, ap, ◌∙◌}
use Rattle.sq_exec.specs.Slots.{SlotsValue, value_at}
use Rattle.sq_exec.proofs.Filled.{value_past, value_other, value_here}
use Rattle.sq_exec.proofs.slots.Slots.get.Goals as goal

pub returns-in_default : goal.returns-in_default
returns-in_default c =
    sym (value_past c.args.number c.self.inside.slots.items c.place_in.result c.self.invariant.rising.rise c.place_in.ensures c.in_default.ensures.item.3)
    ∙ ap (λ (s : SlotsValue). value_at s.entries c.args.number) c.self.view_is

pub returns-then-slot-number : goal.returns-then-slot-number
returns-then-slot-number c =
    sym (value_other c.args.number c.self.inside.slots.items c.place_in.result c.self.invariant.rising.rise c.place_in.ensures (c.in-Some.slot).now c.in-Some.ensures.item.3.0 c.in-Some.ensures.lookup c.if-slot-number.true)
    ∙ ap (λ (s : SlotsValue). value_at s.entries c.args.number) c.self.view_is

pub returns : goal.returns
returns c =
    c.as_ref.ensures.value
    ∙ sym (value_here c.args.number c.self.inside.slots.items c.place_in.result c.self.invariant.rising.rise c.place_in.ensures (c.in-Some.slot).now c.in-Some.ensures.item.3.0 c.in-Some.ensures.lookup c.if-slot-number.false)
    ∙ ap (λ (s : SlotsValue). value_at s.entries c.args.number) c.self.view_is
