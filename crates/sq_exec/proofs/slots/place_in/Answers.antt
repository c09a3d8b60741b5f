use Rattle.std.proofs.Common.{rules, ◌-◌, sym, arith}
use Rattle.std.specs.Prelude.{None, nat_lt}
use Rattle.std.proofs.lemmas.Fn.{always_returns_same}
use Rattle.std.proofs.lemmas.List.Sorted.{IsPartitionedBy-ltb}
use Rattle.sq_exec.specs.declared.slots.Slot.{Slot}
use Rattle.sq_exec.proofs.Places.{rises_by, place_here, place_parted}
use Rattle.sq_exec.proofs.slots.place_in.Goals as goal

pub returns-then-slot-number : goal.returns-then-slot-number
returns-then-slot-number c =
    sym (place_here (λ slot. slot.number) c.args.slots.now.items c.args.number (c.args.number - (c.in-Some.first).now.number) (c.in-Some-get.slot).now c.requires c.in-Some-get.ensures.item.3.0 c.in-Some-get.ensures.lookup c.if-slot-number.true)

pub returns : goal.returns
returns c =
    let slots = c.args.slots.now in
    let number = c.args.number in
    let point = c.partition_point.ensures in
    let none : Slot = record { number = 0; txn = None } in
    sym (place_parted (λ slot. slot.number) number slots.items c.partition_point.result none (omega (arith, point.bound, slots.ok.0))
    (point.partitioned (λ slot. nat_lt slot.number number) (always_returns_same _ _ _ (λ a r f k. search rules)) (IsPartitionedBy-ltb (λ slot. slot.number) slots.items number (rises_by (λ slot. slot.number) slots.items c.requires))))
