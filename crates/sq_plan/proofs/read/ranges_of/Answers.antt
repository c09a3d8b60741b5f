-- Each item is a range, and is taken over.
use Rattle.std.proofs.Common.{sym, ◌∙◌, arith, rules}
use Rattle.std.proofs.lemmas.Option.{same_Some}
use Rattle.sq_plan.proofs.Ranges.{next, with_front-next, with_front-end, with_front-none}
use Rattle.sq_plan.proofs.read.ranges_of.Goals as goal

pub loop-item-init : goal.loop-item-init
loop-item-init c = record {
  told = with_front-none _ _ c.in_ok-ranges.ensures.items;
  rest = c.requires;
  count = c.in_ok-ranges.ensures.len;
  room = search rules;
}

pub range-requires : goal.range-requires
range-requires c =
    let it = next c.args.items.now c.loop-item.item-index c.item-item.result c.loop-item-test.true c.item-item.is c.loop-item.invariant.rest in
    rw (same_Some _ _ (c.in-Some.ensures ∙ it.is)) it.small

pub loop-item-preserved : goal.loop-item-preserved
loop-item-preserved c =
    let it = next c.args.items.now c.loop-item.item-index c.item-item.result c.loop-item-test.true c.item-item.is c.loop-item.invariant.rest in
    record {
      told = rw (c.push_reserved.ensures.items, c.range.ensures) (with_front-next c.loop-item.ranges.items c.args.items.now c.loop-item.item-index c.item-item.result c.in-Some.entry c.loop-item-test.true c.item-item.is (sym c.in-Some.ensures) ∙ c.loop-item.invariant.told);
      rest = it.rest;
      count = omega (arith, c.push_reserved.ensures.len);
      room = omega (arith, c.push_reserved.ensures.capacity);
    }

pub unreachable-requires : goal.unreachable-requires
unreachable-requires c =
    let it = next c.args.items.now c.loop-item.item-index c.item-item.result c.loop-item-test.true c.item-item.is c.loop-item.invariant.rest in
    c.in_default.not-Some it.range (c.of.ensures ∙ it.is)

pub returns : goal.returns
returns c = sym c.loop-item.invariant.told ∙ with_front-end c.loop-item.ranges.items c.args.items.now c.loop-item.item-index (omega arith)
