use Rattle.std.proofs.Common.{◌≡◌, ◌≤◌, length, drop, vec_len, vec_capacity}
use Rattle.serde_json.specs.View.{items_view}
use Rattle.sq_plan.specs.Reading.{ranges_in}
use Rattle.sq_plan.proofs.Ranges.{with_front, AreSmall}
use Rattle.sq_plan.proofs.read.ranges_of.Given as goal

-- those taken over and those to come are all, and there is room for all
abbrev pub invariant-loop-item : goal.invariant-loop-item
invariant-loop-item l = record {
  told : with_front l.ranges.items (ranges_in (items_view (drop l.item-index l.items))) ≡ ranges_in (items_view l.items);
  rest : AreSmall (ranges_in (items_view (drop l.item-index l.items)));
  count : vec_len l.ranges ≡ l.item-index;
  room : length l.items ≤ vec_capacity l.ranges;
}
