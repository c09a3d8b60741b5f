-- The walk ends at an item that is no range, or behind the last one.
use Rattle.std.proofs.Common.{sym, ◌∙◌, arith}
use Rattle.serde_json.specs.View.{items_view}
use Rattle.sq_plan.proofs.Items.{walk_all, walk_none, walk_end}
use Rattle.sq_plan.proofs.read.layout_of.Goals as goal

pub returns-in_err-entry : goal.returns-in_err-entry
returns-in_err-entry c =
    let none = walk_none c.args.parts c.loop-item.at c.loop-item.ordered c.loop-item.owned c.args.items.now c.loop-item.item-index c.item-item.result (omega arith) (rw (← c.item-item.is) (sym c.in_err-entry.ensures)) in
    rw c.from_residual.ensures (sym none ∙ c.loop-item.invariant ∙ walk_all c.args.parts (items_view c.args.items.now))

pub returns-then-ordered-2 : goal.returns-then-ordered-2
returns-then-ordered-2 c =
    let ended = walk_end c.args.parts c.loop-item.at c.loop-item.ordered c.loop-item.owned c.args.items.now c.loop-item.item-index (omega arith) in
    let all = sym ended ∙ c.loop-item.invariant ∙ walk_all c.args.parts (items_view c.args.items.now) in
    rw c.if-ordered-2.true at all

pub returns-else-ordered-2 : goal.returns-else-ordered-2
returns-else-ordered-2 c =
    let ended = walk_end c.args.parts c.loop-item.at c.loop-item.ordered c.loop-item.owned c.args.items.now c.loop-item.item-index (omega arith) in
    let all = sym ended ∙ c.loop-item.invariant ∙ walk_all c.args.parts (items_view c.args.items.now) in
    rw c.if-ordered-2.false (rw c.if-ordered-2.false at all)
