use Rattle.std.proofs.Common.{◌≡◌, drop, true}
use Rattle.serde_json.specs.View.{items_view}
use Rattle.sq_plan.proofs.Items.{walk}
use Rattle.sq_plan.proofs.read.layout_of.Given as goal

-- what is left gives what all give
abbrev pub invariant-loop-item : goal.invariant-loop-item
invariant-loop-item l =
    walk l.parts l.at l.ordered l.owned (items_view (drop l.item-index l.items)) ≡ walk l.parts 0 true true (items_view l.items)
