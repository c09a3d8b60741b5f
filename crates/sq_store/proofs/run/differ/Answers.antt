use Rattle.std.proofs.Common.{sym, ◌∙◌}
use Rattle.sq_store.proofs.Order.{rising_differ}
use Rattle.sq_store.proofs.run.differ.Goals as goal

pub returns-then-are_sorted : goal.returns-then-are_sorted
returns-then-are_sorted c = c.if-are_sorted.true ∙ sym (rising_differ c.args.families.now (c.are_sorted.ensures c.if-are_sorted.true))
