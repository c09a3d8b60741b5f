use Rattle.std.proofs.Common.{rules, ◌≡◌, sym, ap, subst, ◌∙◌}
use Rattle.std.specs.List.{filter}
use Rattle.std.proofs.lemmas.Fn.{filter_same}
use Rattle.sq_exec.specs.Slots.{AreRising, slot_entries}
use Rattle.sq_exec.proofs.Filled.{is_filled, entries_filled, rising_filter}
use Rattle.sq_exec.proofs.slots.drop_empty.Goals as goal
use Rattle.sq_exec.proofs.slots.drop_empty.Goals.{After-retain}

filtered : (c : After-retain) → c.retain.new.self.items ≡ filter is_filled c.args.slots.now.items
filtered c = filter_same _ is_filled _ (λ x b f k. search rules) c.args.slots.now.items c.retain.new.self.items c.retain.ensures.filtered

pub returns-clause-entries : goal.returns-clause-entries
returns-clause-entries c = ap slot_entries (filtered c) ∙ entries_filled c.args.slots.now.items

pub returns-clause-rise : goal.returns-clause-rise
returns-clause-rise c = λ next are. subst (AreRising next) (sym (filtered c)) (rising_filter is_filled c.args.slots.now.items next are)
