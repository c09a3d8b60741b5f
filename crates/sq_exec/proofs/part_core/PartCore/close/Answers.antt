use Rattle.std.proofs.Common.{refl}
use Rattle.sq_exec.proofs.Enters.{all_due, closed_txns, closed_numbers, closed_kept}
use Rattle.sq_exec.proofs.part_core.PartCore.close.Goals as goal

pub returns-clause-waiting : goal.returns-clause-waiting
returns-clause-waiting g c = closed_txns c.self.inside.waiting c.make_all_due.new.self c.make_all_due.ensures c.self.view_is refl

pub returns-clause-due : goal.returns-clause-due
returns-clause-due g c = all_due c.self.inside.waiting c.make_all_due.new.self c.make_all_due.ensures

pub returns-clause-numbers : goal.returns-clause-numbers
returns-clause-numbers g c = closed_numbers c.self.inside.waiting c.make_all_due.new.self c.make_all_due.ensures c.self.view_is refl

pub returns-clause-kept : goal.returns-clause-kept
returns-clause-kept g c = closed_kept c.self.inside.waiting c.make_all_due.new.self c.make_all_due.ensures c.self.view_is c.self.invariant
