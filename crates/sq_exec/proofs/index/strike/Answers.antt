use Rattle.std.proofs.Common.{false}
use Rattle.sq_exec.proofs.Ranges.{set_entry, strike_due}
use Rattle.sq_exec.proofs.index.strike.Goals as goal

pub returns : goal.returns
returns c = record {
  entries = set_entry c.args.by_root.now c.remove.new.self c.args.root c.args.number false c.remove.ensures.updates.0;
  due = strike_due c.args.due.now c.remove-2.new.self c.args.number c.remove-2.ensures;
}
