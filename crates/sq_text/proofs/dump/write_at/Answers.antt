use Rattle.std.proofs.Common.{rules}
use Rattle.sq_text.proofs.Appending.{line_at}
use Rattle.sq_text.proofs.dump.write_at.Goals as goal

pub returns : goal.returns
returns g c = rw (line_at c.args.part c.args.family.now c.put.new.self (search rules)) at c.write_before_rows.ensures
