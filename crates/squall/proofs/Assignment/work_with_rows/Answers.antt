-- What is behind the main part's first line is what the reader of the rows gives.
use Rattle.squall.proofs.Parts.{with_rows}
use Rattle.squall.proofs.Assignment.work_with_rows.Goals as goal

pub returns : goal.returns
returns g c = with_rows c.args.self.now.task c.args.lines.now (g.M.Read.remaining c.args.main) _ _ _ _ _ _ c.new.ensures c.chain.ensures.bytes c.work.ensures
