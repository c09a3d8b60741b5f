use Rattle.sq_command.specs.declared.line.Task.TheVariants.{Run, Ranges, Live, Steps}
use Rattle.squall.proofs.Parts.{with_recalled}
use Rattle.squall.proofs.Assignment.work.Goals as goal

pub returns-in-Run : goal.returns-in-Run
returns-in-Run g c = with_recalled (Run c.in-Run.echoes c.in-Run.strict c.in-Run.json c.in-Run.rows_out) _ (g.R.Read.remaining c.new-reader.result.inner) _ _ _ _ c.in-Run.is c.new-reader.ensures c.script.ensures

pub returns-in-Ranges : goal.returns-in-Ranges
returns-in-Ranges g c = with_recalled (Ranges c.in-Ranges.form c.in-Ranges.sizes) _ (g.R.Read.remaining c.new-reader.result.inner) _ _ _ _ c.in-Ranges.is c.new-reader.ensures c.listing.ensures

pub returns-in-Steps : goal.returns-in-Steps
returns-in-Steps g c = with_recalled Steps _ (g.R.Read.remaining c.new-reader.result.inner) _ _ _ _ c.in-Steps.is c.new-reader.ensures c.steps.ensures

pub returns : goal.returns
returns g c = with_recalled (Live c.in-Live.options) _ (g.R.Read.remaining c.new-reader.result.inner) _ _ _ _ c.in-Live.is c.new-reader.ensures c.live_run.ensures
