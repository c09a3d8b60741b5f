use Rattle.std.proofs.Common.{◌⊎◌, sym, subst}
use Rattle.sq_schema.specs.declared.schema.TheConstants.{MAX_TABLES}
use Rattle.sq_live.specs.declared.fault.LiveFault.{LiveFault}
use Rattle.sq_live.specs.Live.{HaveFault, HaveTooFewThreads}
use Rattle.sq_live.proofs.LiveRuns.{unfinished}
use Rattle.sq_live.proofs.input.end_lines.Goals as goal

pub returns-in-Err-run_input : goal.returns-in-Err-run_input
returns-in-Err-run_input g c =
    let input = c.in-Ok.ensures.input in (
      input.0,
      input.1,
      subst (λ (fault : LiveFault). HaveFault MAX_TABLES input.0 fault ⊎ HaveTooFewThreads MAX_TABLES input.0 fault) (sym c.from.ensures)
          (unfinished MAX_TABLES input.0 c.in-Ok.opening c.in-Ok.jobs c.in-Err-run_input.error input.2),
    )
