use Rattle.std.proofs.Common.{sym, subst}
use Rattle.sq_store.specs.Runs.{IsSpan}
use Rattle.sq_store.proofs.Searches.{span}
use Rattle.sq_store.proofs.search.runs_between.Goals as goal

pub returns : goal.returns
returns c =
    subst (λ first. IsSpan c.args.runs.now c.args.lo c.args.hi first c.below-2.result) (sym c.saturating_sub.ensures)
    (span c.args.runs.now c.args.lo c.args.hi c.below.result c.below-2.result c.requires.bounds c.requires.runs c.below.ensures c.below-2.ensures)
