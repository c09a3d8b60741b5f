-- What a sample input is like.
use Rattle.std.specs.Prelude.{◌≡◌, ◌≤◌, List, None, Some, codes}
use Rattle.clap.specs.Walk.{Row, one_of}
use Rattle.clap.specs.declared.error.kind.ErrorKind.{ErrorKind}
use Rattle.clap.specs.declared.error.kind.ErrorKind.TheVariants.{MissingRequiredArgument}
use Rattle.sq_command.specs.declared.line.Demo.{Demo}
use Rattle.sq_command.specs.declared.line.Line.{Line}
use Rattle.sq_command.specs.declared.line.Line.TheVariants as line
use Rattle.sq_command.specs.declared.demo.TheConstants.{LEAST_PARTITIONS, MAX_PARTITIONS, PARTITIONS, MAX_ROOTS, ROOTS, MAX_ROWS_PER_ROOT, ROWS_PER_ROOT, MAX_JOBS, JOBS, MAX_HOT, HOT, MAX_SEED, SEED}
use Rattle.sq_command.specs.Options.{NumberOf, FlagOf, IsNameOf}

-- the sample input has the numbers and the flag of these options
pub record IsDemoOf (rows : List Row) (demo : Demo) : Type 0 where
  pub partitions : let text = one_of (codes "partitions") rows in
      NumberOf LEAST_PARTITIONS MAX_PARTITIONS PARTITIONS text demo.partitions
  pub roots : NumberOf 1 MAX_ROOTS ROOTS (one_of (codes "roots") rows) demo.roots
  pub rows_per_root : let text = one_of (codes "rows-per-root") rows in
      NumberOf 1 MAX_ROWS_PER_ROOT ROWS_PER_ROOT text demo.rows_per_root
  pub jobs : NumberOf 0 MAX_JOBS JOBS (one_of (codes "jobs") rows) demo.jobs
  pub hot : NumberOf 0 MAX_HOT HOT (one_of (codes "hot") rows) demo.hot
  pub stages : FlagOf (one_of (codes "stages") rows) demo.stages
  pub seed : NumberOf 0 MAX_SEED SEED (one_of (codes "seed") rows) demo.seed

-- its numbers are within their limits
pub record DemoIsWithin (demo : Demo) : Type 0 where
  pub some_partitions : LEAST_PARTITIONS ≤ demo.partitions
  pub partitions : demo.partitions ≤ MAX_PARTITIONS
  pub some_roots : 1 ≤ demo.roots
  pub roots : demo.roots ≤ MAX_ROOTS
  pub some_rows : 1 ≤ demo.rows_per_root
  pub rows : demo.rows_per_root ≤ MAX_ROWS_PER_ROOT
  pub jobs : demo.jobs ≤ MAX_JOBS
  pub hot : demo.hot ≤ MAX_HOT
  pub seed : demo.seed ≤ MAX_SEED

-- the line writes such a sample input into the folder that is named
abbrev pub IsDemoLine : List Row → Line → Type 0
IsDemoLine rows (line.Demo demo folder) =
    IsDemoOf rows demo × IsNameOf (codes "folder") rows (Some folder)
IsDemoLine rows (line.Work task input) = ⊥
IsDemoLine rows (line.Owner keys plans width json) = ⊥
IsDemoLine rows (line.Serve pumps strict files file reports) = ⊥
IsDemoLine rows (line.Explain number) = ⊥

-- options are refused because no folder is named
abbrev pub LacksFolder : List Row → ErrorKind → Type 0
LacksFolder rows kind = (kind ≡ MissingRequiredArgument) × IsNameOf (codes "folder") rows None
