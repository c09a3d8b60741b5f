-- Which engine is served.
use Rattle.std.specs.Prelude.{◌≡◌, List, true, Option, None, Some, is_some, codes}
use Rattle.clap.specs.Walk.{Row, first_of, one_of}
use Rattle.clap.specs.declared.error.kind.ErrorKind.{ErrorKind}
use Rattle.clap.specs.declared.error.kind.ErrorKind.TheVariants.{MissingRequiredArgument}
use Rattle.sq_command.specs.declared.line.EngineFiles.{EngineFiles}
use Rattle.sq_command.specs.declared.line.EngineReports.{EngineReports}
use Rattle.sq_command.specs.declared.line.Line.{Line}
use Rattle.sq_command.specs.declared.line.Line.TheVariants.{Work, Owner, Demo, Serve, Explain}
use Rattle.sq_command.specs.declared.tasks.TheConstants.{MAX_PUMPS, PUMPS}
use Rattle.sq_command.specs.Options.{NumberOf, FlagOf, IsNameOf, IsMainOf}

-- the plan of the engine is in the file that is named, and its rows in another if it is named; or
-- neither is named
abbrev pub AreEngineFilesOf : List Row → Option EngineFiles → Type 0
AreEngineFilesOf rows None = IsNameOf (codes "plan") rows None × IsNameOf (codes "rows") rows None
AreEngineFilesOf rows (Some files) =
    IsNameOf (codes "plan") rows (Some files.plan) × IsNameOf (codes "rows") rows files.rows

-- options are refused because a file of rows is named, but no file of a plan
abbrev pub LacksEnginePlan : List Row → ErrorKind → Type 0
LacksEnginePlan rows kind =
    (kind ≡ MissingRequiredArgument) × (is_some (first_of (codes "rows") rows) ≡ true)
    × IsNameOf (codes "plan") rows None

-- the reports and the rows at the end go to the files that are named
abbrev pub AreReportsOf : List Row → EngineReports → Type 0
AreReportsOf rows reports =
    IsNameOf (codes "summary-out") rows reports.summary_out
    × IsNameOf (codes "timeline") rows reports.timeline
    × IsNameOf (codes "rows-out") rows reports.rows_out
    × IsNameOf (codes "metrics") rows reports.metrics

-- the line serves an engine with the number, the flag and the files of these options
abbrev pub IsEngineLine : List Row → Line → Type 0
IsEngineLine rows (Serve pumps strict files file reports) =
    NumberOf 1 MAX_PUMPS PUMPS (one_of (codes "pumps") rows) pumps
    × FlagOf (one_of (codes "strict") rows) strict
    × AreEngineFilesOf rows files × IsMainOf rows file × AreReportsOf rows reports
IsEngineLine rows (Work task input) = ⊥
IsEngineLine rows (Owner keys plans width json) = ⊥
IsEngineLine rows (Demo demo folder) = ⊥
IsEngineLine rows (Explain number) = ⊥
