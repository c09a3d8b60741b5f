-- What a reader makes of the lines after a header.
use Rattle.std.specs.Prelude.{◌≡◌, ℕ, List, Result, Ok, Err}
use Rattle.sq_schema.specs.declared.schema.TheConstants.{MAX_TABLES}
use Rattle.sq_text.specs.declared.reader.Next.{Next}
use Rattle.sq_text.specs.declared.reader.Next.TheVariants as next
use Rattle.sq_serving.specs.declared.line_place.LinePlace.{LinePlace}
use Rattle.sq_serving.specs.declared.faulty_line.FaultyLine.{FaultyLine}
use Rattle.sq_serving.specs.declared.serve_fault.ServeFault.{ServeFault}
use Rattle.sq_serving.specs.declared.serve_line.ServeLine.{ServeLine}
use Rattle.sq_serving.specs.FaultyLines.{job_id_of, IsTextOf}
use Rattle.sq_serving.specs.ServeLines.{serve_line_of, IsServeLine}
use Rattle.sq_serving.specs.declared.feed.Fed.{Fed}
use Rattle.sq_serving.specs.declared.feed.Fed.TheVariants as fed
use Rattle.sq_serving.specs.declared.feed.InputEnd.TheVariants as end

-- a line is read as `wanted`, unless memory ran out; if it has a fault, the id of its job and its
-- text are kept
abbrev pub IsAskedBy : List ℕ → Result ServeLine FaultyLine → Result ServeLine ServeFault → Type 0
IsAskedBy line (Ok asks) wanted = IsServeLine (Ok asks) wanted
IsAskedBy line (Err faulty) wanted =
    IsServeLine (Err faulty.fault) wanted × (faulty.id ≡ job_id_of line) × IsTextOf line faulty.text.items

-- what a line asks
abbrev pub AsksFor : List ℕ → Fed → Type 0
AsksFor line (fed.Line place asks) = IsAskedBy line asks (serve_line_of MAX_TABLES line)
AsksFor line (fed.End end) = ⊥

-- nothing more is read
abbrev pub BreaksOff : Fed → Type 0
BreaksOff last = (fault : ℕ) × (place : LinePlace) × (last ≡ fed.End (end.Broken fault place))

-- what is handed on for what comes next of an input
abbrev pub IsFedOf : Next → List ℕ → Fed → Type 0
IsFedOf next.Line piece given = AsksFor piece given
IsFedOf next.Rest piece given = AsksFor piece given
IsFedOf next.End piece given = given ≡ fed.End end.Whole
IsFedOf next.Failed piece given = BreaksOff given
IsFedOf next.Long piece given = BreaksOff given
IsFedOf next.TooMany piece given = BreaksOff given
IsFedOf next.Unread piece given = BreaksOff given
