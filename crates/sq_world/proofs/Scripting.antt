-- Scripts that are written for headers.
use Rattle.std.proofs.Common.{◌≡◌, ℕ, List, [], Option, inl, inr, sym, ◌∙◌, subst}
use Rattle.std.specs.Prelude.{Result, Ok, Err, IfOk}
use Rattle.sq_schema.specs.declared.schema.TheConstants.{MAX_TABLES}
use Rattle.sq_moves.specs.OpeningValue.{OpeningValue}
use Rattle.sq_moves.specs.Opening.{IsOpening}
use Rattle.sq_model.specs.declared.step.Phase.{Phase}
use Rattle.sq_model.specs.declared.step.Phase.TheVariants.{Ended}
use Rattle.sq_model.specs.Trace.{Trace}
use Rattle.sq_model.specs.Leader.{phase}
use Rattle.sq_transition.specs.WorldValue.{WorldValue}
use Rattle.sq_transition.specs.Holds.{Holds}
use Rattle.sq_text.specs.Coming.{LinesValue, Leaves}
use Rattle.sq_text.proofs.Comings.{some_pieces}
use Rattle.sq_text.specs.declared.located.LocatedFault.{LocatedFault}
use Rattle.sq_text.specs.Header.{header_of, Opens}
use Rattle.sq_world.specs.declared.ending.Ending.{Ending}
use Rattle.sq_world.specs.Run.{IsFault, EndsAtFault}
use Rattle.sq_world.specs.Script.{RefusesHeader}
use Rattle.sq_world.specs.declared.draft.Draft.{Draft}
use Rattle.sq_world.specs.declared.no_script.NoScript.{NoScript}
use Rattle.sq_world.specs.Drafts.{DraftGoesOn}
use Rattle.sq_world.specs.Scripts.{fault_of, IsScriptOf, WritesScriptFrom, WritesScriptOf}
use Rattle.sq_world.proofs.Drafting.{begins}

-- a draft that came from no step, and in whose world the move has ended, is a script
pub whole : (o : OpeningValue) (first last : Draft) (world : WorldValue) (now : Phase) → IsOpening o → Holds o [] world → first.world ≡ world → first.text.items ≡ [] → DraftGoesOn first last
    → ((h : OpeningValue) (t : Trace) → Holds h t last.world → now ≡ phase t) → now ≡ Ended → IsScriptOf o last.text.items
whole o first last world now opening holds same empty goes by_history ended =
    let is = goes o (begins first o opening (subst (λ (w : WorldValue). Holds o [] w) (sym same) holds) empty) in
    record {
      is_opening = opening;
      steps = is.steps;
      says = is.says;
      are_read = is.are_read;
      none_refused = is.none_refused;
      ended = sym (by_history o _ is.leads.holds) ∙ ended;
    }

-- a fault that is written in place of a script
pub no_script : {E : Type 0} (o : OpeningValue) (r : Result Ending E) (why : NoScript) (located : LocatedFault) (before now : Option (List ℕ)) → located ≡ fault_of why → IfOk r (EndsAtFault located before now) → IfOk r (WritesScriptFrom o before now)
no_script o (Err e) why located before now same wrote = tt
no_script o (Ok ending) why located before now same wrote = (wrote.0, wrote.1, inr (why, subst (λ (f : LocatedFault). IsFault f wrote.0 ending) same wrote.2))

-- what is written behind a header that spells an opening
pub for_header : {E : Type 0} (r : Result Ending E) (tables : ℕ) (o : OpeningValue) (begin lines : LinesValue) (before now : Option (List ℕ)) → tables ≡ MAX_TABLES
    → Leaves begin lines (λ all left. Opens tables (Ok o) left (header_of tables all)) → IfOk r (WritesScriptFrom o before now) → IfOk r (WritesScriptOf MAX_TABLES begin before now)
for_header (Err e) tables o begin lines before now eight opens wrote = tt
for_header (Ok ending) tables o begin lines before now eight opens wrote =
    let some = some_pieces lines in
    let all = opens some.can_come.0 some.pieces some.can_come.1 in
    (all.0, (some.can_come.0, all.1), wrote.0, wrote.1, inl (record { opening = o; left = some.pieces; header = subst (λ n. Opens n (Ok o) some.pieces (header_of n all.0)) eight all.2; wrote = wrote.2 }))

-- what is written behind a header that has a fault
pub for_fault : {E : Type 0} (r : Result Ending E) (tables : ℕ) (fault : LocatedFault) (begin lines : LinesValue) (before now : Option (List ℕ)) → tables ≡ MAX_TABLES
    → RefusesHeader tables begin lines fault → IfOk r (EndsAtFault fault before now) → IfOk r (WritesScriptOf MAX_TABLES begin before now)
for_fault (Err e) tables fault begin lines before now eight opens wrote = tt
for_fault (Ok ending) tables fault begin lines before now eight opens wrote =
    let some = some_pieces lines in
    let all = opens some.can_come.0 some.pieces some.can_come.1 in
    (all.0, (some.can_come.0, all.1), wrote.0, wrote.1, inr (record { fault = fault; left = some.pieces; header = subst (λ n. Opens n (Err fault) some.pieces (header_of n all.0)) eight all.2; wrote = wrote.2 }))
