-- The rows of a world that a run keeps.
use Rattle.std.proofs.Common.{ℕ, List, [], ◌∷◌, subst}
use Rattle.sq_schema.specs.declared.schema.TheConstants.{MAX_TABLES}
use Rattle.sq_text.specs.Pieces.{PieceValue}
use Rattle.sq_text.specs.Header.{header_in}
use Rattle.sq_model.specs.Trace.{Trace}
use Rattle.sq_transition.specs.WorldValue.{WorldValue}
use Rattle.sq_world.specs.Script.{AreSpelled, IsLedTo}
use Rattle.sq_results.specs.Standing.{world_families}
use Rattle.sq_laws.specs.Fit.{AreFitSteps}
use Rattle.sq_laws.proofs.FitHeaders.{header_rows_fit}
use Rattle.sq_laws.proofs.Steps.{spelled_fits}
use Rattle.sq_laws.specs.ReadAgain.{AreFit, RowsAreReadBack}
use Rattle.sq_laws.proofs.TakenFamilies.{read_back}
use Rattle.sq_laws.proofs.Worlds.{world_fits}

-- steps that lines spell submit transactions that fit
steps_fit : (tables : ℕ) (t : Trace) → AreSpelled tables t → AreFitSteps tables t
steps_fit tables [] spelled = tt
steps_fit tables ((step, given) ∷ t) spelled = (spelled_fits tables spelled.0.0 step spelled.0.1, steps_fit tables t spelled.1)

pub kept_fits : (given : List PieceValue) (w : WorldValue) → IsLedTo MAX_TABLES given w → AreFit MAX_TABLES (world_families w)
kept_fits given w led =
    let o = led.opening in
    let leads = led.leads in
    let fit = steps_fit MAX_TABLES led.history (subst (λ (n : ℕ). AreSpelled n led.history) led.header.tables_are led.spelled) in
    world_fits o led.history leads.is_opening leads.legal MAX_TABLES (header_rows_fit MAX_TABLES given led.script (header_in o) led.header.spelled) fit w leads.holds

pub kept_are_read : (given : List PieceValue) (w : WorldValue) → IsLedTo MAX_TABLES given w → RowsAreReadBack MAX_TABLES (world_families w)
kept_are_read given w led = read_back MAX_TABLES (world_families w) (kept_fits given w led)
