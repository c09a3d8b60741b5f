-- What is read of a world in which nothing but a move took place.
use Rattle.std.proofs.Common.{◌≡◌, ◌∙◌, sym, ap, subst, refl, ℕ, ℤ, Bool, true, false, true≢false, ◌&&◌, if◌then◌else◌, List, [], ◌∷◌, Option, Some, None, is_some, unwrap_or, Result, Ok, Err, IfOk, IfSome}
use Rattle.std.specs.FinMap.{get}
use Rattle.std.specs.Result.{result_ok}
use Rattle.sq_schema.specs.TxnValue.{TxnValue}
use Rattle.sq_schema.specs.Family.{FamilyValue, rows_of}
use Rattle.sq_schema.specs.Effect.{RowList, root_key, replay}
use Rattle.sq_plan.specs.PlanValue.{PlanValue}
use Rattle.sq_store.specs.StoreValue.{StoreValue}
use Rattle.sq_moves.specs.declared.opening.Config.{Config}
use Rattle.sq_moves.specs.declared.opening.GivenRow.{GivenRow}
use Rattle.sq_moves.specs.OpeningValue.{OpeningValue}
use Rattle.sq_moves.specs.Opening.{IsOpening}
use Rattle.sq_moves.specs.Given.{IsOpeningOf, given_rows, no_rows}
use Rattle.sq_model.specs.declared.step.Step.{Step}
use Rattle.sq_model.specs.declared.step.Step.TheVariants.{Prepare, Start, Submit, Resume, Split, Claim, Begin, Cut, Push, Pop, Load, Complete, Report, Next, Finish, Fold, Status}
use Rattle.sq_model.specs.declared.answer.Answer.{Answer}
use Rattle.sq_model.specs.Legal.{IsLegal}
use Rattle.sq_model.specs.Trace.{Trace, commits}
use Rattle.sq_model.specs.Tables.{opening_rows, stands, family_of}
use Rattle.sq_model.proofs.Tables.{rows_now}
use Rattle.sq_model.specs.Place.{place}
use Rattle.sq_transition.specs.WorldValue.{WorldValue}
use Rattle.sq_transition.specs.Holds.{Holds, is_at}
use Rattle.sq_transition.specs.Headline.{KeepsHeadline}
use Rattle.sq_world.specs.Readers.{IsStoreAfter}
use Rattle.sq_world.specs.declared.world.NotOpened.{NotOpened}
use Rattle.sq_examples.specs.Moves.{LeadsWithRow, is_of_the_move, root_row}

-- what holds of a value that came out of a result
pub from_ok : {A E : Type 0} (P : A → Type 0) (r : Result A E) (a : A) → Some a ≡ result_ok r → IfOk r P → P a
from_ok P (Ok v) a is holds = subst P (sym (ap (λ (o : Option _). unwrap_or o a) is)) holds
from_ok P (Err e) a is holds = absurd (true≢false (ap is_some is))

-- a root row
abbrev pub row_with : ℤ → List ℕ → RowList
row_with number note = (root_key, record { number = number; note = note }) ∷ []

-- a world that was opened with the row
pub opens : (number : ℤ) (tables : ℕ) (old new : PlanValue) (config : Config) (rows : List GivenRow) (r : Result WorldValue NotOpened)
    → given_rows no_rows rows 5 ≡ root_row number
    → IfOk r (λ world. (o : OpeningValue) × IsOpeningOf tables old new config rows o × IsOpening o × Holds o [] world)
    → IfSome (result_ok r) (LeadsWithRow number)
opens number tables old new config rows (Ok world) given opened =
    record {
      opening = opened.0;
      trace = [];
      is_opening = opened.2;
      row = opened.1.table 5 ∙ given;
      legal = tt;
      holds = opened.3;
      none_committed = refl;
    }
opens number tables old new config rows (Err e) given opened = tt

its_family : (b : Bool) (family other : FamilyValue) → Some family ≡ (if b then Some other else None) → family ≡ other
its_family true family other is = ap (λ (o : Option FamilyValue). unwrap_or o family) is
its_family false family other is = absurd (true≢false (ap is_some is))

-- the rows of the family of root key 5, at whichever partition it is
pub reads : (number : ℤ) (w : WorldValue) (part : ℕ) (store : StoreValue) (family : FamilyValue) → LeadsWithRow number w
    → ((o : OpeningValue) (t : Trace) → Holds o t w → IsStoreAfter o t part (Some store))
    → (root : ℕ) → root ≡ 5 → Some family ≡ get store root → rows_of family ≡ root_row number
reads number w part store family leads after root is at =
    let o = leads.opening in
    let t = leads.trace in
    let shares = after o t leads.holds in
    let same : family ≡ family_of o t 5 = its_family (stands o t 5 && is_at part (place o t 5)) family (family_of o t 5) (at ∙ (ap (get store) is ∙ shares.1 5)) in
    let replayed : rows_of (family_of o t 5) ≡ opening_rows o 5 = rows_now o t 5 ∙ ap (λ (txns : List TxnValue). replay (opening_rows o) txns 5) leads.none_committed in
    ap rows_of same ∙ (replayed ∙ leads.row)

-- a step that runs no transaction commits none
commits_none : (step : Step) (answer : Answer) (txns : List TxnValue) → is_of_the_move step ≡ true → commits step answer txns ≡ txns
commits_none (Submit part txn) answer txns is = absurd (true≢false (sym is))
commits_none (Resume part) answer txns is = absurd (true≢false (sym is))
commits_none (Prepare part) answer txns is = refl
commits_none Start answer txns is = refl
commits_none (Split seg node) answer txns is = refl
commits_none (Claim seg node pull) answer txns is = refl
commits_none (Begin seg node pull) answer txns is = refl
commits_none (Cut src dst) answer txns is = refl
commits_none (Push src dst) answer txns is = refl
commits_none (Pop src dst) answer txns is = refl
commits_none (Load src dst) answer txns is = refl
commits_none (Complete seg node pull) answer txns is = refl
commits_none (Report part) answer txns is = refl
commits_none Next answer txns is = refl
commits_none Finish answer txns is = refl
commits_none (Fold part) answer txns is = refl
commits_none (Status seg node) answer txns is = refl

-- the world after a step of the move
pub goes_on : (number : ℤ) (old new : WorldValue) (step : Step) (answer : Answer) → LeadsWithRow number old → is_of_the_move step ≡ true
    → ((o : OpeningValue) (t : Trace) → IsOpening o → IsLegal o t → Holds o t old → KeepsHeadline o ((step, answer) ∷ t) new)
    → LeadsWithRow number new
goes_on number old new step answer leads is keeps =
    let goes = keeps leads.opening leads.trace leads.is_opening leads.legal leads.holds in
    record {
      opening = leads.opening;
      trace = (step, answer) ∷ leads.trace;
      is_opening = leads.is_opening;
      row = leads.row;
      legal = goes.legal;
      holds = goes.holds;
      none_committed = ap (commits step answer) leads.none_committed ∙ commits_none step answer [] is;
    }
