-- An input whose plans and rows have files of their own.
use Rattle.std.proofs.Common.{◌≡◌, ◌∙◌, ℕ, List, inl, inr, refl, ap, sym, subst}
use Rattle.std.specs.Prelude.{Option, Some, is_some}
use Rattle.std.specs.Borrow.{Bor}
use Rattle.std.specs.Fmt.{option_append}
use Rattle.clap.specs.Walk.{Text}
use Rattle.sq_input.specs.Inputs.{plan_lines, inserted_text}
use Rattle.sq_command.specs.declared.line.Plans.{Plans}
use Rattle.sq_command.specs.declared.line.Task.{Task}
use Rattle.squall.specs.Session.{IsBehindPlans, IsPutTogether, EndsTask, EndsWithRows, EndsParts}

-- a task that was done with lines, and behind them the main part with rows behind its first line
pub with_rows : (task : Task) (lines : List ℕ) (main rows behind held before now : Option (List ℕ)) (status : ℕ) → behind ≡ inserted_text main rows → held ≡ option_append (Some lines) behind → EndsTask task held before now status → EndsWithRows task lines main before now status
with_rows task lines main rows behind held before now status inserted put ends =
    inl (rows, subst (λ (h : Option (List ℕ)). EndsTask task h before now status) (put ∙ ap (option_append (Some lines)) inserted) ends)

-- the same with the lines of plans that have files of their own
pub with_plans : (task : Task) (plans : Option Plans) (named : Plans) (file : Bor Text) (main : Option (List ℕ)) (lines given : List ℕ) (before now : Option (List ℕ)) (status : ℕ) → plans ≡ Some named → named.rows ≡ Some file
    → ((old : List ℕ) × (new : List ℕ) × (lines ≡ plan_lines old new)) → given ≡ lines → EndsWithRows task given main before now status → EndsParts task plans main before now status
with_plans task plans named file main lines given before now status is rows_is spelled same (inl ends) =
    let behind : Option (List ℕ) = inserted_text main ends.0 in
    let held : Option (List ℕ) = option_append (Some given) behind in
    let is_behind : IsBehindPlans named.rows main behind = subst (λ (o : Option (Bor Text)). IsBehindPlans o main behind) (sym rows_is) (ends.0, refl) in
    let together : IsPutTogether (Some named) main held = (spelled.0, spelled.1, behind, is_behind, ap (λ (l : List ℕ). option_append (Some l) behind) (same ∙ spelled.2)) in
    inl (held, subst (λ (o : Option Plans). IsPutTogether o main held) (sym is) together, ends.1)
with_plans task plans named file main lines given before now status is rows_is spelled same (inr refused) = inr (ap is_some is, refused)

-- a task that was done with what a reader gives that keeps its last lines
pub with_recalled : (task given : Task) (held known before now : Option (List ℕ)) (status : ℕ) → given ≡ task → held ≡ known → EndsTask task held before now status → EndsTask given known before now status
with_recalled task given held known before now status is same ends =
    subst (λ (t : Task). EndsTask t known before now status) (sym is) (subst (λ (h : Option (List ℕ)). EndsTask task h before now status) same ends)
