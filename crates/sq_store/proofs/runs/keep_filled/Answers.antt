use Rattle.std.proofs.Common.{◌≡◌, ℕ, true, length, rules, sym, ap, subst, ◌∙◌}
use Rattle.std.specs.Prelude.{◌==◌, not, Some}
use Rattle.std.specs.Global.{Vec}
use Rattle.slab.specs.Slab.{get}
use Rattle.sq_schema.specs.Family.{FamilyValue}
use Rattle.sq_store.specs.Indexed.{runs_of, IsIndex}
use Rattle.sq_store.proofs.Drops.{retained, kept_runs, kept_index}
use Rattle.sq_store.proofs.runs.keep_filled.Goals as goal
use Rattle.sq_store.proofs.runs.keep_filled.Goals.{After-retain}

-- families that there are stay
stay : (c : After-retain) (key : ℕ) (families : Vec FamilyValue) → get c.args.slab.now key ≡ Some families → not (length families.items == 0) ≡ true → get c.retain.new.self key ≡ Some families
stay c key families found some = retained _ (λ f k shown keep left next s. search rules) _ 0 c.args.slab.now.slots c.retain.new.self.slots key families c.retain.ensures.retained found some

pub returns-clause-runs : goal.returns-clause-runs
returns-clause-runs c =
    let s = (goal.at.returns-clause-runs c).After-retain in
    ap (runs_of c.retain.new.self) c.keep_entries.ensures ∙ kept_runs c.args.slab.now c.retain.new.self (stay s) c.args.index.now.items

pub returns-clause-indexed : goal.returns-clause-indexed
returns-clause-indexed c =
    let s = (goal.at.returns-clause-indexed c).After-retain in
    subst (IsIndex c.retain.new.self) (sym c.keep_entries.ensures) (kept_index c.args.slab.now c.retain.new.self (stay s) c.args.index.now.items c.requires)
