use Rattle.std.proofs.Common.{◌≡◌, ◌∙◌, List, sym, ap, subst}
use mathlib.Core.Option.{some}
use lib.ListN.{get_elem?}
use Rattle.std.specs.Slots.{slots_items}
use Rattle.sq_shared.specs.declared.view.View.{View}
use Rattle.sq_shared.specs.Rule.{IsTreeOf}
use Rattle.sq_shared.proofs.Ends.{closes, alone}
use Rattle.sq_shared.proofs.tree.StatusTree.close.Goals as goal

abbrev Ended : goal.After-free → Type 0
Ended c = (views : List View) × IsTreeOf c.statuses_of-statuses.result views × (get_elem? views c.seat.inside.seat.id ≡ some c.args.seat.view)

ended : (c : goal.After-free) → Ended c
ended c =
    let words = c.close_with-closed.result.words in
    let slots = c.close_with-closed.result.slots in
    let same = ap (λ s. s.view) c.seat.view_is in
    subst (λ (v : View). (views : List View) × IsTreeOf c.statuses_of-statuses.result views × (get_elem? views c.seat.inside.seat.id ≡ some v)) same
    (closes c.seat.inside.seat.id c.seat.inside.seat.me.0 (slots_items words) (slots_items slots) c.statuses_of-statuses.result c.close_with-closed.ensures.values.2 c.statuses_of-statuses.ensures)

pub returns-clause-rule : goal.returns-clause-rule
returns-clause-rule c = let e = ended c in (c.seat.inside.seat.id, e.0, e.1, e.2)

pub returns-clause-all : goal.returns-clause-all
returns-clause-all c = λ first all. let e = ended c in alone c.statuses_of-statuses.result e.0 e.1 c.seat.inside.seat.id c.args.seat.view e.2 first (sym (ap (λ s. s.view.spent) c.seat.view_is) ∙ c.seat.invariant.0) all
