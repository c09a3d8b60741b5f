use Rattle.std.proofs.Common.{◌≢◌, ◌∙◌, rules, sym, ap, subst, arith}
use Rattle.sq_shared.specs.declared.view.View.{View}
use Rattle.sq_shared.specs.View.{SameRole}
use Rattle.sq_shared.specs.Plays.{MayBring, Found, Won}
use Rattle.sq_shared.proofs.Exchanges.{advances_by}
use Rattle.sq_shared.proofs.Outcomes.{WordTried, word_tried, role, hit, miss, missed}
use Rattle.sq_shared.proofs.tree.StatusTree.advance.Goals as goal
use Rattle.sq_shared.proofs.tree.StatusTree.advance.Goals.{After-compare_exchange-found}

pub compare_exchange-found-requires : goal.compare_exchange-found-requires
compare_exchange-found-requires c =
    let may : MayBring c.seat.inside.seat.me.0 c.args.node c.args.new = subst (λ (v : View). MayBring v c.args.node c.args.new) (sym (ap (λ s. s.view) c.seat.view_is)) c.requires.step.1 in (
      search rules,
      omega (arith, c.index-at.ensures.bound, c.self.invariant.0),
      advances_by _ _ _ _ c.args.node c.args.old c.args.new c.word-expected.result c.word.result (sym c.index-at.ensures.place) c.index-at.ensures.bound c.seat.invariant.0 c.requires.step.0 c.word-expected.ensures c.word.ensures may,
    )

trial : (c : goal.After-compare_exchange-found) → WordTried c.args.node c.args.new c.seat.inside.seat.me c.compare_exchange-found.result c.compare_exchange-found.new.seat.me
trial c =
    word_tried c.self.inside.table.shared.table_id.slots c.index-at.result c.args.node c.args.old c.args.new c.word-expected.result c.word.result c.seat.inside.seat.me c.compare_exchange-found.result c.compare_exchange-found.new.seat.me
    c.index-at.ensures.place c.requires.step.0 c.word-expected.ensures c.word.ensures c.compare_exchange-found.ensures.2

-- the seat keeps its role
same_role : (c : goal.After-compare_exchange-found) → SameRole c.seat.inside.seat.me.0 c.compare_exchange-found.new.seat.me.0
same_role c = role c.args.node c.args.old c.args.new c.word-expected.result c.seat.inside.seat.me c.compare_exchange-found.result c.compare_exchange-found.new.seat.me c.requires.step.0 c.word-expected.ensures (trial c)

pub from_word-requires : goal.from_word-requires
from_word-requires c =
    let t = trial (goal.at.from_word-requires c).After-compare_exchange-found in
    let found = missed c.args.node c.args.old c.args.new c.word-expected.result c.seat.inside.seat.me c.compare_exchange-found.result c.compare_exchange-found.new.seat.me c.requires.step.0 c.word-expected.ensures t c.if-found-expected.true in
    (t.found, found.fits.0, t.is)

pub invariant_of-seat : goal.invariant_of-seat
invariant_of-seat c =
    let before = (goal.at.invariant_of-seat c).After-compare_exchange-found in
    ((same_role before).spent ∙ c.seat.invariant.0, (trial before).carried ∙ c.seat.invariant.1)

pub returns-then-found-expected-clause-seat : goal.returns-then-found-expected-clause-seat
returns-then-found-expected-clause-seat c =
    record {
      tree = c.compare_exchange-found.ensures.0 ∙ ap (λ s. s.tree) c.seat.view_is;
      role = subst (λ (v : View). SameRole v c.compare_exchange-found.new.seat.me.0) (ap (λ s. s.view) c.seat.view_is) (same_role (goal.at.returns-then-found-expected-clause-seat c).After-compare_exchange-found);
    }

pub returns-then-found-expected-clause-step : goal.returns-then-found-expected-clause-step
returns-then-found-expected-clause-step c =
    let t = trial (goal.at.returns-then-found-expected-clause-step c).After-compare_exchange-found in
    subst (λ (v : View). (c.from_word.result ≢ c.args.old) × Found v c.args.node c.from_word.result c.compare_exchange-found.new.seat.me.0) (ap (λ s. s.view) c.seat.view_is)
    (miss c.args.node c.args.old c.args.new c.word-expected.result c.seat.inside.seat.me c.compare_exchange-found.result c.compare_exchange-found.new.seat.me c.requires.step.0 c.word-expected.ensures t c.if-found-expected.true c.from_word.result (c.from_word.ensures.only t.found t.is))

pub invariant_of-seat-2 : goal.invariant_of-seat-2
invariant_of-seat-2 c =
    let before = (goal.at.invariant_of-seat-2 c).After-compare_exchange-found in
    ((same_role before).spent ∙ c.seat.invariant.0, (trial before).carried ∙ c.seat.invariant.1)

pub returns-clause-seat : goal.returns-clause-seat
returns-clause-seat c =
    record {
      tree = c.compare_exchange-found.ensures.0 ∙ ap (λ s. s.tree) c.seat.view_is;
      role = subst (λ (v : View). SameRole v c.compare_exchange-found.new.seat.me.0) (ap (λ s. s.view) c.seat.view_is) (same_role (goal.at.returns-clause-seat c).After-compare_exchange-found);
    }

pub returns-clause-step : goal.returns-clause-step
returns-clause-step c =
    let t = trial (goal.at.returns-clause-step c).After-compare_exchange-found in
    subst (λ (v : View). Won v c.args.node c.args.new c.compare_exchange-found.new.seat.me.0) (ap (λ s. s.view) c.seat.view_is)
    (hit c.args.node c.args.old c.args.new c.word-expected.result c.seat.inside.seat.me c.compare_exchange-found.result c.compare_exchange-found.new.seat.me c.requires.step.0 c.word-expected.ensures t c.if-found-expected.false)
