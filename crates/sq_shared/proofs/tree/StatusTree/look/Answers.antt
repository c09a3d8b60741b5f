use Rattle.std.proofs.Common.{◌∙◌, rules, sym, ap, subst, arith}
use Rattle.sq_shared.specs.declared.view.View.{View}
use Rattle.sq_shared.specs.View.{SameRole}
use Rattle.sq_shared.specs.Plays.{Found}
use Rattle.sq_shared.proofs.Exchanges.{looks}
use Rattle.sq_shared.proofs.Outcomes.{WordRead, word_read, Found-role}
use Rattle.sq_shared.proofs.tree.StatusTree.look.Goals as goal
use Rattle.sq_shared.proofs.tree.StatusTree.look.Goals.{After-load-word}

pub load-word-requires : goal.load-word-requires
load-word-requires c =
    (search rules, omega (arith, c.index.ensures.bound, c.self.invariant.0), looks _ _ _ _ c.index.ensures.bound c.seat.invariant.0)

read : (c : goal.After-load-word) → WordRead c.args.node c.seat.inside.seat.me c.load-word.result c.load-word.new.seat.me
read c =
    word_read c.self.inside.table.shared.table_id.slots c.index.result c.args.node c.seat.inside.seat.me c.load-word.result c.load-word.new.seat.me c.index.ensures.place c.load-word.ensures.2

pub from_word-requires : goal.from_word-requires
from_word-requires c = let t = read c in (t.found, t.outcome.fits.0, t.is)

pub invariant_of-seat : goal.invariant_of-seat
invariant_of-seat c =
    let t = read (goal.at.invariant_of-seat c).After-load-word in
    ((Found-role _ _ _ _ t.outcome).spent ∙ c.seat.invariant.0, t.carried ∙ c.seat.invariant.1)

pub returns-clause-seat : goal.returns-clause-seat
returns-clause-seat c =
    let t = read (goal.at.returns-clause-seat c).After-load-word in
    record {
      tree = c.load-word.ensures.0 ∙ ap (λ s. s.tree) c.seat.view_is;
      role = subst (λ (v : View). SameRole v c.load-word.new.seat.me.0) (ap (λ s. s.view) c.seat.view_is) (Found-role _ _ _ _ t.outcome);
    }

pub returns-clause-found : goal.returns-clause-found
returns-clause-found c =
    let t = read (goal.at.returns-clause-found c).After-load-word in
    subst (λ (v : View). Found v c.args.node c.from_word.result c.load-word.new.seat.me.0) (ap (λ s. s.view) c.seat.view_is)
    (subst (λ st. Found c.seat.inside.seat.me.0 c.args.node st c.load-word.new.seat.me.0) (sym (c.from_word.ensures.only t.found t.is)) t.outcome)
