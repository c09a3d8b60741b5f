use Rattle.std.proofs.Common.{◌≡◌, ◌↔◌, Bool, true≢false, IsTrue, ◌∙◌, sym, arith}
use denote.Enum.Bare.{sameb}
use Rattle.sq_moves.specs.contracts.status.Reading.{the_type}
use Rattle.sq_moves.specs.declared.status.Reading.{Reading}
use Rattle.sq_moves.specs.declared.status.Reading.TheVariants.{NotStarted, Partial, Complete}
use Rattle.sq_moves.specs.Status.{reading}
use Rattle.sq_moves.specs.Tree.{status_at}
use Rattle.sq_moves.proofs.Readings.{all_complete_is}
use Rattle.sq_moves.proofs.plain.PlainTree.all_complete.Goals as goal

told : (found want : Reading) (answer : Bool) → answer ≡ sameb the_type found Complete → found ≡ want → IsTrue answer ↔ (want ≡ Complete)
told NotStarted want answer e is = (λ h. absurd (true≢false (sym h ∙ e)), λ h. let other = is ∙ h in absurd cc)
told Partial want answer e is = (λ h. absurd (true≢false (sym h ∙ e)), λ h. let other = is ∙ h in absurd cc)
told Complete want answer e is = (λ _. sym is, λ _. e)

whole : (c : goal.After-eq) → IsTrue c.eq.result ↔ (reading (status_at c.args.self.now) 1 ≡ Complete)
whole c = told c.reads_live.result (reading (status_at c.args.self.now) 1) c.eq.result c.eq.ensures (c.reads_live.ensures.reading 5 (omega arith))

pub returns-clause-reading : goal.returns-clause-reading
returns-clause-reading c = whole c

pub returns-clause-leaves : goal.returns-clause-leaves
returns-clause-leaves c =
    let so = all_complete_is (status_at c.args.self.now) c.reads_live.ensures.grown in
    (λ h. so.0 ((whole c).0 h), λ all. (whole c).1 (so.1 all))
