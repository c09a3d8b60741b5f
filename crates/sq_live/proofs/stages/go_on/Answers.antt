use Rattle.std.proofs.Common.{sym, refl, subst, rules}
use Rattle.sq_live.specs.Account.{AccountValue}
use Rattle.sq_node_model.specs.Next.{next_began}
use Rattle.sq_live.specs.Stages.{ContinuesWith, ContinuesIfSound, IsReady}
use Rattle.sq_live.proofs.Passing.{goes_on_with}
use Rattle.sq_live.proofs.stages.go_on.Goals as goal

pub next_ready-requires : goal.next_ready-requires
next_ready-requires g c =
    let continues = subst (ContinuesIfSound c.args.manner.folds c.args.account c.args.gathered) c.in-Continue.is c.in_ok-account.ensures in
    let goes = goes_on_with c.args.account c.args.gathered c.in-Continue.field-0.account c.in-Continue.field-0.gathered c.args.manner.folds continues.0 c.requires.placed c.requires.done in
    record { pumps = search rules; told = continues.1; placed = goes.placed; done = goes.done; led = goes.led c.args.moving c.requires.led }

pub returns-in_ok-ready-in-Continue : goal.returns-in_ok-ready-in-Continue
returns-in_ok-ready-in-Continue g c =
    let continues = subst (ContinuesIfSound c.args.manner.folds c.args.account c.args.gathered) c.in-Continue.is c.in_ok-account.ensures in
    let next = c.in-Continue.field-0.gathered in
    let account = c.in_ok-ready-in-Continue.ensures.account in (
      next,
      subst (λ (a : AccountValue). ContinuesWith c.args.manner.folds c.args.account c.args.gathered a next) (sym account) continues.0,
      subst (λ (a : AccountValue). IsReady (next_began a.opening next) c.in_ok-ready-in-Continue.ready) (sym account) c.in_ok-ready-in-Continue.ensures.ready,
    )

pub returns-in-Break : goal.returns-in-Break
returns-in-Break g c =
    (c.in-Break.defect, refl, subst (ContinuesIfSound c.args.manner.folds c.args.account c.args.gathered) c.in-Break.is c.in_ok-account.ensures)
