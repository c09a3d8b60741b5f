use Rattle.std.proofs.Common.{◌∙◌, subst}
use Rattle.sq_node_model.specs.BeganWith.{first_began}
use Rattle.sq_driver.specs.StageRunValue.{BeganFrom}
use Rattle.sq_live.specs.Account.{AccountValue, IsAccount}
use Rattle.sq_live.proofs.stages.first_ready.Goals as goal

pub returns-clause-ready : goal.returns-clause-ready
returns-clause-ready g c =
    let run = subst (λ (a : AccountValue). BeganFrom a.opening (first_began a.opening) c.in_ok-run.run') c.account.view_is c.in_ok-run.ensures.run in
    record {
      run = run;
      led = c.requires.led;
      is_account = subst IsAccount c.account.view_is c.account.invariant;
      told = c.new.ensures.items ∙ run.begun.receipts;
    }
