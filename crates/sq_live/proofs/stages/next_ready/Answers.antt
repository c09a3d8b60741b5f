use Rattle.std.proofs.Common.{◌∙◌, subst}
use Rattle.sq_schema.specs.Table.{TableValue}
use Rattle.sq_node_model.specs.Folded.{folded_opening}
use Rattle.sq_gather.specs.Reopened.{IsNextStageOf}
use Rattle.sq_live.specs.Account.{AccountValue, IsAccount}
use Rattle.sq_live.proofs.stages.next_ready.Goals as goal

pub returns-in-Ok-clause-ready : goal.returns-in-Ok-clause-ready
returns-in-Ok-clause-ready c =
    let run = subst (λ (a : AccountValue). (table : TableValue) → IsNextStageOf (folded_opening a.opening table) c.args.gathered c.in-Ok.run'.fabric c.in-Ok.run'.nodes c.in-Ok.run'.pumps) c.account.view_is c.in-Ok.ensures.run c.args.account.opening.table c.requires.placed c.requires.done in
    record {
      run = run;
      led = c.requires.led;
      is_account = subst IsAccount c.account.view_is c.account.invariant;
      told = c.requires.told ∙ run.begun.receipts;
    }
