use Rattle.std.proofs.Common.{ap, ◌++◌, ◌∙◌, Option}
use Rattle.std.specs.Prelude.{option_to_list}
use Rattle.sq_node_model.specs.NodeValue.{ReceiptValue}
use Rattle.sq_driver.proofs.Told.{told_nothing, told_one}
use Rattle.sq_driver.proofs.nodes.step_and_tell.Goals as goal

pub returns-in-Some-clause-told : goal.returns-in-Some-clause-told
returns-in-Some-clause-told g c =
    let old = c.args.node.now.receipts in
    told_one g.T.Teller.Tells old c.make_step-stepped.new.node.receipts c.in-Some.receipt c.args.teller.now c.tell.new.self
    (c.make_step-stepped.ensures.receipt ∙ ap (λ (written : Option ReceiptValue). old ++ option_to_list written) c.in-Some.is) c.tell.ensures

pub returns-in-None-clause-told : goal.returns-in-None-clause-told
returns-in-None-clause-told g c =
    let old = c.args.node.now.receipts in
    told_nothing g.T.Teller.Tells old c.make_step-stepped.new.node.receipts c.args.teller.now
    (c.make_step-stepped.ensures.receipt ∙ ap (λ (written : Option ReceiptValue). old ++ option_to_list written) c.in-None.is)
