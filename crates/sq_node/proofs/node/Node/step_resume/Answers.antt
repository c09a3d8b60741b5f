use Rattle.std.proofs.Common.{◌≡◌, List, [], ◌∷◌, ◌++◌, refl, sym, ap, ◌∙◌, subst}
use Rattle.sq_exec.specs.CoreValue.{CoreValue}
use Rattle.sq_exec.specs.declared.outcome.Outcome.{Outcome}
use Rattle.sq_exec.specs.declared.outcome.Outcome.TheVariants.{Moved, Waits}
use Rattle.sq_exec.specs.Serving.{IsResumed}
use Rattle.sq_store.specs.StoreValue.{log_length}
use Rattle.sq_node_model.specs.NodeValue.{ReceiptValue}
use Rattle.sq_node_model.specs.Steps.{receipt_of, receipts_after}
use Rattle.sq_node.specs.NodeState.{NodeState}
use Rattle.sq_node.specs.Settled.{IsNode}
use Rattle.sq_node.specs.Steps.{ResumeStep}
use Rattle.sq_node.specs.Holds.{DoesAndKeeps}
use Rattle.sq_node.specs.declared.stepped.Stepped.TheVariants.{Did}
use Rattle.sq_node.proofs.Told.{resume_told}
use Rattle.sq_node.proofs.Served.{after_resumed, resumed_position, receipt_same}
use Rattle.sq_node.proofs.node.Node.step_resume.Goals as goal
use Rattle.sq_node.proofs.node.Node.step_resume.Goals.{In-Ok}
use Rattle.sq_node.proofs.node.Node.step_resume.Given.{Over}

-- what the node keeps, once the partition took up a transaction
resumed_keeps : (g : Over) (c : In-Ok g) → let inside = c.self.inside in (inside.puller.puller.part ≡ c.resume.new.self.core.part) × IsNode c.resume.new.self.core inside.seats.items inside.to_complete.items inside.complete.items
resumed_keeps g c =
    let inside = c.self.inside in
    (c.self.invariant.0 ∙ sym (ap (λ (core : CoreValue). core.part) c.in-Ok.ensures.ok.after), after_resumed inside.core.core c.resume.new.self.core c.in-Ok.resumed inside.seats.items inside.to_complete.items inside.complete.items c.in-Ok.ensures.ok c.self.invariant.1)

pub invariant_of-self-in-Done : goal.invariant_of-self-in-Done
invariant_of-self-in-Done g c = resumed_keeps g (goal.at.invariant_of-self-in-Done g c).In-Ok

pub invariant_of-self-in-Moved : goal.invariant_of-self-in-Moved
invariant_of-self-in-Moved g c = resumed_keeps g (goal.at.invariant_of-self-in-Moved g c).In-Ok

-- what the node did and keeps, with the receipts that follow from it
resumed_told : (g : Over) (c : In-Ok g) (receipts : List ReceiptValue)
    → let inside = c.self.inside in let resumed = c.in-Ok.resumed in receipts ≡ receipts_after inside.core.core.store resumed.txn resumed.outcome inside.desk.receipts
    → DoesAndKeeps c.args.fabric.now ResumeStep c.args.self.now Did
    (record { core = c.resume.new.self.core; seats = inside.seats.items; sends = inside.sends.items; recvs = inside.recvs.items; receipts = receipts; claims = inside.puller.puller.wins.count })
resumed_told g c receipts same =
    let inside = c.self.inside in
    let resumed = c.in-Ok.resumed in
    let new = c.resume.new.self.core in
    resume_told c.args.fabric.now c.args.self.now Did _ c.requires
    (record {
      resumed = resumed;
      taken = subst (λ (node : NodeState). IsResumed node.core resumed new) c.self.view_is c.in-Ok.ensures.ok;
      after = (λ k. record { core = new; seats = inside.seats.items; sends = inside.sends.items; recvs = inside.recvs.items; receipts = same k; claims = inside.puller.puller.wins.count })
          ∙ ap (λ (node : NodeState). record node { core = new; receipts = receipts_after node.core.store resumed.txn resumed.outcome node.receipts }) c.self.view_is;
    })

-- the receipts stay where there is no answer
kept : (g : Over) (c : In-Ok g) (outcome : Outcome) → let inside = c.self.inside in let after = receipts_after inside.core.core.store c.in-Ok.resumed.txn in c.in-Ok.resumed.outcome ≡ outcome
    → inside.desk.receipts ≡ after outcome inside.desk.receipts → c.reserve.new.self.receipts ≡ after c.in-Ok.resumed.outcome inside.desk.receipts
kept g c outcome is same =
    let inside = c.self.inside in
    c.reserve.ensures.receipts ∙ same ∙ ap (λ (o : Outcome). receipts_after inside.core.core.store c.in-Ok.resumed.txn o inside.desk.receipts) (sym is)

pub returns-in-Done-clause-step : goal.returns-in-Done-clause-step
returns-in-Done-clause-step g c =
    let ok = (goal.at.returns-in-Done-clause-step g c).In-Ok in
    let txn = c.in-Ok.resumed.txn in
    let reply = c.in-Done.reply in
    let old = c.self.inside.core.core in
    let new = c.resume.new.self.core in
    let receipt : c.receipt-receipt.result ≡ receipt_of old.store txn reply =
    receipt_same old.store txn reply (log_length new.store txn.root) c.receipt-receipt.result c.receipt-receipt.ensures (resumed_position old new c.in-Ok.resumed reply c.in-Ok.ensures.ok c.in-Done.is) in
    resumed_told g ok c.add.new.self.receipts
    (c.add.ensures.receipts ∙ (λ k. c.reserve.ensures.receipts k ++ receipt k ∷ []) ∙ ap (λ (o : Outcome). receipts_after old.store txn o c.self.inside.desk.receipts) (sym c.in-Done.is))

pub returns-in-Moved-clause-step : goal.returns-in-Moved-clause-step
returns-in-Moved-clause-step g c =
    let ok = (goal.at.returns-in-Moved-clause-step g c).In-Ok in
    resumed_told g ok c.post.new.self.receipts (c.post.ensures ∙ kept g ok (Moved c.in-Moved.to) c.in-Moved.is refl)

pub returns-in-Waits-clause-step : goal.returns-in-Waits-clause-step
returns-in-Waits-clause-step g c =
    let ok = (goal.at.returns-in-Waits-clause-step g c).In-Ok in
    resumed_told g ok c.reserve.new.self.receipts (kept g ok (Waits c.in-Waits.field-0 c.in-Waits.field-1) c.in-Waits.is refl)
