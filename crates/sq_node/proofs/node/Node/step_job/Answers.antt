use Rattle.std.proofs.Common.{rules, ◌≡◌, refl, true, List, [], ◌∷◌, ◌++◌, None, length, sym, ap, ◌∙◌, subst}
use Rattle.sq_moves.specs.ReconValue.{ReconValue}
use Rattle.sq_exec.specs.declared.outcome.Outcome.{Outcome}
use Rattle.sq_exec.specs.declared.outcome.Outcome.TheVariants.{Done, Moved, Waits}
use Rattle.sq_exec.specs.Serving.{must_wait, submit_refusal, IsTaken}
use Rattle.sq_store.specs.StoreValue.{log_length}
use Rattle.sq_shared.specs.Puller.{PullerValue}
use Rattle.sq_node_model.specs.NodeValue.{ReceiptValue}
use Rattle.sq_node_model.specs.Steps.{receipt_of, receipts_after}
use Rattle.sq_node.specs.NodeState.{NodeState}
use Rattle.sq_node.specs.Settled.{IsNode}
use Rattle.sq_node.specs.Steps.{ClaimsNone, ClaimsAt, ClaimsFor, JobStep}
use Rattle.sq_node.specs.Holds.{DoesAndKeeps}
use Rattle.sq_node.specs.declared.stepped.Stepped.TheVariants.{Did}
use Rattle.sq_node.proofs.Told.{job_told}
use Rattle.sq_node.proofs.Stays.{taken_part}
use Rattle.sq_node.proofs.Settles.{other_seats}
use Rattle.sq_node.proofs.Served.{after_taken, submitted_position, receipt_same, known_pulled, pulled_part, pulled_claims}
use Rattle.sq_node.proofs.node.Node.step_job.Goals as goal
use Rattle.sq_node.proofs.node.Node.step_job.Goals.{In-Ok, In-Waits}
use Rattle.sq_node.proofs.node.Node.step_job.Given.{Over}

pub reactive-requires-clause-trees : goal.reactive-requires-clause-trees
reactive-requires-clause-trees g c =
    ap length c.shared-shared.ensures.trees ∙ c.shared-shared.ensures.fabric.trees ∙ ap (λ (recon : ReconValue). length recon.segments) (sym c.shared-shared.ensures.recon)

-- what the node keeps, once the partition took the job
job_taken : (g : Over) (c : In-Ok g) → let inside = c.self.inside in IsNode c.submit.new.self.core inside.seats.items inside.to_complete.items inside.complete.items
job_taken g c =
    let inside = c.self.inside in
    after_taken (must_wait inside.core.core c.in-Some.job.root) inside.core.core c.submit.new.self.core c.in-Some.job c.in-Ok.outcome inside.seats.items inside.to_complete.items inside.complete.items c.in-Ok.ensures.ok c.self.invariant.1

-- its pulls are the partition's still
job_part : (g : Over) (c : In-Ok g) → c.reserve-else-is_err.new.self.puller.part ≡ c.submit.new.self.core.part
job_part g c =
    let old = c.self.inside.core.core in
    let taken = taken_part (must_wait old c.in-Some.job.root) old c.submit.new.self.core c.in-Some.job c.in-Ok.outcome c.in-Ok.ensures.ok in
    ap (λ (puller : PullerValue). puller.part) c.reserve-else-is_err.ensures.same ∙ c.self.invariant.0 ∙ sym taken.part

pub invariant_of-self-in-Done : goal.invariant_of-self-in-Done
invariant_of-self-in-Done g c = let taken = (goal.at.invariant_of-self-in-Done g c).In-Ok in (job_part g taken, job_taken g taken)

pub invariant_of-self-in-Moved : goal.invariant_of-self-in-Moved
invariant_of-self-in-Moved g c = let taken = (goal.at.invariant_of-self-in-Moved g c).In-Ok in (job_part g taken, job_taken g taken)

pub invariant_of-self-in-Waits : goal.invariant_of-self-in-Waits
invariant_of-self-in-Waits g c =
    let inside = c.self.inside in
    let new = c.submit.new.self.core in
    let after = c.reactive.new.seats.items in
    let taken = (goal.at.invariant_of-self-in-Waits g c).In-Ok in (
      pulled_part _ c.in-Waits.seg c.in-Waits.leaf _ _ inside.seats.items after c.reactive.result _ _ c.reactive.ensures.pulled c.reactive.ensures.err ∙ job_part g taken,
      other_seats new inside.seats.items after inside.to_complete.items inside.complete.items
          (known_pulled _ c.in-Waits.seg c.in-Waits.leaf _ _ inside.seats.items after c.reactive.result _ _ c.reactive.ensures.pulled c.reactive.ensures.err)
          (job_taken g taken),
    )

-- what the node did and keeps where nothing is claimed for the job, with the receipts that follow from it
unclaimed_told : (g : Over) (c : In-Ok g) (outcome : Outcome) → c.in-Ok.outcome ≡ outcome → ((old new : NodeState) → ClaimsNone old new → ClaimsFor outcome old new)
    → (receipts : List ReceiptValue) → let inside = c.self.inside in receipts ≡ receipts_after inside.core.core.store c.in-Some.job outcome inside.desk.receipts
    → DoesAndKeeps c.args.fabric.now JobStep c.args.self.now Did
    (record { core = c.submit.new.self.core; seats = inside.seats.items; sends = inside.sends.items; recvs = inside.recvs.items; receipts = receipts; claims = c.reserve-else-is_err.new.self.puller.wins.count })
unclaimed_told g c outcome is none receipts same =
    let inside = c.self.inside in
    let job = c.in-Some.job in
    let new = c.submit.new.self.core in
    let seats = inside.seats.items in
    let count = c.reserve-else-is_err.new.self.puller.wins.count in
    let taken : IsTaken (must_wait inside.core.core job.root) inside.core.core job outcome new = subst (λ (o : Outcome). IsTaken (must_wait inside.core.core job.root) inside.core.core job o new) is c.in-Ok.ensures.ok in
    let claims = ap (λ (puller : PullerValue). puller.wins.count) c.reserve-else-is_err.ensures.same in
    job_told c.args.fabric.now c.args.self.now Did _ c.requires
    (record {
      txn = job;
      outcome = outcome;
      accepted = subst (λ (node : NodeState). submit_refusal node.core job ≡ None) c.self.view_is c.in-Ok.ensures.refused;
      taken = subst (λ (node : NodeState). IsTaken (must_wait node.core job.root) node.core job outcome new) c.self.view_is taken;
      claims = none _ _ (ap (λ (node : NodeState). node.seats) c.self.view_is, claims ∙ ap (λ (node : NodeState). node.claims) c.self.view_is);
      after = (λ k. record { core = new; seats = seats; sends = inside.sends.items; recvs = inside.recvs.items; receipts = same k; claims = count })
          ∙ ap (λ (node : NodeState). record node { core = new; seats = seats; claims = count; receipts = receipts_after node.core.store job outcome node.receipts }) c.self.view_is;
    })

pub returns-in-Done-clause-step : goal.returns-in-Done-clause-step
returns-in-Done-clause-step g c =
    let job = c.in-Some.job in
    let reply = c.in-Done.reply in
    let old = c.self.inside.core.core in
    let new = c.submit.new.self.core in
    let waits = must_wait old job.root in
    let taken : IsTaken waits old job (Done reply) new = subst (λ (o : Outcome). IsTaken waits old job o new) c.in-Done.is c.in-Ok.ensures.ok in
    let receipt : c.receipt-receipt.result ≡ receipt_of old.store job reply =
    receipt_same old.store job reply (log_length new.store job.root) c.receipt-receipt.result c.receipt-receipt.ensures (submitted_position waits old new job reply taken) in
    unclaimed_told g (goal.at.returns-in-Done-clause-step g c).In-Ok (Done reply) c.in-Done.is (λ old new none. none) c.add.new.self.receipts
    (c.add.ensures.receipts ∙ (λ k. c.reserve.ensures.receipts k ++ receipt k ∷ []))

pub returns-in-Moved-clause-step : goal.returns-in-Moved-clause-step
returns-in-Moved-clause-step g c =
    unclaimed_told g (goal.at.returns-in-Moved-clause-step g c).In-Ok (Moved c.in-Moved.to) c.in-Moved.is (λ old new none. none) _ (search rules)

has_room : (g : Over) (c : In-Waits g) → c.reserve-else-is_err.new.self.has_room ≡ true
has_room g c = search rules

pub returns-in-Waits-clause-step : goal.returns-in-Waits-clause-step
returns-in-Waits-clause-step g c =
    let inside = c.self.inside in
    let job = c.in-Some.job in
    let seg = c.in-Waits.seg in
    let leaf = c.in-Waits.leaf in
    let old = inside.core.core in
    let new = c.submit.new.self.core in
    let waits = must_wait old job.root in
    let taken : IsTaken waits old job (Waits seg leaf) new = subst (λ (o : Outcome). IsTaken waits old job o new) c.in-Waits.is c.in-Ok.ensures.ok in
    let after = c.reactive.new.seats.items in
    let count = c.reactive.new.self.puller.wins.count in
    let before : NodeState = record { core = old; seats = inside.seats.items; sends = inside.sends.items; recvs = inside.recvs.items; receipts = inside.desk.receipts; claims = inside.puller.puller.wins.count } in
    let now : NodeState = record { core = new; seats = after; sends = inside.sends.items; recvs = inside.recvs.items; receipts = c.reserve.new.self.receipts; claims = count } in
    let claims : ClaimsAt seg leaf before now =
    pulled_claims _ seg leaf _ _ before now c.reactive.result _
    (sym (ap (λ (puller : PullerValue). puller.part) c.reserve-else-is_err.ensures.same ∙ c.self.invariant.0))
    (sym (ap (λ (puller : PullerValue). puller.wins.count) c.reserve-else-is_err.ensures.same)) refl (has_room g (goal.at.returns-in-Waits-clause-step g c).In-Waits) c.reactive.ensures.pulled c.reactive.ensures.memory in
    job_told c.args.fabric.now c.args.self.now Did _ c.requires
    (record {
      txn = job;
      outcome = Waits seg leaf;
      accepted = subst (λ (node : NodeState). submit_refusal node.core job ≡ None) c.self.view_is c.in-Ok.ensures.refused;
      taken = subst (λ (node : NodeState). IsTaken (must_wait node.core job.root) node.core job (Waits seg leaf) new) c.self.view_is taken;
      claims = subst (λ (node : NodeState). ClaimsAt seg leaf node now) c.self.view_is claims;
      after = (λ k. record { core = new; seats = after; sends = inside.sends.items; recvs = inside.recvs.items; receipts = c.reserve.ensures.receipts k; claims = count })
          ∙ ap (λ (node : NodeState). record node { core = new; seats = after; claims = count }) c.self.view_is;
    })
