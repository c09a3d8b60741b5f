use Rattle.std.proofs.Common.{inl}
use Rattle.sq_model.specs.declared.step.Step.TheVariants.{Prepare, Start, Submit, Resume, Split, Claim, Begin, Cut, Push, Pop, Load, Complete, Report, Next, Finish, Fold, Status}
use Rattle.sq_world.proofs.Steps.{done_by}
use Rattle.sq_world.proofs.state.State.step.Goals as goal
use Rattle.sq_world.proofs.state.State.step.Goals.{in-Prepare, in-Start, in-Submit, in-Resume, in-Split, in-Claim, in-Begin, in-Cut, in-Push, in-Pop, in-Load, in-Complete, in-Report, in-Next, in-Finish, in-Fold, in-Status}

pub returns-in-Ok : goal.returns-in-Ok
returns-in-Ok c =
    let old = c.args.self.now in
    let new = c.match-step.self in
    let asked = c.args.step.now in
    let whole = c.match-step.result in
    let answer = c.in-Ok.answer in
    elim c.match-step.branch [
      | in-Prepare b ↦ done_by old new b.prepare-result.new.self asked (Prepare b.in-Prepare.part) whole b.prepare-result.result answer b.in-Prepare.is c.in-Ok.is b.result-is b.self-is (inl b.prepare-result.ensures)
      | in-Start b ↦ done_by old new b.start-result.new.self asked Start whole b.start-result.result answer b.in-Start.is c.in-Ok.is b.result-is b.self-is (inl b.start-result.ensures)
      | in-Submit b ↦ done_by old new b.submit-result.new.self asked (Submit b.in-Submit.part b.in-Submit.txn) whole b.submit-result.result answer b.in-Submit.is c.in-Ok.is b.result-is b.self-is b.submit-result.ensures
      | in-Resume b ↦ done_by old new b.resume-result.new.self asked (Resume b.in-Resume.part) whole b.resume-result.result answer b.in-Resume.is c.in-Ok.is b.result-is b.self-is b.resume-result.ensures
      | in-Split b ↦ done_by old new b.split-result.new.self asked (Split b.in-Split.seg b.in-Split.node) whole b.split-result.result answer b.in-Split.is c.in-Ok.is b.result-is b.self-is (inl b.split-result.ensures)
      | in-Claim b ↦ done_by old new b.claim-result.new.self asked (Claim b.in-Claim.seg b.in-Claim.node b.in-Claim.pull) whole b.claim-result.result answer b.in-Claim.is c.in-Ok.is b.result-is b.self-is (inl b.claim-result.ensures)
      | in-Begin b ↦ done_by old new b.begin-result.new.self asked (Begin b.in-Begin.seg b.in-Begin.node b.in-Begin.pull) whole b.begin-result.result answer b.in-Begin.is c.in-Ok.is b.result-is b.self-is b.begin-result.ensures
      | in-Cut b ↦ done_by old new b.cut-result.new.self asked (Cut b.in-Cut.src b.in-Cut.dst) whole b.cut-result.result answer b.in-Cut.is c.in-Ok.is b.result-is b.self-is b.cut-result.ensures
      | in-Push b ↦ done_by old new b.push-result.new.self asked (Push b.in-Push.src b.in-Push.dst) whole b.push-result.result answer b.in-Push.is c.in-Ok.is b.result-is b.self-is (inl b.push-result.ensures)
      | in-Pop b ↦ done_by old new b.pop-result.new.self asked (Pop b.in-Pop.src b.in-Pop.dst) whole b.pop-result.result answer b.in-Pop.is c.in-Ok.is b.result-is b.self-is (inl b.pop-result.ensures)
      | in-Load b ↦ done_by old new b.load-result.new.self asked (Load b.in-Load.src b.in-Load.dst) whole b.load-result.result answer b.in-Load.is c.in-Ok.is b.result-is b.self-is b.load-result.ensures
      | in-Complete b ↦ done_by old new b.complete-result.new.self asked (Complete b.in-Complete.seg b.in-Complete.node b.in-Complete.pull) whole b.complete-result.result answer b.in-Complete.is c.in-Ok.is b.result-is b.self-is (inl b.complete-result.ensures)
      | in-Report b ↦ done_by old new b.report-result.new.self asked (Report b.in-Report.part) whole b.report-result.result answer b.in-Report.is c.in-Ok.is b.result-is b.self-is (inl b.report-result.ensures)
      | in-Next b ↦ done_by old new b.next-result.new.self asked Next whole b.next-result.result answer b.in-Next.is c.in-Ok.is b.result-is b.self-is (inl b.next-result.ensures)
      | in-Finish b ↦ done_by old new b.finish-result.new.self asked Finish whole b.finish-result.result answer b.in-Finish.is c.in-Ok.is b.result-is b.self-is (inl b.finish-result.ensures)
      | in-Fold b ↦ done_by old new b.fold-result.new.self asked (Fold b.in-Fold.part) whole b.fold-result.result answer b.in-Fold.is c.in-Ok.is b.result-is b.self-is (inl b.fold-result.ensures)
      | in-Status b ↦ done_by old new old asked (Status b.in-Status.seg b.in-Status.node) whole b.status_of-result.result answer b.in-Status.is c.in-Ok.is b.result-is b.self-is (inl b.status_of-result.ensures)
    ]
