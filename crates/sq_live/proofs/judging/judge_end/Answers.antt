use Rattle.std.proofs.Common.{◌≡◌, ◌≤◌, ◌+◌, ◌<◌, ◌^◌, inr, List, length, ap, ◌∙◌, subst, arith}
use Rattle.std.specs.Prelude.{sum_by}
use Rattle.std.specs.FinMap.{len}
use Rattle.sq_moves.specs.Opening.{IsOpening}
use Rattle.sq_moves.specs.OpeningValue.{OpeningValue}
use Rattle.sq_store.specs.StoreValue.{StoreValue}
use Rattle.sq_node_model.specs.Gathered.{GatheredValue}
use Rattle.sq_audit.specs.declared.job.Job.{Job}
use Rattle.sq_audit.specs.declared.verdict.Verdict.TheVariants.{Sound, Unsound}
use Rattle.sq_audit.specs.Sound.{with_receipts}
use Rattle.sq_audit.specs.Defects.{IsVerdict}
use Rattle.sq_live.specs.Account.{AccountValue, IsAccount}
use Rattle.sq_live.specs.Outcome.{IsDone, answered_count, commit_count}
use Rattle.sq_live.proofs.Moved.{all_moved}
use Rattle.sq_live.proofs.judging.judge_end.Goals as goal
use Rattle.sq_live.proofs.judging.judge_end.Goals.{In_ok-audit_in_threads}
use Rattle.sq_live.proofs.judging.judge_end.Given.{Over}

is_done : (g : Over) (c : In_ok-audit_in_threads g) → IsDone c.args.account.now c.args.g.now
is_done g c =
    let account = c.args.account.now in
    let g = c.args.g.now in
    let o = account.opening in
    let is : IsOpening o = (subst IsAccount c.account.view_is c.account.invariant).is_opening in
    let receipts = c.requires.told in
    let jobs = c.deref.ensures.value ∙ ap (λ (a : AccountValue). a.jobs) c.account.view_is in
    let counted = c.in_ok-answered.ensures.answered ∙ (λ i. answered_count (receipts i) (jobs i)) in
    let most : c.in_ok-answered.answered ≤ length account.jobs = subst (λ (list : List Job). c.in_ok-answered.answered ≤ length list) jobs c.in_ok-answered.ensures.most in
    let len_is : c.len.result ≡ length c.account.inside.jobs.items = omega (arith, c.len.ensures) in
    let all = len_is ∙ ap (λ (a : AccountValue). length a.jobs) c.account.view_is in
    record {
      answered = omega (arith, counted, most, all, c.if-answered-len.false);
      moved = all_moved o g is c.requires.last c.requires.done;
      leader = c.requires.ended.0;
      ended = c.requires.ended.1;
    }

pub stopped-requires-clause-why : goal.stopped-requires-clause-why
stopped-requires-clause-why g c =
    let receipts = c.requires.told in
    let jobs = c.deref.ensures.value ∙ ap (λ (a : AccountValue). a.jobs) c.account.view_is in
    let counted = c.in_ok-answered.ensures.answered ∙ (λ i. answered_count (receipts i) (jobs i)) in
    let len_is : c.len.result ≡ length c.account.inside.jobs.items = omega (arith, c.len.ensures) in
    let all = len_is ∙ ap (λ (a : AccountValue). length a.jobs) c.account.view_is in
    inr (c.requires.last, omega (arith, counted, all, c.if-answered-len.true))

pub returns-in-Sound : goal.returns-in-Sound
returns-in-Sound g c = λ folds.
    let jobs = c.deref-2.ensures.value ∙ ap (λ (a : AccountValue). a.jobs) c.account.view_is in
    let stores = c.deref-in-Sound.ensures.value ∙ ap (λ (g : GatheredValue). g.stores) c.g.view_is in
    let commits = c.count_commits.ensures.commits ∙ ap commit_count c.requires.told in
    record {
      is_done = is_done g (goal.at.returns-in-Sound g c).In_ok-audit_in_threads;
      sound = subst (λ (p : OpeningValue × GatheredValue × List Job). IsVerdict p.0 p.1 p.2 Sound) (λ i. ((c.account.view_is i).opening, with_receipts c.args.g.now (c.requires.told i), jobs i))
          (subst (IsVerdict c.account.inside.opening (with_receipts c.args.g.now c.args.told.now) c.deref-2.result.now) c.in-Sound.is c.in_ok-audit_in_threads.ensures);
      families_are =
          subst (λ (ss : List StoreValue). sum_by (λ store. len store) ss < 2 ^ 64 → c.count_families.result ≡ sum_by (λ store. len store) ss) stores c.count_families.ensures;
      committed_are = λ i. (c.account.view_is i).committed + commits i;
    }

pub returns-in-Unsound : goal.returns-in-Unsound
returns-in-Unsound g c = λ folds.
    let jobs = c.deref-2.ensures.value ∙ ap (λ (a : AccountValue). a.jobs) c.account.view_is in
    inr (
      is_done g (goal.at.returns-in-Unsound g c).In_ok-audit_in_threads,
      subst (λ (p : OpeningValue × GatheredValue × List Job). IsVerdict p.0 p.1 p.2 (Unsound c.in-Unsound.defect)) (λ i. ((c.account.view_is i).opening, with_receipts c.args.g.now (c.requires.told i), jobs i))
          (subst (IsVerdict c.account.inside.opening (with_receipts c.args.g.now c.args.told.now) c.deref-2.result.now) c.in-Unsound.is c.in_ok-audit_in_threads.ensures),
    )
