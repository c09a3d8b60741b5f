use Rattle.std.proofs.Common.{◌≡◌, ◌+◌, ◌-◌, List, length, refl, sym, ap, ◌∙◌, subst, arith}
use Rattle.sq_node_model.specs.NodeValue.{ReceiptValue}
use Rattle.sq_node_model.specs.Gathered.{GatheredValue}
use Rattle.sq_node_model.specs.Next.{IsStageDone}
use Rattle.sq_audit.specs.Sound.{with_receipts}
use Rattle.sq_audit.specs.Defects.{IsFirstDefect}
use Rattle.sq_audit.specs.Folding.{answered_jobs, IsFold}
use Rattle.sq_live.specs.Account.{AccountValue}
use Rattle.sq_live.specs.Outcome.{commit_count}
use Rattle.sq_live.specs.Stages.{HasFolded}
use Rattle.sq_live.proofs.Accounts.{fold_of_own, no_more_left, account_then, has_folded}
use Rattle.sq_live.proofs.continuing.fold_logs.Goals as goal
use Rattle.sq_live.proofs.continuing.fold_logs.Goals.{In-Ok}
use Rattle.sq_live.proofs.continuing.fold_logs.Given.{Over}

pub fold_in_threads-requires-clause-done : goal.fold_in_threads-requires-clause-done
fold_in_threads-requires-clause-done g c κs region = subst (λ (a : AccountValue). IsStageDone a.opening c.args.gathered) (sym c.account.view_is) c.requires.done

abbrev before : (g : Over) (c : In-Ok g) → AccountValue
before g c = record { opening = c.account.inside.opening; jobs = c.account.inside.jobs.items; answered = c.account.inside.answered; committed = c.account.inside.committed }

fold : (g : Over) (c : In-Ok g) → IsFold c.account.inside.opening c.args.gathered c.account.inside.jobs.items c.in-Ok.folded
fold g c = fold_of_own (before g c) c.args.gathered c.args.told.items c.in-Ok.folded c.requires.told c.in-Ok.ensures.folded

commits : (g : Over) (c : In-Ok g) → c.count_commits-commits.result ≡ commit_count c.args.gathered.receipts
commits g c = c.count_commits-commits.ensures.commits ∙ ap commit_count (c.deref.ensures.value ∙ c.requires.told)

pub overflow_sub-account : goal.overflow_sub-account
overflow_sub-account g c =
    let at = (goal.at.overflow_sub-account g c).In-Ok in
    let few = no_more_left (before g at) c.args.gathered c.in-Ok.folded (fold g at) in
    omega (arith, few, c.len.ensures, c.len-posted.ensures)

pub invariant_of-account : goal.invariant_of-account
invariant_of-account g c =
    let at = (goal.at.invariant_of-account g c).In-Ok in
    let posted : c.len-posted.result ≡ length c.account.inside.jobs.items = omega (arith, c.len-posted.ensures) in
    let left : c.len.result ≡ length c.in-Ok.folded.jobs.items = omega (arith, c.len.ensures) in
    account_then (before g at) c.args.gathered c.in-Ok.folded (fold g at) c.len-posted.result c.len.result c.count_commits-commits.result posted left (commits g at) c.account.invariant

pub returns-in-Ok : goal.returns-in-Ok
returns-in-Ok g c =
    let inside = c.account.inside in
    let at = (goal.at.returns-in-Ok g c).In-Ok in
    let posted : c.len-posted.result ≡ length inside.jobs.items = omega (arith, c.len-posted.ensures) in
    let left : c.len.result ≡ length c.in-Ok.folded.jobs.items = omega (arith, c.len.ensures) in
    let new : AccountValue = record { opening = c.in-Ok.folded.opening; jobs = c.in-Ok.folded.jobs.items; answered = inside.answered + (c.len-posted.result - c.len.result); committed = inside.committed + c.count_commits-commits.result } in (
      subst (λ (a : AccountValue). HasFolded a c.args.gathered new c.in-Ok.folded.gathered) c.account.view_is
          (has_folded (before g at) c.args.gathered c.in-Ok.folded (fold g at) c.len-posted.result c.len.result c.count_commits-commits.result posted left (commits g at)),
      c.new.ensures.items ∙ sym (ap (λ (x : GatheredValue). x.receipts) (fold g at).gathered),
    )

pub returns-in-Err-Unsound : goal.returns-in-Err-Unsound
returns-in-Err-Unsound g c =
    let defect = c.in-Err-Unsound.defect in
    let found : IsFirstDefect c.account.inside.opening (with_receipts c.args.gathered c.args.told.items) (answered_jobs c.args.told.items c.account.inside.jobs.items) defect = rw c.in-Err-Unsound.field-0-is at c.in-Err-Unsound.ensures.unfolded in (
      refl,
      rw c.in-Err-Unsound.field-0-is
          (subst (λ (a : AccountValue). IsFirstDefect a.opening c.args.gathered (answered_jobs c.args.gathered.receipts a.jobs) defect) c.account.view_is
          (subst (λ (rs : List ReceiptValue). IsFirstDefect c.account.inside.opening (with_receipts c.args.gathered rs) (answered_jobs rs c.account.inside.jobs.items) defect) c.requires.told found)),
    )
