-- The account once logs were folded.
use Rattle.std.proofs.Common.{◌≡◌, ℕ, ◌+◌, ◌-◌, ◌≤◌, List, length, refl, sym, ap, ◌∙◌, subst, arith}
use Rattle.std.specs.Prelude.{not}
use Rattle.std.proofs.lemmas.List.Filters.{length-filter_both}
use Rattle.sq_moves.specs.Opening.{IsOpening}
use Rattle.sq_node_model.specs.NodeValue.{ReceiptValue}
use Rattle.sq_node_model.specs.Gathered.{GatheredValue}
use Rattle.sq_node_model.proofs.Folded.{rowless_opening}
use Rattle.sq_audit.specs.declared.job.Job.{Job}
use Rattle.sq_audit.specs.declared.folded.Folded.{Folded}
use Rattle.sq_audit.specs.Sound.{with_receipts}
use Rattle.sq_audit.specs.Folding.{has_receipt, answered_jobs, IsFold}
use Rattle.sq_live.specs.Account.{AccountValue, IsAccount}
use Rattle.sq_live.specs.Outcome.{commit_count}
use Rattle.sq_live.specs.Stages.{HasFolded}
use Rattle.sq_live.proofs.Commits.{few_commits}

-- a fold of what was gathered with its own receipts
pub fold_of_own : (old : AccountValue) (g : GatheredValue) (told : List ReceiptValue) (folded : Folded) → told ≡ g.receipts → IsFold old.opening (with_receipts g told) old.jobs folded → IsFold old.opening g old.jobs folded
fold_of_own old g told folded own fold = subst (λ (x : GatheredValue). IsFold old.opening x old.jobs folded) (ap (with_receipts g) own) fold

module _ (old : AccountValue) (g : GatheredValue) (folded : Folded) (fold : IsFold old.opening g old.jobs folded) where
  -- each job has a receipt or is left
  parted : length (answered_jobs g.receipts old.jobs) + length folded.jobs.items ≡ length old.jobs
  parted =
      ap (λ (left : List Job). length (answered_jobs g.receipts old.jobs) + length left) fold.left
      ∙ length-filter_both (has_receipt g.receipts) (λ job. not (has_receipt g.receipts job)) (λ job. refl) old.jobs

  pub no_more_left : length folded.jobs.items ≤ length old.jobs
  no_more_left = omega (arith, parted)

  module _ (posted left commits : ℕ) (posted_is : posted ≡ length old.jobs) (left_is : left ≡ length folded.jobs.items) (commits_are : commits ≡ commit_count g.receipts) where
    abbrev new : AccountValue
    new = record { opening = folded.opening; jobs = folded.jobs.items; answered = old.answered + (posted - left); committed = old.committed + commits }

    pub account_then : IsAccount old → IsAccount (record { opening = folded.opening; jobs = folded.jobs.items; answered = old.answered + (posted - left); committed = old.committed + commits })
    account_then is =
        let few = is.few in
        let before = is.commits in
        let most = few_commits old.opening g (answered_jobs g.receipts old.jobs) fold.sound.known fold.sound.answered in
        record {
          is_opening = subst IsOpening (sym fold.opening) (rowless_opening old.opening folded.opening.table is.is_opening);
          differ = fold.differ;
          few = omega (arith, parted, posted_is, left_is, few);
          commits = omega (arith, parted, posted_is, left_is, commits_are, before, most);
        }

    pub has_folded : HasFolded old g (record { opening = folded.opening; jobs = folded.jobs.items; answered = old.answered + (posted - left); committed = old.committed + commits }) folded.gathered
    has_folded = record {
      folded = folded;
      is = fold;
      opening = refl;
      jobs = refl;
      answered = omega (arith, parted, posted_is, left_is);
      committed = ap (λ n. old.committed + n) commits_are;
      gathered = refl;
    }
