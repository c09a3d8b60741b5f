use Rattle.std.proofs.Common.{◌≡◌, ◌+◌, inl, inr, length, ap, ◌∙◌, subst, arith}
use Rattle.sq_moves.specs.ReconValue.{ReconValue}
use Rattle.sq_moves.specs.Opening.{IsOpening}
use Rattle.sq_node_model.specs.Gathered.{GatheredValue}
use Rattle.sq_live.specs.Account.{AccountValue}
use Rattle.sq_live.specs.Outcome.{answered_count}
use Rattle.sq_live.specs.Judged.{marked_count}
use Rattle.sq_live.proofs.Moved.{marks_counted, one_unmoved}
use Rattle.sq_live.proofs.judging.stopped.Goals as goal

pub returns : goal.returns
returns c = λ folds.
    let inside = c.account.inside in
    let account = c.args.account.now in
    let g = c.args.g.now in
    let o = account.opening in
    let is : IsOpening o = subst (λ (a : AccountValue). IsOpening a.opening) c.account.view_is c.recon-recon.ensures.set_up.opening in
    let recon = c.recon-recon.ensures.recon ∙ ap (λ (a : AccountValue). a.opening.recon) c.account.view_is in
    let stage = ap (λ (g : GatheredValue). g.stage) c.g.view_is in
    let len_is : c.len.result ≡ length inside.jobs.items = omega (arith, c.len.ensures) in
    let posted = ap (λ n. inside.answered + n) len_is ∙ ap (λ (a : AccountValue). a.answered + length a.jobs) c.account.view_is in
    let answered = ap (λ n. inside.answered + n) c.requires.answered ∙ ap (λ (a : AccountValue). a.answered + answered_count g.receipts account.jobs) c.account.view_is in
    let complete = c.count_complete.ensures ∙ (λ i. marked_count (recon i) (stage i) c.args.moved.now) ∙ marks_counted o g is c.args.moved.now c.requires.moved in
    let segments = ap length (c.segments.ensures.segments ∙ ap (λ (r : ReconValue). r.segments) recon) in
    record {
      answered_is = answered;
      posted_is = posted;
      complete_is = complete;
      segments_are = segments;
      why = c.requires.why;
      missing = elim c.requires.why [
        | inl missing ↦ let fewer = one_unmoved o g is missing in inr (omega (arith, complete, segments, fewer))
        | inr late ↦ let fewer = late.1 in inl (omega (arith, answered, posted, fewer))
      ];
    }
