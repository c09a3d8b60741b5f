use Rattle.std.proofs.Common.{◌≡◌, ℕ, ◌+◌, ◌<◌, ◌≤◌, Bool, true, false, List, length, get_or, take, sym, ap, ◌∙◌, subst, zero-add}
use Rattle.std.specs.Prelude.{count_by}
use Rattle.std.specs.List.{enumerate_from}
use Rattle.std.proofs.lemmas.List.{take_all}
use Rattle.std.proofs.lemmas.List.FromFn.{length-enumerate_from, get_or-enumerate_from}
use Rattle.std.proofs.lemmas.List.Sums.{count_by_more_yes, count_by_more_no}
use Rattle.sq_moves.specs.declared.recon.Range.{Range}
use Rattle.sq_engine.specs.Progress.{is_complete_in_stage}
use Rattle.sq_engine.proofs.stage_progress.complete_segments.Goals as goal
use Rattle.sq_engine.proofs.stage_progress.complete_segments.Goals.{then-is_complete, else-is_complete}

-- one more of numbered things passes a test, or doesn't
module _ {X : Type 0} (p : ℕ × X → Bool) (xs : List X) (i : ℕ) (x : X) (within : i < length xs) (is : x ≡ get_or xs i x) where
  there : i < length (enumerate_from 0 xs)
  there = subst (λ n. i < n) (sym (length-enumerate_from 0 xs)) within

  own : get_or (enumerate_from 0 xs) i (i, x) ≡ (i, x)
  own = get_or-enumerate_from 0 xs i (i, x) within ∙ ap (λ (n : ℕ). (n, get_or xs i x)) (zero-add i) ∙ ap (λ (y : X). (i, y)) (sym is)

  passes : p (i, x) ≡ true → count_by p (take (i + 1) (enumerate_from 0 xs)) ≡ count_by p (take i (enumerate_from 0 xs)) + 1
  passes does = count_by_more_yes p (enumerate_from 0 xs) i (i, x) there (ap p own ∙ does)

  fails : p (i, x) ≡ false → count_by p (take (i + 1) (enumerate_from 0 xs)) ≡ count_by p (take i (enumerate_from 0 xs))
  fails not = count_by_more_no p (enumerate_from 0 xs) i (i, x) there (ap p own ∙ not)

pub loop-seg-preserved : goal.loop-seg-preserved
loop-seg-preserved c =
    let all = c.segments-segment-items.ensures.segments in
    let recon = c.args.recon.now in
    let within = subst (λ (xs : List Range). c.loop-seg.seg < length xs) all c.loop-seg-test.true in
    let is = subst (λ (xs : List Range). c.segment-item.result ≡ get_or xs c.loop-seg.seg c.segment-item.result) all c.segment-item.is in
    let test = is_complete_in_stage recon c.args.g.now in
    elim c.if-is_complete.branch [
      | then-is_complete w ↦ w.count-is ∙ ap (λ n. n + 1) c.loop-seg.invariant
          ∙ sym (passes test recon.segments c.loop-seg.seg c.segment-item.result within is (sym c.is_complete.ensures ∙ w.if-is_complete.true))
      | else-is_complete w ↦ w.count-is ∙ c.loop-seg.invariant
          ∙ sym (fails test recon.segments c.loop-seg.seg c.segment-item.result within is (sym c.is_complete.ensures ∙ w.if-is_complete.false))
    ]

pub returns : goal.returns
returns c =
    let all = c.segments-segment-items.ensures.segments in
    let end : length c.args.recon.now.segments ≤ c.loop-seg.seg = subst (λ (xs : List Range). length xs ≤ c.loop-seg.seg) all c.loop-seg-test.false in
    c.loop-seg.invariant ∙ ap (count_by (is_complete_in_stage c.args.recon.now c.args.g.now))
    (take_all _ _ (subst (λ n. n ≤ c.loop-seg.seg) (sym (length-enumerate_from 0 c.args.recon.now.segments)) end))
