use Rattle.std.proofs.Common.{sym, ap, ◌∙◌, arith, ◌≡◌, ℕ, ◌+◌, [], ◌∷◌, ◌++◌, length, get_or, below_more}
use Rattle.std.proofs.lemmas.List.{get_or_append_left, length-append}
use Rattle.std.proofs.Math.Seq.{get_or-append_seam}
use Rattle.sq_moves.specs.declared.status.Status.TheVariants.{Free}
use Rattle.sq_moves.specs.Tree.{status_at}
use Rattle.sq_world.proofs.state.open.trees.Goals as goal

pub loop-segment-preserved : goal.loop-segment-preserved
loop-segment-preserved c =
    let before = c.loop-segment.trees.items in
    let new = c.new.result in
    let n = c.loop-segment._segment-index in
    let after = c.push.new.self.items in
    let count : length before ≡ n = c.loop-segment.invariant.count in
    let all : after ≡ before ++ new ∷ [] = c.in_ok-push.ensures.items in
    let longer = length-append before (new ∷ []) in
    let last : get_or after n [] ≡ new =
    ap (λ trees. get_or trees n []) all ∙ ap (λ (k : ℕ). get_or (before ++ new ∷ []) k []) (sym count) ∙ get_or-append_seam before new [] [] in
    record {
      count = ap length all ∙ longer ∙ ap (λ (k : ℕ). k + 1) count;
      each = λ seg node low.
          below_more (λ seg. status_at (get_or after seg []) node ≡ Free) n
          (λ seg low. ap (λ tree. status_at tree node) (ap (λ trees. get_or trees seg []) all ∙ get_or_append_left before (new ∷ []) [] seg (omega (arith, count, low))) ∙ c.loop-segment.invariant.each seg node low)
          (ap (λ tree. status_at tree node) last ∙ c.new.ensures.free node)
          seg low;
    }

pub returns : goal.returns
returns c =
    let end : c.loop-segment._segment-index ≡ length c.args.segments.now = omega (arith, c.loop-segment-test.false, c.loop-segment.auto._segment-index-end) in
    record {
      count = c.loop-segment.invariant.count ∙ end;
      each = λ seg node low. c.loop-segment.invariant.each seg node (omega (arith, low, c.loop-segment.invariant.count));
    }
