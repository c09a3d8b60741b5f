use Rattle.std.proofs.Common.{◌≡◌, ◌<◌, ◌||◌, ◌&&◌, ◌==◌, not, true, false, List, length, get_or, arith, sym, ap, ◌∙◌, below_more}
use Rattle.std.proofs.lemmas.Bool.{eq-eqb, ne_eqb, or_right}
use Rattle.sq_moves.specs.declared.recon.Range.{Range}
use Rattle.sq_moves.specs.ReconValue.{stage_in, moves_into}
use Rattle.sq_leader.specs.Segments.{is_marked_complete}
use Rattle.sq_leader.proofs.Wholes.{all_pass, one_fails, is_missing-at, moves_elsewhere}
use Rattle.sq_leader.proofs.report.has_all.Goals as goal
use Rattle.sq_leader.proofs.report.has_all.Goals.{After-eq, else-eq-via-then-eq+then-stage_on-stage+else-not-is_complete, else-eq-via-then-eq+else-stage_on-stage, else-eq-via-else-eq}

-- whether the segment at hand is missing, by its stage, its destination and whether it is whole
is_missing-here : (c : After-eq) → let recon = c.args.recon.now in let seg = c.loop-seg.seg in let segment = c.segment-item.result in
    (not (moves_into recon c.args.stage c.args.part seg) || is_marked_complete c.args.whole.now seg) ≡ (not ((stage_in recon segment == c.args.stage) && (segment.dst == c.args.part)) || is_marked_complete c.args.whole.now seg)
is_missing-here c =
    let recon = c.args.recon.now in
    let seg = c.loop-seg.seg in
    let segment = c.segment-item.result in
    let same = c.segments-segment-items.ensures.segments in
    let there : seg < length recon.segments = omega (arith, c.loop-seg-test.true, ap (λ (list : List Range). length list) same) in
    let is : segment ≡ get_or recon.segments seg segment = c.segment-item.is ∙ ap (λ (list : List Range). get_or list seg segment) same in
    is_missing-at recon c.args.stage c.args.part seg c.args.whole.now segment there is

pub returns-then-not-is_complete : goal.returns-then-not-is_complete
returns-then-not-is_complete c =
    let recon = c.args.recon.now in
    let stage = c.args.stage in
    let segment = c.segment-item.result in
    let there : c.loop-seg.seg < length recon.segments = omega (arith, c.loop-seg-test.true, ap (λ (list : List Range). length list) c.segments-segment-items.ensures.segments) in
    let now : (stage_in recon segment == stage) ≡ true = eq-eqb (stage_in recon segment) stage (sym c.stage_on.ensures.stage ∙ c.if-stage_on-stage.true) in
    let here : (segment.dst == c.args.part) ≡ true = sym c.eq.ensures ∙ c.if-eq.true in
    let absent : is_marked_complete c.args.whole.now c.loop-seg.seg ≡ false = sym c.is_complete.ensures ∙ c.if-not-is_complete.true in
    sym (one_fails (λ k. not (moves_into recon stage c.args.part k) || is_marked_complete c.args.whole.now k) (length recon.segments) c.loop-seg.seg there
    (is_missing-here (goal.at.returns-then-not-is_complete c).After-eq ∙ (λ i. not (now i && here i) || absent i)))

pub loop-seg-preserved : goal.loop-seg-preserved
loop-seg-preserved c =
    let recon = c.args.recon.now in
    let stage = c.args.stage in
    let whole = c.args.whole.now in
    let part = c.args.part in
    let seg = c.loop-seg.seg in
    let segment = c.segment-item.result in
    let test = is_missing-here (goal.at.loop-seg-preserved c).After-eq in
    let here : (not (moves_into recon stage part seg) || is_marked_complete whole seg) ≡ true = elim c.else-eq.branch [
      | else-eq-via-then-eq+then-stage_on-stage+else-not-is_complete b ↦
          or_right (not (moves_into recon stage part seg)) (is_marked_complete whole seg) (sym b.is_complete.ensures ∙ b.if-not-is_complete.false)
      | else-eq-via-then-eq+else-stage_on-stage b ↦
          let other : (stage_in recon segment == stage) ≡ false = ne_eqb (stage_in recon segment) stage (λ now. b.if-stage_on-stage.false (b.stage_on.ensures.stage ∙ now)) in
          test ∙ (λ i. not (other i && (segment.dst == part)) || is_marked_complete whole seg)
      | else-eq-via-else-eq b ↦
          test ∙ moves_elsewhere (stage_in recon segment == stage) (segment.dst == part) (is_marked_complete whole seg) (sym c.eq.ensures ∙ b.if-eq.false)
    ] in
    below_more (λ k. (not (moves_into recon stage part k) || is_marked_complete whole k) ≡ true) seg c.loop-seg.invariant here

pub returns : goal.returns
returns c =
    let recon = c.args.recon.now in
    let whole = c.args.whole.now in
    let same = ap (λ (list : List Range). length list) c.segments-segment-items.ensures.segments in
    sym (all_pass (λ k. not (moves_into recon c.args.stage c.args.part k) || is_marked_complete whole k) 0 (length recon.segments) (λ k low high. c.loop-seg.invariant k (omega (arith, c.loop-seg-test.false, same, high))))
