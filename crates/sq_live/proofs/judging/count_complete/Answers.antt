use Rattle.std.proofs.Common.{rules, ◌≡◌, ◌||◌, ◌<◌, ◌≤◌, ℕ, nat_lt, length, get_or, sym, ap, ◌∙◌, arith}
use Rattle.std.specs.List.{range_with_len}
use Rattle.std.proofs.lemmas.List.{take_all}
use Rattle.std.proofs.lemmas.List.FromFn.{get_or-range_with_len, length-range_with_len}
use Rattle.sq_moves.specs.ReconValue.{stage_at}
use Rattle.sq_leader.specs.Segments.{is_marked_complete}
use Rattle.sq_live.proofs.Counts.{counted_yes, counted_no}
use Rattle.sq_live.proofs.judging.count_complete.Goals as goal
use Rattle.sq_live.proofs.judging.count_complete.Goals.{then-is_counted, else-is_counted}

pub loop-number-preserved : goal.loop-number-preserved
loop-number-preserved c =
    let recon = c.args.recon.now in
    let n = length recon.segments in
    let number = c.loop-number.number in
    let p = λ (seg : ℕ). nat_lt (stage_at recon seg) c.args.stage || is_marked_complete c.args.moved.now seg in
    let within : number < length (range_with_len 0 n) = rw (length-range_with_len 0 n) (search rules) in
    let low : number < n = rw (← length-range_with_len 0 n) within in
    let at : get_or (range_with_len 0 n) number 0 ≡ number = get_or-range_with_len 0 n number 0 low ∙ omega arith in
    let seg : c.in-Some.seg ≡ number = search rules in
    let is : p (get_or (range_with_len 0 n) number 0) ≡ c.is_counted.result = ap p (at ∙ sym seg) ∙ sym c.is_counted.ensures in
    elim c.if-is_counted.branch [
      | then-is_counted w ↦ counted_yes p (range_with_len 0 n) number 0 _ _ within c.loop-number.invariant (is ∙ w.if-is_counted.true) w.count-is
      | else-is_counted w ↦ counted_no p (range_with_len 0 n) number 0 _ _ within c.loop-number.invariant (is ∙ w.if-is_counted.false) w.count-is
    ]

pub returns : goal.returns
returns c =
    let n = length c.args.recon.now.segments in
    let number = c.loop-number.number in
    let past : n ≤ number = search rules in
    let whole : length (range_with_len 0 n) ≤ number = rw (length-range_with_len 0 n) past in
    let all = c.loop-number.invariant.0 in
    rw take_all at all
