use Rattle.std.proofs.Common.{◌≡◌, ℕ, ◌+◌, List, [], ◌∷◌, ◌++◌, map, sym, ap, ◌∙◌, arith}
use Rattle.std.specs.List.{range_with_len}
use Rattle.std.proofs.lemmas.List.FromFn.{map-range_with_len_more}
use Rattle.sq_report.specs.declared.counts.PartCount.{PartCount}
use Rattle.sq_report.specs.SummaryValue.{count_after}
use Rattle.sq_report.proofs.summary.count_parts.Goals as goal

-- the counts of one number more
more : (f : ℕ → PartCount) (n : ℕ) (old new : List PartCount) (next : PartCount) → new ≡ old ++ next ∷ [] → old ≡ map f (range_with_len 0 n) → next ≡ f n → new ≡ map f (range_with_len 0 (n + 1))
more f n old new next pushed so_far is =
    pushed ∙ ap (λ (counts : List PartCount). counts ++ next ∷ []) so_far ∙ ap (λ (count : PartCount). map f (range_with_len 0 n) ++ count ∷ []) is ∙ sym (map-range_with_len_more f 0 n n (omega arith))

pub loop-part-preserved : goal.loop-part-preserved
loop-part-preserved c =
    let pairs = c.args.pairs.now in
    let part = c.loop-part.part in
    more (count_after c.args.parts.now.items pairs) part _ _ _ c.in_ok-push.ensures.items c.loop-part.invariant
    (c.count_part.ensures ∙ ap (λ (parts : List PartCount). count_after parts pairs part) c.deref.ensures.value)
