use Rattle.std.proofs.Common.{sym, ap, ◌∙◌, arith, ◌≡◌, ℕ, [], ◌∷◌, ◌++◌, List, map}
use Rattle.std.specs.List.{range_with_len}
use Rattle.std.proofs.lemmas.List.{map-append}
use Rattle.std.proofs.lemmas.List.FromFn.{map-range_with_len_more}
use Rattle.sq_plan.specs.PlanValue.{PlanValue}
use Rattle.sq_exec.specs.CoreValue.{CoreValue, PartCoreValue}
use Rattle.sq_exec.specs.Opened.{blank_part}
use Rattle.sq_exec.proofs.partition.open_blank_partitions.Goals as goal

pub loop-number-preserved : goal.loop-number-preserved
loop-number-preserved c =
    let o = c.args.opening.now in
    let n = c.loop-number.number in
    let core = λ (part : PartCoreValue). part.core in
    let before = c.loop-number.cores.items in
    let made = c.in_ok-open_blank_partition.field-0 in
    let part : made.core ≡ blank_part o n = c.in_ok-open_blank_partition.ensures ∙ ap (blank_part o) c.new.ensures in
    ap (map core) c.in_ok-push.ensures.items
    ∙ map-append core before (made ∷ [])
    ∙ ap (λ (cores : List CoreValue). cores ++ made.core ∷ []) c.loop-number.invariant
    ∙ ap (λ (x : CoreValue). map (blank_part o) (range_with_len 0 n) ++ x ∷ []) part
    ∙ sym (map-range_with_len_more (blank_part o) 0 n n (omega arith))

pub returns : goal.returns
returns c =
    let o = c.args.opening.now in
    let end : c.loop-number.number ≡ c.parts-number-end.result = omega (arith, c.loop-number-test.false, c.loop-number.auto.number-end) in
    c.loop-number.invariant
    ∙ ap (λ (n : ℕ). map (blank_part o) (range_with_len 0 n))
    (end ∙ c.parts-number-end.ensures.parts ∙ ap (λ (plan : PlanValue). plan.parts) c.old_plan.ensures.plan)
