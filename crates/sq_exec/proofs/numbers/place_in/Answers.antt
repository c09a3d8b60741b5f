use Rattle.std.proofs.Common.{rules, ◌-◌, get_or, sym, ap, ◌∙◌, arith}
use Rattle.std.specs.Prelude.{nat_lt}
use Rattle.std.proofs.lemmas.Fn.{always_returns_same}
use Rattle.std.proofs.lemmas.List.Sorted.{IsPartitionedBy-ltb}
use Rattle.std.proofs.lemmas.Map.Keys.{non_decreasing_from_sorted}
use Rattle.sq_exec.proofs.Places.{place_last, place_parted}
use Rattle.sq_exec.proofs.numbers.place_in.Goals as goal

pub returns-then-last-number : goal.returns-then-last-number
returns-then-last-number c =
    let list = c.args.list.now in
    let last = (c.in-Some.last).now in
    c.len.ensures ∙ list.ok.0 ∙ sym (place_last list.items c.args.number last c.requires (c.in-Some.ensures.lookup ∙ ap (λ n. get_or list.items (n - 1) last) list.ok.0) c.if-last-number.true)

pub returns : goal.returns
returns c =
    let list = c.args.list.now in
    let number = c.args.number in
    let point = c.partition_point.ensures in
    sym (place_parted (λ n. n) number list.items c.partition_point.result 0 (omega (arith, point.bound, list.ok.0))
    (point.partitioned (λ n. nat_lt n number) (always_returns_same _ _ _ (λ a r f k. search rules)) (IsPartitionedBy-ltb (λ n. n) list.items number (non_decreasing_from_sorted list.items c.requires))))
