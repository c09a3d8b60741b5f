use Rattle.std.proofs.Common.{◌≤◌, length, sym, ap, subst, ◌∙◌, arith}
use Rattle.std.specs.Ordering.{nat_cmp}
use Rattle.std.specs.List.Sorted.{IsStrictlySortedBy}
use Rattle.sq_exec.specs.Index.{is_among}
use Rattle.sq_exec.proofs.Places.{place_within, sorted_put, among_insert}
use Rattle.sq_exec.proofs.numbers.insert.Goals as goal

pub insert-requires : goal.insert-requires
insert-requires c =
    let list = c.args.list.now in
    let within : c.place_in-at.result ≤ length list.items = subst (λ i. i ≤ length list.items) (sym c.place_in-at.ensures) (place_within (λ n. n) c.args.number list.items) in
    omega (arith, within, list.ok.0)

pub returns-in-Ok-clause-rise : goal.returns-in-Ok-clause-rise
returns-in-Ok-clause-rise c = subst (IsStrictlySortedBy nat_cmp) (sym c.in-Ok.ensures.items) (sorted_put c.args.list.now.items c.args.number c.place_in-at.result c.requires.rise c.place_in-at.ensures c.requires.new)

pub returns-in-Ok-clause-ok : goal.returns-in-Ok-clause-ok
returns-in-Ok-clause-ok c = λ n. ap (λ ns. is_among ns n) c.in-Ok.ensures.items ∙ among_insert c.args.list.now.items c.place_in-at.result c.args.number n
