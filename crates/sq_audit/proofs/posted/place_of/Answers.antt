use Rattle.std.proofs.Common.{rules, ℕ, nat_lt, Contains, Some, None, refl, sym, subst}
use Rattle.std.proofs.lemmas.Fn.{always_returns_same}
use Rattle.sq_gather.proofs.Prelude.{Contains-slice_get}
use Rattle.sq_audit.proofs.Each.{looked_up}
use Rattle.sq_audit.proofs.Lists.{PartsAt}
use Rattle.sq_audit.proofs.Searching.{none_past, none_other}
use Rattle.sq_audit.proofs.posted.place_of.Goals as goal
use Rattle.sq_audit.proofs.posted.place_of.Goals.{After-partition_point-first}

-- the elements below the id come before the others
parted : (c : After-partition_point-first) → PartsAt (λ (one : ℕ × ℕ). nat_lt one.0 c.args.id) c.args.places.now c.partition_point-first.result
parted c = c.partition_point-first.ensures.partitioned (λ one. nat_lt one.0 c.args.id) (always_returns_same _ _ _ (λ a r f k. search rules))

pub returns-in_default-clause-none : goal.returns-in_default-clause-none
returns-in_default-clause-none c place has =
    let at = (goal.at.returns-in_default-clause-none c).After-partition_point-first in
    let first = c.partition_point-first.result in
    none_past c.args.places.now c.requires c.args.id first (parted at) (sym (looked_up c.args.places.now first None c.in_default.ensures.lookup)) (c.args.id, place) has refl

pub returns-then-found-id-clause-some : goal.returns-then-found-id-clause-some
returns-then-found-id-clause-some c =
    let first = c.partition_point-first.result in
    let found = c.in-Some.found.now in
    let there = sym (looked_up c.args.places.now first (Some c.in-Some.found) c.in-Some.ensures.lookup) in
    subst (λ n. Contains c.args.places.now (n, found.1)) c.if-found-id.true (Contains-slice_get c.args.places.now first found there)

pub returns-else-found-id-clause-none : goal.returns-else-found-id-clause-none
returns-else-found-id-clause-none c place has =
    let at = (goal.at.returns-else-found-id-clause-none c).After-partition_point-first in
    let first = c.partition_point-first.result in
    let there = sym (looked_up c.args.places.now first (Some c.in-Some.found) c.in-Some.ensures.lookup) in
    none_other c.args.places.now c.requires c.args.id first (parted at) c.in-Some.found.now there c.if-found-id.false (c.args.id, place) has refl
