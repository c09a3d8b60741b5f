use Rattle.std.proofs.Common.{◌≡◌, ◌<◌, ◌≢◌, ℕ, List, not, Option, Some, None, length, get_or, remove, sym, ap, subst, ◌∙◌, arith}
use Rattle.std.specs.Prelude.{◌==◌, ◌&&◌, IsSome, OnSome}
use Rattle.std.specs.Ordering.{nat_cmp}
use Rattle.std.specs.List.Sorted.{IsStrictlySortedBy}
use Rattle.std.proofs.lemmas.Bool.{true≢false, ne_eqb}
use Rattle.sq_exec.specs.Index.{is_among}
use Rattle.sq_exec.proofs.Places.{among_at, none_among_at, without_other, sorted_remove, among_remove}
use Rattle.sq_exec.proofs.numbers.Numbers.remove.Goals as goal

on_some : {T P : Type 0} → (read : Option T) → IsSome read → OnSome read P → P
on_some (Some x) there p = p
on_some None there p = absurd (true≢false (sym there))

pub returns-in_default : goal.returns-in_default
returns-in_default c =
    without_other c.args.self.now c.args.number
    (ap (λ ns. is_among ns c.args.number) (sym c.self.view_is) ∙ sym (none_among_at c.self.inside.list.items c.args.number c.place_in-at.result c.self.invariant c.place_in-at.ensures c.in_default.ensures.item.3))

pub returns-then-first-number : goal.returns-then-first-number
returns-then-first-number c =
    let apart : c.args.number ≢ (c.in-Some.first).now = λ same. c.if-first-number.true (sym same) in
    without_other c.args.self.now c.args.number
    (ap (λ ns. is_among ns c.args.number) (sym c.self.view_is)
    ∙ sym (among_at c.self.inside.list.items c.args.number c.place_in-at.result c.self.invariant c.place_in-at.ensures (c.in-Some.first).now c.in-Some.ensures.item.3.0 c.in-Some.ensures.lookup)
    ∙ ne_eqb c.args.number (c.in-Some.first).now apart)

-- one was removed
items : (old new : List ℕ) (at len : ℕ) (gone : Option ℕ) → at < length old → len ≡ length old → (at < len → IsSome gone) → OnSome gone (new ≡ remove old at) → new ≡ remove old at
items old new at len gone inside count some removed = on_some gone (some (omega (arith, inside, count))) removed

-- the first was removed
pub invariant_of-self : goal.invariant_of-self
invariant_of-self c = subst (IsStrictlySortedBy nat_cmp) (sym c.pop_front.ensures.rest) (sorted_remove c.self.inside.list.items 0 c.self.invariant)

pub returns-then-at-eq0 : goal.returns-then-at-eq0
returns-then-at-eq0 c = λ n.
    let own : (c.in-Some.first).now ≡ c.args.number = c.if-first-number.false in
    let old = c.self.inside.list.items in
    let first = (c.in-Some.first).now in
    let inside : 0 < length old = subst (λ i. i < length old) c.if-at-eq0.true c.in-Some.ensures.item.3.0 in
    let read : first ≡ get_or old 0 first = subst (λ i. first ≡ get_or old i first) c.if-at-eq0.true c.in-Some.ensures.lookup in
    ap (λ ns. is_among ns n) c.pop_front.ensures.rest ∙ among_remove old 0 first n c.self.invariant inside read ∙ (λ i. is_among (c.self.view_is i) n && not (n == own i))

pub invariant_of-self-2 : goal.invariant_of-self-2
invariant_of-self-2 c = subst (IsStrictlySortedBy nat_cmp) (sym (items c.self.inside.list.items c.remove.new.self.items c.place_in-at.result c.self.inside.list.len c.remove.result c.in-Some.ensures.item.3.0 c.self.inside.list.ok.0 c.remove.ensures.variant.1 c.remove.ensures.items)) (sorted_remove c.self.inside.list.items c.place_in-at.result c.self.invariant)

pub returns : goal.returns
returns c = λ n.
    let own : (c.in-Some.first).now ≡ c.args.number = c.if-first-number.false in
    ap (λ ns. is_among ns n) (items c.self.inside.list.items c.remove.new.self.items c.place_in-at.result c.self.inside.list.len c.remove.result c.in-Some.ensures.item.3.0 c.self.inside.list.ok.0 c.remove.ensures.variant.1 c.remove.ensures.items)
    ∙ among_remove c.self.inside.list.items c.place_in-at.result (c.in-Some.first).now n c.self.invariant c.in-Some.ensures.item.3.0 c.in-Some.ensures.lookup
    ∙ (λ i. is_among (c.self.view_is i) n && not (n == own i))
