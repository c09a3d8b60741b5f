use Rattle.std.proofs.Common.{rules, ◌≡◌, sym, ◌∙◌, arith}
use Rattle.sq_node.proofs.NewStores.{all_are, all_have}
use Rattle.sq_node.proofs.fabric.open.open_stores_in_threads.Goals as goal

pub returns-clause-stores : goal.returns-clause-stores
returns-clause-stores g c =
    let parts : c.from-parts.result ≡ c.args.opening.now.old.parts = search rules in
    let count = sym c.in_ok-opened.opened.ok.0 in
    all_are c.args.opening.now c.in_ok-opened.opened.items c.in_ok-stores.stores.items c.in_ok-stores.ensures (count ∙ c.in_ok-opened.ensures.len ∙ parts)
    (λ i d low. let one = (c.in_ok-opened.ensures.each i d (omega (arith, low, count, c.in_ok-opened.ensures.len))).1 in one.met)

pub returns-clause-owned : goal.returns-clause-owned
returns-clause-owned g c =
    let parts : c.from-parts.result ≡ c.args.opening.now.old.parts = search rules in
    let count = sym c.in_ok-opened.opened.ok.0 in
    all_have c.args.opening.now c.in_ok-opened.opened.items c.in_ok-stores.stores.items c.in_ok-stores.ensures (count ∙ c.in_ok-opened.ensures.len ∙ parts)
    (λ i d low. let one = (c.in_ok-opened.ensures.each i d (omega (arith, low, count, c.in_ok-opened.ensures.len))).1 in one.met)
