use Rattle.std.proofs.Common.{◌≡◌, ◌+◌, ◌≤◌, sym, ap, ◌∙◌, arith}
use Rattle.sq_gather.proofs.Prelude.{first_is}
use Rattle.sq_audit.proofs.stored.next_family.Goals as goal

pub returns-clause-some : goal.returns-clause-some
returns-clause-some c =
    let family = c.in-Some.family.now in
    let found = sym c.in-Some.ensures.family in
    let number : c.number.result ≡ family.root = c.number.ensures.number ∙ c.root.ensures in
    let first = first_is c.args.store.now c.args.at c.walk.ensures.rooted (family.root + 1) family found (omega arith) in
    let from : c.args.at ≤ family.root = first.from in
    let bound = c.number.ensures.bound in
    record {
      found = found;
      behind = ap (λ n. n + 1) number;
      rises = omega (arith, number, from);
      bound = omega (arith, bound);
      own = c.position.ensures.own;
    }
