use Rattle.std.proofs.Common.{⊎_elim, ℕ, List, sym, subst}
use Rattle.sq_gather.specs.Prelude.{RowList}
use Rattle.sq_gather.proofs.Prelude.{Contains-first, Contains-later, Contains-cases}
use Rattle.sq_audit.specs.Located.{entries_in}
use Rattle.sq_audit.specs.Index.{HasFamily, HaveFamilies}
use Rattle.sq_audit.proofs.Each.{decides_not, refuted, shown}
use Rattle.sq_audit.proofs.index.have_families.Goals as goal

pub returns-then-not-has_family : goal.returns-then-not-has_family
returns-then-not-has_family c =
    let rest = c.next.new.self in
    let row : ℕ × RowList = (c.in-Some.root.now, c.in-Some.field-0-1.now) in
    decides_not (λ all.
    let rest_all = subst (λ (t : List (ℕ × RowList)). HaveFamilies t (entries_in c.args.all.now)) c.in-Some.ensures.steps (c.loop-root.invariant.rest all) in
    refuted c.has_family.result c.has_family.ensures c.if-not-has_family.true (rest_all row (Contains-first row rest)))

pub loop-root-preserved : goal.loop-root-preserved
loop-root-preserved c =
    let rest = c.next.new.self in
    let entries = entries_in c.args.all.now in
    let row : ℕ × RowList = (c.in-Some.root.now, c.in-Some.field-0-1.now) in
    let there = shown c.has_family.result c.has_family.ensures c.if-not-has_family.false in
    record {
      all = λ later.
          c.loop-root.invariant.all
          (subst (λ (t : List (ℕ × RowList)). HaveFamilies t entries) (sym c.in-Some.ensures.steps)
          (λ other has.
          ⊎_elim
          (λ same. subst (λ (e : ℕ × RowList). HasFamily entries e.0) same there)
          (λ more. later other more)
          (Contains-cases row rest other has)));
      rest = λ all other has. subst (λ (t : List (ℕ × RowList)). HaveFamilies t entries) c.in-Some.ensures.steps (c.loop-root.invariant.rest all) other (Contains-later row rest other has);
    }
