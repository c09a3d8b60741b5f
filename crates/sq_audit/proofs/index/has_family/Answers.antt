use Rattle.std.proofs.Common.{rules, nat_lt, Some, None, sym, ◌∙◌, eqb-true, eq-eqb}
use Rattle.std.proofs.lemmas.Fn.{always_returns_same}
use Rattle.sq_audit.specs.declared.located.Located.{Located}
use Rattle.sq_audit.proofs.Lists.{PartsAt}
use Rattle.sq_audit.proofs.Each.{looked_up}
use Rattle.sq_audit.proofs.Indexing.{first_family, no_family}
use Rattle.sq_audit.proofs.index.has_family.Goals as goal
use Rattle.sq_audit.proofs.index.has_family.Goals.{After-partition_point-count}

-- the families of lower root keys come before the others
parted : (c : After-partition_point-count) → PartsAt (λ (located : Located). nat_lt located.family.now.root c.args.root) c.args.all.now c.partition_point-count.result
parted c = c.partition_point-count.ensures.partitioned (λ located. nat_lt located.family.now.root c.args.root) (always_returns_same _ _ _ (λ a r f k. search rules))

pub returns-in-Some : goal.returns-in-Some
returns-in-Some c =
    let at = (goal.at.returns-in-Some c).After-partition_point-count in
    let all = c.args.all.now in
    let count = c.partition_point-count.result in
    let located = c.in-Some.located.now in
    first_family all c.requires c.args.root count (parted at) located c.eq.result (sym (looked_up all count (Some c.in-Some.located) c.in-Some.ensures.lookup)) (
      (λ e. sym c.root.ensures ∙ eqb-true c.root.result c.args.root (sym c.eq.ensures ∙ e)),
      (λ same. c.eq.ensures ∙ eq-eqb c.root.result c.args.root (c.root.ensures ∙ same)),
    )

pub returns-in-None : goal.returns-in-None
returns-in-None c =
    let at = (goal.at.returns-in-None c).After-partition_point-count in
    let all = c.args.all.now in
    let count = c.partition_point-count.result in
    no_family all c.requires c.args.root count (parted at) (sym (looked_up all count None c.in-None.ensures.lookup))
