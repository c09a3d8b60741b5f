use Rattle.std.proofs.Common.{sym, ap, subst}
use Rattle.sq_schema.specs.Family.{FamilyValue}
use Rattle.sq_store.specs.Runs.{IsFamilyAt}
use Rattle.sq_store.proofs.slab_store.SlabStore.fill.Goals as goal

pub put_at-requires-clause-place : goal.put_at-requires-clause-place
put_at-requires-clause-place c =
    subst (λ root. IsFamilyAt c.self.inside.runs root c.in-Some.run' c.in-Some.at) (sym (ap (λ (f : FamilyValue). f.root) c.opened-family.ensures)) c.in-Some.ensures.some
