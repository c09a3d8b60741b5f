use Rattle.std.proofs.Common.{refl}
use Rattle.sq_schema.specs.Family.{FamilyValue}
use Rattle.sq_schema.proofs.Folded.{IsKept-folded}
use Rattle.sq_schema.proofs.family.Family.fold.Goals as goal

pub invariant_of-self : goal.invariant_of-self
invariant_of-self c =
    let family : FamilyValue = record { root = c.self.inside.root; base = c.self.inside.base.value; log = c.self.inside.log.items } in
    rw (c.of-self-inside.ensures, c.new-self-inside.ensures) (refl, IsKept-folded family c.self.inside.rows c.self.invariant.1)
