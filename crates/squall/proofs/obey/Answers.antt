use Rattle.std.proofs.Common.{List, ℕ, inl, subst}
use Rattle.sq_command.specs.declared.line.Line.TheVariants.{Owner}
use Rattle.squall.specs.Session.{EndsOwners}
use Rattle.squall.proofs.obey.Goals as goal

pub returns-in-Ok-Owner : goal.returns-in-Ok-Owner
returns-in-Ok-Owner g c =
    inl (record {
      line = Owner c.in-Ok-Owner.keys c.in-Ok-Owner.plans c.in-Ok-Owner.width c.in-Ok-Owner.json;
      comes = rw c.in-Ok-Owner.field-0-is at c.in-Ok-Owner.ensures.comes;
      ends = subst (λ (keys : List ℕ). EndsOwners keys c.in-Ok-Owner.width c.in-Ok-Owner.json (g.W.Write.contents c.args.writer) (g.W.Write.contents c.owners-status.new.writer) c.owners-status.result) c.deref.ensures.value c.owners-status.ensures;
    })
