use Rattle.std.proofs.Common.{List, [], ◌≡◌, ℕ, ◌++◌, refl, sym, ap, ◌∙◌, subst, append_assoc}
use Rattle.std.specs.List.{flat_map}
use Rattle.std.specs.Io.KnownBytes.{Appends}
use Rattle.std.proofs.lemmas.List.{append-nil}
use Rattle.sq_schema.specs.Family.{FamilyValue}
use Rattle.sq_store.specs.InOrder.{families_in}
use Rattle.sq_text.specs.Texts.{at_line}
use Rattle.sq_text.proofs.Appending.{both}
use Rattle.sq_world.proofs.Dumps.{nothing}
use Rattle.sq_world.proofs.state.dump.write_families.Goals as goal

pub loop-family-init : goal.loop-family-init
loop-family-init g c = (
  tt,
  tt,
  ([], nothing (g.W.Write.contents c.args.writer.now), ap (flat_map (at_line c.args.part)) (c.into_iter-family-iterator.ensures.into_iter_gives ∙ c.families-family-items.ensures.families)),
)

pub loop-family-preserved : goal.loop-family-preserved
loop-family-preserved g c =
    let before = c.loop-family.invariant.2 in
    let text = at_line c.args.part c.in-Some.family.now in
    let texts = λ (families : List FamilyValue). before.0 ++ flat_map (at_line c.args.part) families in (
      tt,
      tt,
      (
        before.0 ++ text,
        both _ _ _ _ _ _ before.1 c.in_ok-write_at.ensures refl,
        append_assoc before.0 text _ ∙ sym (ap texts c.in-Some.ensures.steps) ∙ before.2,
      ),
    )

pub returns : goal.returns
returns g c =
    let all = c.loop-family.invariant.2 in
    let say = flat_map (at_line c.args.part) in
    let whole : all.0 ≡ say (families_in c.args.store.now) = sym (append-nil all.0) ∙ sym (ap (λ (left : List FamilyValue). all.0 ++ say left) (c.in-None.ensures.steps).0) ∙ all.2 in
    subst (λ (t : List ℕ). Appends (g.W.Write.contents c.args.writer.now) (g.W.Write.contents c.loop-family.writer) t) whole all.1
