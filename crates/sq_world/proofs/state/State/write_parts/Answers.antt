use Rattle.std.proofs.Common.{◌≡◌, ◌∙◌, ◌+◌, ◌<◌, length, map, refl, sym, ap, arith}
use Rattle.std.proofs.lemmas.List.{length-map}
use Rattle.sq_transition.specs.WorldValue.{WorldValue}
use Rattle.sq_world.specs.Dump.{part_lines}
use Rattle.sq_world.proofs.Dumps.{one_more, part_said}
use Rattle.sq_world.proofs.state.State.write_parts.Goals as goal

pub loop-part-preserved : goal.loop-part-preserved
loop-part-preserved g c =
    let w = c.args.self.now in
    let part = c.loop-part.part in
    let cores : w.cores ≡ map (λ part. part.core) c.self.inside.cores.items = ap (λ (v : WorldValue). v.cores) (sym c.self.view_is) in
    let lengths : length w.cores ≡ length c.self.inside.cores.items = ap length cores ∙ length-map c.self.inside.cores.items (λ part. part.core) in
    let count : w.old.parts ≡ c.self.inside.old_plan.parts = ap (λ (v : WorldValue). v.old.parts) (sym c.self.view_is) in
    let within : part < length c.self.inside.cores.items = omega (arith, lengths, count, c.requires.cores, c.loop-part-test.true, c.parts-part-end.ensures.parts) in
    one_more (part_lines w) part (part + 1) _ _ _ _ refl c.loop-part.invariant c.in_ok-write_families.ensures
    (part_said w c.self.inside.cores.items part c.from.result c.new.result c.index.result.now c.store-store.result.now cores c.from.ensures c.new.ensures within c.index.ensures c.store-store.ensures)
