use Rattle.std.proofs.Common.{◌≡◌, Some, sym, ap, ◌∙◌}
use Rattle.sq_transition.specs.WorldValue.{WorldValue, link_index}
use Rattle.sq_world.proofs.Dumps.{link_said, same_text}
use Rattle.sq_world.proofs.state.State.write_link.Goals as goal

pub returns-in-Some : goal.returns-in-Some
returns-in-Some g c =
    let w = c.args.self.now in
    let queues : w.queues ≡ c.self.inside.queues.items = ap (λ (v : WorldValue). v.queues) (sym c.self.view_is) in
    let found : Some c.in-Some.at ≡ link_index w c.args.src c.args.dst = sym c.in-Some.is ∙ c.link_at.ensures in
    same_text c.write_under_way.result _ _ _ _ (link_said w c.self.inside.queues.items c.args.src c.args.dst c.in-Some.at c.index.result.now queues found c.index.ensures) c.write_under_way.ensures
