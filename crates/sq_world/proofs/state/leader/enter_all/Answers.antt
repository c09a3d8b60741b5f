use Rattle.std.proofs.Common.{◌≡◌, suc, ◌+◌, ◌<◌, List, length, map, set, get_or, refl, sym, ap, ◌∙◌, arith}
use Rattle.std.proofs.lemmas.List.{length-map}
use Rattle.sq_exec.specs.CoreValue.{PartCoreValue, CoreValue, entered_core}
use Rattle.sq_exec.proofs.Seen.{seen_changed}
use Rattle.sq_transition.specs.WorldValue.{no_core}
use Rattle.sq_world.proofs.Each.{changed, changed_next}
use Rattle.sq_world.proofs.state.leader.enter_all.Goals as goal

pub loop-core-preserved : goal.loop-core-preserved
loop-core-preserved c =
    let core_of = λ (part : PartCoreValue). part.core in
    let enters = entered_core c.args.stage in
    let i = c.loop-core.core-index in
    let before = map core_of c.args.cores.now in
    let within : i < length before = omega (arith, length-map c.args.cores.now core_of) in
    let more : suc i ≡ i + 1 = omega arith in
    seen_changed core_of c.loop-core.cores no_core enters i i c.core-item.result c.enter.new.self refl c.core-item.is (ap core_of c.enter.ensures ∙ ap (λ (part : PartCoreValue). enters part.core) (sym c.core-item.is))
    ∙ ap (λ (cores : List CoreValue). set cores i (enters (get_or cores i no_core))) c.loop-core.invariant
    ∙ changed_next enters i before no_core within
    ∙ ap (λ n. changed enters n before) more
