use Rattle.std.proofs.Common.{◌≡◌, suc, ◌+◌, ◌<◌, List, length, map, set, get_or, refl, sym, ap, ◌∙◌, arith}
use Rattle.std.proofs.lemmas.List.{length-map}
use Rattle.sq_exec.specs.CoreValue.{PartCoreValue, CoreValue}
use Rattle.sq_exec.proofs.Seen.{seen_changed}
use Rattle.sq_transition.specs.WorldValue.{no_core}
use Rattle.sq_transition.specs.LeaderResults.{started_core}
use Rattle.sq_world.proofs.Each.{changed, changed_next}
use Rattle.sq_world.proofs.state.leader.start_all.Goals as goal

pub loop-core-preserved : goal.loop-core-preserved
loop-core-preserved c =
    let core_of = λ (part : PartCoreValue). part.core in
    let i = c.loop-core.core-index in
    let before = map core_of c.args.cores.now in
    let within : i < length before = omega (arith, length-map c.args.cores.now core_of) in
    let more : suc i ≡ i + 1 = omega arith in
    seen_changed core_of c.loop-core.cores no_core started_core i i c.core-item.result c.start.new.self refl c.core-item.is (c.start.ensures.core ∙ ap (λ (part : PartCoreValue). started_core part.core) (sym c.core-item.is))
    ∙ ap (λ (cores : List CoreValue). set cores i (started_core (get_or cores i no_core))) c.loop-core.invariant
    ∙ changed_next started_core i before no_core within
    ∙ ap (λ n. changed started_core n before) more
