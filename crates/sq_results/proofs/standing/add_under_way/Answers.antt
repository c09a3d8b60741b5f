use Rattle.std.proofs.Common.{rules, ◌≡◌, ◌+◌, List, ◌++◌, ap, ◌∙◌, sym, arith}
use Rattle.std.proofs.lemmas.List.{take_all}
use Rattle.std.proofs.lemmas.Option.{slice_get_within}
use Rattle.sq_store.specs.ChunkValue.{ChunkValue}
use Rattle.sq_transition.specs.WorldValue.{link_index}
use Rattle.sq_world.specs.Readers.{way_of}
use Rattle.sq_results.specs.RowLines.{lent_values}
use Rattle.sq_results.specs.Standing.{carried}
use Rattle.sq_results.proofs.Lent.{next_lent, place_behind}
use Rattle.sq_results.proofs.standing.add_under_way.Goals as goal

pub loop-chunk-smaller : goal.loop-chunk-smaller
loop-chunk-smaller c =
    let way = way_of c.args.world.now (link_index c.args.world.now c.args.src c.args.dst) in
    let below = slice_get_within way c.loop-chunk.at c.in-Some.chunk.now (sym c.in-Some.ensures.chunk) in
    let next : c.in-Some-checked_add.next ≡ c.loop-chunk.at + 1 = search rules in
    omega (arith, below, next)

pub loop-chunk-preserved : goal.loop-chunk-preserved
loop-chunk-preserved c =
    let way = way_of c.args.world.now (link_index c.args.world.now c.args.src c.args.dst) in
    let there = sym c.in-Some.ensures.chunk in
    let below = slice_get_within way c.loop-chunk.at c.in-Some.chunk.now there in
    let next : c.in-Some-checked_add.next ≡ c.loop-chunk.at + 1 = search rules in
    record {
      within = omega (arith, below, next);
      added = next_lent (λ (chunk : ChunkValue). chunk.families) way c.loop-chunk.at c.in-Some-checked_add.next c.in-Some.chunk.now _ _ _ next there
          c.loop-chunk.invariant.added c.in_ok-add_chunk.ensures;
    }

pub returns : goal.returns
returns c =
    let way = way_of c.args.world.now (link_index c.args.world.now c.args.src c.args.dst) in
    let all = place_behind way c.loop-chunk.at c.loop-chunk.invariant.within (sym c.in_default.ensures.chunk) in
    c.loop-chunk.invariant.added
    ∙ ap (λ (chunks : List ChunkValue). lent_values c.args.families.now.items ++ carried chunks) (take_all c.loop-chunk.at way (omega (arith, all)))
