use Rattle.std.proofs.Common.{◌≡◌, List, get_or, refl, sym, ap, ◌∙◌}
use Rattle.sq_moves.specs.declared.recon.Range.{Range}
use Rattle.sq_exec.specs.CoreValue.{CoreValue}
use Rattle.sq_exec.specs.Moving.{begun_core}
use Rattle.sq_world.specs.contracts.state.State.{the_view}
use Rattle.sq_world.proofs.Guards.{node_here}
use Rattle.sq_world.proofs.Trees.{begin_returns, begin_lacks_memory, source_knows}
use Rattle.sq_world.proofs.state.State.begin.Goals as goal

pub returns-then-is_err : goal.returns-then-is_err
returns-then-is_err c =
    let w = the_view c.self.inside in
    let tree = c.index-2.result.now in
    begin_lacks_memory w c.args.self.now c.self.inside.cores.items c.args.seg c.args.node c.in_ok-seg.seg c.in_ok-node.node c.args.pull c.from.result c.index_mut-source.result.now c.reserve_begin.new.self tree
    c.in_ok-check_moving.field-0 c.self.view_is refl c.requires c.in_ok-check_moving.ensures
    (node_here c.args.self.now c.args.seg c.args.node c.in_ok-seg.seg c.in_ok-node.node c.in_ok-seg.ensures.named c.in_ok-node.ensures)
    (c.index-2.ensures ∙ ap (λ i. get_or w.trees i tree) c.index.ensures.place) c.in_ok-check_begin.ensures c.index_mut-source.ensures.value c.reserve_begin.ensures.same

pub begun-requires-clause-exists : goal.begun-requires-clause-exists
begun-requires-clause-exists c =
    let w = the_view c.self.inside in
    let seg = c.in_ok-seg.seg in
    let range = c.index-segments-index.result in
    let range_is : range ≡ get_or w.recon.segments seg range =
    c.index-segments-index.is ∙ ap (λ i. get_or c.segments.result.now i range) c.index-3.ensures.place ∙ ap (λ (xs : List Range). get_or xs seg range) c.segments.ensures.segments in
    let from_is : c.from.result ≡ range.src = c.from.ensures ∙ c.number.ensures ∙ ap (λ (r : Range). r.src) (sym c.index-segments-index.is) in
    source_knows w c.args.self.now c.self.inside.cores.items seg c.from.result range c.index_mut-source.result.now c.reserve_begin.new.self c.self.view_is refl c.requires
    (node_here c.args.self.now c.args.seg c.args.node seg c.in_ok-node.node c.in_ok-seg.ensures.named c.in_ok-node.ensures).exists
    range_is from_is c.index_mut-source.ensures.value c.reserve_begin.ensures.same

pub returns : goal.returns
returns c =
    let w = the_view c.self.inside in
    let seg = c.in_ok-seg.seg in
    let node = c.in_ok-node.node in
    let pull = c.args.pull in
    let from = c.from.result in
    let source = c.index_mut-source.result.now in
    let range = c.index-segments-index.result in
    let range_is : range ≡ get_or w.recon.segments seg range =
    c.index-segments-index.is ∙ ap (λ i. get_or c.segments.result.now i range) c.index-3.ensures.place ∙ ap (λ (xs : List Range). get_or xs seg range) c.segments.ensures.segments in
    let from_is : from ≡ range.src = c.from.ensures ∙ c.number.ensures ∙ ap (λ (r : Range). r.src) (sym c.index-segments-index.is) in
    let after_is : c.begun.new.self.core ≡ begun_core source.core seg node pull = c.begun.ensures.core ∙ ap (λ (core : CoreValue). begun_core core seg node pull) c.reserve_begin.ensures.same in
    let tree = c.index-2.result.now in
    let tree_is : tree ≡ get_or w.trees seg tree = c.index-2.ensures ∙ ap (λ i. get_or w.trees i tree) c.index.ensures.place in
    begin_returns w c.args.self.now c.self.inside.cores.items c.args.seg c.args.node seg node pull from c.index-4.result range source c.begun.new.self tree c.index_mut.result.now c.begin_node.new.tree
    c.in_ok-check_moving.field-0 c.self.view_is refl c.requires c.in_ok-check_moving.ensures
    (node_here c.args.self.now c.args.seg c.args.node seg node c.in_ok-seg.ensures.named c.in_ok-node.ensures)
    tree_is c.in_ok-check_begin.ensures range_is from_is c.index_mut-source.ensures.value after_is
    c.index-4.ensures.place c.index_mut.ensures.value c.begin_node.ensures
