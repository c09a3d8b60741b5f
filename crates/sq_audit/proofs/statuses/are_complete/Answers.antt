use Rattle.std.proofs.Common.{◌≡◌, ◌≤◌, ℕ, List, [], length, ap, ◌∙◌, subst, refl, below_more}
use Rattle.std.specs.Prelude.{slice_index_or}
use Rattle.std.specs.List.{flat_map}
use Rattle.std.specs.Bool.{Decides}
use Rattle.std.specs.BTreeSet.{contains}
use Rattle.sq_gather.specs.Prelude.{Status, status_at, has_last, GatheredLink, GatheredValue, loads_of}
use Rattle.sq_audit.specs.Counts.{key_order}
use Rattle.sq_audit.specs.Statuses.{AreEnded}
use Rattle.sq_audit.proofs.Each.{decides_not, refuted, shown}
use Rattle.sq_audit.proofs.Ending.{all_complete, ended_from}
use Rattle.sq_audit.proofs.statuses.are_complete.Goals as goal

pub returns-then-not-are_ended : goal.returns-then-not-are_ended
returns-then-not-are_ended c =
    let ended = c.in_ok-ended.ended in
    let links = c.deref.ensures.value ∙ ap (λ (g : GatheredValue). g.links) c.g.view_is in
    let statuses = c.deref-tree-items.ensures.value ∙ ap (λ (g : GatheredValue). g.statuses) c.g.view_is in
    let is = subst (λ (ls : List GatheredLink). (seg node : ℕ) → contains key_order ended (seg, node) ≡ has_last seg node (flat_map loads_of ls)) links c.in_ok-ended.ensures in
    let decides = subst (λ (ws : List (List Status)). Decides c.are_ended.result (AreEnded ended c.loop-seg.seg (status_at (slice_index_or ws c.loop-seg.seg [])))) statuses c.are_ended.ensures in
    decides_not (λ complete. refuted c.are_ended.result decides c.if-not-are_ended.true (ended_from c.args.g.now ended is complete c.loop-seg.seg))

pub loop-seg-preserved : goal.loop-seg-preserved
loop-seg-preserved c =
    let ended = c.in_ok-ended.ended in
    let statuses = c.deref-tree-items.ensures.value ∙ ap (λ (g : GatheredValue). g.statuses) c.g.view_is in
    let decides = subst (λ (ws : List (List Status)). Decides c.are_ended.result (AreEnded ended c.loop-seg.seg (status_at (slice_index_or ws c.loop-seg.seg [])))) statuses c.are_ended.ensures in
    below_more (λ i. AreEnded ended i (status_at (slice_index_or c.args.g.now.statuses i []))) c.loop-seg.seg c.loop-seg.invariant (shown c.are_ended.result decides c.if-not-are_ended.false)

pub returns : goal.returns
returns c =
    let ended = c.in_ok-ended.ended in
    let links = c.deref.ensures.value ∙ ap (λ (g : GatheredValue). g.links) c.g.view_is in
    let statuses = c.deref-tree-items.ensures.value ∙ ap (λ (g : GatheredValue). g.statuses) c.g.view_is in
    let is = subst (λ (ls : List GatheredLink). (seg node : ℕ) → contains key_order ended (seg, node) ≡ has_last seg node (flat_map loads_of ls)) links c.in_ok-ended.ensures in
    let whole = subst (λ (ws : List (List Status)). length ws ≤ c.loop-seg.seg) statuses c.loop-seg-test.false in
    ((λ e. all_complete c.args.g.now ended is c.loop-seg.seg whole c.loop-seg.invariant), (λ complete. refl))
