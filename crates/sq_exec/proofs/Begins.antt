-- A node is begun.
use Rattle.std.proofs.Common.{◌≡◌, Bool, ℕ, ◌<◌, List, length, get_or, set, Some, refl, sym, ap, ◌∙◌, arith}
use Rattle.std.specs.Prelude.{slice_get, option_map}
use Rattle.std.proofs.lemmas.List.{get_or_default}
use Rattle.std.proofs.lemmas.Option.{slice_get_read, same_Some}
use Rattle.sq_moves.specs.declared.recon.Extent.{Extent}
use Rattle.sq_moves.specs.declared.recon.Range.{Range}
use Rattle.sq_moves.specs.ReconValue.{extent, extent_at}
use Rattle.sq_exec.specs.GivenUp.{none_given_up, given_up_with}
use Rattle.sq_exec.specs.Work.{WorkValue}
use Rattle.sq_exec.specs.OutLink.{RoomyOutLink, new_out_link}
use Rattle.sq_exec.specs.CoreValue.{CoreValue, PartCoreValue, out_at, given_up_at}
use Rattle.sq_exec.specs.Moving.{whole_node, with_work, begun_in, begun_core}
use Rattle.sq_exec.proofs.Ends.{link_of, links_of}
use Rattle.sq_exec.proofs.Seen.{seen_changed}

-- the work on a node whose keys were looked up
node_work : (core : CoreValue) (seg node pull : ℕ) (segment : Range) (keys : Extent) (work : WorkValue) → slice_get core.recon.segments seg ≡ Some segment → Some keys ≡ extent_at core.recon seg node
    → work ≡ record { seg = seg; node = node; pull = pull; rest = keys.lo; hi = keys.hi } → work ≡ whole_node core segment seg node pull
node_work core seg node pull segment keys work found keys_at work_by =
    let keys_is : keys ≡ extent core.recon.width segment node =
    same_Some keys (extent core.recon.width segment node) (keys_at ∙ ap (option_map (λ s. extent core.recon.width s node)) found) in
    work_by ∙ (λ k. record { seg = seg; node = node; pull = pull; rest = (keys_is k).lo; hi = (keys_is k).hi })

-- the parts of the partition are those of the definition
pub was_begun : {seen now : PartCoreValue} → seen ≡ now → (outs : List RoomyOutLink) → links_of outs ≡ seen.core.outs
    → (seg node pull at to : ℕ) (segments : List Range) (segment : Range) (keys : Extent) (work : WorkValue) (out after : RoomyOutLink) (leaves more : List Bool)
    → at ≡ seg → segments ≡ seen.core.recon.segments → seg < length now.core.recon.segments → length seen.core.given_up ≡ length seen.core.recon.segments
    → segment ≡ get_or segments at segment → Some keys ≡ extent_at seen.core.recon seg node → work ≡ record { seg = seg; node = node; pull = pull; rest = keys.lo; hi = keys.hi }
    → to ≡ segment.dst → out ≡ get_or outs to out → after.link ≡ with_work out.link work → leaves ≡ get_or seen.core.given_up at leaves → more ≡ given_up_with leaves node
    → record seen.core { outs = links_of (set outs to after); given_up = set seen.core.given_up at more } ≡ begun_core now.core seg node pull
was_begun {seen} {now} view_is outs outs_is seg node pull at to segments segment keys work out after leaves more at_is segments_is exists all segment_by keys_at work_by to_is out_by after_by leaves_by more_by =
    let core = seen.core in
    let known : seg < length core.recon.segments = omega (arith, exists, ap (λ (v : PartCoreValue). length v.core.recon.segments) view_is) in
    let found : slice_get core.recon.segments seg ≡ Some segment =
    slice_get_read core.recon.segments (length core.recon.segments) seg segment refl known (segment_by ∙ (λ k. get_or (segments_is k) (at_is k) segment)) in
    let work_is : work ≡ whole_node core segment seg node pull = node_work core seg node pull segment keys work found keys_at work_by in
    let links_are : links_of (set outs to after) ≡ set core.outs segment.dst (with_work (out_at core segment.dst) (whole_node core segment seg node pull)) =
    seen_changed link_of outs new_out_link (λ link. with_work link work) to segment.dst out after to_is out_by after_by
    ∙ (λ k. set (outs_is k) segment.dst (with_work (get_or (outs_is k) segment.dst new_out_link) (work_is k))) in
    let leaves_are : leaves ≡ given_up_at core seg =
    leaves_by ∙ ap (λ n. get_or core.given_up n leaves) at_is ∙ get_or_default core.given_up seg leaves none_given_up (omega (arith, known, all)) in
    let given_up_is : set core.given_up at more ≡ set core.given_up seg (given_up_with (given_up_at core seg) node) =
    λ k. set core.given_up (at_is k) ((more_by ∙ ap (λ l. given_up_with l node) leaves_are) k) in
    (λ k. record core { outs = links_are k; given_up = given_up_is k }) ∙ sym (ap (begun_in core seg node pull) found) ∙ ap (λ (v : PartCoreValue). begun_core v.core seg node pull) view_is
