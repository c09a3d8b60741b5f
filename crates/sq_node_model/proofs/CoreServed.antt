-- A transaction that is served at a partition is answered at its node.
use Rattle.std.proofs.Common.{◌≡◌, ◌⊎◌, inl, inr, ℕ, Bool, true, false, ◌==◌, ◌&&◌, if◌then◌else◌, not, List, Contains, slice_get, Option, Some, None, refl, sym, ap, ◌∙◌, subst, true≢false, nat_lt, arith}
use Rattle.std.specs.Prelude.{is_some, option_map, option_and_then}
use Rattle.std.proofs.lemmas.Bool.{cases_Bool, eqb-true, eq-eqb, ltb-true}
use Rattle.sq_schema.specs.TxnValue.{TxnValue}
use Rattle.sq_moves.specs.Node.{is_above}
use Rattle.sq_store.specs.StoreValue.{StoreValue, store_reply, store_after}
use Rattle.sq_store.specs.ChunkValue.{ChunkValue, covers}
use Rattle.sq_plan.specs.PlanValue.{owner}
use Rattle.sq_moves.specs.declared.recon.Range.{Range}
use Rattle.sq_moves.specs.ReconValue.{ReconValue, segment_of, leaf_of, leaf_at, stage_on}
use Rattle.sq_moves.specs.OpeningValue.{OpeningValue}
use Rattle.sq_moves.specs.Opening.{IsOpening}
use Rattle.sq_exec.specs.declared.location.Location.{Location}
use Rattle.sq_exec.specs.declared.outcome.Outcome.{Outcome}
use Rattle.sq_exec.specs.declared.outcome.Outcome.TheVariants.{Done, Moved}
use Rattle.sq_exec.specs.declared.outcome.Resumed.{Resumed}
use Rattle.sq_exec.specs.GivenUp.{is_given_up}
use Rattle.sq_exec.specs.Runs.{is_loaded}
use Rattle.sq_exec.specs.CoreValue.{CoreValue, given_up_at, loaded_at}
use Rattle.sq_exec.specs.Location.{location_in, location, route_from, route}
use Rattle.sq_exec.specs.Serving.{served, IsTaken, IsResumed}
use Rattle.sq_model.specs.Place.{source, destination, moves}
use Rattle.sq_model.proofs.Lists.{list_any-Contains}
use Rattle.sq_model.proofs.Keys.{IsIn, found_in_segment, under, moves_found, unfound_stays}
use Rattle.sq_model.specs.Staged.{owner_in}
use Rattle.sq_node_model.proofs.Staged.{on_link_goes, link_runs, unmoved_source, moved_source, staying_source}
use Rattle.sq_shared.specs.declared.view.View.{View}
use Rattle.sq_node_model.specs.BeganWith.{BeganWith}
use Rattle.sq_node_model.specs.NodeValue.{ReceiptValue, NodeValue}
use Rattle.sq_node_model.specs.Steps.{node_served, receipts_after}
use Rattle.sq_node_model.specs.Chunks.{HasCut, HasLoaded, IsCovered}
use Rattle.sq_node_model.specs.FamiliesHold.{IsHome}
use Rattle.sq_node_model.specs.NodeHolds.{NodeHolds}
use Rattle.sq_node_model.specs.Cores.{IsCoreOf}
use Rattle.sq_node_model.proofs.Made.{node_with}
use Rattle.sq_node_model.proofs.Facts.{own_note, own_within}
use Rattle.sq_node_model.proofs.NodeSent.{keeps_answered}

-- what is said of a transaction, by whether the partition is the one that runs its root key
abbrev served_if : CoreValue → ℕ → Bool → TxnValue → Outcome × StoreValue
served_if core who b txn = if b then (Done (store_reply core.store txn), store_after core.store txn (store_reply core.store txn)) else (Moved who, core.store)

module _ {began : BeganWith} (o : OpeningValue) (is : IsOpening o) (core : CoreValue) (views : ℕ → View) (sent received : ℕ → List ChunkValue) (receipts : List ReceiptValue) (known : IsCoreOf o began.stage core) (h : NodeHolds o began (node_with core views sent received receipts)) where
  abbrev node : NodeValue
  node = node_with core views sent received receipts

  -- the root key is at home or was loaded
  abbrev IsHere : ℕ → Type 0
  IsHere root = IsHome o began.stage core.part (HasCut node) root ⊎ IsCovered (HasLoaded node) root

  home_unless : (root : ℕ) → owner_in o began.stage root ≡ core.part → ((chunk : ChunkValue) → HasCut node chunk → covers chunk.note root ≡ true → ⊥) → IsHere root
  home_unless root owned none = inl (record {
    owned = owned;
    uncut = λ chunk has.
        elim (cases_Bool (covers chunk.note root)) [
          | inl e ↦ absurd (none chunk has e)
          | inr e ↦ e
        ];
  })

  -- a key that no segment holds is at home at its owner
  unmoved_here : (root : ℕ) → segment_of o.recon.segments root ≡ None → source o root ≡ core.part → IsHere root
  unmoved_here root none owned =
      home_unless root (staying_source o began.stage root (unfound_stays o is root none) ∙ owned) (λ chunk has covered.
      let e = sym none ∙ (under o is root chunk.note.seg chunk.note.node (own_within o is node h chunk root has covered)).found in cc)

  -- what the partition knows of a key of a segment
  module _ (root g : ℕ) (segment : Range) (found : segment_of o.recon.segments root ≡ Some g) (at : IsIn o root g segment) where
    -- a chunk that was cut with the key is of a node above its leaf
    cut_given_up : (chunk : ChunkValue) → HasCut node chunk → covers chunk.note root ≡ true → is_given_up (given_up_at core g) (leaf_of o.recon.width segment root) ≡ true
    cut_given_up chunk has covered =
        let below = under o is root chunk.note.seg chunk.note.node (own_within o is node h chunk root has covered) in
        let same : chunk.note.seg ≡ g = let e = sym below.found ∙ found in cc in
        let same_range : below.segment ≡ segment = let e = sym below.there ∙ subst (λ k. slice_get o.recon.segments k ≡ Some segment) (sym same) at.there in cc in
        let above : is_above chunk.note.node (leaf_of o.recon.width segment root) ≡ true = subst (λ (s : Range). is_above chunk.note.node (leaf_of o.recon.width s root) ≡ true) same_range below.above in
        let named = (own_note o is node h chunk has).about in
        let entry : Contains ((views g).begun) (chunk.note.node, named.0) = subst (λ k. Contains ((views k).begun) (chunk.note.node, named.0)) same named.1 in
        h.begun.leaves g (leaf_of o.recon.width segment root) at.leaf
        ∙ list_any-Contains (λ (e : ℕ × ℕ). is_above e.0 (leaf_of o.recon.width segment root)) ((views g).begun) (chunk.note.node, named.0) entry above

    abbrev known_at : Location
    known_at = location_in core root (g, leaf_of o.recon.width segment root) segment

    -- its two ends differ
    ends_differ : segment.src ≡ core.part → segment.dst ≡ core.part → ⊥
    ends_differ from to =
        let going : moves o root ≡ true = moves_found o is root ∙ ap (λ (found : Option ℕ). is_some found) found in
        let same : source o root ≡ destination o root = at.source_is ∙ from ∙ sym to ∙ sym at.destination_is in
        true≢false (sym going ∙ ap not (eq-eqb (source o root) (destination o root) same))

    -- a key of an earlier stage is at home at its new owner
    abbrev is_earlier : Bool
    is_earlier = nat_lt (stage_on o.recon segment.src segment.dst) began.stage

    pair_stage : stage_on o.recon (source o root) (destination o root) ≡ stage_on o.recon segment.src segment.dst
    pair_stage = λ i. stage_on o.recon (at.source_is i) (at.destination_is i)

    earlier_here : is_earlier ≡ true → segment.dst ≡ core.part → IsHere root
    earlier_here e here =
        home_unless root (moved_source o began.stage root (ap (λ n. nat_lt n began.stage) pair_stage ∙ e) ∙ at.destination_is ∙ here)
        (λ chunk has covered.
        let below = under o is root chunk.note.seg chunk.note.node (own_within o is node h chunk root has covered) in
        let same : chunk.note.seg ≡ g = let f = sym below.found ∙ found in cc in
        let on = (own_note o is node h chunk has).segment in
        let goes = on_link_goes o began.stage core.part has.0 chunk.note.seg on in
        let same_range : goes.segment ≡ segment = let f = sym goes.there ∙ subst (λ k. slice_get o.recon.segments k ≡ Some segment) (sym same) at.there in cc in
        let from : segment.src ≡ core.part = ap (λ (s : Range). s.src) (sym same_range) ∙ goes.source in
        let to : segment.dst ≡ has.0 = ap (λ (s : Range). s.dst) (sym same_range) ∙ goes.destination in
        let now : stage_on o.recon segment.src segment.dst ≡ began.stage = (λ i. stage_on o.recon (from i) (to i)) ∙ eqb-true (stage_on o.recon core.part has.0) began.stage (link_runs o began.stage core.part has.0 chunk.note.seg on) in
        let past = ltb-true (stage_on o.recon segment.src segment.dst) began.stage e in
        omega (arith, now, past))

    still_source : is_earlier ≡ false → owner_in o began.stage root ≡ segment.src
    still_source e = unmoved_source o began.stage root (ap (λ n. nat_lt n began.stage) pair_stage ∙ e) ∙ at.source_is

    served_here : is_earlier ≡ false → (from to gone came : Bool) → (segment.src == core.part) ≡ from → (segment.dst == core.part) ≡ to
        → is_given_up (given_up_at core g) (leaf_of o.recon.width segment root) ≡ gone → is_loaded (loaded_at core g) root ≡ came
        → (if from then if gone then segment.dst else segment.src else if to && came then segment.dst else segment.src) ≡ core.part → IsHere root
    served_here still true to true came starts ends e f here = absurd (ends_differ (eqb-true segment.src core.part starts) here)
    served_here still true to false came starts ends e f here =
        home_unless root (still_source still ∙ eqb-true segment.src core.part starts) (λ chunk has covered. true≢false (sym (cut_given_up chunk has covered) ∙ e))
    served_here still false true gone true starts ends e f here = let c = h.loaded.keys g root f in inr (c.0, c.1, c.3)
    served_here still false true gone false starts ends e f here = absurd (true≢false (sym (eq-eqb segment.src core.part here) ∙ starts))
    served_here still false false gone came starts ends e f here = absurd (true≢false (sym (eq-eqb segment.src core.part here) ∙ starts))

    same_earlier : nat_lt (stage_on core.recon segment.src segment.dst) core.stage ≡ is_earlier
    same_earlier = λ i. nat_lt (stage_on (known.recon i) segment.src segment.dst) (known.stage i)

    -- who serves a key whose stage hasn't gone
    abbrev by_ends : ℕ
    by_ends =
        if segment.src == core.part then if known_at.given_up then segment.dst else segment.src else if (segment.dst == core.part) && known_at.loaded then segment.dst else segment.src

    held_by : (b : Bool) → is_earlier ≡ b → (if b then segment.dst else by_ends) ≡ core.part → IsHere root
    held_by true e here = earlier_here e here
    held_by false e here =
        served_here e (segment.src == core.part) (segment.dst == core.part) (is_given_up (given_up_at core g) (leaf_of o.recon.width segment root)) (is_loaded (loaded_at core g) root) refl refl refl refl here

    held_here : route_from core root (Some known_at) ≡ core.part → IsHere root
    held_here here = held_by is_earlier refl (ap (λ b. if b then segment.dst else by_ends) (sym same_earlier) ∙ here)

  -- where a key is, by the segment that holds it
  abbrev located : Option ℕ → ℕ → Option Location
  located found root =
      option_and_then (λ at. option_map (location_in core root at) (slice_get o.recon.segments at.0))
      (option_and_then (λ i. option_map (λ segment. (i, leaf_of o.recon.width segment root)) (slice_get o.recon.segments i)) found)

  location_is : (root : ℕ) → location core root ≡ located (segment_of o.recon.segments root) root
  location_is root = ap (λ (recon : ReconValue). option_and_then (λ at. option_map (location_in core root at) (slice_get recon.segments at.0)) (leaf_at recon root)) known.recon

  here_by : (root : ℕ) (found : Option ℕ) → segment_of o.recon.segments root ≡ found → route_from core root (located found root) ≡ core.part → IsHere root
  here_by root None e here = unmoved_here root e (ap (λ plan. owner plan root) (sym known.plan) ∙ here)
  here_by root (Some g) e here =
      let at = found_in_segment o is root g e in
      held_here root g at.0 e at.1
      (sym (ap (λ (segment : Option Range).
      route_from core root (option_and_then (λ (at : ℕ × ℕ). option_map (location_in core root at) (slice_get o.recon.segments at.0)) (option_map (λ (s : Range). (g, leaf_of o.recon.width s root)) segment)))
      at.1.there
      ∙ ap (λ (segment : Option Range). route_from core root (option_map (location_in core root (g, leaf_of o.recon.width at.0 root)) segment)) at.1.there)
      ∙ here)

  -- a transaction runs only where the family of its root key is
  runs_here : (root : ℕ) → route core root ≡ core.part → IsHere root
  runs_here root here = here_by root (segment_of o.recon.segments root) refl (ap (route_from core root) (sym (location_is root)) ∙ here)

  -- the outcome of a transaction that needn't wait
  served_by : (txn : TxnValue) (who : ℕ) (b : Bool) → (who == core.part) ≡ b → (who ≡ core.part → IsHere txn.root) → NodeHolds o began (node_served node txn (served_if core who b txn).0)
  served_by txn who true e here = keeps_answered o is node txn (store_reply core.store txn) (here (eqb-true who core.part e)) refl h
  served_by txn who false e here = h

  pub served_holds : (txn : TxnValue) → NodeHolds o began (node_served node txn (served core.part (route core txn.root) core.store txn).0)
  served_holds txn = served_by txn (route core txn.root) (route core txn.root == core.part) refl (runs_here txn.root)

-- what a transaction that needn't wait does to the node
served_is : (core : CoreValue) (views : ℕ → View) (sent received : ℕ → List ChunkValue) (receipts : List ReceiptValue) (txn : TxnValue) (who : ℕ) (b : Bool)
    → node_with (record core { store = (served_if core who b txn).1 }) views sent received (receipts_after core.store txn (served_if core who b txn).0 receipts)
    ≡ node_served (node_with core views sent received receipts) txn (served_if core who b txn).0
served_is core views sent received receipts txn who true = refl
served_is core views sent received receipts txn who false = refl

module _ (views : ℕ → View) (sent received : ℕ → List ChunkValue) (receipts : List ReceiptValue) where
  -- what one that was submitted and not refused does
  pub submitted_is : (old new : CoreValue) (waits : Bool) (txn : TxnValue) (outcome : Outcome) → IsTaken waits old txn outcome new
      → node_with new views sent received (receipts_after old.store txn outcome receipts) ≡ node_served (node_with old views sent received receipts) txn outcome
  submitted_is old new true txn outcome taken =
      (λ i. node_with (taken.last i) views sent received (receipts_after old.store txn (taken.told i) receipts))
      ∙ ap (node_served (node_with old views sent received receipts) txn) (sym taken.told)
  submitted_is old new false txn outcome taken =
      (λ i. node_with (taken.after i) views sent received (receipts_after old.store txn (taken.told i) receipts))
      ∙ served_is old views sent received receipts txn (route old txn.root) (route old txn.root == old.part)
      ∙ ap (node_served (node_with old views sent received receipts) txn) (sym taken.told)

  -- and one that waited and was resumed
  pub resumed_is : (old new : CoreValue) (resumed : Resumed) → IsResumed old resumed new
      → node_with new views sent received (receipts_after old.store resumed.txn resumed.outcome receipts) ≡ node_served (node_with old views sent received receipts) resumed.txn resumed.outcome
  resumed_is old new resumed taken =
      (λ i. node_with (taken.after i) views sent received (receipts_after old.store resumed.txn (taken.told i) receipts))
      ∙ served_is old views sent received receipts resumed.txn (route old resumed.txn.root) (route old resumed.txn.root == old.part)
      ∙ ap (node_served (node_with old views sent received receipts) resumed.txn) (sym taken.told)

  module _ (o : OpeningValue) (is : IsOpening o) where
    taken_holds : {began : BeganWith} (old new : CoreValue) (waits : Bool) (txn : TxnValue) (outcome : Outcome) → IsCoreOf o began.stage old → IsTaken waits old txn outcome new → NodeHolds o began (node_with old views sent received receipts)
        → NodeHolds o began (node_served (node_with old views sent received receipts) txn outcome)
    taken_holds {began} old new true txn outcome known taken h = subst (λ (became : Outcome). NodeHolds o began (node_served (node_with old views sent received receipts) txn became)) (sym taken.told) h
    taken_holds {began} old new false txn outcome known taken h =
        subst (λ (became : Outcome). NodeHolds o began (node_served (node_with old views sent received receipts) txn became)) (sym taken.told)
        (served_holds o is old views sent received receipts known h txn)

    pub core_submitted : {began : BeganWith} (old new : CoreValue) (waits : Bool) (txn : TxnValue) (outcome : Outcome) → IsCoreOf o began.stage old → IsTaken waits old txn outcome new → NodeHolds o began (node_with old views sent received receipts)
        → NodeHolds o began (node_with new views sent received (receipts_after old.store txn outcome receipts))
    core_submitted {began} old new waits txn outcome known taken h =
        subst (NodeHolds o began) (sym (submitted_is old new waits txn outcome taken)) (taken_holds old new waits txn outcome known taken h)

    pub core_resumed : {began : BeganWith} (old new : CoreValue) (resumed : Resumed) → IsCoreOf o began.stage old → IsResumed old resumed new → NodeHolds o began (node_with old views sent received receipts)
        → NodeHolds o began (node_with new views sent received (receipts_after old.store resumed.txn resumed.outcome receipts))
    core_resumed {began} old new resumed known taken h =
        subst (NodeHolds o began) (sym (resumed_is old new resumed taken))
        (subst (λ (became : Outcome). NodeHolds o began (node_served (node_with old views sent received receipts) resumed.txn became)) (sym taken.told)
        (served_holds o is old views sent received receipts known h resumed.txn))
