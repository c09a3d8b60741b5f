-- A node keeps what holds once it receives a chunk, and once it loads one.
use Rattle.std.proofs.Common.{◌≡◌, ⊎_elim, ℕ, ◌-◌, true, List, [], ◌∷◌, ◌++◌, length, take, Contains, Option, Some, None, refl, sym, ap, ◌∙◌, subst, append-nil, length-append, arith}
use Rattle.std.specs.Prelude.{◌≢◌, option_to_list}
use Rattle.std.proofs.Math.Seq.{take-append_seam}
use Rattle.std.proofs.lemmas.List.Elements.{Contains-push_cases}
use Rattle.sq_schema.specs.Family.{FamilyValue}
use Rattle.sq_store.specs.ChunkValue.{ChunkValue, covers, are_within}
use Rattle.sq_moves.specs.OpeningValue.{OpeningValue}
use Rattle.sq_moves.specs.Opening.{IsOpening}
use Rattle.sq_model.specs.Staged.{owner_in}
use Rattle.sq_node_model.specs.BeganWith.{BeganWith}
use Rattle.sq_node_model.specs.NodeValue.{NodeValue, put}
use Rattle.sq_node_model.specs.Steps.{node_received, node_loaded}
use Rattle.sq_node_model.specs.Chunks.{IsInOne, loaded_from, HasCut, HasLoaded, IsCovered, HasLast}
use Rattle.sq_node_model.specs.InHolds.{HasArrived, InHolds}
use Rattle.sq_node_model.specs.LoadedHolds.{LoadedHolds}
use Rattle.sq_node_model.specs.FamiliesHold.{IsCarried, IsOf, StoreHolds, FamiliesHold, ReceiptsHold}
use Rattle.sq_node_model.specs.NodeHolds.{NodeHolds}
use Rattle.sq_node_model.proofs.Puts.{put_each, put_same, put_other, put_both}
use Rattle.sq_node_model.proofs.OneMore.{IsOneMore, one_more}
use Rattle.sq_node_model.proofs.Keys.{arrived_within, not_owned}
use Rattle.sq_node_model.proofs.Facts.{loaded_away, cut_carried}
use Rattle.sq_node_model.proofs.RunsLoaded.{last_more, runs_loaded}
use Rattle.sq_node_model.proofs.FamiliesLoaded.{store_loaded, families_loaded, receipts_loaded}

-- what was loaded of what was received, by what is in the inbox
abbrev but_inbox : List ChunkValue → Option ChunkValue → List ChunkValue
but_inbox received inbox = take (length received - length (option_to_list inbox)) received

but_none : (received : List ChunkValue) → but_inbox received None ≡ received
but_none received =
    let n : length received - 0 ≡ length received = omega arith in
    ap (λ k. take k received) n ∙ ap (take (length received)) (sym (append-nil received)) ∙ take-append_seam received []

but_last : (received : List ChunkValue) (chunk : ChunkValue) → but_inbox (received ++ chunk ∷ []) (Some chunk) ≡ received
but_last received chunk =
    let n : length (received ++ chunk ∷ []) - 1 ≡ length received = omega (arith, length-append received (chunk ∷ [])) in
    ap (λ k. take k (received ++ chunk ∷ [])) n ∙ take-append_seam received (chunk ∷ [])

module _ {began : BeganWith} (o : OpeningValue) (node : NodeValue) (h : NodeHolds o began node) (src : ℕ) (chunk : ChunkValue) (empty : node.inboxes src ≡ None) where
  abbrev received : NodeValue
  received = node_received node src chunk

  all_loaded : loaded_from node src ≡ node.received src
  all_loaded = ap (but_inbox (node.received src)) empty ∙ but_none (node.received src)

  -- what was loaded stays
  same_loaded : (k : ℕ) → loaded_from received k ≡ loaded_from node k
  same_loaded =
      put_both (λ k list inbox. but_inbox list inbox ≡ loaded_from node k) src (node.received src ++ chunk ∷ []) (Some chunk) node.received node.inboxes
      (but_last (node.received src) chunk ∙ sym all_loaded)
      (λ k apart. refl)

  same_lists : loaded_from received ≡ loaded_from node
  same_lists = λ i k. same_loaded k i

  ins_received : (k : ℕ) → InHolds o began.stage node.part k (received.received k) (loaded_from received k) (received.inboxes k)
  ins_received =
      put_both (λ k list inbox. InHolds o began.stage node.part k list (but_inbox list inbox) inbox) src (node.received src ++ chunk ∷ []) (Some chunk) node.received node.inboxes
      (subst (λ list. InHolds o began.stage node.part src (node.received src ++ chunk ∷ []) list (Some chunk)) (sym (but_last (node.received src) chunk))
      (let before = subst (λ list. InHolds o began.stage node.part src (node.received src) list (node.inboxes src)) all_loaded (h.ins src) in
      record { order = refl; arrived = before.arrived; rising = before.rising }))
      (λ k apart. h.ins k)

  pub keeps_received : NodeHolds o began received
  keeps_received =
      assumption (
        ins_received,
        subst (λ lists. LoadedHolds node.loaded (IsInOne lists)) (sym same_lists) h.loaded,
        subst (λ (lists : ℕ → List ChunkValue). (seg n pull : ℕ) → Contains (node.completed seg) (n, pull) → HasLast (IsInOne lists) seg n) (sym same_lists) h.completed,
        subst (λ lists. StoreHolds o began node.part (HasCut node) (IsInOne lists) node.store) (sym same_lists) h.store,
        subst (λ lists. FamiliesHold o began node.part (HasCut node) (IsInOne lists) node.store) (sym same_lists) h.families,
        subst (λ lists. ReceiptsHold o began node.part (HasCut node) (IsInOne lists) node.store node.receipts) (sym same_lists) h.receipts,
        h,
      )

module _ {began : BeganWith} (o : OpeningValue) (is : IsOpening o) (node : NodeValue) (h : NodeHolds o began node) (src : ℕ) (chunk : ChunkValue) (came : node.inboxes src ≡ Some chunk)
    (arrived : HasArrived o began.stage src node.part chunk.note) (rising : are_within chunk.note.lo chunk.note.hi chunk.families ≡ true) (own : (root : ℕ) (family : FamilyValue) → IsCarried chunk root family → IsOf root family)
    (fresh : (root : ℕ) → covers chunk.note root ≡ true → IsCovered (HasLoaded node) root → ⊥) where
  abbrev after : NodeValue
  after = node_loaded node src chunk

  -- all that was received is loaded now
  whole_list : node.received src ≡ loaded_from node src ++ chunk ∷ []
  whole_list = (h.ins src).order ∙ ap (λ inbox. loaded_from node src ++ option_to_list inbox) came

  loaded_after : (k : ℕ) → loaded_from after k ≡ put src (loaded_from node src ++ chunk ∷ []) (loaded_from node) k
  loaded_after =
      put_each (λ k inbox. but_inbox (node.received k) inbox ≡ put src (loaded_from node src ++ chunk ∷ []) (loaded_from node) k) src None node.inboxes
      (but_none (node.received src) ∙ whole_list ∙ sym (put_same src (loaded_from node src ++ chunk ∷ []) (loaded_from node)))
      (λ k apart. sym (put_other src (loaded_from node src ++ chunk ∷ []) (loaded_from node) k apart))

  more : IsOneMore (HasLoaded node) (HasLoaded after) chunk
  more = one_more (loaded_from node) (loaded_from after) src chunk loaded_after

  ins_after : (k : ℕ) → InHolds o began.stage node.part k (node.received k) (loaded_from after k) (after.inboxes k)
  ins_after =
      put_each (λ k inbox. InHolds o began.stage node.part k (node.received k) (but_inbox (node.received k) inbox) inbox) src None node.inboxes
      (subst (λ list. InHolds o began.stage node.part src (node.received src) list None) (sym (but_none (node.received src)))
      (record {
        order = sym (append-nil (node.received src));
        arrived = λ other has.
            ⊎_elim
            (λ old. (h.ins src).arrived other old)
            (λ new. subst (λ (c : ChunkValue). HasArrived o began.stage src node.part c.note) new arrived)
            (Contains-push_cases (loaded_from node src) chunk other (subst (λ list. Contains list other) whole_list has));
        rising = λ other has.
            ⊎_elim
            (λ old. (h.ins src).rising other old)
            (λ new. subst (λ (c : ChunkValue). are_within c.note.lo c.note.hi c.families ≡ true) new rising)
            (Contains-push_cases (loaded_from node src) chunk other (subst (λ list. Contains list other) whole_list has));
      }))
      (λ k apart. h.ins k)

  away_after : (root : ℕ) → IsCovered (HasLoaded after) root → owner_in o began.stage root ≢ node.part
  away_after root covered =
      ⊎_elim
      (λ old. loaded_away o is node h root (covered.0, old, covered.2))
      (λ new.
      let here : covers chunk.note root ≡ true = subst (λ (c : ChunkValue). covers c.note root ≡ true) (sym new) covered.2 in
      not_owned o is began.stage root chunk.note.seg chunk.note.node src node.part (arrived_within o began.stage src node.part chunk.note root arrived here) arrived.segment)
      (more.only covered.0 covered.1)

  carried_owned : (other : ChunkValue) (root : ℕ) (family : FamilyValue) → HasCut node other → IsCarried other root family → owner_in o began.stage root ≡ node.part
  carried_owned other root family has carried = (cut_carried o is node h other root family has carried).0

  pub keeps_loaded : NodeHolds o began after
  keeps_loaded =
      assumption (
        ins_after,
        runs_loaded (HasLoaded node) (HasLoaded after) chunk more node.loaded h.loaded,
        λ (seg n pull : ℕ) (has : Contains (node.completed seg) (n, pull)). last_more (HasLoaded node) (HasLoaded after) chunk more seg n (h.completed seg n pull has),
        store_loaded o node.part (HasCut node) (HasLoaded node) (HasLoaded after) node.store chunk more rising own fresh away_after carried_owned h.store h.families,
        families_loaded o node.part (HasCut node) (HasLoaded node) (HasLoaded after) node.store chunk more rising own fresh away_after carried_owned h.store h.families,
        receipts_loaded o node.part (HasCut node) (HasLoaded node) (HasLoaded after) node.store chunk more rising own fresh away_after carried_owned h.store h.families node.receipts h.receipts,
        h,
      )
