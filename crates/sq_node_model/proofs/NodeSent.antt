-- A node keeps what holds once it sends a chunk, completes a tree node, or answers a transaction.
use Rattle.std.proofs.Common.{◌≡◌, ◌⊎◌, ⊎_elim, ℕ, [], ◌∷◌, ◌++◌, Contains, Some, None, refl, sym, ap, ◌∙◌, subst, append-nil}
use Rattle.std.specs.Prelude.{option_to_list}
use Rattle.sq_schema.specs.TxnValue.{TxnValue}
use Rattle.sq_schema.specs.declared.txn.Reply.{Reply}
use Rattle.sq_schema.specs.declared.txn.Reply.TheVariants.{Committed, Aborted}
use Rattle.sq_store.specs.StoreValue.{store_reply}
use Rattle.sq_store.specs.ChunkValue.{ChunkValue}
use Rattle.sq_moves.specs.OpeningValue.{OpeningValue}
use Rattle.sq_moves.specs.Opening.{IsOpening}
use Rattle.sq_exec.specs.OutLink.{OutLinkValue}
use Rattle.sq_model.proofs.Lists.{Contains-cases}
use Rattle.sq_node_model.specs.BeganWith.{BeganWith}
use Rattle.sq_node_model.specs.NodeValue.{NodeValue}
use Rattle.sq_node_model.specs.Steps.{node_sent, node_completed, receipt_of, node_answered}
use Rattle.sq_node_model.specs.Chunks.{cut_to, HasCut, HasLoaded, IsCovered, HasLast}
use Rattle.sq_node_model.specs.OutHolds.{OutHolds}
use Rattle.sq_node_model.specs.FamiliesHold.{IsHome}
use Rattle.sq_node_model.specs.NodeHolds.{NodeHolds}
use Rattle.sq_node_model.proofs.Puts.{put_each, put_both}
use Rattle.sq_node_model.proofs.Facts.{loaded_away, cut_carried}
use Rattle.sq_node_model.proofs.FamiliesAnswered.{receipts_aborted, store_answered, families_answered, receipts_answered}
use Rattle.sq_node_model.proofs.Changed.{keeps_outs, keeps_families}

module _ {began : BeganWith} (o : OpeningValue) (node : NodeValue) (h : NodeHolds o began node) (dst : ℕ) (chunk : ChunkValue) (full : (node.outs dst).outbox ≡ Some chunk) where
  abbrev sent : NodeValue
  sent = node_sent node dst chunk

  abbrev emptied : OutLinkValue
  emptied = record (node.outs dst) { outbox = None }

  -- the chunk was cut before, and is so now
  moved_over : (node.sent dst ++ chunk ∷ []) ++ [] ≡ cut_to node dst
  moved_over = append-nil (node.sent dst ++ chunk ∷ []) ∙ sym (ap (λ box. node.sent dst ++ option_to_list box) full)

  same_cut : (k : ℕ) → cut_to sent k ≡ cut_to node k
  same_cut =
      put_both (λ k (end : OutLinkValue) list. list ++ option_to_list end.outbox ≡ cut_to node k) dst emptied (node.sent dst ++ chunk ∷ []) node.outs node.sent
      moved_over (λ k apart. refl)

  outs_sent : (k : ℕ) → OutHolds o began node.part node.begun k (sent.outs k).notes (sent.outs k).work (cut_to sent k)
  outs_sent =
      put_both (λ k (end : OutLinkValue) list. OutHolds o began node.part node.begun k end.notes end.work (list ++ option_to_list end.outbox)) dst emptied (node.sent dst ++ chunk ∷ []) node.outs node.sent
      (subst (OutHolds o began node.part node.begun dst (node.outs dst).notes (node.outs dst).work) (sym moved_over) (h.outs dst))
      (λ k apart. h.outs k)

  pub keeps_sent : NodeHolds o began sent
  keeps_sent = keeps_outs o node h node.begun node.given_up sent.outs sent.sent h.begun outs_sent same_cut

-- a tree node is completed whose last chunk was loaded
pub keeps_completed : {began : BeganWith} (o : OpeningValue) (node : NodeValue) (seg n pull : ℕ) → HasLast (HasLoaded node) seg n → NodeHolds o began node → NodeHolds o began (node_completed node seg n pull)
keeps_completed o node seg n pull last h = assumption (each_last, h)
  where
    each_last : (g m q : ℕ) → Contains ((node_completed node seg n pull).completed g) (m, q) → HasLast (HasLoaded node) g m
    each_last g m q =
        put_each (λ g entries. Contains entries (m, q) → HasLast (HasLoaded node) g m) seg ((n, pull) ∷ node.completed seg) node.completed
        (λ has.
        ⊎_elim
        (λ new. subst (λ k. HasLast (HasLoaded node) seg k) (ap (λ (entry : ℕ × ℕ). entry.0) new) last)
        (λ old. h.completed seg m q old)
        (Contains-cases (n, pull) (node.completed seg) (m, q) has))
        (λ g apart has. h.completed g m q has)
        g

-- a transaction is answered whose root key is at home or was loaded
pub keeps_answered : {began : BeganWith} (o : OpeningValue) → IsOpening o → (node : NodeValue) (txn : TxnValue) (given : Reply) → IsHome o began.stage node.part (HasCut node) txn.root ⊎ IsCovered (HasLoaded node) txn.root → given ≡ store_reply node.store txn
    → NodeHolds o began node → NodeHolds o began (node_answered node txn given)
keeps_answered o is node txn (Aborted at cause) here given_is h =
    let away = loaded_away o is node h in
    let carried = cut_carried o is node h in
    keeps_families o node h node.store (node.receipts ++ receipt_of node.store txn (Aborted at cause) ∷ []) h.store h.families
    (receipts_aborted o node.part (HasCut node) (HasLoaded node) node.store txn here away carried h.store h.families node.receipts h.receipts (Aborted at cause) refl given_is)
keeps_answered o is node txn (Committed answers) here given_is h =
    let answered = node_answered node txn (Committed answers) in
    let away = loaded_away o is node h in
    let carried = cut_carried o is node h in
    keeps_families o node h answered.store answered.receipts
    (store_answered o node.part (HasCut node) (HasLoaded node) node.store txn here away carried h.store h.families)
    (families_answered o node.part (HasCut node) (HasLoaded node) node.store txn here away carried h.store h.families)
    (receipts_answered o node.part (HasCut node) (HasLoaded node) node.store txn here away carried h.store h.families node.receipts h.receipts (Committed answers) refl given_is)
