-- A node with another part keeps what holds.
use Rattle.std.proofs.Common.{◌≡◌, ℕ, List, sym, subst}
use Rattle.std.specs.Prelude.{Bool}
use Rattle.sq_store.specs.StoreValue.{StoreValue}
use Rattle.sq_store.specs.ChunkValue.{ChunkValue}
use Rattle.sq_moves.specs.OpeningValue.{OpeningValue}
use Rattle.sq_exec.specs.OutLink.{OutLinkValue}
use Rattle.sq_node_model.specs.BeganWith.{BeganWith}
use Rattle.sq_node_model.specs.NodeValue.{NodeValue, ReceiptValue}
use Rattle.sq_node_model.specs.Chunks.{IsInOne, cut_to, HasCut, HasLoaded}
use Rattle.sq_node_model.specs.BegunHolds.{BegunHolds}
use Rattle.sq_node_model.specs.OutHolds.{OutHolds}
use Rattle.sq_node_model.specs.FamiliesHold.{StoreHolds, FamiliesHold, ReceiptsHold}
use Rattle.sq_node_model.specs.NodeHolds.{NodeHolds}

module _ {began : BeganWith} (o : OpeningValue) (node : NodeValue) (h : NodeHolds o began node) where
  -- other nodes were begun, and the ends of links from here are others, but the same was cut
  module _ (begun : ℕ → List (ℕ × ℕ)) (given_up : ℕ → List Bool) (outs : ℕ → OutLinkValue) (sent : ℕ → List ChunkValue) where
    abbrev with_outs : NodeValue
    with_outs = record node { begun = begun; given_up = given_up; outs = outs; sent = sent }

    pub keeps_outs : BegunHolds o began.stage node.part begun given_up → ((k : ℕ) → OutHolds o began node.part begun k (outs k).notes (outs k).work (cut_to with_outs k)) → ((k : ℕ) → cut_to with_outs k ≡ cut_to node k) → NodeHolds o began with_outs
    keeps_outs begins ends same_cut =
        let same : cut_to node ≡ cut_to with_outs = λ i k. sym (same_cut k) i in
        assumption (
          begins,
          ends,
          subst (λ lists. StoreHolds o began node.part (IsInOne lists) (HasLoaded node) node.store) same h.store,
          subst (λ lists. FamiliesHold o began node.part (IsInOne lists) (HasLoaded node) node.store) same h.families,
          subst (λ lists. ReceiptsHold o began node.part (IsInOne lists) (HasLoaded node) node.store node.receipts) same h.receipts,
          h,
        )

  -- the families and the receipts are others
  pub keeps_families : (store : StoreValue) (receipts : List ReceiptValue) → StoreHolds o began node.part (HasCut node) (HasLoaded node) store → FamiliesHold o began node.part (HasCut node) (HasLoaded node) store
      → ReceiptsHold o began node.part (HasCut node) (HasLoaded node) store receipts → NodeHolds o began (record node { store = store; receipts = receipts })
  keeps_families store receipts kept families told =
      assumption (kept, families, told, h)
