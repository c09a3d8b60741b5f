-- What a node does at its ends of links: it sends the chunk of an outbox, and receives one into an inbox.
use Rattle.std.proofs.Common.{◌≡◌, ℕ, ◌<◌, List, [], ◌∷◌, ◌++◌, length, Some, None, sym, ap, ◌∙◌, subst}
use Rattle.sq_store.specs.ChunkValue.{ChunkValue}
use Rattle.sq_moves.specs.OpeningValue.{OpeningValue}
use Rattle.sq_exec.specs.OutLink.{OutLinkValue, new_out_link}
use Rattle.sq_exec.specs.CoreValue.{CoreValue, out_at, with_out, inbox_at, with_inbox}
use Rattle.sq_shared.specs.declared.view.View.{View}
use Rattle.sq_node_model.specs.BeganWith.{BeganWith}
use Rattle.sq_node_model.specs.NodeValue.{ReceiptValue, put}
use Rattle.sq_node_model.specs.Steps.{node_sent, node_received}
use Rattle.sq_node_model.specs.NodeHolds.{NodeHolds}
use Rattle.sq_node_model.proofs.Made.{node_with}
use Rattle.sq_node_model.proofs.Puts.{put_set}
use Rattle.sq_node_model.proofs.NodeSent.{keeps_sent}
use Rattle.sq_node_model.proofs.NodeLoaded.{keeps_received}
use Rattle.sq_node_model.proofs.CoreCut.{out_below}

pub sent_is : (core : CoreValue) (views : ℕ → View) (sent now received : ℕ → List ChunkValue) (receipts : List ReceiptValue) (dst : ℕ) (chunk : ChunkValue)
    → (out_at core dst).outbox ≡ Some chunk → ((k : ℕ) → now k ≡ put dst (sent dst ++ chunk ∷ []) sent k)
    → node_with (with_out core dst (record (out_at core dst) { outbox = None })) views now received receipts ≡ node_sent (node_with core views sent received receipts) dst chunk
sent_is core views sent now received receipts dst chunk full puts =
    λ i. record (node_with core views now received receipts) {
      outs = λ k. put_set core.outs dst (record (out_at core dst) { outbox = None }) new_out_link below k i;
      sent = λ k. puts k i;
    }
  where
    below : dst < length core.outs
    below = out_below core dst (λ fresh. let none = sym (ap (λ (end : OutLinkValue). end.outbox) fresh) ∙ full in cc)

pub core_sent : {began : BeganWith} (o : OpeningValue) (core : CoreValue) (views : ℕ → View) (sent now received : ℕ → List ChunkValue) (receipts : List ReceiptValue) (dst : ℕ) (chunk : ChunkValue)
    → (out_at core dst).outbox ≡ Some chunk → ((k : ℕ) → now k ≡ put dst (sent dst ++ chunk ∷ []) sent k)
    → NodeHolds o began (node_with core views sent received receipts) → NodeHolds o began (node_with (with_out core dst (record (out_at core dst) { outbox = None })) views now received receipts)
core_sent {began} o core views sent now received receipts dst chunk full puts h =
    subst (NodeHolds o began) (sym (sent_is core views sent now received receipts dst chunk full puts)) (keeps_sent o (node_with core views sent received receipts) h dst chunk full)

pub received_is : (core : CoreValue) (views : ℕ → View) (sent received now : ℕ → List ChunkValue) (receipts : List ReceiptValue) (src : ℕ) (chunk : ChunkValue)
    → src < length core.inboxes → ((k : ℕ) → now k ≡ put src (received src ++ chunk ∷ []) received k)
    → node_with (with_inbox core src (Some chunk)) views sent now receipts ≡ node_received (node_with core views sent received receipts) src chunk
received_is core views sent received now receipts src chunk below puts =
    λ i. record (node_with core views sent now receipts) {
      received = λ k. puts k i;
      inboxes = λ k. put_set core.inboxes src (Some chunk) None below k i;
    }

pub core_received : {began : BeganWith} (o : OpeningValue) (core : CoreValue) (views : ℕ → View) (sent received now : ℕ → List ChunkValue) (receipts : List ReceiptValue) (src : ℕ) (chunk : ChunkValue)
    → src < length core.inboxes → inbox_at core src ≡ None → ((k : ℕ) → now k ≡ put src (received src ++ chunk ∷ []) received k)
    → NodeHolds o began (node_with core views sent received receipts) → NodeHolds o began (node_with (with_inbox core src (Some chunk)) views sent now receipts)
core_received {began} o core views sent received now receipts src chunk below empty puts h =
    subst (NodeHolds o began) (sym (received_is core views sent received now receipts src chunk below puts)) (keeps_received o (node_with core views sent received receipts) h src chunk empty)
