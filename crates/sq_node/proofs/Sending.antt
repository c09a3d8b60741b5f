-- A chunk that is taken out of its outbox and put back.
use Rattle.std.proofs.Common.{◌≡◌, ℕ, ◌<◌, ◌≤◌, List, length, get_or, Option, Some, None, refl, sym, ap, ◌∙◌, inl, inr}
use Rattle.std.specs.Prelude.{◌⊎◌}
use Rattle.std.proofs.lemmas.Bool.{cases_lt}
use Rattle.std.proofs.lemmas.List.{set-set, set-get_or, get_or-set_same, get_or_past, get_or_default}
use Rattle.sq_store.specs.ChunkValue.{ChunkValue}
use Rattle.sq_exec.specs.OutLink.{OutLinkValue, new_out_link}
use Rattle.sq_exec.specs.CoreValue.{CoreValue, out_at, with_out}
use Rattle.sq_node.specs.FabricValue.{FabricValue}
use Rattle.sq_node.specs.NodeState.{NodeState}
use Rattle.sq_node.specs.Ends.{EndValue, end_at, WasFull}
use Rattle.sq_node.specs.Steps.{HasNoneToSend}

-- where there is a chunk there is an end of a link
pub out_stands : (core : CoreValue) (dst : ℕ) (chunk : ChunkValue) → (out_at core dst).outbox ≡ Some chunk → dst < length core.outs
out_stands core dst chunk there =
    by_place (cases_lt dst (length core.outs))
  where
    by_place : (dst < length core.outs) ⊎ (length core.outs ≤ dst) → dst < length core.outs
    by_place (inl lt) = lt
    by_place (inr past) =
        let none : (out_at core dst).outbox ≡ None = ap (λ (out : OutLinkValue). out.outbox) (get_or_past core.outs dst new_out_link past) in
        let clash : None ≡ Some chunk = sym none ∙ there in
        cc

-- the partition is as it was
pub put_back : (core taken put : CoreValue) (dst : ℕ) (chunk back : ChunkValue) → Some chunk ≡ (out_at core dst).outbox → back ≡ chunk
    → taken ≡ with_out core dst (record (out_at core dst) { outbox = None }) → put ≡ with_out taken dst (record (out_at taken dst) { outbox = Some back }) → put ≡ core
put_back core taken put dst chunk back there same took puts =
    let out = out_at core dst in
    let empty : OutLinkValue = record out { outbox = None } in
    let lt = out_stands core dst chunk (sym there) in
    let read : out_at taken dst ≡ empty = ap (λ (c : CoreValue). out_at c dst) took ∙ get_or-set_same core.outs dst empty new_out_link lt in
    let full : record (out_at taken dst) { outbox = Some back } ≡ out =
    (λ k. record (read k) { outbox = Some (same k) }) ∙ (λ k. record out { outbox = there k }) in
    puts
    ∙ (λ k. with_out (took k) dst (full k))
    ∙ (λ k. record core { outs = (set-set core.outs dst empty out ∙ set-get_or core.outs dst new_out_link) k })

-- a link that was full at one moment has no room for the chunk
pub none_to_send : (fabric : FabricValue) (node : NodeState) (dst : ℕ)
    → ((end : EndValue) → end_at node.sends dst ≡ Some end → WasFull fabric.links end) → HasNoneToSend fabric node dst
none_to_send fabric node dst full =
    by_end (end_at node.sends dst) refl
  where
    by_end : (end : Option EndValue) → end_at node.sends dst ≡ end → HasNoneToSend fabric node dst
    by_end None none = inr (inl none)
    by_end (Some end) there = inr (inr (end, there, full end there))

-- an end that was read at its place
pub read_end : (ends : List (Option EndValue)) (i j : ℕ) (read : Option EndValue) → i ≡ j → j < length ends → read ≡ get_or ends i read → end_at ends j ≡ read
read_end ends i j read same within is =
    get_or_default ends j None read within ∙ ap (λ (n : ℕ). get_or ends n read) (sym same) ∙ sym is
