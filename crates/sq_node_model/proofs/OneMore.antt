-- Chunks with one more.
use Rattle.std.proofs.Common.{◌≡◌, ◌⊎◌, inl, inr, ⊎_elim, ℕ, List, [], ◌∷◌, ◌++◌, Contains, sym, ◌∙◌, subst}
use Rattle.std.proofs.lemmas.List.Elements.{Contains-push, Contains-push_cases, Contains-append_left}
use Rattle.sq_store.specs.ChunkValue.{ChunkValue}
use Rattle.sq_node_model.specs.NodeValue.{put}
use Rattle.sq_node_model.specs.Chunks.{IsInOne}
use Rattle.sq_node_model.proofs.Puts.{put_each, put_same}

-- the chunks are those before and this one
pub record IsOneMore (before now : ChunkValue → Type 0) (chunk : ChunkValue) : Type 0 where
  pub more : (other : ChunkValue) → before other → now other
  pub new : now chunk
  pub only : (other : ChunkValue) → now other → before other ⊎ (chunk ≡ other)

-- one of the lists got it
pub one_more : (lists now : ℕ → List ChunkValue) (key : ℕ) (chunk : ChunkValue) → ((k : ℕ) → now k ≡ put key (lists key ++ chunk ∷ []) lists k) → IsOneMore (IsInOne lists) (IsInOne now) chunk
one_more lists now key chunk is = record {
  more = λ other has. (
    has.0,
    subst (λ list. Contains list other) (sym (is has.0))
        (put_each (λ k list. Contains (lists k) other → Contains list other) key (lists key ++ chunk ∷ []) lists
        (λ old. Contains-append_left (lists key) (chunk ∷ []) other old) (λ k apart old. old) has.0 has.1),
  );
  new = (key, subst (λ list. Contains list chunk) (sym (is key ∙ put_same key (lists key ++ chunk ∷ []) lists)) (Contains-push (lists key) chunk));
  only = λ other has.
      put_each (λ k list. Contains list other → IsInOne lists other ⊎ (chunk ≡ other)) key (lists key ++ chunk ∷ []) lists
      (λ there. ⊎_elim (λ old. inl (key, old)) (λ new. inr new) (Contains-push_cases (lists key) chunk other there))
      (λ k apart there. inl (k, there))
      has.0 (subst (λ list. Contains list other) (is has.0) has.1);
}
