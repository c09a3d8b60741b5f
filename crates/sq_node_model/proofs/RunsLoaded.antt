-- The runs of keys that a partition loaded, once one more chunk is.
use Rattle.std.proofs.Common.{◌≡◌, ⊎_elim, inl, inr, ℕ, Bool, true, ◌==◌, ◌&&◌, List, refl, sym, ap, ◌∙◌}
use Rattle.std.specs.Prelude.{◌⊎◌, ◌||◌}
use Rattle.std.proofs.lemmas.Bool.{or_cases, or_left, or_right, and_parts, and_from, eqb-true, eq-eqb}
use Rattle.sq_store.specs.ChunkValue.{ChunkValue, covers}
use Rattle.sq_exec.specs.declared.run.Run.{Run}
use Rattle.sq_exec.specs.Runs.{is_loaded, is_whole, runs_with}
use Rattle.sq_exec.proofs.Runs.{loaded-runs_with, whole-runs_with}
use Rattle.sq_model.proofs.Tiles.{about_is, is_about-from}
use Rattle.sq_node_model.specs.NodeValue.{put}
use Rattle.sq_node_model.specs.Chunks.{HasLast}
use Rattle.sq_node_model.specs.LoadedHolds.{IsCoveredIn, LoadedHolds}
use Rattle.sq_node_model.proofs.Puts.{put_each}
use Rattle.sq_node_model.proofs.OneMore.{IsOneMore}

module _ (loaded now : ChunkValue → Type 0) (chunk : ChunkValue) (m : IsOneMore loaded now chunk) where
  covered_more : (seg root : ℕ) → IsCoveredIn loaded seg root → IsCoveredIn now seg root
  covered_more seg root c = (c.0, m.more c.0 c.1, c.2, c.3)

  pub last_more : (seg n : ℕ) → HasLast loaded seg n → HasLast now seg n
  last_more seg n l = (l.0, m.more l.0 l.1, l.2, l.3)

  module _ (runs : ℕ → List Run) (h : LoadedHolds runs loaded) where
    abbrev runs_now : ℕ → List Run
    runs_now = put chunk.note.seg (runs_with (runs chunk.note.seg) chunk.note) runs

    -- what a test of the runs of a segment says of the loaded chunks, once this one is among them
    module _ (test : List Run → Bool) (adds : Bool) (law : test (runs_with (runs chunk.note.seg) chunk.note) ≡ (test (runs chunk.note.seg) || adds)) (Says : (ChunkValue → Type 0) → ℕ → Type 0) where
      says_now : ((g : ℕ) → Says loaded g → Says now g) → (adds ≡ true → Says now chunk.note.seg) → ((g : ℕ) → test (runs g) ≡ true → Says loaded g) → (g : ℕ) → test (runs_now g) ≡ true → Says now g
      says_now more new before =
          put_each (λ g list. test list ≡ true → Says now g) chunk.note.seg (runs_with (runs chunk.note.seg) chunk.note) runs
          (λ e. ⊎_elim (λ old. more chunk.note.seg (before chunk.note.seg old)) new (or_cases (test (runs chunk.note.seg)) adds (sym law ∙ e)))
          (λ g apart e. more g (before g e))

      tests_now : ((g : ℕ) → Says now g → Says loaded g ⊎ ((chunk.note.seg ≡ g) × (adds ≡ true))) → ((g : ℕ) → Says loaded g → test (runs g) ≡ true) → (g : ℕ) → Says now g → test (runs_now g) ≡ true
      tests_now cases before =
          put_each (λ g list. Says now g → test list ≡ true) chunk.note.seg (runs_with (runs chunk.note.seg) chunk.note) runs
          (λ says.
          law
          ∙ ⊎_elim (λ old. or_left (test (runs chunk.note.seg)) adds (before chunk.note.seg old)) (λ new. or_right (test (runs chunk.note.seg)) adds new.1) (cases chunk.note.seg says))
          (λ g apart says. ⊎_elim (λ old. before g old) (λ new. absurd (apart (sym new.0))) (cases g says))

    keys_now : (seg root : ℕ) → is_loaded (runs_now seg) root ≡ true → IsCoveredIn now seg root
    keys_now seg root =
        says_now (λ list. is_loaded list root) (covers chunk.note root) (loaded-runs_with (runs chunk.note.seg) chunk.note root) (λ some g. IsCoveredIn some g root)
        (λ g. covered_more g root) (λ new. (chunk, m.new, refl, new)) (λ g. h.keys g root) seg

    all_keys_now : (seg root : ℕ) → IsCoveredIn now seg root → is_loaded (runs_now seg) root ≡ true
    all_keys_now seg root =
        tests_now (λ list. is_loaded list root) (covers chunk.note root) (loaded-runs_with (runs chunk.note.seg) chunk.note root) (λ some g. IsCoveredIn some g root)
        (λ g c.
        ⊎_elim
        (λ old. inl (c.0, old, c.2, c.3))
        (λ new. inr (ap (λ (one : ChunkValue). one.note.seg) new ∙ c.2, ap (λ (one : ChunkValue). covers one.note root) new ∙ c.3))
        (m.only c.0 c.1))
        (λ g. h.all_keys g root) seg

    whole_now : (seg n : ℕ) → is_whole (runs_now seg) n ≡ true → HasLast now seg n
    whole_now seg n =
        says_now (λ list. is_whole list n) ((chunk.note.node == n) && chunk.note.last) (whole-runs_with (runs chunk.note.seg) chunk.note n) (λ some g. HasLast some g n)
        (λ g. last_more g n)
        (λ new.
        let parts = and_parts (chunk.note.node == n) chunk.note.last new in
        (chunk, m.new, is_about-from chunk.note.seg n chunk.note refl (eqb-true chunk.note.node n parts.0), parts.1))
        (λ g. h.whole g n) seg

    all_whole_now : (seg n : ℕ) → HasLast now seg n → is_whole (runs_now seg) n ≡ true
    all_whole_now seg n =
        tests_now (λ list. is_whole list n) ((chunk.note.node == n) && chunk.note.last) (whole-runs_with (runs chunk.note.seg) chunk.note n) (λ some g. HasLast some g n)
        (λ g l.
        ⊎_elim
        (λ old. inl (l.0, old, l.2, l.3))
        (λ new.
        let about = about_is g n l.0.note l.2 in
        let same : chunk.note.node ≡ n = ap (λ (one : ChunkValue). one.note.node) new ∙ about.1 in
        let last : chunk.note.last ≡ true = ap (λ (one : ChunkValue). one.note.last) new ∙ l.3 in
        inr (ap (λ (one : ChunkValue). one.note.seg) new ∙ about.0, and_from (chunk.note.node == n) chunk.note.last (eq-eqb chunk.note.node n same) last))
        (m.only l.0 l.1))
        (λ g. h.all_whole g n) seg

    pub runs_loaded : LoadedHolds runs_now now
    runs_loaded = record { keys = keys_now; all_keys = all_keys_now; whole = whole_now; all_whole = all_whole_now }
