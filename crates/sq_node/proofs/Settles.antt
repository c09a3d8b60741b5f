-- The nodes of trees that are to be completed, after a step.
use Rattle.std.proofs.Common.{◌≡◌, ℕ, ◌<◌, Bool, true, false, List, [], ◌∷◌, ◌++◌, length, get_or, set, Option, Some, None, refl, sym, ap, ◌∙◌, subst, inl, inr, ⊎_elim, arith}
use Rattle.std.specs.Prelude.{◌⊎◌, ◌≢◌, Contains, ◌==◌, ◌&&◌, ◌||◌, if◌then◌else◌, slice_get, Result, Ok, Err, OnOk, OnErr}
use Rattle.std.specs.Option.{option_map_or}
use Rattle.std.proofs.Math.Bool.{or-false, or-true}
use Rattle.std.proofs.lemmas.Bool.{and_parts, eqb-true, eq-eqb}
use Rattle.std.proofs.lemmas.Bool.Decides.{eqb_tells}
use Rattle.std.proofs.lemmas.List.{get_or-set_same, get_or-set_other}
use Rattle.std.proofs.lemmas.List.Elements.{Contains-push, Contains-push_cases, Contains-append_left}
use Rattle.std.proofs.lemmas.Option.{slice_get_within}
use Rattle.sq_moves.specs.declared.recon.Range.{Range}
use Rattle.sq_moves.specs.ReconValue.{ReconValue}
use Rattle.sq_store.specs.declared.chunk.Note.{Note}
use Rattle.sq_store.specs.ChunkValue.{ChunkValue}
use Rattle.sq_shared.specs.Seat.{SeatValue}
use Rattle.sq_exec.specs.declared.run.Run.{Run}
use Rattle.sq_exec.specs.Runs.{is_whole, runs_with}
use Rattle.sq_exec.specs.CoreValue.{CoreValue, with_inbox, loaded_at}
use Rattle.sq_exec.specs.Moving.{can_load, can_load_in, may_load, begun_core, begun_in, LoadsFrom}
use Rattle.sq_exec.proofs.Runs.{whole-runs_with}
use Rattle.sq_node.specs.Settled.{IsNode, HasSettled, AreSeen}
use Rattle.sq_node.proofs.Known.{AllKnowNoLess, settled_seats, seen_seats}

-- they are the same where nothing more was loaded
pub same_loads : (old new : CoreValue) (seats : List SeatValue) (pending : List (ℕ × ℕ)) (complete : List Bool) → new.recon ≡ old.recon → new.loaded ≡ old.loaded
    → IsNode old seats pending complete → IsNode new seats pending complete
same_loads old new seats pending complete recon loads is =
    record {
      flags = is.flags ∙ ap (λ (r : ReconValue). length r.segments) (sym recon);
      seen = is.seen;
      exists = λ seg n there. subst (λ (r : ReconValue). seg < length r.segments) (sym recon) (is.exists seg n there);
      whole = λ seg n there. ap (runs seg n) loads ∙ is.whole seg n there;
      each = λ seg n whole. is.each seg n (sym (ap (runs seg n) loads) ∙ whole);
    }
  where
    runs : ℕ → ℕ → List (List Run) → Bool
    runs seg n loaded = is_whole (loaded_at (record old { loaded = loaded }) seg) n

-- a node stays one where its partition is the same one, and nothing more was loaded
pub still_node : (part : ℕ) (old new now : CoreValue) (seats : List SeatValue) (pending : List (ℕ × ℕ)) (complete : List Bool) → new ≡ now → now.part ≡ old.part → now.recon ≡ old.recon → now.loaded ≡ old.loaded
    → (part ≡ old.part) × IsNode old seats pending complete → (part ≡ new.part) × IsNode new seats pending complete
still_node part old new now seats pending complete after same recon loaded is = (
  is.0 ∙ sym (ap (λ (core : CoreValue). core.part) after ∙ same),
  same_loads old new seats pending complete (ap (λ (core : CoreValue). core.recon) after ∙ recon) (ap (λ (core : CoreValue). core.loaded) after ∙ loaded) is.1,
)

-- and where the seats know no less, and set flags only of what they found complete
pub other_flags : (core : CoreValue) (seats more : List SeatValue) (pending : List (ℕ × ℕ)) (complete noted : List Bool) → length noted ≡ length complete → AllKnowNoLess seats more
    → (AreSeen seats complete → AreSeen more noted) → IsNode core seats pending complete → IsNode core more pending noted
other_flags core seats more pending complete noted same known sees is =
    record {
      flags = same ∙ is.flags;
      seen = sees is.seen;
      exists = is.exists;
      whole = is.whole;
      each = λ seg n whole. ⊎_elim (λ (there : Contains pending (seg, n)). inl there) (λ (settled : HasSettled seats seg n). inr (settled_seats seats more known seg n settled)) (is.each seg n whole);
    }

pub other_seats : (core : CoreValue) (seats more : List SeatValue) (pending : List (ℕ × ℕ)) (complete : List Bool) → AllKnowNoLess seats more
    → IsNode core seats pending complete → IsNode core more pending complete
other_seats core seats more pending complete known is = other_flags core seats more pending complete complete refl known (seen_seats seats more complete known) is

either : (a b : Bool) → (a || b) ≡ true → (a ≡ true) ⊎ (b ≡ true)
either true b h = inl refl
either false b h = inr h

exists_segment : (core : CoreValue) (src : ℕ) (chunk : ChunkValue) → can_load core src chunk ≡ true → chunk.note.seg < length core.recon.segments
exists_segment core src chunk can = of_segment (slice_get core.recon.segments chunk.note.seg) refl can
  where
    of_segment : (read : Option Range) → slice_get core.recon.segments chunk.note.seg ≡ read → can_load_in core src chunk read ≡ true → chunk.note.seg < length core.recon.segments
    of_segment None read can = cc
    of_segment (Some segment) read can = slice_get_within core.recon.segments chunk.note.seg segment read

module _ (old new : CoreValue) (src : ℕ) (note : Note) (loads : LoadsFrom old src note new) (each : length old.loaded ≡ length old.recon.segments) (may : may_load old src ≡ true) where
  chunk : ChunkValue
  chunk = loads.chunk

  abbrev runs : List Run
  runs = runs_with (loaded_at old note.seg) note

  can : can_load old src loads.chunk ≡ true
  can = sym (ap (λ (inbox : Option ChunkValue). option_map_or (can_load old src) inbox false) loads.came) ∙ may

  exists : note.seg < length old.recon.segments
  exists = subst (λ (n : Note). n.seg < length old.recon.segments) (sym loads.noted) (exists_segment old src loads.chunk can)

  loaded_is : new.loaded ≡ set old.loaded note.seg runs
  loaded_is =
      ap (λ (core : CoreValue). core.loaded) loads.after
      ∙ ap (λ (n : Note). set old.loaded n.seg (runs_with (loaded_at old n.seg) n)) (sym loads.noted)

  recon_is : new.recon ≡ old.recon
  recon_is = ap (λ (core : CoreValue). core.recon) loads.after

  -- the node is whole afterwards if it was, or the chunk is its last
  whole_after : (seg n : ℕ) → is_whole (loaded_at new seg) n ≡ (is_whole (loaded_at old seg) n || ((note.seg == seg) && ((note.node == n) && note.last)))
  whole_after seg n =
      ap (λ (loaded : List (List Run)). is_whole (get_or loaded seg []) n) loaded_is
      ∙ ⊎_elim
      (λ (same : ((note.seg == seg) ≡ true) × (note.seg ≡ seg)).
      ap (λ (rs : List Run). is_whole rs n)
      (ap (λ (k : ℕ). get_or (set old.loaded note.seg runs) k []) (sym same.1)
      ∙ get_or-set_same old.loaded note.seg runs [] (omega (arith, exists, each)))
      ∙ whole-runs_with (loaded_at old note.seg) note n
      ∙ (λ k. is_whole (loaded_at old (same.1 k)) n || (sym same.0 k && ((note.node == n) && note.last))))
      (λ (apart : ((note.seg == seg) ≡ false) × (note.seg ≢ seg)).
      ap (λ (rs : List Run). is_whole rs n) (get_or-set_other old.loaded note.seg seg runs [] (λ same. apart.1 (sym same)))
      ∙ sym (or-false (is_whole (loaded_at old seg) n))
      ∙ ap (λ (b : Bool). is_whole (loaded_at old seg) n || (b && ((note.node == n) && note.last))) (sym apart.0))
      (eqb_tells note.seg seg)

  -- a last chunk adds its node, and any other chunk none
  pub after_load : (seats : List SeatValue) (pending more : List (ℕ × ℕ)) (complete : List Bool)
      → more ≡ (if note.last then pending ++ (note.seg, note.node) ∷ [] else pending) → IsNode old seats pending complete → IsNode new seats more complete
  after_load seats pending more complete more_is is =
      record {
        flags = is.flags ∙ ap (λ (r : ReconValue). length r.segments) (sym recon_is);
        seen = is.seen;
        exists = λ seg n there. subst (λ (r : ReconValue). seg < length r.segments) (sym recon_is) (among (λ s m. s < length old.recon.segments) is.exists (λ _. exists) seg n there);
        whole = λ seg n there. whole_after seg n ∙ among (λ s m. (is_whole (loaded_at old s) m || ((note.seg == s) && ((note.node == m) && note.last))) ≡ true)
            (λ s m held. ap (λ (b : Bool). b || ((note.seg == s) && ((note.node == m) && note.last))) (is.whole s m held))
            (λ last. last_whole last) seg n there;
        each = λ seg n whole. by_whole seg n (either (is_whole (loaded_at old seg) n) ((note.seg == seg) && ((note.node == n) && note.last)) (sym (whole_after seg n) ∙ whole));
      }
    where
      -- what holds of those that were there, and of the chunk's node where it is whole, holds of all
      among : (P : ℕ → ℕ → Type 0) → ((s m : ℕ) → Contains pending (s, m) → P s m) → (note.last ≡ true → P note.seg note.node) → (s m : ℕ) → Contains more (s, m) → P s m
      among P held mine s m there = by_last note.last refl (subst (λ (xs : List (ℕ × ℕ)). Contains xs (s, m)) more_is there)
        where
          by_last : (b : Bool) → note.last ≡ b → Contains (if b then pending ++ (note.seg, note.node) ∷ [] else pending) (s, m) → P s m
          by_last true last there =
              ⊎_elim (held s m) (λ (same : (note.seg, note.node) ≡ (s, m)). subst (λ (pair : ℕ × ℕ). P pair.0 pair.1) same (mine last))
              (Contains-push_cases pending (note.seg, note.node) (s, m) there)
          by_last false last there = held s m there

      last_whole : note.last ≡ true → (is_whole (loaded_at old note.seg) note.node || ((note.seg == note.seg) && ((note.node == note.node) && note.last))) ≡ true
      last_whole last =
          (λ k. is_whole (loaded_at old note.seg) note.node || (eq-eqb note.seg note.seg refl k && (eq-eqb note.node note.node refl k && last k)))
          ∙ or-true (is_whole (loaded_at old note.seg) note.node)

      by_whole : (seg n : ℕ) → (is_whole (loaded_at old seg) n ≡ true) ⊎ (((note.seg == seg) && ((note.node == n) && note.last)) ≡ true) → Contains more (seg, n) ⊎ HasSettled seats seg n
      by_whole seg n (inl whole) =
          ⊎_elim (λ (there : Contains pending (seg, n)). inl (subst (λ (xs : List (ℕ × ℕ)). Contains xs (seg, n)) (sym more_is) (kept note.last there))) (λ (settled : HasSettled seats seg n). inr settled) (is.each seg n whole)
        where
          kept : (b : Bool) → Contains pending (seg, n) → Contains (if b then pending ++ (note.seg, note.node) ∷ [] else pending) (seg, n)
          kept true there = Contains-append_left pending ((note.seg, note.node) ∷ []) (seg, n) there
          kept false there = there
      by_whole seg n (inr now) =
          let parts = and_parts (note.seg == seg) ((note.node == n) && note.last) now in
          let rest = and_parts (note.node == n) note.last parts.1 in
          let seg_is : note.seg ≡ seg = eqb-true note.seg seg parts.0 in
          let node_is : note.node ≡ n = eqb-true note.node n rest.0 in
          let last : note.last ≡ true = rest.1 in
          let pair : (note.seg, note.node) ≡ (seg, n) = λ k. (seg_is k, node_is k) in
          let list : more ≡ pending ++ (seg, n) ∷ [] = more_is ∙ (λ k. if last k then pending ++ pair k ∷ [] else pending) in
          inl (subst (λ (xs : List (ℕ × ℕ)). Contains xs (seg, n)) (sym list) (Contains-push pending (seg, n)))

-- so it does whether a chunk was put into an inbox or came back
pub put_still : (part : ℕ) (old new : CoreValue) (src : ℕ) (inbox : Option ChunkValue) (result : Result (Unit {0}) ChunkValue) (seats : List SeatValue) (pending : List (ℕ × ℕ)) (complete : List Bool)
    → OnOk result (new ≡ with_inbox old src inbox) → OnErr result (new ≡ old) → (part ≡ old.part) × IsNode old seats pending complete → (part ≡ new.part) × IsNode new seats pending complete
put_still part old new src inbox (Ok done) seats pending complete ok err = still_node part old new (with_inbox old src inbox) seats pending complete ok refl refl refl
put_still part old new src inbox (Err back) seats pending complete ok err = still_node part old new old seats pending complete err refl refl refl

pub begun_part : (core : CoreValue) (seg n pull : ℕ) → (begun_core core seg n pull).part ≡ core.part
begun_part core seg n pull = by_segment (slice_get core.recon.segments seg)
  where
    by_segment : (segment : Option Range) → (begun_in core seg n pull segment).part ≡ core.part
    by_segment None = refl
    by_segment (Some segment) = refl

pub after_begun : (old new : CoreValue) (seg n pull : ℕ) (seats more : List SeatValue) (pending : List (ℕ × ℕ)) (complete : List Bool) → new ≡ begun_core old seg n pull
    → AllKnowNoLess seats more → IsNode old seats pending complete → IsNode new more pending complete
after_begun old new seg n pull seats more pending complete begun known is =
    let recon : new.recon ≡ old.recon = ap (λ (core : CoreValue). core.recon) begun ∙ same_recon (slice_get old.recon.segments seg) in
    let loads : new.loaded ≡ old.loaded = ap (λ (core : CoreValue). core.loaded) begun ∙ same_loaded (slice_get old.recon.segments seg) in
    other_seats new seats more pending complete known (same_loads old new seats pending complete recon loads is)
  where
    same_recon : (segment : Option Range) → (begun_in old seg n pull segment).recon ≡ old.recon
    same_recon None = refl
    same_recon (Some segment) = refl

    same_loaded : (segment : Option Range) → (begun_in old seg n pull segment).loaded ≡ old.loaded
    same_loaded None = refl
    same_loaded (Some segment) = refl
