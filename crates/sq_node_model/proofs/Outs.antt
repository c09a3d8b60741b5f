-- A link out of a partition once a tree node is begun, and once a chunk is cut.
use Rattle.std.proofs.Common.{◌≡◌, ◌⊎◌, inl, inr, ⊎_elim, ℕ, ◌≤◌, true, false, ◌==◌, ◌&&◌, ◌||◌, if◌then◌else◌, List, [], ◌∷◌, ◌++◌, length, slice_get, find, Contains, Option, Some, None, refl, sym, ap, ap₂, ◌∙◌, subst, subst₂, true≢false}
use Rattle.std.specs.Prelude.{◌≢◌, reverse}
use Rattle.std.proofs.lemmas.Bool.{cases_Bool, and_parts, or_parts, ne_eqb, eq-eqb}
use Rattle.std.proofs.lemmas.List.{reverse-append, length-reverse, map-append}
use Rattle.std.proofs.lemmas.List.Elements.{Contains-push, Contains-push_cases, Contains-append_left}
use Rattle.sq_store.specs.declared.chunk.Note.{Note}
use Rattle.sq_store.specs.ChunkValue.{ChunkValue, covers}
use Rattle.sq_moves.specs.OpeningValue.{OpeningValue}
use Rattle.sq_exec.specs.Work.{WorkValue, work_from, work_after}
use Rattle.sq_model.specs.Place.{extent_of, is_within}
use Rattle.sq_model.specs.Links.{is_about, has_last, end_of_note, reached}
use Rattle.sq_model.specs.Orderly.{AreNumbered, GoesOn, Tiles}
use Rattle.sq_model.proofs.Lists.{any_in, found_in, Contains-slice_get}
use Rattle.sq_model.proofs.Notes.{goes_once}
use Rattle.sq_model.proofs.Tiles.{about_is, is_about-from, IsTile, tile}
use Rattle.sq_model.proofs.Apart.{covers_extent}
use Rattle.sq_node_model.specs.Stages.{is_on_link_in}
use Rattle.sq_node_model.proofs.Staged.{on_link_goes}
use Rattle.sq_node_model.specs.BeganWith.{BeganWith}
use Rattle.sq_node_model.specs.BegunHolds.{IsNamed}
use Rattle.sq_node_model.specs.OutHolds.{IsOwnNote, IsWholeChunk, IsOpenWork, is_work_on, NoneTwice, OutHolds}
use Rattle.sq_node_model.proofs.Members.{Contains-reverse, Contains-unreversed, Contains-map, push_stood}
use Rattle.sq_node_model.proofs.Works.{on_node, on_node-from, IsLeft, is_left}

module _ {began : BeganWith} (o : OpeningValue) (part dst : ℕ) (begun : ℕ → List (ℕ × ℕ)) (notes : List Note) (works : List WorkValue) (cut : List ChunkValue) (h : OutHolds o began part begun dst notes works cut) where
  -- a chunk that was cut has its note among them
  pub noted : (chunk : ChunkValue) → Contains cut chunk → Contains notes chunk.note
  noted chunk has = subst (λ (list : List Note). Contains list chunk.note) (sym h.noted) (Contains-map (λ (c : ChunkValue). c.note) cut chunk has)

  pub tile_of : (note : Note) → Contains notes note → IsTile o (reverse notes) note
  tile_of note has = tile o (reverse notes) h.tiles note (Contains-reverse notes note has)

  -- and covers keys of its node alone
  pub cut_within : (chunk : ChunkValue) (root : ℕ) → Contains cut chunk → covers chunk.note root ≡ true → is_within (extent_of o chunk.note.seg chunk.note.node) root ≡ true
  cut_within chunk root has covered = covers_extent o (reverse notes) chunk.note root (tile_of chunk.note (noted chunk has)) covered

-- one more tree node is begun
pub record Begins (begun now : ℕ → List (ℕ × ℕ)) (seg n pull : ℕ) : Type 0 where
  pub more : (g : ℕ) (entry : ℕ × ℕ) → Contains (begun g) entry → Contains (now g) entry
  pub new : Contains (now seg) (n, pull)
  pub only : (g m q : ℕ) → Contains (now g) (m, q) → Contains (begun g) (m, q) ⊎ ((seg ≡ g) × (n ≡ m) × (pull ≡ q))

module _ (began : BeganWith) (o : OpeningValue) (part : ℕ) (begun now : ℕ → List (ℕ × ℕ)) (seg n pull : ℕ) (b : Begins begun now seg n pull) where
  own_more : (d : ℕ) (note : Note) → IsOwnNote o began.stage part begun d note → IsOwnNote o began.stage part now d note
  own_more d note own = record {
    comes_from = own.comes_from;
    goes_to = own.goes_to;
    segment = own.segment;
    about = (own.about.0, b.more note.seg (note.node, own.about.0) own.about.1);
  }

  work_more : (d : ℕ) (notes : List Note) (work : WorkValue) → IsOpenWork o began.stage part begun notes d work → IsOpenWork o began.stage part now notes d work
  work_more d notes work w = assumption (b.more work.seg (work.node, work.pull) w.on, w)

  -- the links to other partitions stay as they are
  pub out_other : (dst d : ℕ) (notes : List Note) (works : List WorkValue) (cut : List ChunkValue) → is_on_link_in o began.stage part dst seg ≡ true → d ≢ dst
      → OutHolds o began part begun d notes works cut → OutHolds o began part now d notes works cut
  out_other dst d notes works cut linked apart h = record {
    noted = h.noted;
    numbered = h.numbered;
    own = λ note has. own_more d note (h.own note has);
    tiles = h.tiles;
    chunks = h.chunks;
    work = λ work has. work_more d notes work (h.work work has);
    each = λ g m q goes has unended.
        ⊎_elim
        (λ old. h.each g m q goes old unended)
        (λ new. absurd (apart (goes_once o seg part d part dst (on_link_goes o began.stage part d seg (subst (λ k. is_on_link_in o began.stage part d k ≡ true) (sym new.0) goes)) (on_link_goes o began.stage part dst seg linked)).1))
        (b.only g m q has);
    once = h.once;
  }

  -- the link of the node has all of it to cut
  module _ (dst : ℕ) (notes : List Note) (works : List WorkValue) (cut : List ChunkValue) (h : OutHolds o began part begun dst notes works cut) (fresh : (q : ℕ) → Contains (begun seg) (n, q) → ⊥) where
    not_about : (note : Note) → Contains notes note → is_about seg n note ≡ true → ⊥
    not_about note has about =
        let is = about_is seg n note about in
        let named : IsNamed (begun seg) n = subst₂ (λ g m. IsNamed (begun g) m) is.0 is.1 (h.own note has).about in
        fresh named.0 named.1

    none_last : has_last seg n (reverse notes) ≡ false
    none_last =
        elim (cases_Bool (has_last seg n (reverse notes))) [
          | inl last ↦
              let found = any_in (λ note. is_about seg n note && note.last) (reverse notes) last in
              absurd (not_about found.0 (Contains-unreversed notes found.0 found.1) (and_parts (is_about seg n found.0) found.0.last found.2).0)
          | inr none ↦ none
        ]

    from_start : reached o seg n (reverse notes) ≡ (extent_of o seg n).lo
    from_start = here (find (is_about seg n) (reverse notes)) refl
      where
        here : (found : Option Note) → find (is_about seg n) (reverse notes) ≡ found → reached o seg n (reverse notes) ≡ (extent_of o seg n).lo
        here None e = ap (end_of_note (extent_of o seg n).lo) e
        here (Some note) e =
            let is = found_in (is_about seg n) (reverse notes) note e in
            absurd (not_about note (Contains-unreversed notes note is.0) is.1)

    -- no work is on it yet
    not_open : (i : ℕ) (one : WorkValue) → slice_get works i ≡ Some one → one.seg ≡ seg → one.node ≡ n → ⊥
    not_open i one at same there =
        fresh one.pull (subst₂ (λ g m. Contains (begun g) (m, one.pull)) same there (h.work one (Contains-slice_get works i one at)).on)

    pub out_begun : (work : WorkValue) → is_on_link_in o began.stage part dst seg ≡ true → work ≡ record { seg = seg; node = n; pull = pull; rest = (extent_of o seg n).lo; hi = (extent_of o seg n).hi }
        → OutHolds o began part now dst notes (works ++ work ∷ []) cut
    out_begun work linked is =
        let same = ap (λ (w : WorkValue). w.seg) is in
        let there = ap (λ (w : WorkValue). w.node) is in
        record {
          noted = h.noted;
          numbered = h.numbered;
          own = λ note has. own_more dst note (h.own note has);
          tiles = h.tiles;
          chunks = h.chunks;
          work = λ one has.
              ⊎_elim
              (λ old. work_more dst notes one (h.work one old))
              (λ new. subst (IsOpenWork o began.stage part now notes dst) (sym is ∙ new) whole)
              (Contains-push_cases works work one has);
          each = λ g m q goes has unended.
              ⊎_elim
              (λ old. let found = h.each g m q goes old unended in (found.0, Contains-append_left works (work ∷ []) found.0 found.1, found.2))
              (λ new. (work, Contains-push works work, on_node-from g m work (same ∙ new.0) (there ∙ new.1)))
              (b.only g m q has);
          once = one_each;
        }
      where
        whole : IsOpenWork o began.stage part now notes dst (record { seg = seg; node = n; pull = pull; rest = (extent_of o seg n).lo; hi = (extent_of o seg n).hi })
        whole = record { segment = linked; on = b.new; open_yet = none_last; rest = sym from_start; upto = refl }

        one_each : NoneTwice (works ++ work ∷ [])
        one_each i j one other at at' same_seg same_node =
            ⊎_elim
            (λ old.
            ⊎_elim
            (λ old'. h.once i j one other old old' same_seg same_node)
            (λ new'.
            absurd (not_open i one old
            (same_seg ∙ ap (λ (w : WorkValue). w.seg) (sym new'.1 ∙ is))
            (same_node ∙ ap (λ (w : WorkValue). w.node) (sym new'.1 ∙ is))))
            (push_stood works work j other at'))
            (λ new.
            ⊎_elim
            (λ old'.
            absurd (not_open j other old'
            (sym same_seg ∙ ap (λ (w : WorkValue). w.seg) (sym new.1 ∙ is))
            (sym same_node ∙ ap (λ (w : WorkValue). w.node) (sym new.1 ∙ is))))
            (λ new'. new.0 ∙ sym new'.0)
            (push_stood works work j other at'))
            (push_stood works work i one at)

-- the note of the next chunk of open work
pub record IsNoteOf (part dst number : ℕ) (work : WorkValue) (note : Note) : Type 0 where
  pub comes_from : note.src ≡ part
  pub goes_to : note.dst ≡ dst
  pub counted : note.number ≡ number
  pub same_seg : note.seg ≡ work.seg
  pub same_node : note.node ≡ work.node
  pub from : note.lo ≡ work.rest
  pub rises : note.lo ≤ note.hi
  pub upto : note.hi ≤ work.hi
  pub is_last : note.last ≡ (note.hi == work.hi)

module _ {began : BeganWith} (o : OpeningValue) (part dst : ℕ) (begun : ℕ → List (ℕ × ℕ)) (notes : List Note) (works : List WorkValue) (cut : List ChunkValue) (h : OutHolds o began part begun dst notes works cut)
    (i : ℕ) (work : WorkValue) (there : slice_get works i ≡ Some work) (chunk : ChunkValue) (is : IsNoteOf part dst (length notes) work chunk.note) (whole : IsWholeChunk began chunk) where
  abbrev note : Note
  note = chunk.note

  turned : reverse (notes ++ note ∷ []) ≡ note ∷ reverse notes
  turned = reverse-append notes (note ∷ [])

  was : IsOpenWork o began.stage part begun notes dst work
  was = h.work work (Contains-slice_get works i work there)

  -- the note is about the work's node
  about_work : is_about work.seg work.node note ≡ true
  about_work = is_about-from work.seg work.node note is.same_seg is.same_node

  about_other : (g m : ℕ) → is_about g m note ≡ true → (work.seg ≡ g) × (work.node ≡ m)
  about_other g m about = let at = about_is g m note about in (sym is.same_seg ∙ at.0, sym is.same_node ∙ at.1)

  off_node : (other : WorkValue) → is_work_on work.seg work.node other ≡ false → is_about other.seg other.node note ≡ false
  off_node other off =
      elim (cases_Bool (is_about other.seg other.node note)) [
        | inl about ↦
            let at = about_other other.seg other.node about in
            absurd (true≢false (sym (on_node-from work.seg work.node other (sym at.0) (sym at.1)) ∙ off))
        | inr none ↦ none
      ]

  own_note : IsOwnNote o began.stage part begun dst note
  own_note = record {
    comes_from = is.comes_from;
    goes_to = is.goes_to;
    segment = subst (λ g. is_on_link_in o began.stage part dst g ≡ true) (sym is.same_seg) was.segment;
    about = (work.pull, subst₂ (λ g m. Contains (begun g) (m, work.pull)) (sym is.same_seg) (sym is.same_node) was.on);
  }

  goes_on : GoesOn o note (reverse notes)
  goes_on = record {
    begins = is.from ∙ was.rest ∙ ap₂ (λ g m. reached o g m (reverse notes)) (sym is.same_seg) (sym is.same_node);
    rises = is.rises;
    within = subst (λ end. note.hi ≤ end) ends is.upto;
    last = is.is_last ∙ ap (λ end. note.hi == end) ends;
    first_last = ap₂ (λ g m. has_last g m (reverse notes)) is.same_seg is.same_node ∙ was.open_yet;
  }
    where
      ends : work.hi ≡ (extent_of o note.seg note.node).hi
      ends = was.upto ∙ ap₂ (λ g m. (extent_of o g m).hi) (sym is.same_seg) (sym is.same_node)

  -- work on another node is open as it was
  other_open : (other : WorkValue) → IsOpenWork o began.stage part begun notes dst other → is_work_on work.seg work.node other ≡ false → IsOpenWork o began.stage part begun (notes ++ note ∷ []) dst other
  other_open other w off =
      let apart = off_node other off in
      record {
        segment = w.segment;
        on = w.on;
        open_yet = ap (has_last other.seg other.node) turned ∙ ap (λ b. (b && note.last) || has_last other.seg other.node (reverse notes)) apart ∙ w.open_yet;
        rest =
            w.rest
            ∙ sym (ap (reached o other.seg other.node) turned
            ∙ ap (λ b. end_of_note (extent_of o other.seg other.node).lo (if b then Some note else find (is_about other.seg other.node) (reverse notes))) apart);
        upto = w.upto;
      }

  -- the work continues where the chunk ends
  next_open : note.hi ≢ work.hi → IsOpenWork o began.stage part begun (notes ++ note ∷ []) dst (work_from work note.hi)
  next_open apart = record {
    segment = was.segment;
    on = was.on;
    open_yet =
        ap (has_last work.seg work.node) turned
        ∙ ap (λ b. (b && note.last) || has_last work.seg work.node (reverse notes)) about_work
        ∙ ap₂ (λ a b. a || b) (is.is_last ∙ ne_eqb note.hi work.hi apart) was.open_yet;
    rest =
        sym (ap (reached o work.seg work.node) turned
        ∙ ap (λ b. end_of_note (extent_of o work.seg work.node).lo (if b then Some note else find (is_about work.seg work.node) (reverse notes))) about_work);
    upto = was.upto;
  }

  left : IsLeft works (work_after works i note.hi) work note.hi
  left = is_left works i note.hi work there h.once

  -- each node without a last note has its work still
  each_left : (g m q : ℕ) → is_on_link_in o began.stage part dst g ≡ true → Contains (begun g) (m, q) → has_last g m (note ∷ reverse notes) ≡ false → (one : WorkValue) × Contains (work_after works i note.hi) one × (is_work_on g m one ≡ true)
  each_left g m q goes has unended =
      elim (cases_Bool (is_about g m note)) [
        | inl about ↦
            let at = about_other g m about in
            let not_last : note.last ≡ false = (or_parts (true && note.last) (has_last g m (reverse notes)) (sym (ap (λ b. (b && note.last) || has_last g m (reverse notes)) about) ∙ unended)).0 in
            (work_from work note.hi, left.next (λ ends. true≢false (sym (is.is_last ∙ eq-eqb note.hi work.hi ends) ∙ not_last)), on_node-from g m (work_from work note.hi) at.0 at.1)
        | inr off ↦
            let found = h.each g m q goes has (sym (ap (λ b. (b && note.last) || has_last g m (reverse notes)) off) ∙ unended) in
            (found.0, left.kept found.0 found.1 (elsewhere found.0 found.2 off), found.2)
      ]
    where
      elsewhere : (one : WorkValue) → is_work_on g m one ≡ true → is_about g m note ≡ false → is_work_on work.seg work.node one ≡ false
      elsewhere one on off =
          elim (cases_Bool (is_work_on work.seg work.node one)) [
            | inl same ↦
                let here = on_node g m one on in
                let there' = on_node work.seg work.node one same in
                absurd (true≢false (sym (is_about-from g m note (is.same_seg ∙ sym there'.0 ∙ here.0) (is.same_node ∙ sym there'.1 ∙ here.1)) ∙ off))
            | inr apart ↦ apart
          ]

  pub out_cut : OutHolds o began part begun dst (notes ++ note ∷ []) (work_after works i note.hi) (cut ++ chunk ∷ [])
  out_cut = record {
    noted = ap (λ list. list ++ note ∷ []) h.noted ∙ sym (map-append (λ (c : ChunkValue). c.note) cut (chunk ∷ []));
    numbered = subst AreNumbered (sym turned) (is.counted ∙ sym (length-reverse notes), h.numbered);
    own = λ other has. ⊎_elim (λ old. h.own other old) (λ new. subst (IsOwnNote o began.stage part begun dst) new own_note) (Contains-push_cases notes note other has);
    tiles = subst (Tiles o) (sym turned) (goes_on, h.tiles);
    chunks = λ other has. ⊎_elim (λ old. h.chunks other old) (λ new. subst (IsWholeChunk began) new whole) (Contains-push_cases cut chunk other has);
    work = λ other has.
        ⊎_elim
        (λ old. other_open other (h.work other old.0) old.1)
        (λ next. subst (IsOpenWork o began.stage part begun (notes ++ note ∷ []) dst) next.1 (next_open next.0))
        (left.only other has);
    each = λ g m q goes has unended. each_left g m q goes has (sym (ap (has_last g m) turned) ∙ unended);
    once = left.once;
  }
