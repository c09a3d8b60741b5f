-- Where the notes of links that are placed, and that share no key, place each root key, and the families of chunks.
use Rattle.std.proofs.Common.{◌≡◌, ⊎_elim, ℕ, ◌+◌, ◌-◌, ◌==◌, Bool, true, false, nat_lt, List, filter, length, reverse, drop, slice_get, find, Contains, IsPermutation, Option, Some, None, refl, sym, ap, ap₂, ◌∙◌, subst, arith, true≢false, eqb-true}
use Rattle.std.specs.Prelude.{if◌then◌else◌}
use Rattle.std.specs.List.{flat_map}
use Rattle.std.specs.List.Sorted.{IsNonDecreasingBy}
use Rattle.std.specs.Bool.{Decides}
use Rattle.std.proofs.lemmas.Bool.{cases_lt, and_parts, lt-ltb, le-ltb, ltb-true}
use Rattle.std.proofs.lemmas.Bool.Decides.{Decides-like}
use Rattle.std.proofs.lemmas.List.Elements.{Contains-append_left, Contains-append_right, Contains-append_cases}
use Rattle.std.proofs.lemmas.List.Sorted.{IsPermutation-sym, Contains-permutation}
use Rattle.std.proofs.lemmas.Option.{same_Some, slice_get_within}
use Rattle.sq_gather.specs.Prelude.{FamilyValue, family_in, Note, ChunkValue, covers, Range, OpeningValue, goes, is_on_link, AreDisjoint, Place, At, Under_way, loaded_place, owner_in, cut_place_in, runs_in, Spot, Store, Chunk, GatheredLink, GatheredValue, loaded_count, loads_of, cut_notes, loaded_notes, gathered_place, chunk_in, StandsAt, IsSpotOf, HasEachPart}
use Rattle.sq_gather.proofs.Prelude.{covers_bounds, cover_once, Contains-slice_get, slice_get-Contains, Contains-filter, kept_in, map_in, flat_map_in, found_in, not_found, carried_covered, Contains-map, Contains-unreversed, Contains-flat_map, at_map, at_reverse, same_from_end, some_found, none_found, of_some}
use Rattle.sq_audit.specs.Located.{Entry, ListsAll}
use Rattle.sq_audit.specs.Notes.{LinksPlaced}
use Rattle.sq_audit.specs.Spans.{Marked, has_keys, marked, notes_of, first_key, is_over, AreByKey, part_by, IsPlacedBy}
use Rattle.sq_audit.specs.Fits.{ArePlaced}
use Rattle.sq_audit.proofs.Lists.{taken_at, dropped_at, at_dropped}
use Rattle.sq_audit.proofs.Parts.{at_taken}

-- a note at its place of a link
pub record IsNoteAt (g : GatheredValue) (i p : ℕ) (link : GatheredLink) (note : Note) : Type 0 where
  pub there : slice_get g.links i ≡ Some link
  pub at : slice_get link.notes p ≡ Some note

among_cut : (g : GatheredValue) (i p : ℕ) (link : GatheredLink) (note : Note) → IsNoteAt g i p link note → Contains (cut_notes g) note
among_cut g i p link note n = Contains-flat_map (λ (l : GatheredLink). l.notes) g.links link note (Contains-slice_get g.links i link n.there) (Contains-slice_get link.notes p note n.at)

-- a segment moves along one link
goes_both : (segment : Option Range) (a b c d : ℕ) → goes segment a b ≡ true → goes segment c d ≡ true → (a ≡ c) × (b ≡ d)
goes_both None a b c d one other = absurd (true≢false (sym one))
goes_both (Some s) a b c d one other =
    let here = and_parts (s.src == a) (s.dst == b) one in
    let there = and_parts (s.src == c) (s.dst == d) other in
    (sym (eqb-true s.src a here.0) ∙ eqb-true s.src c there.0, sym (eqb-true s.dst b here.1) ∙ eqb-true s.dst d there.1)

covers_some : (note : Note) (root : ℕ) → covers note root ≡ true → has_keys note ≡ true
covers_some note root covered = let bounds = covers_bounds note root covered in let low = bounds.0 in let high = bounds.1 in lt-ltb note.lo note.hi (omega (arith, low, high))

-- what is marked of some notes
pub record IsMarkedOf (loaded : Bool) (notes : List Note) (one : Marked) : Type 0 where
  pub place : ℕ
  pub there : slice_get notes place ≡ Some one.0
  pub some : has_keys one.0 ≡ true
  pub mark : one.1 ≡ loaded

marked_from : (loaded : Bool) (notes : List Note) (one : Marked) → Contains (marked loaded notes) one → IsMarkedOf loaded notes one
marked_from loaded notes one has =
    let from = map_in (λ note. (note, loaded)) (filter has_keys notes) one has in
    let kept = kept_in has_keys notes from.0 from.1 in
    let note : from.0 ≡ one.0 = ap (λ (m : Marked). m.0) from.2 in
    record {
      place = kept.0.0;
      there = slice_get-Contains notes from.0 kept.0 ∙ ap Some note;
      some = ap has_keys (sym note) ∙ kept.1;
      mark = ap (λ (m : Marked). m.1) (sym from.2);
    }

marked_to : (loaded : Bool) (notes : List Note) (p : ℕ) (note : Note) → slice_get notes p ≡ Some note → has_keys note ≡ true → Contains (marked loaded notes) (note, loaded)
marked_to loaded notes p note at some =
    Contains-map (λ (n : Note). (n, loaded)) (filter has_keys notes) note (Contains-filter has_keys notes note (Contains-slice_get notes p note at) some)

-- the note of a link that this is, where those before the count were loaded
pub record IsMarkedAt (g : GatheredValue) (one : Marked) : Type 0 where
  pub list : ℕ
  pub place : ℕ
  pub link : GatheredLink
  pub note : IsNoteAt g list place link one.0
  pub some : has_keys one.0 ≡ true
  pub mark : one.1 ≡ nat_lt place (loaded_count link)

-- the notes of all links that cover keys
abbrev pub all_marked : GatheredValue → List Marked
all_marked g = flat_map notes_of g.links

marked_at : (g : GatheredValue) (one : Marked) → Contains (all_marked g) one → IsMarkedAt g one
marked_at g one has =
    let from = flat_map_in notes_of g.links one has in
    let link = from.0 in
    let count = loaded_count link in
    let there = slice_get-Contains g.links link from.1 in
    ⊎_elim
    (λ first.
    let is = marked_from true (loads_of link) one first in
    let stood = taken_at link.notes count is.place one.0 is.there in
    record { list = from.1.0; place = is.place; link = link; note = record { there = there; at = stood.there }; some = is.some; mark = is.mark ∙ sym (lt-ltb is.place count stood.before) })
    (λ later.
    let is = marked_from false (drop count link.notes) one later in
    record {
      list = from.1.0;
      place = count + is.place;
      link = link;
      note = record { there = there; at = dropped_at link.notes count is.place one.0 is.there };
      some = is.some;
      mark = is.mark ∙ sym (le-ltb (count + is.place) count (omega arith));
    })
    (Contains-append_cases (marked true (loads_of link)) (marked false (drop count link.notes)) one from.2)

at_marked : (g : GatheredValue) (i p : ℕ) (link : GatheredLink) (note : Note) → IsNoteAt g i p link note → has_keys note ≡ true → Contains (all_marked g) (note, nat_lt p (loaded_count link))
at_marked g i p link note n some =
    let count = loaded_count link in
    let first = marked true (loads_of link) in
    let later = marked false (drop count link.notes) in
    Contains-flat_map notes_of g.links link (note, nat_lt p count) (Contains-slice_get g.links i link n.there)
    (⊎_elim
    (λ before.
    subst (λ b. Contains (notes_of link) (note, b)) (sym (lt-ltb p count before))
    (Contains-append_left first later (note, true) (marked_to true (loads_of link) p note (at_taken link.notes count p note n.at before) some)))
    (λ behind.
    let shift : p ≡ count + (p - count) = omega (arith, behind) in
    subst (λ b. Contains (notes_of link) (note, b)) (sym (le-ltb p count behind))
    (Contains-append_right first later (note, false)
    (marked_to false (drop count link.notes) (p - count) note (at_dropped link.notes count (p - count) note (subst (λ k. slice_get link.notes k ≡ Some note) shift n.at)) some)))
    (cases_lt p count))

same_marked : (one other : Marked) → one.0 ≡ other.0 → one.1 ≡ other.1 → one ≡ other
same_marked one other note mark = λ k. (note k, mark k)

-- a place by the note of a root key, if there is one
abbrev pub place_by : OpeningValue → ℕ → ℕ → Option Marked → Place
place_by o i root None = At (owner_in o i root)
place_by o i root (Some one) = if one.1 then At one.0.dst else Under_way one.0

part_to_place : (o : OpeningValue) (i root part : ℕ) (found : Option Marked) → part_by o i root found ≡ Some part → place_by o i root found ≡ At part
part_to_place o i root part None e = ap At (same_Some (owner_in o i root) part e)
part_to_place o i root part (Some one) e = go one.1 refl
  where
    go : (b : Bool) → one.1 ≡ b → place_by o i root (Some one) ≡ At part
    go true is = ap (λ (b : Bool). if b then At one.0.dst else Under_way one.0) is ∙ ap At (same_Some one.0.dst part (sym (ap (λ (b : Bool). if b then Some one.0.dst else None) is) ∙ e))
    go false is = absurd (let none = sym (ap (λ (b : Bool). if b then Some one.0.dst else None) is) ∙ e in cc)

at_same : (a b : ℕ) → At a ≡ At b → a ≡ b
at_same a b e = cc

way_not_at : (note : Note) (part : ℕ) → Under_way note ≡ At part → ⊥
way_not_at note part e = cc

place_to_part : (o : OpeningValue) (i root part : ℕ) (found : Option Marked) → place_by o i root found ≡ At part → part_by o i root found ≡ Some part
place_to_part o i root part None e = ap Some (at_same (owner_in o i root) part e)
place_to_part o i root part (Some one) e = go one.1 refl
  where
    go : (b : Bool) → one.1 ≡ b → part_by o i root (Some one) ≡ Some part
    go true is =
        ap (λ (b : Bool). if b then Some one.0.dst else None) is
        ∙ ap Some (at_same one.0.dst part (sym (ap (λ (b : Bool). if b then At one.0.dst else Under_way one.0) is) ∙ e))
    go false is = absurd (way_not_at one.0 part (sym (ap (λ (b : Bool). if b then At one.0.dst else Under_way one.0) is) ∙ e))

module _ (o : OpeningValue) (g : GatheredValue) (parts : HasEachPart o g) (links : LinksPlaced o g) (apart : AreDisjoint (cut_notes g)) where
  link_apart : (i : ℕ) (link : GatheredLink) → slice_get g.links i ≡ Some link → AreDisjoint (reverse link.notes)
  link_apart i link there a b one other root at at' covered covered' =
      let notes : GatheredLink → List Note = λ l. l.notes in
      let has = Contains-flat_map notes g.links link one (Contains-slice_get g.links i link there) (Contains-unreversed link.notes one (Contains-slice_get (reverse link.notes) a one at)) in
      let has' = Contains-flat_map notes g.links link other (Contains-slice_get g.links i link there) (Contains-unreversed link.notes other (Contains-slice_get (reverse link.notes) b other at')) in
      apart has.0 has'.0 one other root (slice_get-Contains (cut_notes g) one has) (slice_get-Contains (cut_notes g) other has') covered covered'

  -- notes that cover one root key are at one place
  same_place : (i j p q root : ℕ) (one two : GatheredLink) (note other : Note) → IsNoteAt g i p one note → IsNoteAt g j q two other → covers note root ≡ true → covers other root ≡ true
      → (two ≡ one) × (p ≡ q)
  same_place i j p q root one two note other n m covered covered' =
      let has = among_cut g i p one note n in
      let has' = among_cut g j q two other m in
      let same = apart has.0 has'.0 note other root (slice_get-Contains (cut_notes g) note has) (slice_get-Contains (cut_notes g) other has') covered covered' in
      let along = (and_parts (is_on_link o one.src one.dst note.seg) (runs_in o g.stage one.src one.dst) ((links i one n.there).about note (Contains-slice_get one.notes p note n.at)).segment).0 in
      let along' = subst (λ seg. is_on_link o two.src two.dst seg ≡ true) (sym same.0) (and_parts (is_on_link o two.src two.dst other.seg) (runs_in o g.stage two.src two.dst) ((links j two m.there).about other (Contains-slice_get two.notes q other m.at)).segment).0 in
      let ends = goes_both (slice_get o.recon.segments note.seg) one.src one.dst two.src two.dst along along' in
      let place = parts.each_link.one_each i j one two n.there m.there ends.0 ends.1 in
      let link : two ≡ one = same_Some two one (sym m.there ∙ subst (λ k. slice_get g.links k ≡ Some one) place n.there) in
      let notes = one.notes in
      let here : slice_get notes q ≡ Some other = subst (λ (l : GatheredLink). slice_get l.notes q ≡ Some other) link m.at in
      let once = cover_once o (reverse notes) (links i one n.there).tiles (link_apart i one n.there)
      (length notes - 1 - p) (length notes - 1 - q) root note other (at_reverse notes p note n.at) (at_reverse notes q other here) covered covered' in
      (link, same_from_end (length notes) p q (slice_get_within notes p note n.at) (slice_get_within notes q other here) once)

  -- and so one note
  one_marked : (one other : Marked) (root : ℕ) → Contains (all_marked g) one → Contains (all_marked g) other → is_over root one ≡ true → is_over root other ≡ true → one ≡ other
  one_marked one other root has has' covered covered' =
      let a = marked_at g one has in
      let b = marked_at g other has' in
      let same = same_place a.list b.list a.place b.place root a.link b.link one.0 other.0 a.note b.note covered covered' in
      let here : slice_get a.link.notes a.place ≡ Some other.0 =
      subst (λ k. slice_get a.link.notes k ≡ Some other.0) (sym same.1) (subst (λ (l : GatheredLink). slice_get l.notes b.place ≡ Some other.0) same.0 b.note.at) in
      same_marked one other
      (same_Some one.0 other.0 (sym a.note.at ∙ here))
      (a.mark ∙ ap₂ (λ k (l : GatheredLink). nat_lt k (loaded_count l)) same.1 (sym same.0) ∙ sym b.mark)

  -- a note of a chunk that was loaded, and one of any chunk
  of_loaded : (note : Note) (root : ℕ) → Contains (loaded_notes g) note → covers note root ≡ true → Contains (all_marked g) (note, true)
  of_loaded note root has covered =
      let from = flat_map_in loads_of g.links note has in
      let link = from.0 in
      let stood = taken_at link.notes (loaded_count link) from.2.0 note (slice_get-Contains (loads_of link) note from.2) in
      subst (λ b. Contains (all_marked g) (note, b)) (lt-ltb from.2.0 (loaded_count link) stood.before)
      (at_marked g from.1.0 from.2.0 link note (record { there = slice_get-Contains g.links link from.1; at = stood.there }) (covers_some note root covered))

  of_cut : (note : Note) (root : ℕ) → Contains (cut_notes g) note → covers note root ≡ true → (mark : Bool) × Contains (all_marked g) (note, mark)
  of_cut note root has covered =
      let from = flat_map_in (λ (l : GatheredLink). l.notes) g.links note has in
      let link = from.0 in (
        nat_lt from.2.0 (loaded_count link),
        at_marked g from.1.0 from.2.0 link note (record { there = slice_get-Contains g.links link from.1; at = slice_get-Contains link.notes note from.2 }) (covers_some note root covered),
      )

  module _ (notes : List Marked) (shuffled : IsPermutation (all_marked g) notes) where
    to_all : (one : Marked) → Contains notes one → Contains (all_marked g) one
    to_all one = Contains-permutation notes (all_marked g) one (IsPermutation-sym (all_marked g) notes shuffled)

    from_all : (one : Marked) → Contains (all_marked g) one → Contains notes one
    from_all one = Contains-permutation (all_marked g) notes one shuffled

    pub are_by_key : IsNonDecreasingBy first_key notes → AreByKey notes
    are_by_key sorted =
        record {
          sorted = sorted;
          some = λ one has. (marked_at g one (to_all one has)).some;
          apart = λ one other key has has' covered covered'. one_marked one other key (to_all one has) (to_all other has') covered covered';
        }

    module _ (root : ℕ) where
      none_there : find (is_over root) notes ≡ None → gathered_place o g root ≡ At (owner_in o g.stage root)
      none_there none =
          let fails = not_found (is_over root) notes none in
          let cut = none_found (λ note. covers note root) (cut_notes g) (λ note has covered. let m = of_cut note root has covered in true≢false (sym covered ∙ fails (note, m.0) (from_all (note, m.0) m.1))) in
          let loaded = none_found (λ note. covers note root) (loaded_notes g) (λ note has covered. true≢false (sym covered ∙ fails (note, true) (from_all (note, true) (of_loaded note root has covered)))) in
          ap₂ (λ c l. loaded_place (cut_place_in o g.stage root c) l) cut loaded

      module _ (one : Marked) (has : Contains (all_marked g) one) (covered : is_over root one ≡ true) where
        loaded_there : one.1 ≡ true → gathered_place o g root ≡ At one.0.dst
        loaded_there mark =
            let m = marked_at g one has in
            let before = ltb-true m.place (loaded_count m.link) (sym m.mark ∙ mark) in
            let among = Contains-flat_map loads_of g.links m.link one.0 (Contains-slice_get g.links m.list m.link m.note.there)
            (Contains-slice_get (loads_of m.link) m.place one.0 (at_taken m.link.notes (loaded_count m.link) m.place one.0 m.note.at before)) in
            let found = some_found (λ note. covers note root) (loaded_notes g) one.0 among covered in
            let same = one_marked (found.one, true) one root (of_loaded found.one root found.among found.passes) has found.passes covered in
            ap (loaded_place (cut_place_in o g.stage root (find (λ note. covers note root) (cut_notes g)))) (found.found ∙ ap (λ (x : Marked). Some x.0) same)

        cut_there : one.1 ≡ false → gathered_place o g root ≡ Under_way one.0
        cut_there mark =
            let m = marked_at g one has in
            let among = among_cut g m.list m.place m.link one.0 m.note in
            let found = some_found (λ note. covers note root) (cut_notes g) one.0 among covered in
            let of = of_cut found.one root found.among found.passes in
            let same = one_marked (found.one, of.0) one root of.1 has found.passes covered in
            let loaded = none_found (λ note. covers note root) (loaded_notes g)
            (λ note among' covered'.
            let other = one_marked (note, true) one root (of_loaded note root among' covered') has covered' covered in
            true≢false (ap (λ (x : Marked). x.1) other ∙ mark)) in
            ap₂ (λ c l. loaded_place (cut_place_in o g.stage root c) l) (found.found ∙ ap (λ (x : Marked). Some x.0) same) loaded

        marked_there : gathered_place o g root ≡ place_by o g.stage root (Some one)
        marked_there = go one.1 refl
          where
            go : (b : Bool) → one.1 ≡ b → gathered_place o g root ≡ place_by o g.stage root (Some one)
            go true is = loaded_there is ∙ sym (ap (λ (b : Bool). if b then At one.0.dst else Under_way one.0) is)
            go false is = cut_there is ∙ sym (ap (λ (b : Bool). if b then At one.0.dst else Under_way one.0) is)

      -- the note that is found to cover a root key gives its place
      place_is : gathered_place o g root ≡ place_by o g.stage root (find (is_over root) notes)
      place_is = go (find (is_over root) notes) refl
        where
          go : (found : Option Marked) → find (is_over root) notes ≡ found → gathered_place o g root ≡ place_by o g.stage root (find (is_over root) notes)
          go None e = none_there e ∙ sym (ap (place_by o g.stage root) e)
          go (Some one) e = let is = found_in (is_over root) notes one e in marked_there one (to_all one is.0) is.1 ∙ sym (ap (place_by o g.stage root) e)

    -- a family of a chunk is where it belongs
    chunk_placed : (i j root : ℕ) (family : FamilyValue) → StandsAt g (Chunk i j) root family → IsSpotOf g (Chunk i j) (gathered_place o g root)
    chunk_placed i j root family stands =
        let at = of_some (λ (c : ChunkValue). family_in c.families root) (chunk_in g i j) family stands in
        let chunk = at.0 in
        let of = of_some (λ (l : GatheredLink). slice_get l.under_way j) (slice_get g.links i) chunk at.1 in
        let link = of.0 in
        let count = loaded_count link in
        let is = links i link of.1 in
        let way : slice_get (drop count link.notes) j ≡ Some chunk.note = sym (ap (λ (ns : List Note). slice_get ns j) is.way) ∙ at_map (λ (c : ChunkValue). c.note) link.under_way j chunk of.2 in
        let note : IsNoteAt g i (count + j) link chunk.note = record { there = of.1; at = dropped_at link.notes count j chunk.note way } in
        let covered = carried_covered chunk root family (is.within chunk (Contains-slice_get link.under_way j chunk of.2)) at.2 in
        let has = subst (λ b. Contains (all_marked g) (chunk.note, b)) (le-ltb (count + j) count (omega arith)) (at_marked g i (count + j) link chunk.note note (covers_some chunk.note root covered)) in
        (chunk, at.1, cut_there root (chunk.note, false) has covered refl)

    module _ (entries : List Entry) (lists : ListsAll g entries) where
      abbrev IsRight : Entry → Type 0
      IsRight = IsPlacedBy o g.stage notes

      placed_from : ((entry : Entry) → Contains entries entry → IsRight entry) → ArePlaced o g
      placed_from right (Store part) root family stands =
          let same = (lists.keyed (Store part) root family stands).same_root in
          let at = subst (λ k. part_by o g.stage k (find (is_over k) notes) ≡ Some part) same (right (Store part, family) (lists.each (Store part) root family stands)) in
          place_is root ∙ part_to_place o g.stage root part (find (is_over root) notes) at
      placed_from right (Chunk i j) root family stands = chunk_placed i j root family stands

      right_from : ArePlaced o g → (spot : Spot) (family : FamilyValue) → Contains entries (spot, family) → IsRight (spot, family)
      right_from placed (Store part) family has =
          let root = family.root in
          place_to_part o g.stage root part (find (is_over root) notes) (sym (place_is root) ∙ placed (Store part) root family (lists.here (Store part, family) has))
      right_from placed (Chunk i j) family has = tt

      pub placed_are : (b : Bool) → Decides b ((entry : Entry) → Contains entries entry → IsRight entry) → Decides b (ArePlaced o g)
      placed_are b decides = Decides-like b placed_from (λ placed entry has. right_from placed entry.0 entry.1 has) decides
