-- On a legal trace one begun node at most has a root key in its extent, so that one note at most covers the key.
use Rattle.std.proofs.Common.{◌≡◌, ℕ, zero, suc, ◌<◌, ◌≤◌, true, false, nat_le, nat_lt, List, [], ◌∷◌, slice_get, find, Contains, Option, Some, None, refl, sym, ap, ap₂, ◌∙◌, subst, subst₂, true≢false, arith}
use Rattle.std.proofs.lemmas.Bool.{and_parts, and_from, le-leb, leb-true, ltb-true, lt-ltb}
use Rattle.std.proofs.lemmas.Option.{same_Some}
use Rattle.sq_moves.specs.declared.status.Status.{Status}
use Rattle.sq_moves.specs.declared.status.Status.TheVariants.{Partial, Complete}
use Rattle.sq_moves.specs.Node.{is_above}
use Rattle.sq_moves.specs.Status.{is_free, is_split, is_begun, covering}
use Rattle.sq_moves.proofs.Covering.{covering_touched}
use Rattle.sq_store.specs.declared.chunk.Note.{Note}
use Rattle.sq_store.specs.ChunkValue.{covers}
use Rattle.sq_moves.specs.declared.recon.Range.{Range}
use Rattle.sq_moves.specs.ReconValue.{segment_of, leaf_of}
use Rattle.sq_moves.specs.OpeningValue.{OpeningValue}
use Rattle.sq_moves.specs.Opening.{IsOpening}
use Rattle.sq_model.specs.Trace.{Trace, notes, loads}
use Rattle.sq_model.specs.Nodes.{status_of}
use Rattle.sq_model.specs.Place.{source, destination, extent_of, is_within}
use Rattle.sq_model.specs.Links.{reached}
use Rattle.sq_model.specs.Orderly.{GoesOn, Tiles, AreDisjoint, CoverOnce}
use Rattle.sq_model.specs.Legal.{IsLegal}
use Rattle.sq_model.proofs.Lists.{Contains-slice_get, slice_get-Contains, found_in, not_found}
use Rattle.sq_model.proofs.Statuses.{grown, is_there}
use Rattle.sq_model.proofs.Tiles.{IsTile, tile}
use Rattle.sq_model.proofs.Notes.{note_goes, note_begun, loaded_in, tiles_notes, tiles_loads}
use Rattle.sq_model.proofs.Keys.{IsIn, found_in_segment, under}

pub begun_touched : (st : Status) → is_begun st ≡ true → (is_free st ≡ false) × (is_split st ≡ false)
begun_touched (Partial p) begun = (refl, refl)
begun_touched (Complete p) begun = (refl, refl)
begun_touched st begun = absurd cc

-- a note that covers a key covers one of its node's extent
pub covers_bounds : (note : Note) (root : ℕ) → covers note root ≡ true → (note.lo ≤ root) × (root < note.hi)
covers_bounds note root covered =
    let parts = and_parts (nat_le note.lo root) (nat_lt root note.hi) covered in
    (leb-true note.lo root parts.0, ltb-true root note.hi parts.1)

pub covers_extent : (o : OpeningValue) (ns : List Note) (note : Note) (root : ℕ) → IsTile o ns note → covers note root ≡ true → is_within (extent_of o note.seg note.node) root ≡ true
covers_extent o ns note root is covered =
    let bounds = covers_bounds note root covered in
    let keys = extent_of o note.seg note.node in
    let from = is.from in
    let upto = is.upto in
    and_from (nat_le keys.lo root) (nat_lt root keys.hi) (le-leb keys.lo root (omega arith)) (lt-ltb root keys.hi (omega arith))

module _ (o : OpeningValue) (is : IsOpening o) (t : Trace) (legal : IsLegal o t) where
  -- a begun node above a key's leaf is the one that covers it
  pub begun_covers : (root g n : ℕ) (segment : Range) → IsIn o root g segment → is_above n (leaf_of o.recon.width segment root) ≡ true → is_begun (status_of t g n) ≡ true → covering (status_of t g) (leaf_of o.recon.width segment root) ≡ n
  begun_covers root g n segment at above begun =
      let touched = begun_touched (status_of t g n) begun in
      covering_touched (status_of t g) (grown o t legal g) (leaf_of o.recon.width segment root) n at.leaf (is_there o t legal g n touched.0).node above touched.0 touched.1

  -- so where a begun node has a key in its extent, the key gives the segment and the node
  pub record IsBegunOver (root g n : ℕ) (segment : Range) : Type 0 where
    pub found : segment_of o.recon.segments root ≡ Some g
    pub at : IsIn o root g segment
    pub node : covering (status_of t g) (leaf_of o.recon.width segment root) ≡ n

  pub begun_over : (root g n : ℕ) → is_within (extent_of o g n) root ≡ true → is_begun (status_of t g n) ≡ true → (segment : Range) × IsBegunOver root g n segment
  begun_over root g n within begun =
      let below = under o is root g n within in
      let at = found_in_segment o is root g below.found in
      let same : below.segment ≡ at.0 = let e = sym below.there ∙ at.1.there in cc in (
        at.0,
        record {
          found = below.found;
          at = at.1;
          node = begun_covers root g n at.0 at.1 (subst (λ (s : Range). is_above n (leaf_of o.recon.width s root) ≡ true) same below.above) begun;
        },
      )

  pub one_begun : (root g n h m : ℕ) → is_within (extent_of o g n) root ≡ true → is_begun (status_of t g n) ≡ true → is_within (extent_of o h m) root ≡ true → is_begun (status_of t h m) ≡ true → (g ≡ h) × (n ≡ m)
  one_begun root g n h m within begun within' begun' =
      let one = begun_over root g n within begun in
      let other = begun_over root h m within' begun' in
      let same : g ≡ h = let e = sym one.1.found ∙ other.1.found in cc in
      let segments : one.0 ≡ other.0 = let e = sym one.1.at.there ∙ subst (λ k. slice_get o.recon.segments k ≡ Some other.0) (sym same) other.1.at.there in cc in
      (same, sym one.1.node ∙ ap₂ (λ k (s : Range). covering (status_of t k) (leaf_of o.recon.width s root)) same segments ∙ other.1.node)

  -- the notes that cover a key are of one node
  pub one_node : (root : ℕ) (one other : Note) → Contains (notes t) one → Contains (notes t) other → covers one root ≡ true → covers other root ≡ true → (one.seg ≡ other.seg) × (one.node ≡ other.node)
  one_node root one other has has' covered covered' =
      one_begun root one.seg one.node other.seg other.node
      (covers_extent o (notes t) one root (tile o (notes t) (tiles_notes o t legal) one has) covered) (note_begun o t legal one has)
      (covers_extent o (notes t) other root (tile o (notes t) (tiles_notes o t legal) other has') covered') (note_begun o t legal other has')

  pub apart : AreDisjoint (notes t)
  apart i j one other root at at' covered covered' =
      one_node root one other (Contains-slice_get (notes t) i one at) (Contains-slice_get (notes t) j other at') covered covered'

-- a note covers no key of those of its node before it
past : (o : OpeningValue) (next : Note) (ns : List Note) → GoesOn o next ns → Tiles o ns → (note : Note) → Contains ns note → (next.seg ≡ note.seg) × (next.node ≡ note.node) → (root : ℕ) → covers next root ≡ true → covers note root ≡ true → ⊥
past o next ns goes tiles note has same root covered covered' =
    let behind = (tile o ns tiles note has).behind in
    let begins : next.lo ≡ reached o note.seg note.node ns = subst₂ (λ g n. next.lo ≡ reached o g n ns) same.0 same.1 goes.begins in
    let low = (covers_bounds next root covered).0 in
    let high = (covers_bounds note root covered').1 in
    omega arith

-- of notes that tile their nodes, and share no key with those of other nodes, one covers a key
pub cover_once : (o : OpeningValue) (ns : List Note) → Tiles o ns → AreDisjoint ns → CoverOnce ns
cover_once o [] tiles disjoint i j root one other at at' covered covered' = absurd cc
cover_once o (next ∷ ns) tiles disjoint zero zero root one other at at' covered covered' = refl
cover_once o (next ∷ ns) tiles disjoint zero (suc j) root one other at at' covered covered' =
    let goes : GoesOn o one ns = subst (λ note. GoesOn o note ns) (same_Some next one at) tiles.0 in
    absurd (past o one ns goes tiles.1 other (Contains-slice_get ns j other at') (disjoint 0 (suc j) one other root at at' covered covered') root covered covered')
cover_once o (next ∷ ns) tiles disjoint (suc i) zero root one other at at' covered covered' =
    let goes : GoesOn o other ns = subst (λ note. GoesOn o note ns) (same_Some next other at') tiles.0 in
    absurd (past o other ns goes tiles.1 one (Contains-slice_get ns i one at) (disjoint 0 (suc i) other one root at' at covered' covered) root covered' covered)
cover_once o (next ∷ ns) tiles disjoint (suc i) (suc j) root one other at at' covered covered' =
    ap suc (cover_once o ns tiles.1 (λ a b. disjoint (suc a) (suc b)) i j root one other at at' covered covered')

module _ (o : OpeningValue) (is : IsOpening o) (t : Trace) (legal : IsLegal o t) where
  pub cut_once : CoverOnce (notes t)
  cut_once = cover_once o (notes t) (tiles_notes o t legal) (apart o is t legal)

  pub loaded_once : CoverOnce (loads t)
  loaded_once =
      cover_once o (loads t) (tiles_loads o t legal) (λ i j one other root at at' covered covered'.
      one_node o is t legal root one other
      (loaded_in o t legal one (Contains-slice_get (loads t) i one at)) (loaded_in o t legal other (Contains-slice_get (loads t) j other at')) covered covered')

  -- so one note covers a key
  pub one_note : (root : ℕ) (one other : Note) → Contains (notes t) one → Contains (notes t) other → covers one root ≡ true → covers other root ≡ true → one ≡ other
  one_note root one other has has' covered covered' =
      let at = slice_get-Contains (notes t) one has in
      let at' = slice_get-Contains (notes t) other has' in
      same_Some one other (sym at ∙ ap (slice_get (notes t)) (cut_once has.0 has'.0 root one other at at' covered covered') ∙ at')

  -- the note that is found to cover a key is the one that does
  pub found_note : (root : ℕ) (note : Note) → Contains (notes t) note → covers note root ≡ true → find (λ other. covers other root) (notes t) ≡ Some note
  found_note root note has covered = at (find (λ other. covers other root) (notes t)) refl
    where
      at : (found : Option Note) → find (λ (other : Note). covers other root) (notes t) ≡ found → find (λ (other : Note). covers other root) (notes t) ≡ Some note
      at (Some other) e =
          let here = found_in (λ (n : Note). covers n root) (notes t) other e in
          e ∙ ap Some (one_note root other note here.0 has here.1 covered)
      at None e = absurd (true≢false (sym covered ∙ not_found (λ (n : Note). covers n root) (notes t) e note has))

  -- a note that covers a key goes from the key's source to its destination
  pub record GoesWith (root : ℕ) (note : Note) : Type 0 where
    pub from : note.src ≡ source o root
    pub to : note.dst ≡ destination o root

  pub note_ends : (root : ℕ) (note : Note) → Contains (notes t) note → covers note root ≡ true → GoesWith root note
  note_ends root note has covered =
      let goes = note_goes o t legal note has in
      let over = begun_over o is t legal root note.seg note.node (covers_extent o (notes t) note root (tile o (notes t) (tiles_notes o t legal) note has) covered) (note_begun o t legal note has) in
      let same : goes.segment ≡ over.0 = let e = sym goes.there ∙ over.1.at.there in cc in
      record {
        from = sym goes.source ∙ ap (λ (s : Range). s.src) same ∙ sym over.1.at.source_is;
        to = sym goes.destination ∙ ap (λ (s : Range). s.dst) same ∙ sym over.1.at.destination_is;
      }
