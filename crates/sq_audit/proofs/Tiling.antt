-- Walks over notes, the oldest first, against lists with the newest first.
use Rattle.std.proofs.Common.{◌≡◌, inl, inr, ℕ, ◌+◌, Bool, true, false, ◌==◌, ◌&&◌, ◌||◌, List, [], ◌∷◌, ◌++◌, length, take, drop, slice_get, find, Option, Some, refl, sym, ap, ◌∙◌, subst, subst₂, arith}
use Rattle.std.specs.Prelude.{cond, reverse}
use Rattle.std.specs.Ordering.{nat_cmp}
use Rattle.std.specs.Cmp.{unsigned_tied, both_tied}
use Rattle.std.specs.BTreeMap.{BTreeMap, get, Updates}
use Rattle.std.proofs.lemmas.Bool.{cases_Bool, cond-true, cond-false}
use Rattle.std.proofs.lemmas.List.{take_more, take-append-drop, reverse-append, length-reverse, length-take-le}
use Rattle.std.proofs.lemmas.Option.{slice_get_within, get_or_from_slice_get}
use Rattle.sq_gather.specs.Prelude.{Note, Extent, OpeningValue, extent_of, is_about, has_last, AreNumbered, GoesOn, Tiles}
use Rattle.sq_gather.proofs.Prelude.{about_is}
use Rattle.sq_audit.specs.Counts.{key_order}
use Rattle.sq_audit.specs.Notes.{is_last_note, FollowsNewest}

-- what was walked of a list, the newest first
abbrev pub walked : {X : Type 0} → List X → ℕ → List X
walked xs i = reverse (take i xs)

pub walked_more : {X : Type 0} (xs : List X) (i : ℕ) (x : X) → slice_get xs i ≡ Some x → walked xs (i + 1) ≡ x ∷ walked xs i
walked_more xs i x at =
    let within = slice_get_within xs i x at in
    ap reverse (take_more xs i x within ∙ ap (λ y. take i xs ++ y ∷ []) (get_or_from_slice_get xs i x x at)) ∙ reverse-append (take i xs) (x ∷ [])

-- what holds of a list holds of what was walked of it, where it doesn't need what came later
module _ {X : Type 0} (P : List X → Type 0) (earlier : (x : X) (xs : List X) → P (x ∷ xs) → P xs) where
  behind : (xs ys : List X) → P (xs ++ ys) → P ys
  behind [] ys holds = holds
  behind (x ∷ xs) ys holds = behind xs ys (earlier x (xs ++ ys) holds)

  pub walked_holds : (xs : List X) (i : ℕ) → P (reverse xs) → P (walked xs i)
  walked_holds xs i holds = behind (reverse (drop i xs)) (walked xs i) (subst P (ap reverse (sym (take-append-drop i xs)) ∙ reverse-append (take i xs) (drop i xs)) holds)

-- notes that are numbered
pub number_at : (notes : List Note) (i : ℕ) (note : Note) → slice_get notes i ≡ Some note → AreNumbered (reverse notes) → note.number ≡ i
number_at notes i note at numbered =
    let within = slice_get_within notes i note at in
    let count : length (walked notes i) ≡ i = length-reverse (take i notes) ∙ length-take-le i notes (omega (arith, within)) in
    let here = subst AreNumbered (walked_more notes i note at) (walked_holds AreNumbered (λ x xs all. all.1) notes (i + 1) numbered) in
    here.0 ∙ count

-- of notes that tile, the newest one of a node shows whether its last note is among them
or_none : (a b : Bool) → b ≡ false → (a || b) ≡ a
or_none true b none = refl
or_none false b none = none

pub last_is : (o : OpeningValue) (ns : List Note) → Tiles o ns → (seg node : ℕ) → has_last seg node ns ≡ is_last_note (find (is_about seg node) ns)
last_is o [] tiles seg node = refl
last_is o (note ∷ ns) tiles seg node =
    elim (cases_Bool (is_about seg node note)) [
      | inl about ↦
          let is = about_is seg node note about in
          let none : has_last seg node ns ≡ false = subst₂ (λ g n. has_last g n ns ≡ false) is.0 is.1 tiles.0.first_last in
          ap (λ b. (b && note.last) || has_last seg node ns) about
          ∙ or_none note.last (has_last seg node ns) none
          ∙ sym (ap is_last_note (cond-true (is_about seg node note) (Some note) (find (is_about seg node) ns) about))
      | inr other ↦
          ap (λ b. (b && note.last) || has_last seg node ns) other
          ∙ last_is o ns tiles.1 seg node
          ∙ sym (ap is_last_note (cond-false (is_about seg node note) (Some note) (find (is_about seg node) ns) other))
    ]

-- so a note continues exactly if it follows the newest one
module _ (o : OpeningValue) (ns : List Note) (tiles : Tiles o ns) (note : Note) where
  abbrev extent : Extent
  extent = extent_of o note.seg note.node

  abbrev newest : Option Note
  newest = find (is_about note.seg note.node) ns

  pub goes_on : FollowsNewest extent newest note → GoesOn o note ns
  goes_on c =
      record {
        begins = c.part.begins;
        rises = c.part.rises;
        within = c.part.within;
        last = c.part.last;
        first_last = last_is o ns tiles note.seg note.node ∙ c.unfinished;
      }

  pub continues : GoesOn o note ns → FollowsNewest extent newest note
  continues g =
      record {
        part = record { begins = g.begins; rises = g.rises; within = g.within; last = g.last };
        unfinished = sym (last_is o ns tiles note.seg note.node) ∙ g.first_last;
      }

-- the map has the newest of these notes of each node
abbrev pub HasNewest : List Note → BTreeMap (ℕ × ℕ) Note → Type 0
HasNewest ns newest = (seg node : ℕ) → get key_order newest (seg, node) ≡ find (is_about seg node) ns

pub newest_more : (ns : List Note) (note : Note) (old new : BTreeMap (ℕ × ℕ) Note) → Updates key_order old new (note.seg, note.node) (Some note) → HasNewest ns old → HasNewest (note ∷ ns) new
newest_more ns note old new updates so_far seg node =
    let tied = both_tied (note.seg == seg) (note.node == node) (nat_cmp note.seg seg) (nat_cmp note.node node) (sym (unsigned_tied note.seg seg)) (sym (unsigned_tied note.node node)) in
    updates.0 (seg, node)
    ∙ ap (λ b. cond b (Some note) (get key_order old (seg, node))) (sym tied)
    ∙ ap (cond (is_about seg node note) (Some note)) (so_far seg node)

-- one more note was walked
pub record Walked (o : OpeningValue) (notes : List Note) (i : ℕ) (newest : BTreeMap (ℕ × ℕ) Note) : Type 0 where
  pub tiles : Tiles o (walked notes i)
  pub newest_are : HasNewest (walked notes i) newest

module _ (o : OpeningValue) (notes : List Note) (i : ℕ) (note : Note) (at : slice_get notes i ≡ Some note) (old : BTreeMap (ℕ × ℕ) Note) (so_far : Walked o notes i old) where
  -- the newest note of its node before it
  pub newest_is : get key_order old (note.seg, note.node) ≡ find (is_about note.seg note.node) (walked notes i)
  newest_is = so_far.newest_are note.seg note.node

  pub walked_next : (new : BTreeMap (ℕ × ℕ) Note) → FollowsNewest (extent_of o note.seg note.node) (get key_order old (note.seg, note.node)) note → Updates key_order old new (note.seg, note.node) (Some note)
      → Walked o notes (i + 1) new
  walked_next new follows updates =
      let back = sym (walked_more notes i note at) in
      record {
        tiles = subst (Tiles o) back
            (goes_on o (walked notes i) so_far.tiles note (subst (λ before. FollowsNewest (extent_of o note.seg note.node) before note) newest_is follows), so_far.tiles);
        newest_are = subst (λ ns. HasNewest ns new) back (newest_more (walked notes i) note old new updates so_far.newest_are);
      }

  -- where all tile this one continues
  pub walked_follows : Tiles o (reverse notes) → FollowsNewest (extent_of o note.seg note.node) (get key_order old (note.seg, note.node)) note
  walked_follows tiles =
      let here = subst (Tiles o) (walked_more notes i note at) (walked_holds (Tiles o) (λ x xs all. all.1) notes (i + 1) tiles) in
      subst (λ before. FollowsNewest (extent_of o note.seg note.node) before note) (sym newest_is) (continues o (walked notes i) so_far.tiles note here.0)
