-- On a legal trace what Cut and Load ask of the trace holds.
use Rattle.std.proofs.Common.{subst, inl, inr, ◌≡◌, ℕ, List, [], ◌∷◌, ◌++◌, sym, ap, ◌∙◌}
use Rattle.std.specs.Prelude.{drop, reverse, slice_get, Some, option_map}
use Rattle.std.specs.List.{Contains}
use Rattle.std.proofs.lemmas.List.{reverse-append}
use Rattle.std.proofs.lemmas.List.Elements.{Contains-append_left, Contains-push}
use Rattle.std.proofs.lemmas.Option.{slice_get-map}
use Rattle.sq_store.specs.declared.chunk.Note.{Note}
use Rattle.sq_store.specs.ChunkValue.{ChunkValue, covers}
use Rattle.sq_moves.specs.OpeningValue.{OpeningValue}
use Rattle.sq_moves.specs.Opening.{IsOpening}
use Rattle.sq_model.specs.Trace.{Trace, loads, load_count}
use Rattle.sq_model.specs.Nodes.{Item}
use Rattle.sq_model.specs.Links.{open_items}
use Rattle.sq_model.specs.Legal.{IsLegal}
use Rattle.sq_model.proofs.Lists.{nothing_found, Contains-nothing, Contains-cases, Contains-slice_get}
use Rattle.sq_model.proofs.Statuses.{distinct_items}
use Rattle.sq_model.proofs.Notes.{SegmentGoes, LoadNext, note_goes, prefix, next_has, next_found, open_item}
use Rattle.sq_model.proofs.Places.{uncut_unloaded, left_uncut, left_home, next_place, goes_below}
use Rattle.sq_transition.specs.WorldValue.{WholeLink, under_way}
use Rattle.sq_transition.specs.Holds.{LinkHolds, comes_into}
use Rattle.sq_transition.proofs.LinkEnds.{EndsBelow}
use Rattle.sq_transition.proofs.Loads.{NextFacts, LoadFacts}
use Rattle.sq_transition.proofs.Cuts.{OpenFacts, CutFacts}

-- a reversed list contains the same
Contains-reverse : {X : Type 0} (xs : List X) (x : X) → Contains xs x → Contains (reverse xs) x
Contains-reverse [] x has = absurd (Contains-nothing x has)
Contains-reverse (y ∷ xs) x has =
    subst (λ list. Contains list x) (sym (reverse-append (y ∷ []) xs))
    (elim (Contains-cases y xs x has) [
      | inl same ↦ subst (Contains (reverse xs ++ y ∷ [])) same (Contains-push (reverse xs) y)
      | inr later ↦ Contains-append_left (reverse xs) (y ∷ []) x (Contains-reverse xs x later)
    ])

-- the note of a chunk under way is one of those that aren't loaded
pub on_its_way : (o : OpeningValue) (t : Trace) (l : WholeLink) → LinkHolds o t l → (i : ℕ) (chunk : ChunkValue) → slice_get (under_way l) i ≡ Some chunk → Contains (reverse (drop (load_count t l.src l.dst) l.out.notes)) chunk.note
on_its_way o t l h i chunk at =
    Contains-reverse (drop (load_count t l.src l.dst) l.out.notes) chunk.note
    (Contains-slice_get (drop (load_count t l.src l.dst) l.out.notes) i chunk.note
    (ap (λ list. slice_get list i) (sym h.way) ∙ slice_get-map (λ (c : ChunkValue). c.note) (under_way l) i ∙ ap (option_map (λ (c : ChunkValue). c.note)) at))

-- a segment that goes to a partition reaches it
goes_comes : (o : OpeningValue) (seg src dst : ℕ) → SegmentGoes o seg src dst → comes_into o dst seg
goes_comes o seg src dst goes = (goes.segment, goes.there, goes.destination)

module _ (o : OpeningValue) (t : Trace) (is : IsOpening o) (legal : IsLegal o t) where
  -- a segment's ends are partitions
  ends_below : (seg src dst : ℕ) → SegmentGoes o seg src dst → EndsBelow o src dst
  ends_below seg src dst goes = let below = goes_below o is t legal seg src dst goes in record { source = below.0; destination = below.1 }

  next_facts : (src dst : ℕ) (note : Note) → LoadNext t src dst note → NextFacts o t src dst note
  next_facts src dst note next =
      let has = next_has t src dst note next in
      record {
        comes_from = has.1.source;
        goes_to = has.1.destination;
        arrives = subst (λ part. comes_into o part note.seg) has.1.destination (goes_comes o note.seg note.src note.dst (note_goes o t legal note has.0));
        found = next_found o t legal src dst note next;
        away = next_place o is t legal src dst note next;
      }

  pub load_facts : LoadFacts o t
  load_facts = record {
    prefix = prefix o t legal;
    next = λ src dst front note notes_are. next_facts src dst note (record { front = front; notes_are = notes_are });
  }

  open_facts : (src dst : ℕ) (item : Item) → Contains (open_items o t src dst) item → OpenFacts o t src dst item
  open_facts src dst item has =
      let open_is = open_item o t src dst item has in
      record {
        below = ends_below item.seg src dst open_is.segment;
        home = left_home o is t legal src dst item open_is;
        unloaded = λ root from upto. nothing_found (λ (note : Note). covers note root) (loads t) (uncut_unloaded o is t legal root (left_uncut o is t legal item open_is.among root from upto));
      }

  pub cut_facts : CutFacts o t
  cut_facts = record { distinct = distinct_items o t legal; each = open_facts }
