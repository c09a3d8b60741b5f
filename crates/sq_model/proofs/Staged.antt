-- On a legal trace the running stage alone says what is where: the stages before it are done, and those after it
-- haven't begun.
use Rattle.std.proofs.Common.{◌≡◌, inl, inr, ℕ, ◌+◌, ◌<◌, ◌≤◌, Bool, true, false, ◌==◌, ◌&&◌, ◌||◌, not, nat_lt, is_some, if◌then◌else◌, List, [], ◌∷◌, ◌++◌, find, filter, slice_get, Contains, Option, Some, None, refl, sym, ap, ap₂, ◌∙◌, subst, true≢false, append_assoc, arith}
use Rattle.std.specs.List.{list_any}
use Rattle.std.proofs.lemmas.Bool.{cases_Bool, and_parts, and_from, lt-ltb, ltb-true, eqb-true, cond_both, cond-true, cond-false, false_from_ne_true}
use Rattle.std.proofs.lemmas.List.Elements.{Contains-append_cases, Contains-append_left, Contains-append_right, Contains-push_cases, filter-append}
use Rattle.std.proofs.lemmas.List.Folds.{list_any-append}
use Rattle.sq_moves.specs.declared.status.Status.TheVariants.{Free, Split, Claimed, Partial, Complete}
use Rattle.sq_store.specs.declared.chunk.Note.{Note}
use Rattle.sq_store.specs.ChunkValue.{covers}
use Rattle.sq_moves.specs.declared.recon.Range.{Range}
use Rattle.sq_moves.specs.ReconValue.{segment_of, stage_on, stage_in, stage_found, stage_at, is_link}
use Rattle.sq_moves.specs.OpeningValue.{OpeningValue}
use Rattle.sq_moves.specs.Opening.{IsOpening}
use Rattle.sq_model.specs.declared.step.Step.TheVariants.{Split as Split_step, Claim, Begin, Cut, Push, Pop, Load, Complete as Complete_step, Next}
use Rattle.sq_model.specs.declared.answer.Answer.TheVariants.{Done, WasCut, WasLoaded}
use Rattle.sq_model.specs.Trace.{Trace, stage, notes, loads, link, pushes, push_count, pops, pop_count}
use Rattle.sq_model.specs.Nodes.{Item, sets_status, status_of, items}
use Rattle.sq_model.specs.Place.{At, source, destination, moves, is_covered, is_begun_over, extent_of, is_within, loaded_place, cut_place, place_from, place, runner}
use Rattle.sq_model.specs.Links.{is_about, has_last, is_on_link, is_open, open_items}
use Rattle.sq_model.specs.Answers.{is_running_link}
use Rattle.sq_model.specs.Legal.{IsLegal}
use Rattle.sq_model.specs.Staged.{since, has_moved, owner_in, place_in, runner_in, TellsAlone}
use Rattle.sq_model.proofs.Lists.{Contains-nothing, Contains-cases, any_in, list_any-Contains, nothing_found, nothing_kept}
use Rattle.sq_model.proofs.Steps.{IsRunning, of_stage_is, split_goes, claim_goes, begin_goes, complete_goes, cut_goes, load_goes, cut_is_of, load_is_of, push_runs, pop_runs}
use Rattle.sq_model.proofs.Statuses.{set_if_at}
use Rattle.sq_model.proofs.Notes.{SegmentGoes, on_link_goes, goes_once, note_goes, loaded_in}
use Rattle.sq_model.proofs.Tiles.{about_is}
use Rattle.sq_model.proofs.Keys.{found_in_segment, moves_found, under}
use Rattle.sq_model.proofs.Apart.{note_ends}
use Rattle.sq_model.proofs.Routing.{cut_none}
use Rattle.sq_model.proofs.Places.{loaded_away}
use Rattle.sq_model.proofs.Waiters.{went-loaded}

-- a list begins with what came in this stage, and the rest of it is of stages before
pub record IsSince {X : Type 0} (f : X → ℕ) (i : ℕ) (now all : List X) : Type 0 where
  pub older : List X
  pub made : all ≡ now ++ older
  pub here : (x : X) → Contains now x → f x ≡ i
  pub past : (x : X) → Contains older x → f x < i

since_none : {X : Type 0} (f : X → ℕ) (i : ℕ) → IsSince f i [] []
since_none f i = record { older = []; made = refl; here = λ x has. absurd (Contains-nothing x has); past = λ x has. absurd (Contains-nothing x has) }

since_more : {X : Type 0} (f : X → ℕ) (i : ℕ) (x : X) (now all : List X) → f x ≡ i → IsSince f i now all → IsSince f i (x ∷ now) (x ∷ all)
since_more f i x now all is h = record {
  older = h.older;
  made = ap (λ xs. x ∷ xs) h.made;
  here = λ y has. elim (Contains-cases x now y has) [ inl same ↦ ap f (sym same) ∙ is | inr later ↦ h.here y later ];
  past = h.past;
}

all_past : {X : Type 0} (f : X → ℕ) (i : ℕ) (now older : List X) → ((x : X) → Contains now x → f x ≡ i) → ((x : X) → Contains older x → f x < i) → (x : X) → Contains (now ++ older) x → f x < i + 1
all_past f i now older here past x has =
    elim (Contains-append_cases now older x has) [
      | inl new ↦ omega (arith, here x new)
      | inr old ↦ omega (arith, past x old)
    ]

since_next : {X : Type 0} (f : X → ℕ) (i : ℕ) (now all : List X) → IsSince f i now all → IsSince f (i + 1) [] all
since_next {X = X} f i now all h = record {
  older = all;
  made = refl;
  here = λ x has. absurd (Contains-nothing x has);
  past = λ x has. all_past f i now h.older h.here h.past x (subst (λ (xs : List X). Contains xs x) h.made has);
}

abbrev pub note_stage : OpeningValue → Note → ℕ
note_stage o note = stage_on o.recon note.src note.dst

pub notes_since : (o : OpeningValue) (t : Trace) → IsLegal o t → IsSince (note_stage o) (stage t) (notes (since t)) (notes t)
notes_since o [] legal = since_none (note_stage o) 0
notes_since o ((Next, Done) ∷ t) legal = since_next (note_stage o) (stage t) (notes (since t)) (notes t) (notes_since o t legal.1)
notes_since o ((Cut src dst, WasCut note families) ∷ t) legal =
    let goes = cut_goes o t src dst note families legal.0 in
    let of = cut_is_of o t src dst note families goes in
    since_more (note_stage o) (stage t) note (notes (since t)) (notes t) (ap₂ (stage_on o.recon) of.source of.destination ∙ goes.stage) (notes_since o t legal.1)
notes_since o ((step, given) ∷ t) legal = notes_since o t legal.1

pub loads_since : (o : OpeningValue) (t : Trace) → IsLegal o t → IsSince (note_stage o) (stage t) (loads (since t)) (loads t)
loads_since o [] legal = since_none (note_stage o) 0
loads_since o ((Next, Done) ∷ t) legal = since_next (note_stage o) (stage t) (loads (since t)) (loads t) (loads_since o t legal.1)
loads_since o ((Load src dst, WasLoaded note families) ∷ t) legal =
    let goes = load_goes o t src dst note families legal.0 in
    let of = (load_is_of o t src dst note families goes).1 in
    since_more (note_stage o) (stage t) note (loads (since t)) (loads t) (ap₂ (stage_on o.recon) of.source of.destination ∙ goes.stage) (loads_since o t legal.1)
loads_since o ((step, given) ∷ t) legal = loads_since o t legal.1

-- the same of a list whose newest element is its last
record IsLastSince {X : Type 0} (f : X → ℕ) (i : ℕ) (now all : List X) : Type 0 where
  older : List X
  made : all ≡ older ++ now
  here : (x : X) → Contains now x → f x ≡ i
  past : (x : X) → Contains older x → f x < i

abbrev item_stage : OpeningValue → Item → ℕ
item_stage o item = stage_at o.recon item.seg

items_since : (o : OpeningValue) (t : Trace) → IsLegal o t → IsLastSince (item_stage o) (stage t) (items (since t)) (items t)
items_since o [] legal = record { older = []; made = refl; here = λ x has. absurd (Contains-nothing x has); past = λ x has. absurd (Contains-nothing x has) }
items_since o ((Next, Done) ∷ t) legal =
    let h = items_since o t legal.1 in
    record {
      older = items t;
      made = nothing_after (items t);
      here = λ x has. absurd (Contains-nothing x has);
      past = λ x has.
          elim (Contains-append_cases h.older (items (since t)) x (subst (λ (xs : List Item). Contains xs x) h.made has)) [
            | inl old ↦ before (item_stage o x) (stage t) (h.past x old)
            | inr new ↦ omega (arith, h.here x new)
          ];
    }
  where
    before : (a b : ℕ) → a < b → a < b + 1
    before a b low = omega arith

    nothing_after : (xs : List Item) → xs ≡ xs ++ []
    nothing_after [] = refl
    nothing_after (x ∷ xs) = ap (λ ys. x ∷ ys) (nothing_after xs)
items_since o ((Begin seg node pull, Done) ∷ t) legal =
    let h = items_since o t legal.1 in
    let item : Item = record { seg = seg; node = node; pull = pull } in
    let runs = (begin_goes o t seg node pull legal.0).runs in
    record {
      older = h.older;
      made = ap (λ xs. xs ++ item ∷ []) h.made ∙ append_assoc h.older (items (since t)) (item ∷ []);
      here = λ x has.
          elim (Contains-push_cases (items (since t)) item x has) [
            | inl before ↦ h.here x before
            | inr new ↦ ap (item_stage o) (sym new) ∙ ap (stage_found o.recon) runs.there ∙ runs.stage
          ];
      past = h.past;
    }
items_since o ((step, given) ∷ t) legal = items_since o t legal.1

-- what isn't found in the rest is found in the beginning or nowhere
pub find-append_none : {X : Type 0} (p : X → Bool) (xs ys : List X) → find p ys ≡ None → find p (xs ++ ys) ≡ find p xs
find-append_none p [] ys none = none
find-append_none p (x ∷ xs) ys none = ap (λ found. if p x then Some x else found) (find-append_none p xs ys none)

or_none : (a : Bool) → (a || false) ≡ a
or_none true = refl
or_none false = refl

pub list_any-append_none : {X : Type 0} (p : X → Bool) (xs ys : List X) → list_any p ys ≡ false → list_any p (xs ++ ys) ≡ list_any p xs
list_any-append_none p xs ys none = list_any-append p xs ys ∙ ap (λ b. list_any p xs || b) none ∙ or_none (list_any p xs)

filter-append_none : {X : Type 0} (p : X → Bool) (xs ys : List X) → filter p ys ≡ [] → filter p (xs ++ ys) ≡ filter p xs
filter-append_none p [] ys none = none
filter-append_none p (x ∷ xs) ys none = ap (λ rest. if p x then x ∷ rest else rest) (filter-append_none p xs ys none)

-- a segment of the running stage isn't of a later one
not_later : {A : Type 0} (o : OpeningValue) (t : Trace) (seg g : ℕ) (segment : Range) → IsRunning o t seg → seg ≡ g → slice_get o.recon.segments g ≡ Some segment → stage t < stage_in o.recon segment → A
not_later o t seg g segment runs same there later =
    let one : runs.segment ≡ segment = let e = sym runs.there ∙ subst (λ k. slice_get o.recon.segments k ≡ Some segment) (sym same) there in cc in
    let now = runs.stage in
    let equal = ap (stage_in o.recon) one in
    absurd (omega arith)

-- a link of the running stage isn't one of a later stage
other_link : {A : Type 0} (o : OpeningValue) (t : Trace) (from to src dst : ℕ) → ((from == src) && (to == dst)) ≡ true → stage_on o.recon from to ≡ stage t → stage t < stage_on o.recon src dst → A
other_link o t from to src dst test now later =
    let parts = and_parts (from == src) (to == dst) test in
    let same = ap₂ (stage_on o.recon) (eqb-true from src parts.0) (eqb-true to dst parts.1) in
    absurd (omega arith)

-- a node of a segment of a later stage is free
later_free : (o : OpeningValue) (t : Trace) → IsLegal o t → (g n : ℕ) (segment : Range) → slice_get o.recon.segments g ≡ Some segment → stage t < stage_in o.recon segment → status_of t g n ≡ Free
later_free o [] legal g n segment there later = refl
later_free o ((Next, Done) ∷ t) legal g n segment there later = later_free o t legal.1 g n segment there (omega (arith, later))
later_free o ((Split_step seg node, Done) ∷ t) legal g n segment there later =
    set_if_at (λ st. st ≡ Free) seg node Split g n (status_of t g n) (λ same _. not_later o t seg g segment (split_goes o t seg node legal.0).runs same there later) (later_free o t legal.1 g n segment there later)
later_free o ((Claim seg node pull, Done) ∷ t) legal g n segment there later =
    set_if_at (λ st. st ≡ Free) seg node (Claimed pull) g n (status_of t g n) (λ same _. not_later o t seg g segment (claim_goes o t seg node pull legal.0).runs same there later) (later_free o t legal.1 g n segment there later)
later_free o ((Begin seg node pull, Done) ∷ t) legal g n segment there later =
    set_if_at (λ st. st ≡ Free) seg node (Partial pull) g n (status_of t g n) (λ same _. not_later o t seg g segment (begin_goes o t seg node pull legal.0).runs same there later) (later_free o t legal.1 g n segment there later)
later_free o ((Complete_step seg node pull, Done) ∷ t) legal g n segment there later =
    set_if_at (λ st. st ≡ Free) seg node (Complete pull) g n (status_of t g n) (λ same _. not_later o t seg g segment (complete_goes o t seg node pull legal.0).runs same there later) (later_free o t legal.1 g n segment there later)
later_free o ((step, given) ∷ t) legal g n segment there later = later_free o t legal.1 g n segment there later

pub status_since : (o : OpeningValue) (t : Trace) → IsLegal o t → (g n : ℕ) (segment : Range) → slice_get o.recon.segments g ≡ Some segment → stage t ≤ stage_in o.recon segment → status_of t g n ≡ status_of (since t) g n
status_since o [] legal g n segment there now = refl
status_since o ((Next, Done) ∷ t) legal g n segment there now = later_free o t legal.1 g n segment there (omega (arith, now))
status_since o ((step, given) ∷ t) legal g n segment there now = ap (sets_status g n step given) (status_since o t legal.1 g n segment there now)

-- nothing went onto a link of a later stage, or came off it
later_unused : (o : OpeningValue) (t : Trace) → IsLegal o t → (src dst : ℕ) → stage t < stage_on o.recon src dst → (push_count t src dst ≡ 0) × (pop_count t src dst ≡ 0)
later_unused o [] legal src dst later = (refl, refl)
later_unused o ((Next, Done) ∷ t) legal src dst later = later_unused o t legal.1 src dst (omega (arith, later))
later_unused o ((Push from to, Done) ∷ t) legal src dst later =
    let before = later_unused o t legal.1 src dst later in (
      cond_both ((from == src) && (to == dst)) (push_count t src dst + 1) (push_count t src dst) (λ n. n ≡ 0) (λ same. other_link o t from to src dst same (push_runs o t from to legal.0) later) (λ _. before.0),
      before.1,
    )
later_unused o ((Pop from to, Done) ∷ t) legal src dst later =
    let before = later_unused o t legal.1 src dst later in (
      before.0,
      cond_both ((from == src) && (to == dst)) (pop_count t src dst + 1) (pop_count t src dst) (λ n. n ≡ 0) (λ same. other_link o t from to src dst same (pop_runs o t from to legal.0) later) (λ _. before.1),
    )
later_unused o ((step, given) ∷ t) legal src dst later = later_unused o t legal.1 src dst later

use_since : (o : OpeningValue) (t : Trace) → IsLegal o t → (src dst : ℕ) → stage t ≤ stage_on o.recon src dst
    → (push_count t src dst ≡ push_count (since t) src dst) × (pop_count t src dst ≡ pop_count (since t) src dst)
use_since o [] legal src dst now = (refl, refl)
use_since o ((Next, Done) ∷ t) legal src dst now = later_unused o t legal.1 src dst (omega (arith, now))
use_since o ((step, given) ∷ t) legal src dst now =
    let before = use_since o t legal.1 src dst now in
    (ap (pushes src dst step given) before.0, ap (pops src dst step given) before.1)

module _ (o : OpeningValue) (is : IsOpening o) (t : Trace) (legal : IsLegal o t) where
  abbrev stage_for : ℕ → ℕ
  stage_for root = stage_on o.recon (source o root) (destination o root)

  -- a note that covers a root key is of the key's stage, and the key moves
  covers_stage : (root : ℕ) (note : Note) → Contains (notes t) note → covers note root ≡ true → note_stage o note ≡ stage_for root
  covers_stage root note has covered = let ends = note_ends o is t legal root note has covered in ap₂ (stage_on o.recon) ends.from ends.to

  covers_moves : (root : ℕ) (note : Note) → Contains (notes t) note → covers note root ≡ true → moves o root ≡ true
  covers_moves root note has covered = moves_found o is root ∙ among (segment_of o.recon.segments root) refl
    where
      among : (found : Option ℕ) → segment_of o.recon.segments root ≡ found → is_some found ≡ true
      among (Some g) found = refl
      among None none =
          absurd (true≢false (sym (list_any-Contains (λ (other : Note). covers other root) (notes t) note has covered) ∙ cut_none o is t legal root none))

  -- a node over a root key is of a segment of the key's stage, and the key moves
  over_stage : (root : ℕ) (item : Item) → is_within (extent_of o item.seg item.node) root ≡ true → (item_stage o item ≡ stage_for root) × (moves o root ≡ true)
  over_stage root item within =
      let below = under o is root item.seg item.node within in
      let at = found_in_segment o is root item.seg below.found in (
        ap (stage_found o.recon) at.1.there ∙ sym (ap₂ (stage_on o.recon) at.1.source_is at.1.destination_is),
        moves_found o is root ∙ ap is_some below.found,
      )

  -- what came in this stage covers no key that had moved
  now_uncovered : (now all : List Note) → IsSince (note_stage o) (stage t) now all → ((note : Note) → Contains all note → Contains (notes t) note) → (root : ℕ) → stage_for root < stage t → is_covered now root ≡ false
  now_uncovered now all h known root past =
      false_from_ne_true (is_covered now root) (λ any.
      let at = any_in (λ (note : Note). covers note root) now any in
      let has = known at.0 (subst (λ (xs : List Note). Contains xs at.0) (sym h.made) (Contains-append_left now h.older at.0 at.1)) in
      let same = covers_stage root at.0 has at.2 in
      let here = h.here at.0 at.1 in
      omega arith)

  -- and what came before covers no other key
  older_uncovered : (now all : List Note) (h : IsSince (note_stage o) (stage t) now all) → ((note : Note) → Contains all note → Contains (notes t) note) → (root : ℕ) → has_moved o (stage t) root ≡ false → is_covered h.older root ≡ false
  older_uncovered now all h known root left =
      false_from_ne_true (is_covered h.older root) (λ any.
      let at = any_in (λ (note : Note). covers note root) h.older any in
      let has = known at.0 (subst (λ (xs : List Note). Contains xs at.0) (sym h.made) (Contains-append_right now h.older at.0 at.1)) in
      let same = covers_stage root at.0 has at.2 in
      let past = h.past at.0 at.1 in
      true≢false (sym (and_from (moves o root) (nat_lt (stage_for root) (stage t)) (covers_moves root at.0 has at.2) (lt-ltb (stage_for root) (stage t) (omega arith))) ∙ left))

  all_notes : (note : Note) → Contains (notes t) note → Contains (notes t) note
  all_notes note has = has

  module _ (root : ℕ) where
    module _ (moved : has_moved o (stage t) root ≡ true) where
      moving : moves o root ≡ true
      moving = (and_parts (moves o root) (nat_lt (stage_for root) (stage t)) moved).0

      past : stage_for root < stage t
      past = ltb-true (stage_for root) (stage t) (and_parts (moves o root) (nat_lt (stage_for root) (stage t)) moved).1

      none_cut : is_covered (notes (since t)) root ≡ false
      none_cut = now_uncovered (notes (since t)) (notes t) (notes_since o t legal) all_notes root past

      none_loaded : is_covered (loads (since t)) root ≡ false
      none_loaded = now_uncovered (loads (since t)) (loads t) (loads_since o t legal) (loaded_in o t legal) root past

      none_begun : is_begun_over o (since t) root ≡ false
      none_begun =
          false_from_ne_true (is_begun_over o (since t) root) (λ any.
          let at = any_in (λ (item : Item). is_within (extent_of o item.seg item.node) root) (items (since t)) any in
          let same = (over_stage root at.0 at.2).0 in
          let here = (items_since o t legal).here at.0 at.1 in
          let before = past in
          omega arith)

      owner_new : owner_in o (stage t) root ≡ destination o root
      owner_new = cond-true (has_moved o (stage t) root) (destination o root) (source o root) moved

      loaded_then : is_covered (loads t) root ≡ true
      loaded_then = went-loaded o is t legal root moving past

      moved_place : place o t root ≡ place_in o t root
      moved_place =
          loaded_away o is t legal root loaded_then ∙ ap At (sym owner_new)
          ∙ sym (ap₂ (λ cut loaded. loaded_place (cut_place (owner_in o (stage t) root) cut) loaded)
          (nothing_found (λ (note : Note). covers note root) (notes (since t)) none_cut)
          (nothing_found (λ (note : Note). covers note root) (loads (since t)) none_loaded))

      moved_runner : runner o t root ≡ runner_in o t root
      moved_runner =
          cond-true (is_covered (loads t) root) (Some (destination o root)) (if is_begun_over o t root then None else Some (source o root)) loaded_then
          ∙ ap Some (sym owner_new)
          ∙ sym (ap₂ (λ b c. if b then Some (destination o root) else if c then None else Some (owner_in o (stage t) root)) none_loaded none_begun)

    module _ (left : has_moved o (stage t) root ≡ false) where
      owner_old : source o root ≡ owner_in o (stage t) root
      owner_old = sym (cond-false (has_moved o (stage t) root) (destination o root) (source o root) left)

      no_older_cut : is_covered (notes_since o t legal).older root ≡ false
      no_older_cut = older_uncovered (notes (since t)) (notes t) (notes_since o t legal) all_notes root left

      no_older_load : is_covered (loads_since o t legal).older root ≡ false
      no_older_load = older_uncovered (loads (since t)) (loads t) (loads_since o t legal) (loaded_in o t legal) root left

      no_older_begun : list_any (λ item. is_within (extent_of o item.seg item.node) root) (items_since o t legal).older ≡ false
      no_older_begun =
          false_from_ne_true (list_any (λ item. is_within (extent_of o item.seg item.node) root) (items_since o t legal).older) (λ any.
          let at = any_in (λ (item : Item). is_within (extent_of o item.seg item.node) root) (items_since o t legal).older any in
          let over = over_stage root at.0 at.2 in
          let same = over.0 in
          let past = (items_since o t legal).past at.0 at.1 in
          true≢false (sym (and_from (moves o root) (nat_lt (stage_for root) (stage t)) over.1 (lt-ltb (stage_for root) (stage t) (omega arith))) ∙ left))

      same_found : (now all : List Note) (h : IsSince (note_stage o) (stage t) now all) → is_covered h.older root ≡ false → find (λ note. covers note root) all ≡ find (λ note. covers note root) now
      same_found now all h none =
          ap (find (λ (note : Note). covers note root)) h.made
          ∙ find-append_none (λ (note : Note). covers note root) now h.older (nothing_found (λ (note : Note). covers note root) h.older none)

      left_place : place o t root ≡ place_in o t root
      left_place =
          ap₂ (λ cut loaded. loaded_place (cut_place (source o root) cut) loaded)
          (same_found (notes (since t)) (notes t) (notes_since o t legal) no_older_cut)
          (same_found (loads (since t)) (loads t) (loads_since o t legal) no_older_load)
          ∙ ap (λ owner. place_from owner (notes (since t)) (loads (since t)) root) owner_old

      same_covered : is_covered (loads t) root ≡ is_covered (loads (since t)) root
      same_covered =
          ap (λ xs. is_covered xs root) (loads_since o t legal).made
          ∙ list_any-append_none (λ (note : Note). covers note root) (loads (since t)) (loads_since o t legal).older no_older_load

      same_begun : is_begun_over o t root ≡ is_begun_over o (since t) root
      same_begun =
          let h = items_since o t legal in
          let test : Item → Bool = λ item. is_within (extent_of o item.seg item.node) root in
          ap (list_any test) h.made ∙ list_any-append test h.older (items (since t)) ∙ ap (λ b. b || list_any test (items (since t))) no_older_begun

      left_runner : runner o t root ≡ runner_in o t root
      left_runner = λ i. if same_covered i then Some (destination o root) else if same_begun i then None else Some (owner_old i)

  place_since : (root : ℕ) → place o t root ≡ place_in o t root
  place_since root =
      elim (cases_Bool (has_moved o (stage t) root)) [
        | inl moved ↦ moved_place root moved
        | inr left ↦ left_place root left
      ]

  runner_since : (root : ℕ) → runner o t root ≡ runner_in o t root
  runner_since root =
      elim (cases_Bool (has_moved o (stage t) root)) [
        | inl moved ↦ moved_runner root moved
        | inr left ↦ left_runner root left
      ]

  -- no note of another stage is of a link of the running one
  pub link_since : (src dst : ℕ) (now all : List Note) → IsSince (note_stage o) (stage t) now all → stage_on o.recon src dst ≡ stage t → link src dst all ≡ link src dst now
  link_since src dst now all h runs =
      let of : Note → Bool = λ note. (note.src == src) && (note.dst == dst) in
      ap (link src dst) h.made
      ∙ filter-append_none of now h.older (nothing_kept of h.older (false_from_ne_true (list_any of h.older) (λ any.
      let at = any_in of h.older any in
      let parts = and_parts (at.0.src == src) (at.0.dst == dst) at.2 in
      let same = ap₂ (stage_on o.recon) (eqb-true at.0.src src parts.0) (eqb-true at.0.dst dst parts.1) in
      let past = h.past at.0 at.1 in
      omega arith)))

  link_runs : (src dst : ℕ) → is_running_link o t src dst ≡ true → stage_on o.recon src dst ≡ stage t
  link_runs src dst runs = eqb-true (stage_on o.recon src dst) (stage t) (and_parts (is_link o.recon.ranges src dst) (stage_on o.recon src dst == stage t) runs).1

  -- an open node of a link of the running stage was begun in this stage, and has its notes in it
  module _ (src dst : ℕ) (runs : stage_on o.recon src dst ≡ stage t) where
    on_link_stage : (seg : ℕ) → SegmentGoes o seg src dst → stage_at o.recon seg ≡ stage t
    on_link_stage seg goes = ap (stage_found o.recon) goes.there ∙ ap₂ (stage_on o.recon) goes.source goes.destination ∙ runs

    same_last : (seg node : ℕ) → SegmentGoes o seg src dst → has_last seg node (notes t) ≡ has_last seg node (notes (since t))
    same_last seg node goes =
        let h = notes_since o t legal in
        let test : Note → Bool = λ note. is_about seg node note && note.last in
        ap (list_any test) h.made
        ∙ list_any-append_none test (notes (since t)) h.older (false_from_ne_true (list_any test h.older) (λ any.
        let at = any_in test h.older any in
        let about = (about_is seg node at.0 (and_parts (is_about seg node at.0) at.0.last at.2).0).0 in
        let has = subst (λ (xs : List Note). Contains xs at.0) (sym h.made) (Contains-append_right (notes (since t)) h.older at.0 at.1) in
        let ends = goes_once o seg at.0.src at.0.dst src dst (subst (λ g. SegmentGoes o g at.0.src at.0.dst) about (note_goes o t legal at.0 has)) goes in
        let same = ap₂ (stage_on o.recon) ends.0 ends.1 in
        let past = h.past at.0 at.1 in
        omega arith))

    same_open : (item : Item) → is_open o t src dst item ≡ is_open o (since t) src dst item
    same_open item =
        elim (cases_Bool (is_on_link o src dst item.seg)) [
          | inl on ↦ ap (λ b. is_on_link o src dst item.seg && not b) (same_last item.seg item.node (on_link_goes o src dst item.seg on))
          | inr off ↦ ap (λ b. b && not (has_last item.seg item.node (notes t))) off ∙ sym (ap (λ b. b && not (has_last item.seg item.node (notes (since t)))) off)
        ]

    open_since : open_items o t src dst ≡ open_items o (since t) src dst
    open_since =
        let h = items_since o t legal in
        ap (filter (is_open o t src dst)) h.made
        ∙ filter-append (is_open o t src dst) h.older (items (since t))
        ∙ ap (λ xs. xs ++ filter (is_open o t src dst) (items (since t))) (nothing_kept (is_open o t src dst) h.older (false_from_ne_true (list_any (is_open o t src dst) h.older) (λ any.
        let at = any_in (is_open o t src dst) h.older any in
        let on = (and_parts (is_on_link o src dst at.0.seg) (not (has_last at.0.seg at.0.node (notes t))) at.2).0 in
        let same = on_link_stage at.0.seg (on_link_goes o src dst at.0.seg on) in
        let past = h.past at.0 at.1 in
        omega arith)))
        ∙ (λ i. filter (λ item. same_open item i) (items (since t)))

  pub tells_alone : TellsAlone o t
  tells_alone = record {
    place = place_since;
    runner = runner_since;
    statuses = λ seg node runs.
        let at = of_stage_is o.recon (stage t) (slice_get o.recon.segments seg) runs in
        let now = at.2 in
        status_since o t legal seg node at.0 at.1 (omega (arith, now));
    cut = λ src dst runs. link_since src dst (notes (since t)) (notes t) (notes_since o t legal) (link_runs src dst runs);
    loaded = λ src dst runs. link_since src dst (loads (since t)) (loads t) (loads_since o t legal) (link_runs src dst runs);
    pushed = λ src dst runs. let now = link_runs src dst runs in (use_since o t legal src dst (omega (arith, now))).0;
    popped = λ src dst runs. let now = link_runs src dst runs in (use_since o t legal src dst (omega (arith, now))).1;
    unfinished = λ src dst runs. open_since src dst (link_runs src dst runs);
  }
