-- On a legal trace each note is about a begun node, the notes tile their nodes and are numbered, and those of the loads are the beginning of them.
use Rattle.std.proofs.Common.{◌≡◌, inl, inr, ℕ, true, false, ◌==◌, ◌&&◌, not, List, [], ◌∷◌, ◌++◌, length, slice_get, find, Contains, Option, Some, None, refl, sym, ap, ◌∙◌, ap₂, subst, subst₂, true≢false, append_assoc}
use Rattle.std.proofs.lemmas.Bool.{and_parts, and_from, eqb-true, eq-eqb, not-true, or_right, false_from_ne_true}
use Rattle.std.proofs.lemmas.List.Elements.{Contains-append_right}
use Rattle.sq_moves.specs.declared.status.Status.TheVariants.{Split, Claimed, Partial, Complete}
use Rattle.sq_moves.specs.Status.{is_begun, is_complete}
use Rattle.sq_store.specs.declared.chunk.Note.{Note}
use Rattle.sq_moves.specs.declared.recon.Range.{Range}
use Rattle.sq_moves.specs.OpeningValue.{OpeningValue}
use Rattle.sq_model.specs.declared.step.Step.{Step}
use Rattle.sq_model.specs.declared.step.Step.TheVariants.{Split as Split_step, Claim, Begin, Cut, Load, Complete as Complete_step}
use Rattle.sq_model.specs.declared.answer.Answer.{Answer}
use Rattle.sq_model.specs.declared.answer.Answer.TheVariants.{Done, WasCut, WasLoaded}
use Rattle.sq_model.specs.Trace.{Trace, notes, loads, link, load_count}
use Rattle.sq_model.specs.Nodes.{Item, status_of, items}
use Rattle.sq_model.specs.Place.{extent_of}
use Rattle.sq_model.specs.Links.{is_about, has_last, end_of_note, reached, goes, is_on_link, is_open, open_items, is_reactive, or_first, next_item, next_note}
use Rattle.sq_model.specs.Orderly.{IsPrefix, AreNumbered, GoesOn, Tiles, AllLeaveComplete}
use Rattle.sq_model.specs.Legal.{IsLegal}
use Rattle.sq_model.proofs.Lists.{Contains-nothing, Contains-cases, Contains-first, Contains-later, kept_in, found_in, find-filter, list_any-filter, list_any-Contains, any_in}
use Rattle.sq_model.proofs.Link.{IsOf, link_has, link_at, Contains-link}
use Rattle.sq_model.proofs.Steps.{cut_goes, LoadGoes, load_goes, complete_goes, cut_is_of, load_is_of}
use Rattle.sq_model.proofs.Statuses.{item_begun, stays_begun, set_if_at}
use Rattle.sq_model.proofs.Numbers.{find_next, found_next}
use Rattle.sq_model.proofs.Tiles.{about_is, reached_within, cut_end_within}

-- the segment of this number goes from the one partition to the other
pub record SegmentGoes (o : OpeningValue) (seg src dst : ℕ) : Type 0 where
  pub segment : Range
  pub there : slice_get o.recon.segments seg ≡ Some segment
  pub source : segment.src ≡ src
  pub destination : segment.dst ≡ dst

goes_if : (found : Option Range) (src dst : ℕ) → goes found src dst ≡ true → (segment : Range) × (found ≡ Some segment) × (segment.src ≡ src) × (segment.dst ≡ dst)
goes_if None src dst test = absurd (true≢false (sym test))
goes_if (Some segment) src dst test =
    let parts = and_parts (segment.src == src) (segment.dst == dst) test in
    (segment, refl, eqb-true segment.src src parts.0, eqb-true segment.dst dst parts.1)

pub on_link_goes : (o : OpeningValue) (src dst seg : ℕ) → is_on_link o src dst seg ≡ true → SegmentGoes o seg src dst
on_link_goes o src dst seg test =
    let at = goes_if (slice_get o.recon.segments seg) src dst test in
    record { segment = at.0; there = at.1; source = at.2; destination = at.3 }

-- a segment goes from one partition to one
pub goes_once : (o : OpeningValue) (seg src dst from to : ℕ) → SegmentGoes o seg src dst → SegmentGoes o seg from to → (src ≡ from) × (dst ≡ to)
goes_once o seg src dst from to one other =
    let same : one.segment ≡ other.segment = let e = sym one.there ∙ other.there in cc in
    (sym one.source ∙ ap (λ (s : Range). s.src) same ∙ other.source, sym one.destination ∙ ap (λ (s : Range). s.dst) same ∙ other.destination)

-- what is cut next is an item
next_in : (list : List Item) (item : Item) → next_item list ≡ Some item → Contains list item
next_in [] item next = absurd cc
next_in (first ∷ list) item next = pick (find is_reactive (first ∷ list)) refl next
  where
    pick : (found : Option Item) → find is_reactive (first ∷ list) ≡ found → or_first (first ∷ list) found ≡ Some item → Contains (first ∷ list) item
    pick None none e = subst (Contains (first ∷ list)) (let f = e in cc) (Contains-first first list)
    pick (Some other) found e = (found_in is_reactive (first ∷ list) item (found ∙ e)).0

-- an item that is open on a link
pub record IsOpenOn (o : OpeningValue) (t : Trace) (src dst : ℕ) (item : Item) : Type 0 where
  pub among : Contains (items t) item
  pub segment : SegmentGoes o item.seg src dst
  pub unfinished : has_last item.seg item.node (notes t) ≡ false

pub open_item : (o : OpeningValue) (t : Trace) (src dst : ℕ) (item : Item) → Contains (open_items o t src dst) item → IsOpenOn o t src dst item
open_item o t src dst item has =
    let kept = kept_in (is_open o t src dst) (items t) item has in
    let parts = and_parts (is_on_link o src dst item.seg) (not (has_last item.seg item.node (notes t))) kept.1 in
    record { among = kept.0; segment = on_link_goes o src dst item.seg parts.0; unfinished = not-true (has_last item.seg item.node (notes t)) parts.1 }

-- so is the item that is cut next
pub cut_item : (o : OpeningValue) (t : Trace) (src dst : ℕ) (item : Item) → next_item (open_items o t src dst) ≡ Some item → IsOpenOn o t src dst item
cut_item o t src dst item next = open_item o t src dst item (next_in (open_items o t src dst) item next)

-- each note's segment goes from its source to its destination, and its node is begun
abbrev IsOfBegun : OpeningValue → Trace → Note → Type 0
IsOfBegun o t note = SegmentGoes o note.seg note.src note.dst × (is_begun (status_of t note.seg note.node) ≡ true)

still_of_begun : (o : OpeningValue) (t : Trace) (step : Step) (given : Answer) → IsLegal o ((step, given) ∷ t) → (note : Note) → IsOfBegun o t note → IsOfBegun o ((step, given) ∷ t) note
still_of_begun o t step given legal note is = (is.0, stays_begun o t step given legal note.seg note.node is.1)

of_begun : (o : OpeningValue) (t : Trace) → IsLegal o t → (note : Note) → Contains (notes t) note → IsOfBegun o t note
of_begun o [] legal note has = absurd (Contains-nothing note has)
of_begun o ((Cut src dst, WasCut next families) ∷ t) legal note has =
    elim (Contains-cases next (notes t) note has) [
      | inl same ↦
          let cut = cut_goes o t src dst next families legal.0 in
          let item = cut_item o t src dst cut.item cut.next in
          subst (IsOfBegun o t) (sym cut.noted ∙ same) (item.segment, item_begun o t legal.1 cut.item item.among)
      | inr older ↦ of_begun o t legal.1 note older
    ]
of_begun o ((step, given) ∷ t) legal note has = still_of_begun o t step given legal note (of_begun o t legal.1 note has)

pub note_goes : (o : OpeningValue) (t : Trace) → IsLegal o t → (note : Note) → Contains (notes t) note → SegmentGoes o note.seg note.src note.dst
note_goes o t legal note has = (of_begun o t legal note has).0

pub note_begun : (o : OpeningValue) (t : Trace) → IsLegal o t → (note : Note) → Contains (notes t) note → is_begun (status_of t note.seg note.node) ≡ true
note_begun o t legal note has = (of_begun o t legal note has).1

-- the notes of a link are numbered
pub numbered : (o : OpeningValue) (t : Trace) → IsLegal o t → (src dst : ℕ) → AreNumbered (link src dst (notes t))
numbered o [] legal src dst = tt
numbered o ((Cut from to, WasCut note families) ∷ t) legal src dst =
    let before = numbered o t legal.1 src dst in
    let cut = cut_goes o t from to note families legal.0 in
    let of = cut_is_of o t from to note families cut in
    link_at AreNumbered src dst note (notes t)
    (λ is. (ap (λ (n : Note). n.number) cut.noted ∙ ap₂ (λ a b. length (link a b (notes t))) (sym of.source ∙ is.source) (sym of.destination ∙ is.destination), before))
    before
numbered o ((step, given) ∷ t) legal src dst = numbered o t legal.1 src dst

-- the next note of an item continues where those before it end
next_goes_on : (o : OpeningValue) (t : Trace) (src dst : ℕ) (item : Item) → Tiles o (notes t) → has_last item.seg item.node (notes t) ≡ false → GoesOn o (next_note o t src dst item) (notes t)
next_goes_on o t src dst item tiles unfinished =
    let lo = reached o item.seg item.node (notes t) in
    let hi = (extent_of o item.seg item.node).hi in
    let bounds = cut_end_within o t lo hi (reached_within o (notes t) tiles item.seg item.node).upto in
    record { begins = refl; rises = bounds.0; within = bounds.1; last = refl; first_last = unfinished }

pub tiles_notes : (o : OpeningValue) (t : Trace) → IsLegal o t → Tiles o (notes t)
tiles_notes o [] legal = tt
tiles_notes o ((Cut src dst, WasCut note families) ∷ t) legal =
    let before = tiles_notes o t legal.1 in
    let cut = cut_goes o t src dst note families legal.0 in
    let item = cut_item o t src dst cut.item cut.next in
    (subst (λ (n : Note). GoesOn o n (notes t)) (sym cut.noted) (next_goes_on o t src dst cut.item before item.unfinished), before)
tiles_notes o ((step, given) ∷ t) legal = tiles_notes o t legal.1

-- a Load loads the note that comes right after those that were loaded
pub record LoadNext (t : Trace) (src dst : ℕ) (note : Note) : Type 0 where
  pub front : List Note
  pub notes_are : front ++ note ∷ link src dst (loads t) ≡ link src dst (notes t)

next_from : (t : Trace) (src dst : ℕ) (note : Note) → AreNumbered (link src dst (notes t)) → IsPrefix t src dst → find (λ other. other.number == load_count t src dst) (link src dst (notes t)) ≡ Some note → LoadNext t src dst note
next_from t src dst note numbers before found =
    let next = found_next before.0 (link src dst (loads t)) note
    (subst AreNumbered (sym before.1) numbers)
    (ap (find (λ (other : Note). other.number == load_count t src dst)) before.1 ∙ found) in
    record {
      front = next.0;
      notes_are = sym (append_assoc next.0 (note ∷ []) (link src dst (loads t))) ∙ ap (λ way. way ++ link src dst (loads t)) (sym next.1) ∙ before.1;
    }

-- what was loaded of a link is the beginning of what was cut for it
pub prefix : (o : OpeningValue) (t : Trace) → IsLegal o t → (src dst : ℕ) → IsPrefix t src dst
prefix o [] legal src dst = ([], refl)
prefix o ((Cut from to, WasCut note families) ∷ t) legal src dst =
    let before = prefix o t legal.1 src dst in
    link_at (λ list. (way : List Note) × (way ++ link src dst (loads t) ≡ list)) src dst note (notes t)
    (λ is. (note ∷ before.0, ap (λ rest. note ∷ rest) before.1))
    before
prefix o ((Load from to, WasLoaded note families) ∷ t) legal src dst =
    let before = prefix o t legal.1 src dst in
    let load = load_goes o t from to note families legal.0 in
    let of = (load_is_of o t from to note families load).1 in
    link_at (λ list. (way : List Note) × (way ++ list ≡ link src dst (notes t))) src dst note (loads t)
    (λ is.
    let here : LoadGoes o t src dst note families = subst₂ (λ a b. LoadGoes o t a b note families) (sym of.source ∙ is.source) (sym of.destination ∙ is.destination) load in
    let next = next_from t src dst note (numbered o t legal.1 src dst) before here.found in
    (next.front, next.notes_are))
    before
prefix o ((step, given) ∷ t) legal src dst = prefix o t legal.1 src dst

pub load_next : (o : OpeningValue) (t : Trace) → IsLegal o t → (src dst : ℕ) (note : Note) (families : ℕ) → LoadGoes o t src dst note families → LoadNext t src dst note
load_next o t legal src dst note families load = next_from t src dst note (numbered o t legal src dst) (prefix o t legal src dst) load.found

-- so each note that was loaded was cut
pub loaded_in : (o : OpeningValue) (t : Trace) → IsLegal o t → (note : Note) → Contains (loads t) note → Contains (notes t) note
loaded_in o t legal note has =
    let before = prefix o t legal note.src note.dst in
    let here = Contains-link note.src note.dst (loads t) note has (record { source = refl; destination = refl }) in
    let there = subst (λ list. Contains list note) before.1 (Contains-append_right before.0 (link note.src note.dst (loads t)) note here) in
    (link_has note.src note.dst (notes t) note there).0

-- a segment's notes are all of one link, so that this alone gives its nodes
abbrev AllGo : OpeningValue → List Note → Type 0
AllGo o ns = (note : Note) → Contains ns note → SegmentGoes o note.seg note.src note.dst

same_link : (o : OpeningValue) (ns : List Note) → AllGo o ns → (src dst seg node : ℕ) → SegmentGoes o seg src dst → (note : Note) → Contains ns note → is_about seg node note ≡ true → ((note.src == src) && (note.dst == dst)) ≡ true
same_link o ns all src dst seg node goes note has about =
    let is = about_is seg node note about in
    let ends = goes_once o seg note.src note.dst src dst (subst (λ g. SegmentGoes o g note.src note.dst) is.0 (all note has)) goes in
    and_from (note.src == src) (note.dst == dst) (eq-eqb note.src src ends.0) (eq-eqb note.dst dst ends.1)

pub reached-link : (o : OpeningValue) (ns : List Note) → ((note : Note) → Contains ns note → SegmentGoes o note.seg note.src note.dst) → (src dst seg node : ℕ) → SegmentGoes o seg src dst → reached o seg node (link src dst ns) ≡ reached o seg node ns
reached-link o ns all src dst seg node goes =
    ap (end_of_note (extent_of o seg node).lo) (find-filter (is_about seg node) (λ (note : Note). (note.src == src) && (note.dst == dst)) ns (same_link o ns all src dst seg node goes))

pub has_last-link : (o : OpeningValue) (ns : List Note) → ((note : Note) → Contains ns note → SegmentGoes o note.seg note.src note.dst) → (src dst seg node : ℕ) → SegmentGoes o seg src dst → has_last seg node (link src dst ns) ≡ has_last seg node ns
has_last-link o ns all src dst seg node goes =
    list_any-filter (λ (note : Note). is_about seg node note && note.last) (λ (note : Note). (note.src == src) && (note.dst == dst)) ns
    (λ note has test. same_link o ns all src dst seg node goes note has (and_parts (is_about seg node note) note.last test).0)

-- a note that continues some notes continues others in which its node has come as far
goes_on_like : (o : OpeningValue) (note : Note) (ns others : List Note) → reached o note.seg note.node ns ≡ reached o note.seg note.node others → has_last note.seg note.node ns ≡ has_last note.seg note.node others → GoesOn o note ns → GoesOn o note others
goes_on_like o note ns others same_end same_last goes =
    record { begins = goes.begins ∙ same_end; rises = goes.rises; within = goes.within; last = goes.last; first_last = sym same_last ∙ goes.first_last }

-- a note continues those of its link that came before it
goes_on_first : (o : OpeningValue) (next : Note) (ns : List Note) → GoesOn o next ns → AllGo o (next ∷ ns) → (src dst : ℕ) → IsOf src dst next → GoesOn o next (link src dst ns)
goes_on_first o next ns goes all src dst is =
    let segment : SegmentGoes o next.seg src dst = subst₂ (SegmentGoes o next.seg) is.source is.destination (all next (Contains-first next ns)) in
    goes_on_like o next ns (link src dst ns) (sym (reached-link o ns rest src dst next.seg next.node segment)) (sym (has_last-link o ns rest src dst next.seg next.node segment)) goes
  where
    rest : AllGo o ns
    rest other has = all other (Contains-later next ns other has)

goes_on_link : (o : OpeningValue) (ns : List Note) → Tiles o ns → AllGo o ns → (src dst : ℕ) (front : List Note) (note : Note) (before : List Note) → link src dst ns ≡ front ++ note ∷ before → GoesOn o note before
goes_on_link o [] tiles all src dst [] note before e = absurd cc
goes_on_link o [] tiles all src dst (first ∷ front) note before e = absurd cc
goes_on_link o (next ∷ ns) tiles all src dst front note before e =
    link_at (λ list. list ≡ front ++ note ∷ before → GoesOn o note before) src dst next ns
    (λ is same. at_first front is same (λ more f. goes_on_link o ns tiles.1 (λ other has. all other (Contains-later next ns other has)) src dst more note before f))
    (λ f. goes_on_link o ns tiles.1 (λ other has. all other (Contains-later next ns other has)) src dst front note before f)
    e
  where
    at_first : (front : List Note) → IsOf src dst next → next ∷ link src dst ns ≡ front ++ note ∷ before → ((front : List Note) → link src dst ns ≡ front ++ note ∷ before → GoesOn o note before) → GoesOn o note before
    at_first [] is same older =
        let here : next ≡ note = cc in
        let rest : link src dst ns ≡ before = cc in
        subst₂ (GoesOn o) here rest (goes_on_first o next ns tiles.0 all src dst is)
    at_first (first ∷ front) is same older = older front (let f = same in cc)

-- a loaded note's segment goes from its source to its destination, too
load_all_go : (o : OpeningValue) (t : Trace) → IsLegal o t → AllGo o (loads t)
load_all_go o t legal note has = note_goes o t legal note (loaded_in o t legal note has)

-- the note right after the loaded ones of its link
pub next_has : (t : Trace) (src dst : ℕ) (note : Note) → LoadNext t src dst note → Contains (notes t) note × IsOf src dst note
next_has t src dst note next =
    link_has src dst (notes t) note
    (subst (λ list. Contains list note) next.notes_are (Contains-append_right next.front (note ∷ link src dst (loads t)) note (Contains-first note (link src dst (loads t)))))

-- is found by its number
pub next_found : (o : OpeningValue) (t : Trace) → IsLegal o t → (src dst : ℕ) (note : Note) → LoadNext t src dst note → find (λ other. other.number == load_count t src dst) (link src dst (notes t)) ≡ Some note
next_found o t legal src dst note next =
    ap (find (λ (other : Note). other.number == load_count t src dst)) (sym next.notes_are)
    ∙ find_next next.front note (link src dst (loads t)) (subst AreNumbered (sym next.notes_are) (numbered o t legal src dst))

-- the next note continues the loads
pub next_goes : (o : OpeningValue) (t : Trace) → IsLegal o t → (src dst : ℕ) (note : Note) → LoadNext t src dst note → GoesOn o note (loads t)
next_goes o t legal src dst note next =
    let has = next_has t src dst note next in
    let segment : SegmentGoes o note.seg src dst = subst₂ (SegmentGoes o note.seg) has.1.source has.1.destination (note_goes o t legal note has.0) in
    goes_on_like o note (link src dst (loads t)) (loads t)
    (reached-link o (loads t) (load_all_go o t legal) src dst note.seg note.node segment)
    (has_last-link o (loads t) (load_all_go o t legal) src dst note.seg note.node segment)
    (goes_on_link o (notes t) (tiles_notes o t legal) (note_goes o t legal) src dst next.front note (link src dst (loads t)) (sym next.notes_are))

-- so the loads tile their nodes too
pub tiles_loads : (o : OpeningValue) (t : Trace) → IsLegal o t → Tiles o (loads t)
tiles_loads o [] legal = tt
tiles_loads o ((Load src dst, WasLoaded note families) ∷ t) legal =
    let next = load_next o t legal.1 src dst note families (load_goes o t src dst note families legal.0) in
    (next_goes o t legal.1 src dst note next, tiles_loads o t legal.1)
tiles_loads o ((step, given) ∷ t) legal = tiles_loads o t legal.1

-- no note is about a node that isn't begun
pub unbegun_none : (o : OpeningValue) (t : Trace) → IsLegal o t → (seg node : ℕ) → is_begun (status_of t seg node) ≡ false → find (is_about seg node) (notes t) ≡ None
unbegun_none o t legal seg node unbegun = among (find (is_about seg node) (notes t)) refl
  where
    among : (found : Option Note) → find (is_about seg node) (notes t) ≡ found → find (is_about seg node) (notes t) ≡ None
    among None none = none
    among (Some note) some =
        let at = found_in (is_about seg node) (notes t) note some in
        let is = about_is seg node note at.1 in
        absurd (true≢false (sym (note_begun o t legal note at.0) ∙ ap₂ (λ g n. is_begun (status_of t g n)) is.0 is.1 ∙ unbegun))

-- a node whose last note was loaded has its last note
pub last_cut : (o : OpeningValue) (t : Trace) → IsLegal o t → (seg node : ℕ) → has_last seg node (loads t) ≡ true → has_last seg node (notes t) ≡ true
last_cut o t legal seg node last =
    let at = any_in (λ (note : Note). is_about seg node note && note.last) (loads t) last in
    list_any-Contains (λ (note : Note). is_about seg node note && note.last) (notes t) at.0 (loaded_in o t legal at.0 at.1) at.2

-- of a complete node the last note was loaded
pub complete_loaded : (o : OpeningValue) (t : Trace) → IsLegal o t → (g n : ℕ) → is_complete (status_of t g n) ≡ true → has_last g n (loads t) ≡ true
complete_loaded o [] legal g n complete = absurd (true≢false (sym complete))
complete_loaded o ((Split_step seg node, Done) ∷ t) legal g n complete =
    set_if_at (λ st. is_complete st ≡ true → has_last g n (loads t) ≡ true) seg node Split g n (status_of t g n)
    (λ same there is. absurd (true≢false (sym is))) (complete_loaded o t legal.1 g n) complete
complete_loaded o ((Claim seg node pull, Done) ∷ t) legal g n complete =
    set_if_at (λ st. is_complete st ≡ true → has_last g n (loads t) ≡ true) seg node (Claimed pull) g n (status_of t g n)
    (λ same there is. absurd (true≢false (sym is))) (complete_loaded o t legal.1 g n) complete
complete_loaded o ((Begin seg node pull, Done) ∷ t) legal g n complete =
    set_if_at (λ st. is_complete st ≡ true → has_last g n (loads t) ≡ true) seg node (Partial pull) g n (status_of t g n)
    (λ same there is. absurd (true≢false (sym is))) (complete_loaded o t legal.1 g n) complete
complete_loaded o ((Complete_step seg node pull, Done) ∷ t) legal g n complete =
    set_if_at (λ st. is_complete st ≡ true → has_last g n (loads t) ≡ true) seg node (Complete pull) g n (status_of t g n)
    (λ same there is. subst₂ (λ a b. has_last a b (loads t) ≡ true) same there (complete_goes o t seg node pull legal.0).held.0) (complete_loaded o t legal.1 g n) complete
complete_loaded o ((Load src dst, WasLoaded note families) ∷ t) legal g n complete =
    or_right (is_about g n note && note.last) (has_last g n (loads t)) (complete_loaded o t legal.1 g n complete)
complete_loaded o ((step, given) ∷ t) legal g n complete = complete_loaded o t legal.1 g n complete

-- nothing of a complete node moves
pub leaves_complete : (o : OpeningValue) (t : Trace) → IsLegal o t → AllLeaveComplete t
leaves_complete o [] legal = tt
leaves_complete o ((Cut src dst, WasCut note families) ∷ t) legal =
    let cut = cut_goes o t src dst note families legal.0 in
    let item = cut_item o t src dst cut.item cut.next in (
      subst (λ (n : Note). is_complete (status_of t n.seg n.node) ≡ false) (sym cut.noted)
          (false_from_ne_true (is_complete (status_of t cut.item.seg cut.item.node)) (λ complete.
          true≢false (sym (last_cut o t legal.1 cut.item.seg cut.item.node (complete_loaded o t legal.1 cut.item.seg cut.item.node complete)) ∙ item.unfinished))),
      leaves_complete o t legal.1,
    )
leaves_complete o ((Load src dst, WasLoaded note families) ∷ t) legal = (
  false_from_ne_true (is_complete (status_of t note.seg note.node)) (λ complete.
      true≢false (sym (complete_loaded o t legal.1 note.seg note.node complete) ∙ (tiles_loads o ((Load src dst, WasLoaded note families) ∷ t) legal).0.first_last)),
  leaves_complete o t legal.1,
)
leaves_complete o ((step, given) ∷ t) legal = (tt, leaves_complete o t legal.1)
