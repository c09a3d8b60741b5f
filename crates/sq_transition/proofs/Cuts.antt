-- Cut keeps what holds.
use Rattle.std.proofs.Common.{subst, ⊎_elim, inl, inr, ◌≡◌, ℕ, zero, suc, Bool, true, false, List, [], ◌∷◌, ◌++◌, refl, sym, ap, ◌∙◌, arith, true≢false, length, length-append, append_assoc, append-nil, eq-eqb}
use Rattle.std.specs.Prelude.{◌-◌, ◌<◌, ◌≤◌, ◌≢◌, ◌==◌, ◌&&◌, ◌||◌, ◌⊎◌, if◌then◌else◌, not, nat_le, nat_lt, map, filter, find, remove, slice_get, slice_set, Option, Some, None, is_some, unwrap_or, option_map}
use Rattle.std.specs.List.{range_with_len, Contains, IsDistinct}
use Rattle.std.specs.FinMap.{get}
use Rattle.std.proofs.Math.Bool.{or-false, or-not_self}
use Rattle.sq_model.proofs.Statuses.{is_same_node}
use Rattle.std.proofs.lemmas.Option.{get_or_from_slice_get, slice_get-map}
use Rattle.std.proofs.lemmas.List.{map-append, reverse-append, length-reverse, drop-append-le, get_or-set_same, get_or-set_other}
use Rattle.std.proofs.lemmas.Bool.{ne_eqb, eqb-true, lt-ltb, le-ltb, le-leb, and_parts, not-true}
use Rattle.sq_schema.specs.Family.{FamilyValue, rows_of, rows_size}
use Rattle.sq_store.specs.declared.chunk.Note.{Note}
use Rattle.sq_store.specs.ChunkValue.{ChunkValue, covers}
use Rattle.sq_store.specs.StoreValue.{families_between, without_between, stored_size, take_end}
use Rattle.sq_store.proofs.Rising.{roots-within}
use Rattle.sq_store.proofs.Between.{IsRooted, family_in-between, within-between, get-without}
use Rattle.sq_moves.specs.declared.recon.Range.{Range}
use Rattle.sq_moves.specs.CutEnd.{end_of, end_within}
use Rattle.sq_moves.specs.OpeningValue.{OpeningValue}
use Rattle.sq_exec.specs.Work.{WorkValue, next_work, no_work, work_at, work_from, work_after}
use Rattle.sq_exec.specs.OutLink.{OutLinkValue, new_out_link, note_for}
use Rattle.sq_exec.specs.CoreValue.{CoreValue, out_at, with_out, link_to}
use Rattle.sq_model.specs.declared.step.Step.TheVariants.{Cut}
use Rattle.sq_model.specs.declared.answer.Answer.TheVariants.{WasCut, Refused}
use Rattle.sq_model.specs.declared.answer.Refusal.TheVariants.{OutboxFull, NothingToCut}
use Rattle.sq_model.specs.Trace.{Trace, notes, loads, link, cut_count, push_count, load_count}
use Rattle.sq_model.specs.Nodes.{Item, items}
use Rattle.sq_model.specs.Tables.{stands, family_of, size_of}
use Rattle.sq_model.specs.Place.{At, Under_way, source, place, extent_of, cut_place, loaded_place}
use Rattle.sq_model.specs.Links.{is_about, has_last, reached, end_of_note, is_on_link, goes, is_open, open_items, next_item, standing, cut_end, next_note}
use Rattle.sq_model.specs.Answers.{answer, cut_for}
use Rattle.sq_model.proofs.Lists.{kept_in, row_bounds, Contains-first, Contains-later, Contains-slice_get}
use Rattle.sq_model.proofs.Tiles.{end_of_in, is_about-from}
use Rattle.sq_model.proofs.Apart.{covers_bounds}
use Rattle.sq_transition.specs.WorldValue.{WorldValue, WholeLink, core_at, with_core, link_value, option_list, under_way}
use Rattle.sq_transition.specs.LinkResults.{cut_work}
use Rattle.sq_transition.specs.LeaderResults.{StepResult, refuse}
use Rattle.sq_transition.specs.Transition.{step_result}
use Rattle.sq_transition.specs.Holds.{CoreHolds, LinkHolds, ChunkHolds, share, share_at, is_at, work_of}
use Rattle.sq_transition.proofs.Sets.{by_place}
use Rattle.sq_transition.proofs.Changed.{PartsHold, partitions_changed, links_changed}
use Rattle.sq_transition.proofs.Keeps.{Keeps, keeps_refused}
use Rattle.sq_transition.proofs.Cores.{core_set}
use Rattle.sq_transition.proofs.Links.{IsFrom, SaySame, keeps_link, same_ends, link_set}
use Rattle.sq_transition.proofs.LinkEnds.{out_held, EndsBelow, out_of, out_set, out_stays}
use Rattle.sq_transition.proofs.PushPop.{counted_at}
use Rattle.sq_model.proofs.Tables.{rows_now}
use Rattle.sq_transition.proofs.Parts.{share_none, family_held}
use Rattle.sq_transition.proofs.Loads.{chunk_count}
use Rattle.sq_transition.proofs.NextWork.{SameNext, next_same, distinct-filter, ChangesAt, item_gone, item_changed}

-- what is known of an item that is open on a link: what is left of it is at the source, and nothing of that was loaded
pub record OpenFacts (o : OpeningValue) (t : Trace) (src dst : ℕ) (item : Item) : Type 0 where
  pub below : EndsBelow o src dst
  pub home : (root : ℕ) → reached o item.seg item.node (notes t) ≤ root → root < (extent_of o item.seg item.node).hi → place o t root ≡ At src
  pub unloaded : (root : ℕ) → reached o item.seg item.node (notes t) ≤ root → root < (extent_of o item.seg item.node).hi → find (λ note. covers note root) (loads t) ≡ None

pub record CutFacts (o : OpeningValue) (t : Trace) : Type 0 where
  pub distinct : IsDistinct is_same_node (items t)
  pub each : (src dst : ℕ) (item : Item) → Contains (open_items o t src dst) item → OpenFacts o t src dst item

-- a store's families are those of their root keys
rooted : (o : OpeningValue) (t : Trace) (part : ℕ) (core : CoreValue) → CoreHolds o t part core → IsRooted core.store
rooted o t part core h = record { root = λ key family e. here (stands o t key && is_at part (place o t key)) key family (sym (h.store key) ∙ e) }
  where
    here : (b : Bool) (key : ℕ) (family : FamilyValue) → (if b then Some (family_of o t key) else None) ≡ Some family → family.root ≡ key
    here true key family e = sym (ap (λ (found : Option FamilyValue). (unwrap_or found family).root) e)
    here false key family e = absurd cc

-- sizes that agree on the root keys give one end
end_within-same : (f g : ℕ → ℕ) (hi room : ℕ) (roots : List ℕ) → ((root : ℕ) → Contains roots root → f root ≡ g root) → end_within f hi room roots ≡ end_within g hi room roots
end_within-same f g hi room [] same = refl
end_within-same f g hi room (root ∷ roots) same =
    ap (λ size. if nat_le size room then end_within f hi (room - size) roots else root) (same root (Contains-first root roots))
    ∙ ap (λ end. if nat_le (g root) room then end else root) (end_within-same f g hi (room - g root) roots (λ r c. same r (Contains-later root roots r c)))

end_of-same : (f g : ℕ → ℕ) (hi limit : ℕ) (roots : List ℕ) → ((root : ℕ) → Contains roots root → f root ≡ g root) → end_of f hi limit roots ≡ end_of g hi limit roots
end_of-same f g hi limit [] same = refl
end_of-same f g hi limit (root ∷ roots) same =
    ap (λ size. end_within f hi (limit - size) roots) (same root (Contains-first root roots))
    ∙ end_within-same f g hi (limit - g root) roots (λ r c. same r (Contains-later root roots r c))

-- the root keys that stand lie between the bounds
standing_bounds : (o : OpeningValue) (t : Trace) (lo hi root : ℕ) → Contains (standing o t lo hi) root → (lo ≤ root) × (root < hi)
standing_bounds o t lo hi root c =
    let b = row_bounds lo (hi - lo) root (kept_in (stands o t) (range_with_len lo (hi - lo)) root c).0 in
    (b.0, omega (arith, b.0, b.1))

between_true : (lo hi root : ℕ) → lo ≤ root → root < hi → (nat_le lo root && nat_lt root hi) ≡ true
between_true lo hi root low high = (λ i. le-leb lo root low i && nat_lt root hi) ∙ lt-ltb root hi high

-- what the store has between two keys that are at the source
module _ (o : OpeningValue) (t : Trace) (src lo hi : ℕ) (core : CoreValue) (h : CoreHolds o t src core) (home : (root : ℕ) → lo ≤ root → root < hi → place o t root ≡ At src) where
  stored_home : (root : ℕ) → lo ≤ root → root < hi → get core.store root ≡ (if stands o t root then Some (family_of o t root) else None)
  stored_home root low high =
      h.store root
      ∙ ap (λ where_it. if stands o t root && is_at src where_it then Some (family_of o t root) else None) (home root low high)
      ∙ ap (λ b. if stands o t root && b then Some (family_of o t root) else None) (eq-eqb src src refl)
      ∙ here (stands o t root)
    where
      here : (b : Bool) → (if b && true then Some (family_of o t root) else None) ≡ (if b then Some (family_of o t root) else None)
      here true = refl
      here false = refl

  some_stood : (b : Bool) (f : FamilyValue) → is_some (if b then Some f else None) ≡ b
  some_stood true f = refl
  some_stood false f = refl

  -- the families' root keys are those that stand
  pub roots_stand : map (λ family. family.root) (families_between core.store lo hi) ≡ standing o t lo hi
  roots_stand =
      roots-within (hi - lo) lo hi (families_between core.store lo hi) (stands o t) refl (within-between lo hi core.store (rooted o t src core h))
      (λ root low high.
      ap is_some (family_in-between lo hi core.store root (rooted o t src core h) ∙ ap (λ b. if b then get core.store root else None) (between_true lo hi root low high) ∙ stored_home root low high)
      ∙ some_stood (stands o t root) (family_of o t root))

  -- a chunk ends where the history says
  pub end_same : take_end core.store lo hi core.limit ≡ cut_end o t lo hi
  end_same =
      ap (end_of (stored_size core.store) hi core.limit) roots_stand
      ∙ ap (λ limit. end_of (stored_size core.store) hi limit (standing o t lo hi)) h.set.limit
      ∙ end_of-same (stored_size core.store) (size_of o t) hi o.config.limit (standing o t lo hi)
      (λ root c.
      let b = standing_bounds o t lo hi root c in
      ap (λ f. rows_size (rows_of f)) (family_held o t src root core h (home root b.0 b.1)) ∙ ap rows_size (rows_now o t root))

-- a chunk ends within the keys that it is cut of
end_upto : (o : OpeningValue) (t : Trace) (lo hi : ℕ) → cut_end o t lo hi ≤ hi
end_upto o t lo hi = end_of_in (λ end. end ≤ hi) (size_of o t) hi o.config.limit (standing o t lo hi) (omega arith) (λ root c. omega (arith, (standing_bounds o t lo hi root c).1))

-- the trace with one more cut
abbrev pub cut_more : Trace → ℕ → ℕ → Note → ℕ → Trace
cut_more t src dst note count = (Cut src dst, WasCut note count) ∷ t

-- the place of a root key after the cut
place_cut : (o : OpeningValue) (t : Trace) (src dst : ℕ) (note : Note) (count root : ℕ) (b : Bool) → covers note root ≡ b → (b ≡ true → find (λ n. covers n root) (loads t) ≡ None)
    → place o (cut_more t src dst note count) root ≡ (if b then Under_way note else place o t root)
place_cut o t src dst note count root true e unloaded =
    ap (λ c. loaded_place (cut_place (source o root) (if c then Some note else find (λ n. covers n root) (notes t))) (find (λ n. covers n root) (loads t))) e ∙ ap (loaded_place (Under_way note)) (unloaded refl)
place_cut o t src dst note count root false e unloaded =
    ap (λ c. loaded_place (cut_place (source o root) (if c then Some note else find (λ n. covers n root) (notes t))) (find (λ n. covers n root) (loads t))) e

-- what is at a partition after the cut
share_cut : (o : OpeningValue) (t : Trace) (src dst : ℕ) (note : Note) (count p root : ℕ) (b : Bool) → covers note root ≡ b → (b ≡ true → find (λ n. covers n root) (loads t) ≡ None)
    → share_at o (cut_more t src dst note count) p root ≡ (if b then None else share_at o t p root)
share_cut o t src dst note count p root true e unloaded = share_none o (cut_more t src dst note count) (λ key. is_at p (place o (cut_more t src dst note count) key)) root (ap (is_at p) (place_cut o t src dst note count root true e unloaded))
share_cut o t src dst note count p root false e unloaded =
    ap (λ where_it. if stands o t root && is_at p where_it then Some (family_of o t root) else None) (place_cut o t src dst note count root false e unloaded)

-- the end of the link with the chunk, and the partition that it leaves
abbrev cut_out : CoreValue → OutLinkValue → ℕ → Note → OutLinkValue
cut_out core out at note =
    record { notes = out.notes ++ note ∷ []; work = work_after out.work at note.hi; outbox = Some (record { note = note; families = families_between core.store note.lo note.hi }) }

abbrev core_after_cut : CoreValue → ℕ → ℕ → Note → CoreValue
core_after_cut core dst at note = record (with_out core dst (cut_out core (out_at core dst) at note)) { store = without_between core.store note.lo note.hi }

-- the source after the cut, and the other partitions
module _ (o : OpeningValue) (t : Trace) (src dst count : ℕ) (note : Note)
    (home : (root : ℕ) → note.lo ≤ root → root < note.hi → place o t root ≡ At src) (unloaded : (root : ℕ) → note.lo ≤ root → root < note.hi → find (λ n. covers n root) (loads t) ≡ None) where
  free : (root : ℕ) → covers note root ≡ true → find (λ n. covers n root) (loads t) ≡ None
  free root e = let p = covers_bounds note root e in unloaded root p.0 p.1

  source_cut : (at : ℕ) (core : CoreValue) → CoreHolds o t src core → CoreHolds o (cut_more t src dst note count) src (core_after_cut core dst at note)
  source_cut at core h = record {
    set = out_held o t src dst core (cut_out core (out_at core dst) at note) h.set;
    store = λ root.
        get-without note.lo note.hi core.store root
        ∙ ap (λ found. if covers note root then None else found) (h.store root)
        ∙ sym (share_cut o t src dst note count src root (covers note root) refl (free root));
    waiting = h.waiting;
    moves = h.moves;
  }

  left_there : (p root : ℕ) → src ≢ p → share_at o t p root ≡ share_at o (cut_more t src dst note count) p root
  left_there p root apart = here (covers note root) refl ∙ sym (share_cut o t src dst note count p root (covers note root) refl (free root))
    where
      here : (b : Bool) → covers note root ≡ b → share_at o t p root ≡ (if b then None else share_at o t p root)
      here true e = let b = covers_bounds note root e in share_none o t (λ key. is_at p (place o t key)) root (ap (is_at p) (home root b.0 b.1) ∙ ne_eqb src p apart)
      here false e = refl

  others_cut : (p : ℕ) (core : CoreValue) → src ≢ p → CoreHolds o t p core → CoreHolds o (cut_more t src dst note count) p core
  others_cut p core apart h = record { set = h.set; store = λ root. h.store root ∙ left_there p root apart; waiting = h.waiting; moves = h.moves }

  cut_chunk : (core : CoreValue) → CoreHolds o t src core → ChunkHolds o t (record { note = note; families = families_between core.store note.lo note.hi })
  cut_chunk core h = record {
    families = λ root. family_in-between note.lo note.hi core.store root (rooted o t src core h) ∙ here root (covers note root) refl;
    rising = within-between note.lo note.hi core.store (rooted o t src core h);
  }
    where
      tidy : (b : Bool) (f : FamilyValue) → (if b then Some f else None) ≡ (if b && true then Some f else None)
      tidy true f = refl
      tidy false f = refl

      here : (root : ℕ) (b : Bool) → covers note root ≡ b → (if b then get core.store root else None) ≡ share o t (λ _. b) root
      here root true e = let p = covers_bounds note root e in stored_home o t src note.lo note.hi core h home root p.0 p.1 ∙ tidy (stands o t root) (family_of o t root)
      here root false e = sym (share_none o t (λ _. false) root refl)

-- whether an item is open with one more note
abbrev open_more : OpeningValue → Trace → Note → ℕ → ℕ → Item → Bool
open_more o t note src dst item = is_on_link o src dst item.seg && not (has_last item.seg item.node (note ∷ notes t))

work_other : (o : OpeningValue) (t : Trace) (note : Note) (item : Item) → is_about item.seg item.node note ≡ false → work_of o (note ∷ notes t) item ≡ work_of o (notes t) item
work_other o t note item other =
    let rest : reached o item.seg item.node (note ∷ notes t) ≡ reached o item.seg item.node (notes t) =
    ap (λ b. end_of_note (extent_of o item.seg item.node).lo (if b then Some note else find (is_about item.seg item.node) (notes t))) other in
    λ i. record { seg = item.seg; node = item.node; pull = item.pull; rest = rest i; hi = (extent_of o item.seg item.node).hi }

open_other : (o : OpeningValue) (t : Trace) (note : Note) (src dst : ℕ) (item : Item) → is_about item.seg item.node note ≡ false → open_more o t note src dst item ≡ is_open o t src dst item
open_other o t note src dst item other = ap (λ b. is_on_link o src dst item.seg && not ((b && note.last) || has_last item.seg item.node (notes t))) other

-- an open item is on its link and has no last note
open_parts : (o : OpeningValue) (t : Trace) (src dst : ℕ) (item : Item) → is_open o t src dst item ≡ true → (is_on_link o src dst item.seg ≡ true) × (has_last item.seg item.node (notes t) ≡ false)
open_parts o t src dst item e =
    let parts = and_parts (is_on_link o src dst item.seg) (not (has_last item.seg item.node (notes t))) e in
    (parts.0, not-true (has_last item.seg item.node (notes t)) parts.1)

-- a test after a test that it implies, where what fails the first is let through by the second
filter-by : (p q : Item → Bool) (xs : List Item) → ((x : Item) → q x ≡ true → p x ≡ true) → filter q xs ≡ filter (λ x. q x || not (p x)) (filter p xs)
filter-by p q [] implies = refl
filter-by p q (x ∷ xs) implies = here (p x) (q x) refl refl (implies x) (filter-by p q xs implies)
  where
    here : (a b : Bool) → p x ≡ a → q x ≡ b → (b ≡ true → a ≡ true) → filter q xs ≡ filter (λ y. q y || not (p y)) (filter p xs)
        → (if b then x ∷ filter q xs else filter q xs) ≡ filter (λ y. q y || not (p y)) (if a then x ∷ filter p xs else filter p xs)
    here true true pa qb h rest = (λ i. x ∷ rest i) ∙ sym (ap (λ c. if c || not (p x) then x ∷ filter (λ y. q y || not (p y)) (filter p xs) else filter (λ y. q y || not (p y)) (filter p xs)) qb)
    here true false pa qb h rest = rest ∙ sym (ap (λ c. if c || not (p x) then x ∷ filter (λ y. q y || not (p y)) (filter p xs) else filter (λ y. q y || not (p y)) (filter p xs)) qb ∙ ap (λ c. if not c then x ∷ filter (λ y. q y || not (p y)) (filter p xs) else filter (λ y. q y || not (p y)) (filter p xs)) pa)
    here false true pa qb h rest = absurd (true≢false (sym (h refl)))
    here false false pa qb h rest = rest

-- the work that stands where an open item does
work_there : (o : OpeningValue) (t : Trace) (src dst at : ℕ) (item : Item) → slice_get (open_items o t src dst) at ≡ Some item → work_at (map (work_of o (notes t)) (open_items o t src dst)) at ≡ work_of o (notes t) item
work_there o t src dst at item there =
    get_or_from_slice_get (map (work_of o (notes t)) (open_items o t src dst)) at (work_of o (notes t) item) no_work
    (slice_get-map (work_of o (notes t)) (open_items o t src dst) at ∙ ap (option_map (work_of o (notes t))) there)

-- the work that is left after the cut
module _ (o : OpeningValue) (t : Trace) (src dst : ℕ) (item : Item) (note : Note) (at : ℕ) (d : IsDistinct is_same_node (items t)) (there : slice_get (open_items o t src dst) at ≡ Some item)
    (is_open_item : is_open o t src dst item ≡ true) (same_seg : note.seg ≡ item.seg) (same_node : note.node ≡ item.node) (is_last : note.last ≡ (note.hi == (extent_of o item.seg item.node).hi)) where
  test : Item → Bool
  test x = open_more o t note src dst x || not (is_open o t src dst x)

  more_implies : (x : Item) → open_more o t note src dst x ≡ true → is_open o t src dst x ≡ true
  more_implies x e = here (is_on_link o src dst x.seg) (is_about x.seg x.node note && note.last) (has_last x.seg x.node (notes t)) e
    where
      here : (a b c : Bool) → (a && not (b || c)) ≡ true → (a && not c) ≡ true
      here true true c h = absurd (true≢false (sym h))
      here true false c h = h
      here false b c h = h

  -- the note is about no other item
  about_other : (other : Item) → is_same_node item other ≡ false → is_about other.seg other.node note ≡ false
  about_other other apart = (λ i. (same_seg i == other.seg) && (same_node i == other.node)) ∙ apart

  changes : ChangesAt item test (work_of o (notes t)) (work_of o (note ∷ notes t))
  unfolding test
  changes = record {
    passes = λ other apart. ap (λ b. b || not (is_open o t src dst other)) (open_other o t note src dst other (about_other other apart)) ∙ or-not_self (is_open o t src dst other);
    same = λ other apart. work_other o t note other (about_other other apart);
  }

  about_item : is_about item.seg item.node note ≡ true
  about_item = is_about-from item.seg item.node note same_seg same_node

  -- the item is open still unless the note is its last
  test_item : test item ≡ not note.last
  unfolding test
  test_item =
      let parts = open_parts o t src dst item is_open_item in
      (λ i. open_more o t note src dst item || not (is_open_item i)) ∙ or-false (open_more o t note src dst item)
      ∙ (λ i. parts.0 i && not ((about_item i && note.last) || parts.1 i)) ∙ ap not (or-false note.last)

  -- what is left of the item
  work_item : work_of o (note ∷ notes t) item ≡ record { seg = item.seg; node = item.node; pull = item.pull; rest = note.hi; hi = (extent_of o item.seg item.node).hi }
  work_item =
      let rest : reached o item.seg item.node (note ∷ notes t) ≡ note.hi =
      ap (λ b. end_of_note (extent_of o item.seg item.node).lo (if b then Some note else find (is_about item.seg item.node) (notes t))) about_item in
      λ i. record { seg = item.seg; node = item.node; pull = item.pull; rest = rest i; hi = (extent_of o item.seg item.node).hi }

  left_by : (b : Bool) → note.last ≡ b → map (work_of o (note ∷ notes t)) (filter test (open_items o t src dst))
      ≡ (if b then remove (map (work_of o (notes t)) (open_items o t src dst)) at
      else slice_set (map (work_of o (notes t)) (open_items o t src dst)) at (record { seg = item.seg; node = item.node; pull = item.pull; rest = note.hi; hi = (extent_of o item.seg item.node).hi }))
  left_by true e = item_gone item test (work_of o (notes t)) (work_of o (note ∷ notes t)) (open_items o t src dst) at changes (distinct-filter (is_open o t src dst) (items t) d) there (test_item ∙ ap not e)
  left_by false e =
      item_changed item test (work_of o (notes t)) (work_of o (note ∷ notes t)) (open_items o t src dst) at changes (distinct-filter (is_open o t src dst) (items t) d) there (test_item ∙ ap not e)
      ∙ ap (slice_set (map (work_of o (notes t)) (open_items o t src dst)) at) work_item

  -- the work of the link after the cut
  pub work_left : map (work_of o (note ∷ notes t)) (filter (open_more o t note src dst) (items t)) ≡ work_after (map (work_of o (notes t)) (open_items o t src dst)) at note.hi
  unfolding test
  work_left =
      ap (map (work_of o (note ∷ notes t))) (filter-by (is_open o t src dst) (open_more o t note src dst) (items t) more_implies)
      ∙ left_by note.last refl
      ∙ ap (λ b. if b then remove (map (work_of o (notes t)) (open_items o t src dst)) at
      else slice_set (map (work_of o (notes t)) (open_items o t src dst)) at (work_from (work_of o (notes t) item) note.hi)) is_last
      ∙ ap (λ work. if note.hi == work.hi then remove (map (work_of o (notes t)) (open_items o t src dst)) at
      else slice_set (map (work_of o (notes t)) (open_items o t src dst)) at (work_from work note.hi)) (sym (work_there o t src dst at item there))

-- maps that agree on what a filter keeps
map_kept : (p : Item → Bool) (f g : Item → WorkValue) (xs : List Item) → ((x : Item) → p x ≡ true → f x ≡ g x) → map f (filter p xs) ≡ map g (filter p xs)
map_kept p f g [] same = refl
map_kept p f g (x ∷ xs) same = here (p x) refl (map_kept p f g xs same)
  where
    here : (b : Bool) → p x ≡ b → map f (filter p xs) ≡ map g (filter p xs) → map f (if b then x ∷ filter p xs else filter p xs) ≡ map g (if b then x ∷ filter p xs else filter p xs)
    here true e rest = λ i. same x e i ∷ rest i
    here false e rest = rest

-- the work of another link stays
work_stays : (o : OpeningValue) (t : Trace) (note : Note) (src dst : ℕ) → is_on_link o src dst note.seg ≡ false
    → map (work_of o (note ∷ notes t)) (filter (open_more o t note src dst) (items t)) ≡ map (work_of o (notes t)) (open_items o t src dst)
work_stays o t note src dst off = ap (λ p. map (work_of o (note ∷ notes t)) (filter p (items t))) (λ i x. same x i) ∙ mapped (items t)
  where
    same : (x : Item) → open_more o t note src dst x ≡ is_open o t src dst x
    same x =
        by_place note.seg x.seg (λ b. (is_on_link o src dst x.seg && not (((b && (note.node == x.node)) && note.last) || has_last x.seg x.node (notes t))) ≡ is_open o t src dst x)
        (λ one. let no_link : is_on_link o src dst x.seg ≡ false = subst (λ g. is_on_link o src dst g ≡ false) one off in
        ap (λ b. b && not (((true && (note.node == x.node)) && note.last) || has_last x.seg x.node (notes t))) no_link ∙ sym (ap (λ b. b && not (has_last x.seg x.node (notes t))) no_link))
        (λ apart. refl)

    mapped : (xs : List Item) → map (work_of o (note ∷ notes t)) (filter (is_open o t src dst) xs) ≡ map (work_of o (notes t)) (filter (is_open o t src dst) xs)
    mapped xs = map_kept (is_open o t src dst) (work_of o (note ∷ notes t)) (work_of o (notes t)) xs
        (λ x e. work_other o t note x (ap (λ b. b && (note.node == x.node)) (ne_eqb note.seg x.seg (λ one. true≢false (sym (open_parts o t src dst x e).0 ∙ subst (λ g. is_on_link o src dst g ≡ false) one off)))))

-- the link after the cut
module _ (o : OpeningValue) (t : Trace) (src dst count at : ℕ) (item : Item) (l : WholeLink) (chunk : ChunkValue) (lh : LinkHolds o t l) (starts : l.src ≡ src) (ends : l.dst ≡ dst) (none : l.out.outbox ≡ None)
    (d : IsDistinct is_same_node (items t)) (there : slice_get (open_items o t src dst) at ≡ Some item) (is_open_item : is_open o t src dst item ≡ true)
    (is_note : chunk.note ≡ next_note o t src dst item) (c : ChunkHolds o t chunk) where
  on_it : link l.src l.dst (chunk.note ∷ notes t) ≡ chunk.note ∷ link l.src l.dst (notes t)
  on_it =
      (λ i. if ((is_note i).src == l.src) && ((is_note i).dst == l.dst) then chunk.note ∷ link l.src l.dst (notes t) else link l.src l.dst (notes t))
      ∙ ap (λ b. if b && (dst == l.dst) then chunk.note ∷ link l.src l.dst (notes t) else link l.src l.dst (notes t)) (eq-eqb src l.src (sym starts))
      ∙ ap (λ b. if b then chunk.note ∷ link l.src l.dst (notes t) else link l.src l.dst (notes t)) (eq-eqb dst l.dst (sym ends))

  before : under_way l ≡ option_list l.inbox ++ l.queue
  before = ap (λ out. option_list l.inbox ++ (l.queue ++ option_list out)) none ∙ ap (λ q. option_list l.inbox ++ q) (append-nil l.queue)

  after : option_list l.inbox ++ (l.queue ++ chunk ∷ []) ≡ under_way l ++ chunk ∷ []
  after = sym (append_assoc (option_list l.inbox) l.queue (chunk ∷ [])) ∙ ap (λ cs. cs ++ chunk ∷ []) (sym before)

  some_of : (xs : List ChunkValue) (i : ℕ) (one : ChunkValue) → slice_get (xs ++ chunk ∷ []) i ≡ Some one → ((slice_get xs i ≡ Some one) ⊎ (chunk ≡ one))
  some_of [] zero one e = inr (ap (λ found. unwrap_or found chunk) e)
  some_of [] (suc i) one e = absurd cc
  some_of (x ∷ xs) zero one e = inl e
  some_of (x ∷ xs) (suc i) one e = some_of xs i one e

  cut_link_holds : LinkHolds o (cut_more t src dst chunk.note count) (record l { out = record { notes = l.out.notes ++ chunk.note ∷ []; work = work_after l.out.work at chunk.note.hi; outbox = Some chunk } })
  cut_link_holds =
      record {
        work =
            ap (λ ws. work_after ws at chunk.note.hi) (lh.work ∙ (λ i. map (work_of o (notes t)) (open_items o t (starts i) (ends i))))
            ∙ sym (work_left o t src dst item chunk.note at d there is_open_item (ap (λ n. n.seg) is_note) (ap (λ n. n.node) is_note)
            (ap (λ n. n.last) is_note ∙ sym (ap (λ n. n.hi == (extent_of o item.seg item.node).hi) is_note)))
            ∙ (λ i. map (work_of o (chunk.note ∷ notes t)) (filter (open_more o t chunk.note (sym starts i) (sym ends i)) (items t)));
        notes = reverse-append l.out.notes (chunk.note ∷ []) ∙ ap (λ ns. chunk.note ∷ ns) lh.notes ∙ sym on_it;
        few_loaded = omega (arith, lh.few_loaded, length-append l.out.notes (chunk.note ∷ []));
        popped = lh.popped;
        pushed = lh.pushed;
        way = ap (map (λ (one : ChunkValue). one.note)) after ∙ map-append (λ (one : ChunkValue). one.note) (under_way l) (chunk ∷ []) ∙ ap (λ ns. ns ++ chunk.note ∷ []) lh.way
            ∙ sym (drop-append-le (load_count t l.src l.dst) l.out.notes (chunk.note ∷ []) lh.few_loaded);
        chunks = λ i one e. ⊎_elim (λ (old : slice_get (under_way l) i ≡ Some one). lh.chunks i one old) (λ (new : chunk ≡ one). subst (ChunkHolds o t) new c)
            (some_of (under_way l) i one (ap (λ cs. slice_get cs i) (sym after) ∙ e));
      }

-- what is said of a link that the chunk wasn't cut for
uncut_link : (o : OpeningValue) (t : Trace) (src dst count : ℕ) (note : Note) (s d : ℕ) → note.src ≡ src → note.dst ≡ dst → ((src == s) && (dst == d)) ≡ false → is_on_link o s d note.seg ≡ false → SaySame o t (cut_more t src dst note count) s d
uncut_link o t src dst count note s d same_src same_dst apart off = record {
  work = work_stays o t note s d off;
  notes = (λ i. if (same_src i == s) && (same_dst i == d) then note ∷ link s d (notes t) else link s d (notes t)) ∙ ap (λ b. if b then note ∷ link s d (notes t) else link s d (notes t)) apart;
  loaded = refl;
  popped = refl;
  pushed = refl;
}

-- a segment of one link is of no other
goes_other : (found : Option Range) (src dst s d : ℕ) → goes found src dst ≡ true → ((src == s) && (dst == d)) ≡ false → goes found s d ≡ false
goes_other None src dst s d e off = refl
goes_other (Some segment) src dst s d e off =
    (λ i. (eqb-true segment.src src (and_parts _ _ e).0 i == s) && (eqb-true segment.dst dst (and_parts (segment.src == src) _ e).1 i == d)) ∙ off

-- an item that is in a filtered list passes the filter
passes : (p : Item → Bool) (xs : List Item) (i : ℕ) (item : Item) → slice_get (filter p xs) i ≡ Some item → p item ≡ true
passes p xs i item e = (kept_in p xs item (Contains-slice_get (filter p xs) i item e)).1

-- the world after the cut
cut_holds : (o : OpeningValue) (t : Trace) (w : WorldValue) (src dst i at count : ℕ) (item : Item) → PartsHold o t w → IsFrom w i src dst → (out_at (core_at w src) dst).outbox ≡ None → CutFacts o t → slice_get (open_items o t src dst) at ≡ Some item
    → PartsHold o (cut_more t src dst (next_note o t src dst item) count) (with_core w src (core_after_cut (core_at w src) dst at (next_note o t src dst item)))
cut_holds o t w src dst i at count item h from none facts there =
    let l = link_value w i in
    let core = core_at w src in
    let note = next_note o t src dst item in
    let known = facts.each src dst item (Contains-slice_get (open_items o t src dst) at item there) in
    let is_open_item = passes (is_open o t src dst) (items t) at item there in
    let hi = (extent_of o item.seg item.node).hi in
    let upto : note.hi ≤ hi = end_upto o t note.lo hi in
    let home : (root : ℕ) → note.lo ≤ root → root < note.hi → place o t root ≡ At src = λ root low high. known.home root low (omega (arith, high, upto)) in
    let unloaded : (root : ℕ) → note.lo ≤ root → root < note.hi → find (λ n. covers n root) (loads t) ≡ None = λ root low high. known.unloaded root low (omega (arith, high, upto)) in
    let held = h.partitions.each src known.below.source in
    let chunk : ChunkValue = record { note = note; families = families_between core.store note.lo note.hi } in
    let cut = core_after_cut core dst at note in
    let after = cut_more t src dst note count in
    let ready : out_at core dst ≡ l.out = sym (out_of w i src dst from) in
    let put : out_at cut dst ≡ cut_out core l.out at note =
    get_or-set_same core.outs dst _ new_out_link (omega (arith, known.below.destination, held.set.outs))
    ∙ ap (λ (out : OutLinkValue). cut_out core out at note) ready in
    let stands : src < length w.cores = omega (arith, known.below.source, h.partitions.count) in
    let here : link_value (with_core w src cut) i ≡ record l { out = cut_out core l.out at note } =
    out_set w i src dst cut from stands refl ∙ ap (λ (out : OutLinkValue). record l { out = out }) put in
    links_changed
    (partitions_changed h (
    core_set o t after w src cut h.partitions known.below.source (source_cut o t src dst count note home unloaded at core held)
    (λ p apart _ c. others_cut o t src dst count note home unloaded p (core_at w p) apart c)
    ))
    (link_set o t after w (with_core w src cut) i src dst h.links from (same_ends w (with_core w src cut) refl)
    (subst (LinkHolds o after) (sym here)
    (cut_link_holds o t src dst count at item l chunk (h.links.each i from.within) from.starts from.ends (ap (λ (out : OutLinkValue). out.outbox) (sym ready) ∙ none) facts.distinct there is_open_item refl (cut_chunk o t src dst count note home unloaded core held)))
    (λ j apart within. out_stays o t w i src dst h.links from cut j apart within stands refl (λ d other. get_or-set_other core.outs dst d _ new_out_link (λ e. other (sym e))))
    (λ _ c. c)
    (λ s d apart. uncut_link o t src dst count note s d refl refl apart (goes_other (slice_get o.recon.segments item.seg) src dst s d (open_parts o t src dst item is_open_item).0 apart)))

-- the result of a cut, by its note
abbrev cut_told : WorldValue → ℕ → ℕ → ℕ → Note → StepResult
cut_told w src dst at note =
    (WasCut note (length (families_between (core_at w src).store note.lo note.hi)), with_core w src (core_after_cut (core_at w src) dst at note))

-- the work of a link is the open items'
works_of : (o : OpeningValue) (t : Trace) (w : WorldValue) (src dst i : ℕ) → PartsHold o t w → IsFrom w i src dst → (out_at (core_at w src) dst).work ≡ map (work_of o (notes t)) (open_items o t src dst)
works_of o t w src dst i h from =
    ap (λ (out : OutLinkValue). out.work) (sym (out_of w i src dst from)) ∙ (h.links.each i from.within).work ∙ (λ k. map (work_of o (notes t)) (open_items o t (from.starts k) (from.ends k)))

cut_some : (o : OpeningValue) (t : Trace) (w : WorldValue) (src dst i at : ℕ) (item : Item) → PartsHold o t w → IsFrom w i src dst → (out_at (core_at w src) dst).outbox ≡ None → CutFacts o t
    → slice_get (open_items o t src dst) at ≡ Some item → next_item (open_items o t src dst) ≡ Some item
    → Keeps o t (Cut src dst) (cut_work w src dst (Some at)) (cut_for o t src dst (next_item (open_items o t src dst)))
cut_some o t w src dst i at item h from none facts there next =
    let l = link_value w i in
    let lh = h.links.each i from.within in
    let core = core_at w src in
    let out = out_at core dst in
    let note = next_note o t src dst item in
    let known = facts.each src dst item (Contains-slice_get (open_items o t src dst) at item there) in
    let held = h.partitions.each src known.below.source in
    let hi = (extent_of o item.seg item.node).hi in
    let work_is : work_at out.work at ≡ work_of o (notes t) item =
    ap (λ ws. work_at ws at) (works_of o t w src dst i h from) ∙ work_there o t src dst at item there in
    let end_is : take_end core.store (work_at out.work at).rest (work_at out.work at).hi core.limit ≡ note.hi =
    (λ k. take_end core.store (work_is k).rest (work_is k).hi core.limit) ∙ end_same o t src note.lo hi core held known.home in
    let number : length out.notes ≡ cut_count t src dst =
    ap (λ (out : OutLinkValue). length out.notes) (sym (out_of w i src dst from)) ∙ sym (length-reverse l.out.notes) ∙ ap length lh.notes ∙ (λ k. length (link (from.starts k) (from.ends k) (notes t))) in
    let note_is : note_for (link_to core dst) out (work_at out.work at) (take_end core.store (work_at out.work at).rest (work_at out.work at).hi core.limit) ≡ note =
    λ k. record {
      src = held.set.part k;
      dst = dst;
      number = number k;
      seg = (work_is k).seg;
      node = (work_is k).node;
      lo = (work_is k).rest;
      hi = end_is k;
      last = end_is k == (work_is k).hi;
    } in
    let families = families_between core.store note.lo note.hi in
    let upto : note.hi ≤ hi = end_upto o t note.lo hi in
    let c = cut_chunk o t src dst 0 note (λ root low high. known.home root low (omega (arith, high, upto))) (λ root low high. known.unloaded root low (omega (arith, high, upto))) core held in
    subst (λ one. Keeps o t (Cut src dst) (cut_told w src dst at one) (cut_for o t src dst (next_item (open_items o t src dst))))
    (sym note_is) (
      ap (WasCut note) (chunk_count o t (record { note = note; families = families }) c) ∙ ap (cut_for o t src dst) (sym next),
      cut_holds o t w src dst i at (length families) item h from none facts there,
    )

cut_found : (o : OpeningValue) (t : Trace) (w : WorldValue) (src dst i : ℕ) (found : Option ℕ) → PartsHold o t w → IsFrom w i src dst → (out_at (core_at w src) dst).outbox ≡ None → CutFacts o t
    → SameNext (work_of o (notes t)) (open_items o t src dst) found
    → Keeps o t (Cut src dst) (cut_work w src dst found) (cut_for o t src dst (next_item (open_items o t src dst)))
cut_found o t w src dst i None h from none facts same = subst (λ next. Keeps o t (Cut src dst) (cut_work w src dst None) (cut_for o t src dst next)) (sym same) (keeps_refused o t w (Cut src dst) NothingToCut h)
cut_found o t w src dst i (Some at) h from none facts same = cut_some o t w src dst i at same.item h from none facts same.there same.next

cut_case : (o : OpeningValue) (t : Trace) (w : WorldValue) (src dst i : ℕ) (outbox : Option ChunkValue) → CutFacts o t → PartsHold o t w → IsFrom w i src dst → (out_at (core_at w src) dst).outbox ≡ outbox
    → Keeps o t (Cut src dst) (if is_some outbox then refuse w OutboxFull else cut_work w src dst (next_work (out_at (core_at w src) dst).work))
    (if nat_lt (push_count t src dst) (cut_count t src dst) then Refused OutboxFull else cut_for o t src dst (next_item (open_items o t src dst)))
cut_case o t w src dst i (Some chunk) facts h from is =
    let c = counted_at o t w i src dst h from in
    let one = ap (λ (out : OutLinkValue). length (option_list out.outbox)) (out_of w i src dst from) ∙ ap (λ out. length (option_list out)) is in
    subst (λ b. Keeps o t (Cut src dst) (refuse w OutboxFull) (if b then Refused OutboxFull else cut_for o t src dst (next_item (open_items o t src dst))))
    (sym (lt-ltb (push_count t src dst) (cut_count t src dst) (omega (arith, c.cut, one))))
    (keeps_refused o t w (Cut src dst) OutboxFull h)
cut_case o t w src dst i None facts h from is =
    let c = counted_at o t w i src dst h from in
    let none = ap (λ (out : OutLinkValue). length (option_list out.outbox)) (out_of w i src dst from) ∙ ap (λ out. length (option_list out)) is in
    let work = (out_at (core_at w src) dst).work in
    subst (λ b. Keeps o t (Cut src dst) (cut_work w src dst (next_work work)) (if b then Refused OutboxFull else cut_for o t src dst (next_item (open_items o t src dst))))
    (sym (le-ltb (push_count t src dst) (cut_count t src dst) (omega (arith, c.cut, none))))
    (cut_found o t w src dst i (next_work work) h from is facts
    (subst (λ ws. SameNext (work_of o (notes t)) (open_items o t src dst) (next_work ws)) (sym (works_of o t w src dst i h from)) (next_same (work_of o (notes t)) (open_items o t src dst) (λ item. refl))))

pub cut_keeps : (o : OpeningValue) (t : Trace) (w : WorldValue) (src dst : ℕ) → CutFacts o t → PartsHold o t w → Keeps o t (Cut src dst) (step_result w (Cut src dst)) (answer o t (Cut src dst))
cut_keeps o t w src dst facts h = keeps_link o t w (Cut src dst) src dst _ _ h (λ i from. cut_case o t w src dst i (out_at (core_at w src) dst).outbox facts h from refl)
