-- Load keeps what holds.
use Rattle.std.proofs.Common.{subst, ◌≡◌, ℕ, zero, suc, Bool, true, false, List, [], ◌∷◌, ◌++◌, refl, sym, ap, ◌∙◌, arith, length, length-append, append_assoc, eq-eqb}
use Rattle.std.specs.Prelude.{◌+◌, ◌-◌, ◌<◌, ◌≤◌, ◌≢◌, ◌==◌, ◌&&◌, ◌||◌, if◌then◌else◌, map, take, drop, reverse, nat_lt, find, slice_get, Option, Some, None, is_some}
use Rattle.std.specs.FinMap.{get}
use Rattle.std.proofs.lemmas.List.{take-append-drop, length-take-le, reverse-append, length-map, length-reverse, length-drop, get_or-set_same, get_or-set_other}
use Rattle.std.proofs.lemmas.Option.{same_Some, slice_get_within}
use Rattle.std.proofs.lemmas.Bool.{ne_eqb, lt-ltb, le-leb}
use Rattle.std.proofs.Math.Bool.{or_comm}
use Rattle.std.proofs.Math.Seq.{drop-append_seam}
use Rattle.sq_schema.specs.Family.{FamilyValue}
use Rattle.sq_store.specs.declared.chunk.Note.{Note}
use Rattle.sq_store.specs.ChunkValue.{ChunkValue, covers}
use Rattle.sq_store.specs.StoreValue.{with_families, family_in}
use Rattle.sq_store.proofs.Rising.{get-with_families, roots-within}
use Rattle.sq_moves.specs.declared.recon.Range.{Range}
use Rattle.sq_moves.specs.OpeningValue.{OpeningValue}
use Rattle.sq_exec.specs.Runs.{is_loaded, is_whole, runs_with}
use Rattle.sq_exec.proofs.Runs.{loaded-runs_with, whole-runs_with}
use Rattle.sq_exec.specs.CoreValue.{CoreValue, inbox_at, with_inbox, loaded_at}
use Rattle.sq_exec.specs.Moving.{loaded_core}
use Rattle.sq_model.specs.declared.step.Step.TheVariants.{Load}
use Rattle.sq_model.specs.declared.answer.Answer.TheVariants.{WasLoaded, Refused}
use Rattle.sq_model.specs.declared.answer.Refusal.TheVariants.{InboxEmpty}
use Rattle.sq_model.specs.Trace.{Trace, notes, loads, link, load_count, pop_count}
use Rattle.sq_model.specs.Tables.{stands, family_of}
use Rattle.sq_model.specs.Place.{At, Under_way, source, place, cut_place, loaded_place}
use Rattle.sq_model.specs.Links.{has_last, family_count}
use Rattle.sq_model.specs.Orderly.{IsPrefix}
use Rattle.sq_model.specs.Answers.{answer, load_of}
use Rattle.sq_transition.specs.WorldValue.{WorldValue, WholeLink, core_at, with_core, link_value, option_list, under_way}
use Rattle.sq_transition.specs.LinkResults.{load_chunk}
use Rattle.sq_transition.specs.Transition.{step_result}
use Rattle.sq_transition.specs.Holds.{CoreHolds, LinkHolds, ChunkHolds, share, share_at, is_at, is_key_loaded, comes_into}
use Rattle.sq_transition.proofs.Sets.{by_place, get_or-set}
use Rattle.sq_transition.proofs.Changed.{PartsHold, partitions_changed, links_changed}
use Rattle.sq_transition.proofs.Keeps.{Keeps, keeps_refused}
use Rattle.sq_transition.proofs.Cores.{core_set}
use Rattle.sq_transition.proofs.Links.{IsFrom, keeps_link, same_ends, link_set}
use Rattle.sq_transition.proofs.LinkEnds.{inbox_held, loaded_held, inbox_of, inbox_set, inbox_stays, way_below}
use Rattle.sq_transition.proofs.PushPop.{counted_at}
use Rattle.sq_transition.proofs.Parts.{share_none}

-- what is known of the chunk that a link has to load next: its note continues where the loaded ones end
pub record NextFacts (o : OpeningValue) (t : Trace) (src dst : ℕ) (note : Note) : Type 0 where
  pub comes_from : note.src ≡ src
  pub goes_to : note.dst ≡ dst
  pub arrives : comes_into o dst note.seg
  pub found : find (λ other. other.number == load_count t src dst) (link src dst (notes t)) ≡ Some note
  pub away : (root : ℕ) → covers note root ≡ true → place o t root ≡ Under_way note

-- the trace with one more load
abbrev pub loaded : Trace → ℕ → ℕ → Note → ℕ → Trace
loaded t src dst note families = (Load src dst, WasLoaded note families) ∷ t

-- the place of a root key after the load
place_now : (o : OpeningValue) (t : Trace) (src dst : ℕ) (note : Note) (families root : ℕ) (b : Bool) → covers note root ≡ b
    → place o (loaded t src dst note families) root ≡ (if b then At note.dst else place o t root)
place_now o t src dst note families root true e = ap (λ c. loaded_place (cut_place (source o root) (find (λ n. covers n root) (notes t))) (if c then Some note else find (λ n. covers n root) (loads t))) e
place_now o t src dst note families root false e = ap (λ c. loaded_place (cut_place (source o root) (find (λ n. covers n root) (notes t))) (if c then Some note else find (λ n. covers n root) (loads t))) e

-- what is at a partition after the load, where the note covers the root key and where it doesn't
share_covered : (o : OpeningValue) (t : Trace) (src dst : ℕ) (note : Note) (families p root : ℕ) → covers note root ≡ true → share_at o (loaded t src dst note families) p root ≡ share o t (λ _. note.dst == p) root
share_covered o t src dst note families p root e = ap (λ where_it. if stands o t root && is_at p where_it then Some (family_of o t root) else None) (place_now o t src dst note families root true e)

share_uncovered : (o : OpeningValue) (t : Trace) (src dst : ℕ) (note : Note) (families p root : ℕ) → covers note root ≡ false → share_at o (loaded t src dst note families) p root ≡ share_at o t p root
share_uncovered o t src dst note families p root e = ap (λ where_it. if stands o t root && is_at p where_it then Some (family_of o t root) else None) (place_now o t src dst note families root false e)

-- before the load no partition has the root key
share_away : (o : OpeningValue) (t : Trace) (src dst : ℕ) (note : Note) (p root : ℕ) → NextFacts o t src dst note → covers note root ≡ true → share_at o t p root ≡ None
share_away o t src dst note p root facts e = share_none o t (λ key. is_at p (place o t key)) root (ap (is_at p) (facts.away root e))

-- the store that the chunk is loaded into
stored_here : (o : OpeningValue) (t : Trace) (core : CoreValue) (src dst count root : ℕ) (chunk : ChunkValue) (b : Bool) → CoreHolds o t dst core → NextFacts o t src dst chunk.note → ChunkHolds o t chunk → covers chunk.note root ≡ b
    → get (with_families core.store chunk.families) root ≡ share_at o (loaded t src dst chunk.note count) dst root
stored_here o t core src dst count root chunk true h facts c e =
    get-with_families chunk.note.lo chunk.note.hi chunk.families core.store root c.rising
    ∙ (λ i. if is_some (found i) then found i else none i)
    ∙ settled (share o t (λ _. chunk.note.dst == dst) root)
    ∙ sym (share_covered o t src dst chunk.note count dst root e)
  where
    found : family_in chunk.families root ≡ share o t (λ _. chunk.note.dst == dst) root
    found = c.families root ∙ ap (λ b. if stands o t root && b then Some (family_of o t root) else None) (e ∙ sym (eq-eqb chunk.note.dst dst facts.goes_to))

    none : get core.store root ≡ None
    none = h.store root ∙ share_away o t src dst chunk.note dst root facts e

    settled : (f : Option FamilyValue) → (if is_some f then f else None) ≡ f
    settled (Some f) = refl
    settled None = refl
stored_here o t core src dst count root chunk false h facts c e =
    get-with_families chunk.note.lo chunk.note.hi chunk.families core.store root c.rising
    ∙ ap (λ found. if is_some found then found else get core.store root) (c.families root ∙ share_none o t (covers chunk.note) root e)
    ∙ h.store root ∙ sym (share_uncovered o t src dst chunk.note count dst root e)

-- the stores of the others
share_stays : (o : OpeningValue) (t : Trace) (src dst count p root : ℕ) (note : Note) (b : Bool) → dst ≢ p → NextFacts o t src dst note → covers note root ≡ b → share_at o t p root ≡ share_at o (loaded t src dst note count) p root
share_stays o t src dst count p root note true apart facts e =
    share_away o t src dst note p root facts e
    ∙ sym (share_none o t (λ _. note.dst == p) root (ne_eqb note.dst p (λ same. apart (sym facts.goes_to ∙ same))))
    ∙ sym (share_covered o t src dst note count p root e)
share_stays o t src dst count p root note false apart facts e = sym (share_uncovered o t src dst note count p root e)

-- what is loaded of a segment at the destination after the load
module _ (o : OpeningValue) (t : Trace) (src dst count : ℕ) (core : CoreValue) (chunk : ChunkValue) (h : CoreHolds o t dst core) (within : chunk.note.seg < length core.loaded) where
  runs_now : (seg : ℕ) → loaded_at (loaded_core core src chunk) seg ≡ (if chunk.note.seg == seg then runs_with (loaded_at core chunk.note.seg) chunk.note else loaded_at core seg)
  runs_now seg = get_or-set core.loaded chunk.note.seg seg (runs_with (loaded_at core chunk.note.seg) chunk.note) [] within

  key_now : (seg root : ℕ) → comes_into o dst seg → is_loaded (loaded_at (loaded_core core src chunk) seg) root ≡ is_key_loaded (loaded t src dst chunk.note count) seg root
  key_now seg root comes =
      ap (λ runs. is_loaded runs root) (runs_now seg)
      ∙ by_place chunk.note.seg seg (λ b. is_loaded (if b then runs_with (loaded_at core chunk.note.seg) chunk.note else loaded_at core seg) root ≡ ((b && covers chunk.note root) || is_key_loaded t seg root))
      (λ same. ap (λ g. is_loaded (runs_with (loaded_at core g) chunk.note) root) same
      ∙ loaded-runs_with (loaded_at core seg) chunk.note root
      ∙ ap (λ b. b || covers chunk.note root) (h.moves.loaded seg root comes)
      ∙ or_comm (is_key_loaded t seg root) (covers chunk.note root))
      (λ apart. h.moves.loaded seg root comes)

  whole_now : (seg node : ℕ) → comes_into o dst seg → is_whole (loaded_at (loaded_core core src chunk) seg) node ≡ has_last seg node (chunk.note ∷ loads t)
  whole_now seg node comes =
      ap (λ runs. is_whole runs node) (runs_now seg)
      ∙ by_place chunk.note.seg seg (λ b. is_whole (if b then runs_with (loaded_at core chunk.note.seg) chunk.note else loaded_at core seg) node ≡ (((b && (chunk.note.node == node)) && chunk.note.last) || has_last seg node (loads t)))
      (λ same. ap (λ g. is_whole (runs_with (loaded_at core g) chunk.note) node) same
      ∙ whole-runs_with (loaded_at core seg) chunk.note node
      ∙ ap (λ b. b || ((chunk.note.node == node) && chunk.note.last)) (h.moves.whole seg node comes)
      ∙ or_comm (has_last seg node (loads t)) ((chunk.note.node == node) && chunk.note.last))
      (λ apart. h.moves.whole seg node comes)

-- the destination after the load
loads_here : (o : OpeningValue) (t : Trace) (src dst count : ℕ) (core : CoreValue) (chunk : ChunkValue) → CoreHolds o t dst core → NextFacts o t src dst chunk.note → ChunkHolds o t chunk
    → CoreHolds o (loaded t src dst chunk.note count) dst (loaded_core core src chunk)
loads_here o t src dst count core chunk h facts c =
    let exists = slice_get_within o.recon.segments chunk.note.seg facts.arrives.0 facts.arrives.1 in
    let within : chunk.note.seg < length core.loaded = omega (arith, exists, h.set.loaded) in
    record {
      set = loaded_held o t dst chunk.note.seg (with_inbox core src None) (runs_with (loaded_at core chunk.note.seg) chunk.note) (inbox_held o t dst src core None h.set);
      store = λ root. stored_here o t core src dst count root chunk (covers chunk.note root) h facts c refl;
      waiting = h.waiting;
      moves = record {
        given_up = h.moves.given_up;
        loaded = key_now o t src dst count core chunk h within;
        whole = whole_now o t src dst count core chunk h within;
      };
    }

-- a segment moves to one partition alone
comes_once : (o : OpeningValue) (part other seg : ℕ) → comes_into o part seg → comes_into o other seg → part ≡ other
comes_once o part other seg one two = sym one.2 ∙ ap (λ (range : Range). range.dst) (same_Some one.0 two.0 (sym one.1 ∙ two.1)) ∙ two.2

-- another partition after the load
loads_there : (o : OpeningValue) (t : Trace) (src dst count p : ℕ) (note : Note) (core : CoreValue) → dst ≢ p → NextFacts o t src dst note → CoreHolds o t p core → CoreHolds o (loaded t src dst note count) p core
loads_there o t src dst count p note core apart facts h =
    let other : (seg : ℕ) → comes_into o p seg → (note.seg == seg) ≡ false =
    λ seg comes. ne_eqb note.seg seg (λ same. apart (comes_once o dst p seg (subst (comes_into o dst) same facts.arrives) comes)) in
    record {
      set = h.set;
      store = λ root. h.store root ∙ share_stays o t src dst count p root note (covers note root) apart facts refl;
      waiting = h.waiting;
      moves = record {
        given_up = h.moves.given_up;
        loaded = λ seg root comes. h.moves.loaded seg root comes ∙ sym (ap (λ b. (b && covers note root) || is_key_loaded t seg root) (other seg comes));
        whole = λ seg node comes. h.moves.whole seg node comes ∙ sym (ap (λ b. ((b && (note.node == node)) && note.last) || has_last seg node (loads t)) (other seg comes));
      };
    }

drop_one : {X : Type 0} (n : ℕ) (xs : List X) → drop 1 (drop n xs) ≡ drop (n + 1) xs
drop_one zero xs = refl
drop_one (suc n) [] = let e : suc n + 1 ≡ suc (n + 1) = omega arith in rw e refl
drop_one (suc n) (x ∷ xs) = let e : suc n + 1 ≡ suc (n + 1) = omega arith in rw e (drop_one n xs)

-- the loads of a link with one more
more_loads : (src dst s d : ℕ) (note : Note) (loads : List Note) → note.src ≡ src → note.dst ≡ dst → link s d (note ∷ loads) ≡ (if (src == s) && (dst == d) then note ∷ link s d loads else link s d loads)
more_loads src dst s d note loads from to = λ i. if (from i == s) && (to i == d) then note ∷ link s d loads else link s d loads

-- a link whose oldest chunk was loaded
unloaded : (o : OpeningValue) (t : Trace) (src dst count : ℕ) (l : WholeLink) (chunk : ChunkValue) → LinkHolds o t l → l.inbox ≡ Some chunk → l.src ≡ src → l.dst ≡ dst → NextFacts o t src dst chunk.note
    → LinkHolds o (loaded t src dst chunk.note count) (record l { inbox = None })
unloaded o t src dst count l chunk h full same_src same_dst facts =
    let here : link l.src l.dst (chunk.note ∷ loads t) ≡ chunk.note ∷ link l.src l.dst (loads t) =
    more_loads src dst l.src l.dst chunk.note (loads t) facts.comes_from facts.goes_to
    ∙ (λ i. if eq-eqb src l.src (sym same_src) i && eq-eqb dst l.dst (sym same_dst) i then chunk.note ∷ link l.src l.dst (loads t) else link l.src l.dst (loads t)) in
    let split : under_way l ≡ chunk ∷ (l.queue ++ option_list l.out.outbox) = ap (λ box. option_list box ++ (l.queue ++ option_list l.out.outbox)) full in
    let before = load_count t l.src l.dst in
    let way : chunk.note ∷ map (λ (c : ChunkValue). c.note) (l.queue ++ option_list l.out.outbox) ≡ drop before l.out.notes = sym (ap (map (λ (c : ChunkValue). c.note)) split) ∙ h.way in
    let some = ap length way ∙ length-drop before l.out.notes in
    let more : load_count (loaded t src dst chunk.note count) l.src l.dst ≡ before + 1 = let len = ap length here in omega (arith, len) in
    let one = ap (λ box. length (option_list box)) full in
    record {
      work = h.work;
      notes = h.notes;
      few_loaded = omega (arith, some, h.few_loaded, more);
      popped = omega (arith, h.popped, one, more);
      pushed = h.pushed;
      way = ap (drop 1) way ∙ drop_one before l.out.notes ∙ ap (λ n. drop n l.out.notes) (sym more);
      chunks = λ i one at. h.chunks (suc i) one (ap (λ cs. slice_get cs (suc i)) split ∙ at);
    }

-- the chunk that came to the destination of a link
came_first : (o : OpeningValue) (t : Trace) (l : WholeLink) (chunk : ChunkValue) → LinkHolds o t l → l.inbox ≡ Some chunk → ChunkHolds o t chunk
came_first o t l chunk h full = h.chunks 0 chunk (ap (λ box. slice_get (option_list box ++ (l.queue ++ option_list l.out.outbox)) 0) full)

-- the world after a chunk was loaded
load_holds : (o : OpeningValue) (t : Trace) (w : WorldValue) (src dst i count : ℕ) (chunk : ChunkValue) → PartsHold o t w → IsFrom w i src dst → (link_value w i).inbox ≡ Some chunk → NextFacts o t src dst chunk.note
    → PartsHold o (loaded t src dst chunk.note count) (with_core w dst (loaded_core (core_at w dst) src chunk))
load_holds o t w src dst i count chunk h from full facts =
    let l = link_value w i in
    let lh = h.links.each i from.within in
    let core = core_at w dst in
    let now = loaded_core core src chunk in
    let after = loaded t src dst chunk.note count in
    let some : 0 < length (under_way l) =
    let one = ap (λ box. length (option_list box)) full in
    omega (arith, length-append (option_list l.inbox) (l.queue ++ option_list l.out.outbox), one) in
    let below = way_below o t w i src dst h from some in
    let held = h.partitions.each dst below.destination in
    let there : dst < length w.cores = omega (arith, below.destination, h.partitions.count) in
    let stands : src < length core.inboxes = omega (arith, below.source, held.set.inboxes) in
    let new : WorldValue = with_core w dst now in
    let here : link_value new i ≡ record l { inbox = None } =
    inbox_set w i src dst now from there refl ∙ ap (λ (inbox : Option ChunkValue). record l { inbox = inbox }) (get_or-set_same core.inboxes src None None stands) in
    links_changed
    (partitions_changed h (
    core_set o t after w dst now h.partitions below.destination
    (loads_here o t src dst count core chunk held facts (came_first o t l chunk lh full))
    (λ p apart _ c. loads_there o t src dst count p chunk.note (core_at w p) apart facts c)
    ))
    (link_set o t after w new i src dst h.links from (same_ends w new refl)
    (subst (LinkHolds o after) (sym here) (unloaded o t src dst count l chunk lh full from.starts from.ends facts))
    (λ j apart within. inbox_stays o t w i src dst h.links from now j apart within there refl (λ s other. get_or-set_other core.inboxes src s None None (λ e. other (sym e))))
    (λ _ c. c)
    (λ s d apart. assumption (ap length (more_loads src dst s d chunk.note (loads t) facts.comes_from facts.goes_to ∙ ap (λ b. if b then chunk.note ∷ link s d (loads t) else link s d (loads t)) apart))))

-- what loading rests on: what is known of the note right after the loaded ones of a link, and that these begin its notes
pub record LoadFacts (o : OpeningValue) (t : Trace) : Type 0 where
  pub prefix : (src dst : ℕ) → IsPrefix t src dst
  pub next : (src dst : ℕ) (front : List Note) (note : Note) → front ++ note ∷ link src dst (loads t) ≡ link src dst (notes t) → NextFacts o t src dst note

same_rest : {X : Type 0} (us vs xs ys : List X) → us ++ xs ≡ vs ++ ys → length xs ≡ length ys → xs ≡ ys
same_rest us vs xs ys e even =
    let total = ap length e in
    let la = length-append us xs in
    let lb = length-append vs ys in
    let len : length us ≡ length vs = omega (arith, total, la, lb, even) in
    sym (drop-append_seam us xs) ∙ (λ i. drop (len i) (e i)) ∙ drop-append_seam vs ys

-- the notes of a link that aren't loaded, and those that are
pub way_and_loads : (o : OpeningValue) (t : Trace) (l : WholeLink) → LinkHolds o t l → IsPrefix t l.src l.dst → reverse (drop (load_count t l.src l.dst) l.out.notes) ++ link l.src l.dst (loads t) ≡ link l.src l.dst (notes t)
way_and_loads o t l h prefix =
    let n = load_count t l.src l.dst in
    let parts : reverse (drop n l.out.notes) ++ reverse (take n l.out.notes) ≡ link l.src l.dst (notes t) =
    sym (reverse-append (take n l.out.notes) (drop n l.out.notes)) ∙ ap reverse (take-append-drop n l.out.notes) ∙ h.notes in
    let even : length (reverse (take n l.out.notes)) ≡ length (link l.src l.dst (loads t)) = length-reverse (take n l.out.notes) ∙ length-take-le n l.out.notes h.few_loaded in
    ap (λ ns. reverse (drop n l.out.notes) ++ ns) (sym (same_rest (reverse (drop n l.out.notes)) prefix.0 (reverse (take n l.out.notes)) (link l.src l.dst (loads t)) (parts ∙ sym prefix.1) even)) ∙ parts

pub next_note_of : (o : OpeningValue) (t : Trace) (l : WholeLink) (chunk : ChunkValue) → LinkHolds o t l → IsPrefix t l.src l.dst → l.inbox ≡ Some chunk
    → reverse (map (λ (c : ChunkValue). c.note) (l.queue ++ option_list l.out.outbox)) ++ chunk.note ∷ link l.src l.dst (loads t) ≡ link l.src l.dst (notes t)
next_note_of o t l chunk h prefix full =
    let rest = map (λ (c : ChunkValue). c.note) (l.queue ++ option_list l.out.outbox) in
    let way : chunk.note ∷ rest ≡ drop (load_count t l.src l.dst) l.out.notes = sym (ap (λ box. map (λ (c : ChunkValue). c.note) (option_list box ++ (l.queue ++ option_list l.out.outbox))) full) ∙ h.way in
    sym (append_assoc (reverse rest) (chunk.note ∷ []) (link l.src l.dst (loads t)))
    ∙ ap (λ ns. ns ++ link l.src l.dst (loads t)) (sym (reverse-append (chunk.note ∷ []) rest) ∙ ap reverse way)
    ∙ way_and_loads o t l h prefix

-- a chunk holds as many families as root keys are among its keys
pub chunk_count : (o : OpeningValue) (t : Trace) (chunk : ChunkValue) → ChunkHolds o t chunk → length chunk.families ≡ family_count o t chunk.note
chunk_count o t chunk c =
    sym (length-map chunk.families (λ (f : FamilyValue). f.root))
    ∙ ap length (roots-within (chunk.note.hi - chunk.note.lo) chunk.note.lo chunk.note.hi chunk.families (stands o t) refl c.rising
    (λ key low high. ap is_some (c.families key) ∙ stands_if (stands o t key) (covers chunk.note key) (family_of o t key) (covered chunk.note key low high)))
  where
    stands_if : (a b : Bool) (f : FamilyValue) → b ≡ true → is_some (if a && b then Some f else None) ≡ a
    stands_if true b f e = ap (λ c. is_some (if c then Some f else None)) e
    stands_if false b f e = refl

    covered : (note : Note) (key : ℕ) → note.lo ≤ key → key < note.hi → covers note key ≡ true
    covered note key low high = (λ i. le-leb note.lo key low i && nat_lt key note.hi) ∙ lt-ltb key note.hi high

load_case : (o : OpeningValue) (t : Trace) (w : WorldValue) (src dst i : ℕ) (inbox : Option ChunkValue) → LoadFacts o t → PartsHold o t w → IsFrom w i src dst → (link_value w i).inbox ≡ inbox
    → Keeps o t (Load src dst) (load_chunk w src dst inbox)
    (if load_count t src dst == pop_count t src dst then Refused InboxEmpty
    else load_of o t (find (λ note. note.number == load_count t src dst) (link src dst (notes t))))
load_case o t w src dst i None facts h from is =
    let c = counted_at o t w i src dst h from in
    let none = ap (λ box. length (option_list box)) is in
    subst (λ b. Keeps o t (Load src dst) (load_chunk w src dst None) (if b then Refused InboxEmpty else load_of o t (find (λ note. note.number == load_count t src dst) (link src dst (notes t)))))
    (sym (eq-eqb (load_count t src dst) (pop_count t src dst) (omega (arith, c.popped, none))))
    (keeps_refused o t w (Load src dst) InboxEmpty h)
load_case o t w src dst i (Some chunk) facts h from is =
    let c = counted_at o t w i src dst h from in
    let one = ap (λ box. length (option_list box)) is in
    let l = link_value w i in
    let lh = h.links.each i from.within in
    let way = subst (λ (p : ℕ × ℕ). reverse (map (λ (c : ChunkValue). c.note) (l.queue ++ option_list l.out.outbox)) ++ chunk.note ∷ link p.0 p.1 (loads t) ≡ link p.0 p.1 (notes t)) (λ k. (from.starts k, from.ends k))
    (next_note_of o t l chunk lh (facts.prefix l.src l.dst) is) in
    let next = facts.next src dst _ chunk.note way in
    subst (λ b. Keeps o t (Load src dst) (load_chunk w src dst (Some chunk)) (if b then Refused InboxEmpty else load_of o t (find (λ note. note.number == load_count t src dst) (link src dst (notes t)))))
    (sym (ne_eqb (load_count t src dst) (pop_count t src dst) (λ e. absurd (omega (arith, c.popped, one, e))))) (
      ap (WasLoaded chunk.note) (chunk_count o t chunk (came_first o t l chunk lh is)) ∙ ap (load_of o t) (sym next.found),
      load_holds o t w src dst i (length chunk.families) chunk h from is next,
    )

pub load_keeps : (o : OpeningValue) (t : Trace) (w : WorldValue) (src dst : ℕ) → LoadFacts o t → PartsHold o t w → Keeps o t (Load src dst) (step_result w (Load src dst)) (answer o t (Load src dst))
load_keeps o t w src dst facts h = keeps_link o t w (Load src dst) src dst _ _ h (λ i from. load_case o t w src dst i (inbox_at (core_at w dst) src) facts h from (inbox_of w i src dst from))
