-- Begin keeps what holds.
use Rattle.std.proofs.Common.{subst, ◌≡◌, ℕ, Bool, true, false, List, [], ◌∷◌, ◌++◌, refl, sym, ap, ap₂, ◌∙◌, arith, true≢false, append-nil, eq-eqb}
use Rattle.std.specs.Prelude.{◌<◌, ◌≢◌, length, ◌==◌, ◌&&◌, ◌||◌, if◌then◌else◌, not, map, filter, find, slice_get, Option, Some, None, is_some, Result, Ok, Err}
use Rattle.std.specs.Option.{option_map_or}
use Rattle.std.proofs.lemmas.List.{length-set, map-append}
use Rattle.std.proofs.lemmas.List.Elements.{filter-append}
use Rattle.std.proofs.lemmas.List.Folds.{list_any-append}
use Rattle.std.proofs.lemmas.Bool.{ne_eqb}
use Rattle.sq_moves.specs.declared.status.Status.{Status}
use Rattle.sq_moves.specs.declared.status.Status.TheVariants as status
use Rattle.sq_moves.specs.declared.node.TheConstants.{LEAVES}
use Rattle.sq_moves.specs.declared.tree_fault.BeginFault.{BeginFault}
use Rattle.sq_moves.specs.declared.tree_fault.BeginFault.TheVariants as begin
use Rattle.sq_moves.specs.Node.{is_node, is_above}
use Rattle.sq_moves.specs.Status.{is_claimed}
use Rattle.sq_moves.specs.Answer.{begin_answer}
use Rattle.sq_moves.proofs.Went.{begin_went}
use Rattle.sq_store.specs.declared.chunk.Note.{Note}
use Rattle.sq_moves.specs.declared.recon.Range.{Range}
use Rattle.sq_moves.specs.ReconValue.{extent, is_link}
use Rattle.sq_moves.specs.OpeningValue.{OpeningValue}
use Rattle.sq_exec.specs.GivenUp.{none_given_up, is_given_up, given_up_with}
use Rattle.sq_exec.specs.Work.{WorkValue}
use Rattle.sq_exec.specs.OutLink.{OutLinkValue, new_out_link}
use Rattle.sq_exec.specs.CoreValue.{CoreValue, out_at, given_up_at}
use Rattle.sq_exec.specs.Moving.{whole_node, with_work, begun_in, begun_core}
use Rattle.sq_exec.proofs.GivenUp.{given_up-with}
use Rattle.sq_model.specs.declared.step.Step.{Step}
use Rattle.sq_model.specs.declared.step.Step.TheVariants.{Begin}
use Rattle.sq_model.specs.declared.answer.Answer.TheVariants.{Done}
use Rattle.sq_model.specs.declared.answer.Refusal.TheVariants.{NotClaimed, WrongPull}
use Rattle.sq_model.specs.Trace.{Trace, notes}
use Rattle.sq_model.specs.Nodes.{Item, items, status_of}
use Rattle.sq_model.specs.Place.{extent_of, extent_in}
use Rattle.sq_model.specs.Links.{is_about, has_last, reached, end_of_note, is_on_link, goes, is_open, open_items}
use Rattle.sq_model.specs.Answers.{answer, begin_answered}
use Rattle.sq_transition.specs.WorldValue.{WorldValue, WholeLink, core_at, with_core, link_index, link_value, status_in, source_of}
use Rattle.sq_transition.specs.TreeResults.{with_node, if_done, with_begun}
use Rattle.sq_transition.specs.Transition.{step_result}
use Rattle.sq_transition.specs.Holds.{LinkHolds, LinksHold, CoreHolds, PartitionsHold, work_of, leaves_from, is_leaf_begun}
use Rattle.sq_transition.proofs.Sets.{by_place, get_or-set}
use Rattle.sq_transition.proofs.Changed.{PartsHold, segments_changed, partitions_changed, links_changed}
use Rattle.sq_transition.proofs.Cores.{core_set, set_again, core_kept}
use Rattle.sq_transition.proofs.Keeps.{Keeps, keeps_refused, keeps_moving}
use Rattle.sq_transition.proofs.Links.{IsFrom, index_found, same_ends, link_set}
use Rattle.sq_transition.proofs.LinkEnds.{EndsBelow, AllEndsBelow, out_of, out_set, out_stays}
use Rattle.sq_transition.proofs.Nodes.{keeps_segment, keeps_node, node_set, statuses_same, range_there, range_same}

some_none : {X : Type 0} (x : X) → Some x ≡ None → ⊥
some_none x e = cc

and_true : (b : Bool) → (b && not false) ≡ b
and_true true = refl
and_true false = refl

or_false : (b : Bool) → (b || false) ≡ b
or_false true = refl
or_false false = refl

none_here : (b last rest : Bool) (found : Option Note) (note : Note) → (if b then Some note else found) ≡ None → (found ≡ None → rest ≡ false) → ((b && last) || rest) ≡ false
none_here true last rest found note e later = absurd (some_none note e)
none_here false last rest found note e later = later e

-- a node that no note is about has no last one
none_last : (seg node : ℕ) (ns : List Note) → find (is_about seg node) ns ≡ None → has_last seg node ns ≡ false
none_last seg node [] e = refl
none_last seg node (note ∷ ns) e = none_here (is_about seg node note) note.last (has_last seg node ns) (find (is_about seg node) ns) note e (none_last seg node ns)

-- the work of a link when one more node is begun
items_more : (o : OpeningValue) (t : Trace) (src dst : ℕ) (item : Item) (b : Bool) → is_open o t src dst item ≡ b
    → filter (is_open o t src dst) (items t ++ item ∷ []) ≡ (if b then open_items o t src dst ++ item ∷ [] else open_items o t src dst)
items_more o t src dst item true is = filter-append (is_open o t src dst) (items t) (item ∷ []) ∙ ap (λ b. open_items o t src dst ++ (if b then item ∷ [] else [])) is
items_more o t src dst item false is = filter-append (is_open o t src dst) (items t) (item ∷ []) ∙ ap (λ b. open_items o t src dst ++ (if b then item ∷ [] else [])) is ∙ append-nil (open_items o t src dst)

-- what a begun node adds to its link
record Added (o : OpeningValue) (t : Trace) (seg node : ℕ) (range : Range) : Type 0 where
  there : slice_get o.recon.segments seg ≡ Some range
  fresh : find (is_about seg node) (notes t) ≡ None
  ends : EndsBelow o range.src range.dst

abbrev item_of : ℕ → ℕ → ℕ → Item
item_of seg node pull = record { seg = seg; node = node; pull = pull }

-- whether the node is one of a link's
on_its_link : (o : OpeningValue) (t : Trace) (seg node pull src dst : ℕ) (range : Range) → Added o t seg node range
    → is_open o t src dst (item_of seg node pull) ≡ ((range.src == src) && (range.dst == dst))
on_its_link o t seg node pull src dst range a =
    ap (λ b. is_on_link o src dst seg && not b) (none_last seg node (notes t) a.fresh)
    ∙ and_true (is_on_link o src dst seg) ∙ ap (λ found. goes found src dst) a.there

-- the leaves that are begun when one more node is
leaf_begun-more : (t : Trace) (seg node pull s leaf : ℕ) → is_leaf_begun ((Begin seg node pull, Done) ∷ t) s leaf ≡ (is_leaf_begun t s leaf || ((seg == s) && is_above node leaf))
leaf_begun-more t seg node pull s leaf =
    list_any-append (λ (item : Item). (item.seg == s) && is_above item.node leaf) (items t) (item_of seg node pull ∷ [])
    ∙ ap (λ b. is_leaf_begun t s leaf || b) (or_false ((seg == s) && is_above node leaf))

-- none of another segment
leaf_begun-other : (t : Trace) (seg node pull s leaf : ℕ) → seg ≢ s → is_leaf_begun ((Begin seg node pull, Done) ∷ t) s leaf ≡ is_leaf_begun t s leaf
leaf_begun-other t seg node pull s leaf apart =
    leaf_begun-more t seg node pull s leaf
    ∙ ap (λ b. is_leaf_begun t s leaf || (b && is_above node leaf)) (ne_eqb seg s apart)
    ∙ or_false (is_leaf_begun t s leaf)

-- the work on the whole node is what is left of it
whole_is : (o : OpeningValue) (t : Trace) (core : CoreValue) (seg node pull : ℕ) (range : Range) → core.recon ≡ o.recon → Added o t seg node range
    → whole_node core range seg node pull ≡ work_of o (notes t) (item_of seg node pull)
whole_is o t core seg node pull range same a =
    let keys : extent core.recon.width range node ≡ extent_of o seg node = ap (λ recon. extent recon.width range node) same ∙ ap (λ found. extent_in o.recon.width found node) (sym a.there) in
    let low : (extent core.recon.width range node).lo ≡ reached o seg node (notes t) = ap (λ e. e.lo) keys ∙ ap (end_of_note (extent_of o seg node).lo) (sym a.fresh) in
    λ i. record { seg = seg; node = node; pull = pull; rest = low i; hi = (keys i).hi }

-- the link of the node
more_link : (o : OpeningValue) (t : Trace) (seg node pull : ℕ) (l : WholeLink) (work : WorkValue) → LinkHolds o t l → is_open o t l.src l.dst (item_of seg node pull) ≡ true → work ≡ work_of o (notes t) (item_of seg node pull)
    → LinkHolds o ((Begin seg node pull, Done) ∷ t) (record l { out = with_work l.out work })
more_link o t seg node pull l work h mine is =
    assumption (
      ap₂ (λ (works : List WorkValue) (one : WorkValue). works ++ one ∷ []) h.work is
          ∙ sym (map-append (work_of o (notes t)) (open_items o t l.src l.dst) (item_of seg node pull ∷ []))
          ∙ ap (map (work_of o (notes t))) (sym (items_more o t l.src l.dst (item_of seg node pull) true mine)),
      h,
    )

module _ (o : OpeningValue) (t : Trace) (w : WorldValue) (seg node pull : ℕ) (range : Range) (h : PartsHold o t w) (below : seg < length o.recon.segments) (a : Added o t seg node range) where
  -- the source once the node is begun
  abbrev begun : CoreValue
  begun = begun_in (core_at w range.src) seg node pull (Some range)

  source_before : CoreHolds o t range.src (core_at w range.src)
  source_before = h.partitions.each range.src a.ends.source

  -- the leaves that the source gave up
  leaves_begun : (s leaf : ℕ) → leaves_from o range.src s → leaf < LEAVES → is_given_up (given_up_at begun s) leaf ≡ is_leaf_begun ((Begin seg node pull, Done) ∷ t) s leaf
  leaves_begun s leaf from low =
      let core = core_at w range.src in
      let leaves = given_up_with (given_up_at core seg) node in
      let was = source_before.moves.given_up in
      ap (λ l. is_given_up l leaf) (get_or-set core.given_up seg s leaves none_given_up (omega (arith, below, source_before.set.given_up)))
      ∙ by_place seg s (λ b. is_given_up (if b then leaves else given_up_at core s) leaf ≡ is_leaf_begun ((Begin seg node pull, Done) ∷ t) s leaf)
      (λ same.
      given_up-with (given_up_at core seg) node leaf low
      ∙ ap (λ k. is_given_up (given_up_at core k) leaf || is_above node leaf) same
      ∙ ap (λ b. b || is_above node leaf) (was s leaf from low)
      ∙ ap (λ b. is_leaf_begun t s leaf || (b && is_above node leaf)) (sym (eq-eqb seg s same))
      ∙ sym (leaf_begun-more t seg node pull s leaf))
      (λ apart. was s leaf from low ∙ sym (leaf_begun-other t seg node pull s leaf apart))

  source_begun : CoreHolds o ((Begin seg node pull, Done) ∷ t) range.src begun
  source_begun =
      let core = core_at w range.src in
      let was = source_before in
      record {
        set =
            set_again o t ((Begin seg node pull, Done) ∷ t) range.src core core.started core.stage begun.outs core.inboxes begun.given_up core.loaded was.set was.set.started was.set.stage
            (length-set core.outs range.dst (with_work (out_at core range.dst) (whole_node core range seg node pull))) refl (length-set core.given_up seg (given_up_with (given_up_at core seg) node)) refl;
        store = was.store;
        waiting = was.waiting;
        moves = record { given_up = leaves_begun; loaded = was.moves.loaded; whole = was.moves.whole };
      }

  -- of the other partitions no leaf was begun
  others_begun : (p s leaf : ℕ) → range.src ≢ p → leaves_from o p s → is_leaf_begun ((Begin seg node pull, Done) ∷ t) s leaf ≡ is_leaf_begun t s leaf
  others_begun p s leaf apart from =
      leaf_begun-other t seg node pull s leaf (λ same.
      let one : Some from.0 ≡ Some range = sym from.1 ∙ ap (slice_get o.recon.segments) (sym same) ∙ a.there in
      apart (sym (ap (λ found. option_map_or (λ (r : Range). r.src) found 0) one) ∙ from.2))

  partitions_begun : PartitionsHold o ((Begin seg node pull, Done) ∷ t) (with_core w range.src begun)
  partitions_begun =
      core_set o t ((Begin seg node pull, Done) ∷ t) w range.src begun h.partitions a.ends.source source_begun
      (λ p apart low was. core_kept o t ((Begin seg node pull, Done) ∷ t) p (core_at w p) was (record {
        started = refl;
        stage = refl;
        shares = λ root. refl;
        waits = refl;
        moves = record { begun = λ s leaf from _. others_begun p s leaf apart from; loaded = λ s root into. refl; whole = λ s n into. refl };
      }))

  -- the end of a link from the source
  out_begun : (d : ℕ) → out_at begun d ≡ (if range.dst == d then with_work (out_at (core_at w range.src) range.dst) (whole_node (core_at w range.src) range seg node pull) else out_at (core_at w range.src) d)
  out_begun d =
      let core = core_at w range.src in
      get_or-set core.outs range.dst d (with_work (out_at core range.dst) (whole_node core range seg node pull)) new_out_link (omega (arith, a.ends.destination, source_before.set.outs))

  -- the link of the node, where its source has work on it
  link_begun : (i : ℕ) → IsFrom w i range.src range.dst → LinkHolds o ((Begin seg node pull, Done) ∷ t) (link_value (with_core w range.src begun) i)
  link_begun i from =
      let core = core_at w range.src in
      let l = link_value w i in
      let work = whole_node core range seg node pull in
      let there : range.src < length w.cores = omega (arith, a.ends.source, h.partitions.count) in
      let mine : is_open o t l.src l.dst (item_of seg node pull) ≡ true =
      on_its_link o t seg node pull l.src l.dst range a ∙ ap (λ b. b && (range.dst == l.dst)) (eq-eqb range.src l.src (sym from.starts)) ∙ eq-eqb range.dst l.dst (sym from.ends) in
      let out : out_at begun range.dst ≡ with_work l.out work =
      out_begun range.dst ∙ ap (λ b. if b then with_work (out_at core range.dst) work else out_at core range.dst) (eq-eqb range.dst range.dst refl)
      ∙ ap (λ (end : OutLinkValue). with_work end work) (sym (out_of w i range.src range.dst from)) in
      subst (LinkHolds o ((Begin seg node pull, Done) ∷ t))
      (sym (out_set w i range.src range.dst begun from there refl ∙ ap (λ end. record l { out = end }) out))
      (more_link o t seg node pull l work (h.links.each i from.within) mine (whole_is o t core seg node pull range source_before.set.recon a))

  links_begun : (i : ℕ) → IsFrom w i range.src range.dst → LinksHold o ((Begin seg node pull, Done) ∷ t) (with_core w range.src begun)
  links_begun i from =
      let core = core_at w range.src in
      link_set o t ((Begin seg node pull, Done) ∷ t) w (with_core w range.src begun) i range.src range.dst h.links from (same_ends w (with_core w range.src begun) refl)
      (link_begun i from)
      (λ j apart within. out_stays o t w i range.src range.dst h.links from begun j apart within (omega (arith, a.ends.source, h.partitions.count)) refl (λ d other.
      out_begun d ∙ ap (λ b. if b then with_work (out_at core range.dst) (whole_node core range seg node pull) else out_at core d) (ne_eqb range.dst d other)))
      (λ chunk c. c)
      (λ s d apart. assumption (ap (map (work_of o (notes t))) (items_more o t s d (item_of seg node pull) false (on_its_link o t seg node pull s d range a ∙ apart))))

  -- the world after a node was begun
  begun_at : (found : Option ℕ) → is_node node ≡ true → link_index w range.src range.dst ≡ found → is_some found ≡ true
      → PartsHold o ((Begin seg node pull, Done) ∷ t) (with_core (with_node w seg node (status.Partial pull)) range.src begun)
  begun_at None is_n e is = absurd (true≢false (sym is))
  begun_at (Some i) is_n e is =
      links_changed
      (partitions_changed
      (segments_changed h (node_set o t ((Begin seg node pull, Done) ∷ t) w seg node (status.Partial pull) h.segments below is_n (λ g n. refl)))
      partitions_begun)
      (links_begun i (index_found w range.src range.dst i e))

  begun_holds : is_node node ≡ true → is_link o.recon.ranges range.src range.dst ≡ true → PartsHold o ((Begin seg node pull, Done) ∷ t) (with_begun w seg node pull)
  begun_holds is_n linked =
      let comes : source_of w seg ≡ range.src = ap (λ found. option_map_or (λ (r : Range). r.src) found 0) (range_same o w seg range h.plans.recon a.there) in
      let found : slice_get (core_at w range.src).recon.segments seg ≡ Some range = ap (λ recon. slice_get recon.segments seg) source_before.set.recon ∙ a.there in
      let same : with_begun w seg node pull ≡ with_core (with_node w seg node (status.Partial pull)) range.src begun =
      ap (λ src. with_core (with_node w seg node (status.Partial pull)) src (begun_core (core_at w src) seg node pull)) comes
      ∙ ap (λ segment. with_core (with_node w seg node (status.Partial pull)) range.src (begun_in (core_at w range.src) seg node pull segment)) found in
      subst (PartsHold o ((Begin seg node pull, Done) ∷ t)) (sym same)
      (begun_at (link_index w range.src range.dst) is_n refl (h.links.ends range.src range.dst ∙ linked))

begin_kept : (o : OpeningValue) (t : Trace) (w new : WorldValue) (step : Step) (begun : Result (Unit {0}) BeginFault) → PartsHold o t w
    → (begun ≡ Ok tt → PartsHold o ((step, Done) ∷ t) new)
    → Keeps o t step (if_done (begin_answered begun) w new) (begin_answered begun)
begin_kept o t w new step (Ok tt) h went = (refl, went refl)
begin_kept o t w new step (Err (begin.NotClaimed found)) h went = keeps_refused o t w step NotClaimed h
begin_kept o t w new step (Err begin.WrongPull) h went = keeps_refused o t w step WrongPull h

-- no note is about a node that is only claimed, and each segment goes from one partition to another and lies on a link
pub record BeginFacts (o : OpeningValue) (t : Trace) : Type 0 where
  pub fresh : (seg node : ℕ) → is_claimed (status_of t seg node) ≡ true → find (is_about seg node) (notes t) ≡ None
  pub linked : (seg : ℕ) (range : Range) → slice_get o.recon.segments seg ≡ Some range → is_link o.recon.ranges range.src range.dst ≡ true
  pub ends : AllEndsBelow o

pub begin_keeps : (o : OpeningValue) (t : Trace) (w : WorldValue) (seg node pull : ℕ) → BeginFacts o t → PartsHold o t w
    → Keeps o t (Begin seg node pull) (step_result w (Begin seg node pull)) (answer o t (Begin seg node pull))
begin_keeps o t w seg node pull facts h =
    keeps_moving o t w (Begin seg node pull) _ _ h (keeps_segment o t w (Begin seg node pull) seg _ _ h (λ below. keeps_node o t w (Begin seg node pull) node _ _ h (λ is.
    let found = range_there o seg below in
    subst (λ sts. Keeps o t (Begin seg node pull) (if_done (begin_answered (begin_answer (status_in w seg) node pull)) w (with_begun w seg node pull)) (begin_answered (begin_answer sts node pull)))
    (statuses_same o t w seg h below)
    (begin_kept o t w (with_begun w seg node pull) (Begin seg node pull) (begin_answer (status_in w seg) node pull) h (λ went.
    let claimed = subst (λ (sts : ℕ → Status). is_claimed (sts node) ≡ true) (statuses_same o t w seg h below) (ap is_claimed (begin_went (status_in w seg) node pull went)) in
    let added : Added o t seg node found.0 = record { there = found.1; fresh = facts.fresh seg node claimed; ends = facts.ends seg found.0 found.1 } in
    begun_holds o t w seg node pull found.0 h below added is (facts.linked seg found.0 found.1))))))
