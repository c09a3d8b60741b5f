-- What the answer to a step says of a legal history before it.
use Rattle.std.proofs.Common.{◌≡◌, ◌⊎◌, ⊎_elim, inl, inr, ℕ, zero, suc, ◌-◌, ◌<◌, ◌==◌, ◌||◌, ◌&&◌, Bool, true, false, not, nat_le, nat_lt, if◌then◌else◌, is_none, List, ◌∷◌, length, find, Option, Some, None, Result, Ok, Err, refl, sym, ap, ◌∙◌, subst, arith}
use Rattle.std.specs.List.{list_all}
use Rattle.std.proofs.lemmas.Bool.{cond_both, leb-true, leb-false, eqb-true, eqb-false, eq-eqb, or_cases, not-false, false_from_ne_true}
use Rattle.sq_schema.specs.TxnValue.{TxnValue}
use Rattle.sq_schema.specs.Effect.{reply}
use Rattle.sq_moves.specs.declared.tree_fault.SplitFault.{SplitFault}
use Rattle.sq_moves.specs.declared.tree_fault.SplitFault.TheVariants as split
use Rattle.sq_moves.specs.declared.tree_fault.ClaimFault.{ClaimFault}
use Rattle.sq_moves.specs.declared.tree_fault.ClaimFault.TheVariants as claim
use Rattle.sq_moves.specs.declared.tree_fault.BeginFault.{BeginFault}
use Rattle.sq_moves.specs.declared.tree_fault.BeginFault.TheVariants as begin
use Rattle.sq_moves.specs.declared.tree_fault.CompleteFault.{CompleteFault}
use Rattle.sq_moves.specs.declared.tree_fault.CompleteFault.TheVariants as complete
use Rattle.sq_moves.specs.Node.{is_node}
use Rattle.sq_moves.specs.Answer.{split_answer, claim_answer, begin_answer, complete_answer}
use Rattle.sq_store.specs.declared.chunk.Note.{Note}
use Rattle.sq_store.specs.ChunkValue.{covers}
use Rattle.sq_moves.specs.declared.opening.TheConstants.{MAX_WAITING}
use Rattle.sq_moves.specs.OpeningValue.{OpeningValue}
use Rattle.sq_moves.specs.Opening.{IsOpening}
use Rattle.sq_model.specs.declared.step.Step.{Step}
use Rattle.sq_model.specs.declared.step.Step.TheVariants.{Prepare, Start, Submit, Resume, Split, Claim, Begin, Cut, Push, Pop, Load, Complete, Report, Next, Finish, Status, Fold}
use Rattle.sq_model.specs.declared.answer.Answer.{Answer}
use Rattle.sq_model.specs.declared.answer.Answer.TheVariants.{Done, Replied, Moved, WasCut, WasLoaded, Refused}
use Rattle.sq_model.specs.declared.answer.Refusal.{Refusal}
use Rattle.sq_model.specs.declared.answer.Refusal.TheVariants.{NotMoving, NoSuchSegment, NoSuchNode, NoSuchLink, NoSuchPartition, OutboxFull, OutboxEmpty, LinkFull, LinkEmpty, InboxFull, InboxEmpty, AlreadyMoving, NotPrepared, NotFinished, LastStage, WaitFull, LogFull, NoneReady, Memory}
use Rattle.sq_model.specs.Trace.{Trace, notes, loads, link, cut_count, push_count, pop_count, load_count}
use Rattle.sq_model.specs.Leader.{is_moving, is_started, is_ended, is_prepared}
use Rattle.sq_model.specs.Nodes.{Item, status_of}
use Rattle.sq_model.specs.Tables.{now, is_full}
use Rattle.sq_model.specs.Place.{runner, is_coming, is_covered}
use Rattle.sq_model.specs.Links.{has_last, open_items, next_item, next_note, family_count}
use Rattle.sq_model.specs.Waiting.{waiting, is_ready, are_coming, first_ready, has_to_wait}
use Rattle.sq_model.specs.Answers.{answer, while_moving, in_segment, at_node, on_link, at_partition, running, is_running_link, partitions, is_into, is_complete_segment, segment_numbers, has_all, counts_reported, is_last_stage, waits_at, wait_answer, run_answer, routed, resumed, split_answered, claim_answered, begin_answered, complete_answered, cut_for, load_of}
use Rattle.sq_model.specs.Legal.{IsAnswer, IsLegal}
use Rattle.sq_model.specs.Orderly.{CoverOnce}
use Rattle.sq_model.proofs.Lists.{any_in, found_in, not_found, list_any-Contains, list_all-Contains, slice_get-Contains, row_has}
use Rattle.sq_model.proofs.Link.{link_has}
use Rattle.sq_model.proofs.Notes.{cut_item}
use Rattle.sq_model.proofs.Apart.{cut_once, loaded_once}
use Rattle.sq_model.proofs.Waiters.{waits_for, waits-runner}
use Rattle.sq_model.proofs.Ended.{stage_whole, ended_place}
use Rattle.sq_model.proofs.Steps.{split_goes, claim_goes, begin_goes, complete_goes}
use Rattle.sq_laws.specs.Says.{HasToWait, SaysOfSubmit, SaysOfResume, SaysOfStep}

module _ (o : OpeningValue) (is : IsOpening o) (t : Trace) (legal : IsLegal o t) where
  -- ---- refusals that steps share

  -- what holds of each refusal and of the answer holds where the partition is looked for first, and so on
  at_part : (P : Answer → Type 0) → ((refusal : Refusal) → P (Refused refusal)) → (part : ℕ) (given : Answer) → (part < o.old.parts → P given) → P (at_partition o part given)
  at_part P refused part given holds = cond_both (nat_le o.old.parts part) (Refused NoSuchPartition) given P (λ beyond. refused NoSuchPartition) (λ within. holds (leb-false o.old.parts part within))

  in_move : (P : Answer → Type 0) → ((refusal : Refusal) → P (Refused refusal)) → (given : Answer) → P given → P (while_moving t given)
  in_move P refused given holds = cond_both (not (is_moving t)) (Refused NotMoving) given P (λ rests. refused NotMoving) (λ moves. holds)

  in_tree : (P : Answer → Type 0) → ((refusal : Refusal) → P (Refused refusal)) → (seg node : ℕ) (given : Answer) → P given → P (in_segment o t seg (at_node node given))
  in_tree P refused seg node given holds =
      cond_both (is_none (running o t seg)) (Refused NoSuchSegment) (at_node node given) P (λ none. refused NoSuchSegment)
      (λ there. cond_both (not (is_node node)) (Refused NoSuchNode) given P (λ none. refused NoSuchNode) (λ there. holds))

  over_link : (P : Answer → Type 0) → ((refusal : Refusal) → P (Refused refusal)) → (src dst : ℕ) (given : Answer) → P given → P (on_link o t src dst given)
  over_link P refused src dst given holds = cond_both (not (is_running_link o t src dst)) (Refused NoSuchLink) given P (λ none. refused NoSuchLink) (λ there. holds)

  -- ---- transactions

  has_to_wait_is : (part root : ℕ) → has_to_wait o t part root ≡ true → HasToWait o t part root
  has_to_wait_is part root has =
      ⊎_elim
      (λ other. let one = any_in (λ (txn : TxnValue). txn.root == root) (waiting o t part) other in inr (one.0, one.1, eqb-true one.0.root root one.2))
      (λ coming. inl coming)
      (or_cases _ (is_coming o t part root) has)

  module _ (part : ℕ) (txn : TxnValue) where
    abbrev Submitted : Answer → Type 0
    Submitted = SaysOfSubmit o t part txn

    of_routed : (who : Option ℕ) → runner o t txn.root ≡ who → Submitted (routed o t part txn who)
    of_routed None none = (refl, inr (none, refl))
    of_routed (Some who) runs =
        cond_both (who == part) (run_answer o t txn) (Moved txn.id who) Submitted
        (λ here.
        let at : runner o t txn.root ≡ Some part = runs ∙ ap Some (eqb-true who part here) in
        cond_both (is_full o t txn.root) (Refused LogFull) (Replied txn.id (reply (now o t txn.root) txn)) Submitted
        (λ full. (at, full)) (λ room. (refl, record { here = at; rows = refl })))
        (λ away. (refl, inl (runs, eqb-false who part away)))

    of_submit : Submitted (answer o t (Submit part txn))
    of_submit =
        cond_both (nat_le o.old.parts part) (Refused NoSuchPartition) (if has_to_wait o t part txn.root then wait_answer o t part txn else routed o t part txn (runner o t txn.root)) Submitted
        (λ beyond. leb-true o.old.parts part beyond)
        (λ within.
        cond_both (has_to_wait o t part txn.root) (wait_answer o t part txn) (routed o t part txn (runner o t txn.root)) Submitted
        (λ has.
        let why = has_to_wait_is part txn.root has in
        cond_both (nat_le MAX_WAITING (length (waiting o t part))) (Refused WaitFull) (waits_at o.recon txn) Submitted
        (λ full. (why, leb-true MAX_WAITING (length (waiting o t part)) full)) (λ room. (refl, why)))
        (λ goes. of_routed (runner o t txn.root) refl))

  module _ (part : ℕ) where
    abbrev Told : Answer → Type 0
    Told = SaysOfResume o t part

    neither : (coming full : Bool) → (not coming && not full) ≡ true → (coming ≡ false) × (full ≡ false)
    neither true full e = absurd cc
    neither false true e = absurd cc
    neither false false e = (refl, refl)

    one_of : (coming full : Bool) → (not coming && not full) ≡ false → (coming ≡ true) ⊎ (full ≡ true)
    one_of true full e = inl refl
    one_of false true e = inr refl
    one_of false false e = absurd cc

    of_ready : (ready : Option TxnValue) → first_ready o t part ≡ ready → Told (resumed o t ready)
    of_ready None none = λ txn has. one_of (is_coming o t part txn.root) (is_full o t txn.root) (not_found (is_ready o t part) (waiting o t part) none txn has)
    of_ready (Some txn) found =
        let has = found_in (is_ready o t part) (waiting o t part) txn found in
        let free = neither (is_coming o t part txn.root) (is_full o t txn.root) has.1 in
        let waits = waits_for o t legal part txn.root (list_any-Contains (λ (other : TxnValue). other.root == txn.root) (waiting o t part) txn has.0 (eq-eqb txn.root txn.root refl)) in
        (has.0, free.0, record { here = waits-runner o is t legal part txn.root waits free.0; rows = refl })

    of_resume : Told (answer o t (Resume part))
    of_resume =
        cond_both (nat_le o.old.parts part) (Refused NoSuchPartition) (if are_coming o t part then Refused NoneReady else resumed o t (first_ready o t part)) Told
        (λ beyond. leb-true o.old.parts part beyond)
        (λ within.
        cond_both (are_coming o t part) (Refused NoneReady) (resumed o t (first_ready o t part)) Told
        (λ coming. λ txn has. list_all-Contains (λ (other : TxnValue). is_coming o t part other.root) (waiting o t part) txn coming has)
        (λ ready. of_ready (first_ready o t part) refl))

  -- ---- chunks

  -- no note covers a key that one before them covers
  covered_once : (note : Note) (ns : List Note) → CoverOnce (note ∷ ns) → (root : ℕ) → covers note root ≡ true → is_covered ns root ≡ false
  covered_once note ns once root covered =
      false_from_ne_true (is_covered ns root) (λ also.
      let one = any_in (λ (other : Note). covers other root) ns also in
      let same : zero ≡ suc one.1.0 = once zero (suc one.1.0) root note one.0 refl (slice_get-Contains ns one.0 one.1) covered one.2 in
      absurd cc)

  module _ (src dst : ℕ) where
    -- what the answer to a Cut says, where it is the one that the history determines
    abbrev CutSays : Answer → Type 0
    CutSays given = given ≡ answer o t (Cut src dst) → SaysOfStep o t (Cut src dst) given

    of_item : (next : Option Item) → next_item (open_items o t src dst) ≡ next → CutSays (cut_for o t src dst next)
    of_item None none = λ same. tt
    of_item (Some item) found = λ same.
        let note = next_note o t src dst item in
        record {
          source = refl;
          destination = refl;
          number = refl;
          item = item;
          begun = (cut_item o t src dst item found).among;
          of = (refl, refl);
          once = covered_once note (notes t) (cut_once o is ((Cut src dst, WasCut note (family_count o t note)) ∷ t) (inl same, legal));
          holds = refl;
        }

    of_cut : SaysOfStep o t (Cut src dst) (answer o t (Cut src dst))
    of_cut =
        in_move CutSays (λ refusal same. tt) _ (over_link CutSays (λ refusal same. tt) src dst _ (
        cond_both (nat_lt (push_count t src dst) (cut_count t src dst)) (Refused OutboxFull) (cut_for o t src dst (next_item (open_items o t src dst))) CutSays
        (λ full same. tt) (λ room. of_item (next_item (open_items o t src dst)) refl)
        )) refl

    abbrev LoadSays : Answer → Type 0
    LoadSays given = given ≡ answer o t (Load src dst) → SaysOfStep o t (Load src dst) given

    abbrev next_loaded : Note → Bool
    next_loaded note = note.number == load_count t src dst

    of_note : (next : Option Note) → find next_loaded (link src dst (notes t)) ≡ next → LoadSays (load_of o t next)
    of_note None none = λ same. tt
    of_note (Some note) found = λ same.
        let at = found_in next_loaded (link src dst (notes t)) note found in
        let has = link_has src dst (notes t) note at.0 in
        record {
          cut = has.0;
          source = has.1.source;
          destination = has.1.destination;
          number = eqb-true note.number (load_count t src dst) at.1;
          once = covered_once note (loads t) (loaded_once o is ((Load src dst, WasLoaded note (family_count o t note)) ∷ t) (inl same, legal));
          holds = refl;
        }

    of_load : SaysOfStep o t (Load src dst) (answer o t (Load src dst))
    of_load =
        in_move LoadSays (λ refusal same. tt) _ (over_link LoadSays (λ refusal same. tt) src dst _ (
        cond_both (load_count t src dst == pop_count t src dst) (Refused InboxEmpty) (load_of o t (find next_loaded (link src dst (notes t)))) LoadSays
        (λ none same. tt) (λ some. of_note (find next_loaded (link src dst (notes t))) refl)
        )) refl

    of_push : SaysOfStep o t (Push src dst) (answer o t (Push src dst))
    of_push =
        let P : Answer → Type 0 = SaysOfStep o t (Push src dst) in
        in_move P (λ refusal. tt) _ (over_link P (λ refusal. tt) src dst _ (
        cond_both (cut_count t src dst == push_count t src dst) (Refused OutboxEmpty) (if nat_le o.config.capacity (push_count t src dst - pop_count t src dst) then Refused LinkFull else Done) P
        (λ none. tt)
        (λ some. cond_both (nat_le o.config.capacity (push_count t src dst - pop_count t src dst)) (Refused LinkFull) Done P (λ full. tt) (λ room. eqb-false (cut_count t src dst) (push_count t src dst) some))
        ))

    of_pop : SaysOfStep o t (Pop src dst) (answer o t (Pop src dst))
    of_pop =
        let P : Answer → Type 0 = SaysOfStep o t (Pop src dst) in
        in_move P (λ refusal. tt) _ (over_link P (λ refusal. tt) src dst _ (
        cond_both (nat_lt (load_count t src dst) (pop_count t src dst)) (Refused InboxFull) (if pop_count t src dst == push_count t src dst then Refused LinkEmpty else Done) P
        (λ full. tt)
        (λ room. cond_both (pop_count t src dst == push_count t src dst) (Refused LinkEmpty) Done P (λ none. tt) (λ some. eqb-false (pop_count t src dst) (push_count t src dst) some))
        ))

  -- ---- nodes

  module _ (seg node : ℕ) where
    abbrev SplitSays : Answer → Type 0
    SplitSays given = given ≡ answer o t (Split seg node) → SaysOfStep o t (Split seg node) given

    split_leaf : (result : Result (Unit {0}) SplitFault) → SplitSays (split_answered result)
    split_leaf (Ok done) = λ same. let goes = split_goes o t seg node (inl same) in (goes.held.live, goes.held.free)
    split_leaf (Err split.IsLeaf) = λ same. tt
    split_leaf (Err split.NotLive) = λ same. tt
    split_leaf (Err (split.NotFree found)) = λ same. tt

    of_split : SaysOfStep o t (Split seg node) (answer o t (Split seg node))
    of_split = in_move SplitSays (λ refusal same. tt) _ (in_tree SplitSays (λ refusal same. tt) seg node _ (split_leaf (split_answer (status_of t seg) node))) refl

    module _ (pull : ℕ) where
      abbrev ClaimSays : Answer → Type 0
      ClaimSays given = given ≡ answer o t (Claim seg node pull) → SaysOfStep o t (Claim seg node pull) given

      claim_leaf : (result : Result (Unit {0}) ClaimFault) → ClaimSays (claim_answered result)
      claim_leaf (Ok done) = λ same. let goes = claim_goes o t seg node pull (inl same) in (goes.held.live, goes.held.free)
      claim_leaf (Err claim.NotLive) = λ same. tt
      claim_leaf (Err (claim.NotFree found)) = λ same. tt

      of_claim : SaysOfStep o t (Claim seg node pull) (answer o t (Claim seg node pull))
      of_claim = in_move ClaimSays (λ refusal same. tt) _ (in_tree ClaimSays (λ refusal same. tt) seg node _ (claim_leaf (claim_answer (status_of t seg) node pull))) refl

      abbrev BeginSays : Answer → Type 0
      BeginSays given = given ≡ answer o t (Begin seg node pull) → SaysOfStep o t (Begin seg node pull) given

      begin_leaf : (result : Result (Unit {0}) BeginFault) → BeginSays (begin_answered result)
      begin_leaf (Ok done) = λ same. (begin_goes o t seg node pull (inl same)).held
      begin_leaf (Err (begin.NotClaimed found)) = λ same. tt
      begin_leaf (Err begin.WrongPull) = λ same. tt

      of_begin : SaysOfStep o t (Begin seg node pull) (answer o t (Begin seg node pull))
      of_begin = in_move BeginSays (λ refusal same. tt) _ (in_tree BeginSays (λ refusal same. tt) seg node _ (begin_leaf (begin_answer (status_of t seg) node pull))) refl

      abbrev CompleteSays : Answer → Type 0
      CompleteSays given = given ≡ answer o t (Complete seg node pull) → SaysOfStep o t (Complete seg node pull) given

      complete_leaf : (loaded : Bool) (result : Result (Unit {0}) CompleteFault) → CompleteSays (complete_answered loaded result)
      complete_leaf true (Ok done) = λ same. let goes = complete_goes o t seg node pull (inl same) in (goes.held.1, goes.held.0)
      complete_leaf false (Ok done) = λ same. tt
      complete_leaf loaded (Err (complete.NotPartial found)) = λ same. tt
      complete_leaf loaded (Err complete.WrongPull) = λ same. tt

      of_complete : SaysOfStep o t (Complete seg node pull) (answer o t (Complete seg node pull))
      of_complete =
          in_move CompleteSays (λ refusal same. tt) _ (in_tree CompleteSays (λ refusal same. tt) seg node _ (
          complete_leaf (has_last seg node (loads t)) (complete_answer (status_of t seg) node pull)
          )) refl

    of_status : SaysOfStep o t (Status seg node) (answer o t (Status seg node))
    of_status = in_tree (SaysOfStep o t (Status seg node)) (λ refusal. tt) seg node _ (refl, refl)

  -- ---- the leader

  of_prepare : (part : ℕ) → SaysOfStep o t (Prepare part) (answer o t (Prepare part))
  of_prepare part =
      let P : Answer → Type 0 = SaysOfStep o t (Prepare part) in
      at_part P (λ refusal. tt) part _ (λ there. cond_both (is_started t) (Refused AlreadyMoving) Done P (λ did. tt) (λ did_not. (there, did_not)))

  of_start : SaysOfStep o t Start (answer o t Start)
  of_start =
      let P : Answer → Type 0 = SaysOfStep o t Start in
      cond_both (is_started t) (Refused AlreadyMoving) (if not (list_all (is_prepared t) (partitions o)) then Refused NotPrepared else Done) P
      (λ did. tt)
      (λ did_not.
      cond_both (not (list_all (is_prepared t) (partitions o))) (Refused NotPrepared) Done P (λ some. tt)
      (λ all. (did_not, λ part there. list_all-Contains (is_prepared t) (partitions o) part (not-false (list_all (is_prepared t) (partitions o)) all) (row_has 0 o.old.parts part (omega arith) (omega arith)))))

  -- each segment into the partition is whole
  implied : (into whole : Bool) → (not into || whole) ≡ true → into ≡ true → whole ≡ true
  implied true whole e given = e
  implied false whole e given = absurd cc

  of_report : (part : ℕ) → SaysOfStep o t (Report part) (answer o t (Report part))
  of_report part =
      let P : Answer → Type 0 = SaysOfStep o t (Report part) in
      in_move P (λ refusal. tt) _ (at_part P (λ refusal. tt) part _ (λ there.
      cond_both (has_all o t part) Done (Refused NotFinished) P
      (λ all seg within into.
      implied (is_into o t part seg) (is_complete_segment t seg)
      (list_all-Contains (λ (g : ℕ). not (is_into o t part g) || is_complete_segment t g) (segment_numbers o) seg all (row_has 0 (length o.recon.segments) seg (omega arith) (omega arith)))
      into)
      (λ some. tt)))

  of_next : SaysOfStep o t Next (answer o t Next)
  of_next =
      let P : Answer → Type 0 = SaysOfStep o t Next in
      in_move P (λ refusal. tt) _ (
      cond_both (is_last_stage o t) (Refused LastStage) (if list_all (counts_reported o t) (partitions o) then Done else Refused NotFinished) P (λ last. tt)
      (λ more. cond_both (list_all (counts_reported o t) (partitions o)) Done (Refused NotFinished) P (λ all. λ seg segment there at. stage_whole o is t legal all seg segment there at) (λ some. tt)))

  abbrev FinishSays : Answer → Type 0
  FinishSays given = given ≡ answer o t Finish → SaysOfStep o t Finish given

  of_finish : SaysOfStep o t Finish (answer o t Finish)
  of_finish =
      in_move FinishSays (λ refusal same. tt) _ (
      cond_both (is_last_stage o t && list_all (counts_reported o t) (partitions o)) Done (Refused NotFinished) FinishSays
      (λ all same. λ root. ended_place o is ((Finish, Done) ∷ t) (inl same, legal) refl root) (λ some same. tt)) refl

  of_fold : (part : ℕ) → SaysOfStep o t (Fold part) (answer o t (Fold part))
  of_fold part =
      let P : Answer → Type 0 = SaysOfStep o t (Fold part) in
      at_part P (λ refusal. tt) part _ (λ there. cond_both (is_ended t) Done (Refused NotFinished) P (λ ended. (there, ended)) (λ moves. tt))

  -- ---- each step

  determined : (step : Step) → SaysOfStep o t step (answer o t step)
  determined (Prepare part) = of_prepare part
  determined Start = of_start
  determined (Submit part txn) = of_submit part txn
  determined (Resume part) = of_resume part
  determined (Split seg node) = of_split seg node
  determined (Claim seg node pull) = of_claim seg node pull
  determined (Begin seg node pull) = of_begin seg node pull
  determined (Cut src dst) = of_cut src dst
  determined (Push src dst) = of_push src dst
  determined (Pop src dst) = of_pop src dst
  determined (Load src dst) = of_load src dst
  determined (Complete seg node pull) = of_complete seg node pull
  determined (Report part) = of_report part
  determined Next = of_next
  determined Finish = of_finish
  determined (Fold part) = of_fold part
  determined (Status seg node) = of_status seg node

  out_of_memory : (step : Step) → SaysOfStep o t step (Refused Memory)
  out_of_memory (Submit part txn) = tt
  out_of_memory (Resume part) = tt
  out_of_memory step = tt

  pub says : (step : Step) (given : Answer) → IsAnswer o t step given → SaysOfStep o t step given
  says step given (inl right) = subst (SaysOfStep o t step) (sym right) (determined step)
  says step given (inr lacked) = subst (SaysOfStep o t step) (sym lacked.0) (out_of_memory step)
