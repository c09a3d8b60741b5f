-- The outcomes of transactions that are submitted at a partition, and of those that waited at it.
use Rattle.std.proofs.Common.{◌≡◌, ℕ, ◌<◌, ◌||◌, Bool, true, false, List, [], ◌∷◌, ◌++◌, map, get_or, set, Option, Some, None, Ok, Err, Result, refl, sym, ap, ◌∙◌, subst, inl, inr, arith}
use Rattle.std.specs.Prelude.{IsTrue, ◌==◌, not, nat_le, is_none, if◌then◌else◌, slice_get, position, remove, unwrap_or, option_map, option_and_then}
use Rattle.std.specs.List.{list_all}
use Rattle.std.proofs.lemmas.Bool.{and_parts, eq-eqb, eqb-true}
use Rattle.std.proofs.lemmas.List.Quantifiers.{position-Some}
use Rattle.std.proofs.lemmas.Option.{get_or_from_slice_get}
use Rattle.sq_schema.specs.TxnValue.{TxnValue}
use Rattle.sq_schema.specs.declared.txn.Reply.{Reply}
use Rattle.sq_moves.specs.declared.recon.Range.{Range}
use Rattle.sq_moves.specs.ReconValue.{ReconValue, leaf_at}
use Rattle.sq_store.specs.StoreValue.{StoreValue, store_reply, store_after}
use Rattle.sq_exec.specs.declared.fault.SubmitFault.{SubmitFault}
use Rattle.sq_exec.specs.declared.fault.SubmitFault.TheVariants as submit
use Rattle.sq_exec.specs.declared.fault.ResumeFault.{ResumeFault}
use Rattle.sq_exec.specs.declared.fault.ResumeFault.TheVariants as resume
use Rattle.sq_exec.specs.declared.location.Location.{Location}
use Rattle.sq_exec.specs.declared.outcome.Outcome.{Outcome}
use Rattle.sq_exec.specs.declared.outcome.Outcome.TheVariants as outcome
use Rattle.sq_exec.specs.declared.outcome.Resumed.{Resumed}
use Rattle.sq_exec.specs.CoreValue.{CoreValue, PartCoreValue}
use Rattle.sq_exec.specs.Location.{location, location_in, is_coming_here, route}
use Rattle.sq_exec.specs.Serving.{is_stuck, served, must_wait, submit_refusal, submit_takes_memory, is_ready_here, resume_refusal, IsTaken, IsResumed}
use Rattle.sq_exec.proofs.Resumes.{nothing_refuses}
use Rattle.sq_model.specs.declared.step.Step.TheVariants.{Submit, Resume}
use Rattle.sq_model.specs.declared.answer.Answer.{Answer}
use Rattle.sq_model.specs.declared.answer.Answer.TheVariants as answer
use Rattle.sq_model.specs.declared.answer.Refusal.TheVariants.{NoSuchPartition}
use Rattle.sq_model.specs.Answers.{waits_at}
use Rattle.sq_model.specs.Legal.{takes_memory}
use Rattle.sq_transition.specs.WorldValue.{WorldValue, core_at, with_core}
use Rattle.sq_transition.specs.LeaderResults.{StepResult, if_partition}
use Rattle.sq_transition.specs.SubmitResults.{submitted, served_core, submit_refused, resume_refused, taken, submit_result, no_txn, resumed_at, resume_result}
use Rattle.sq_transition.specs.Transition.{IsResult}
use Rattle.sq_world.specs.Results.{refuse_if}
use Rattle.sq_world.specs.Sound.{IsSound}
use Rattle.sq_world.proofs.Guards.{passed, part_exists}
use Rattle.sq_world.proofs.Cores.{core_of, core_read, core_written, core_kept}

-- where a transaction is sent on to doesn't hang on the partitions
submitted_same : (w : WorldValue) (cores : List CoreValue) (txn : TxnValue) (became : Outcome) → submitted (record w { cores = cores }) txn became ≡ submitted w txn became
submitted_same w cores txn (outcome.Done reply) = refl
submitted_same w cores txn (outcome.Moved who) = refl
submitted_same w cores txn (outcome.Waits seg leaf) = refl

-- the segment and the leaf of a root key that is located
leaf_in : (core : CoreValue) (root : ℕ) (found : ℕ × ℕ) (segment : Option Range) (at : Location) → option_map (location_in core root found) segment ≡ Some at → found ≡ (at.seg, at.leaf)
leaf_in core root found None at is = absurd cc
leaf_in core root found (Some segment) at is =
    let same : location_in core root found segment ≡ at = cc in
    ap (λ (l : Location). (l.seg, l.leaf)) same

located_by : (core : CoreValue) (root : ℕ) (found : Option (ℕ × ℕ)) (at : Location)
    → option_and_then (λ one. option_map (location_in core root one) (slice_get core.recon.segments one.0)) found ≡ Some at → found ≡ Some (at.seg, at.leaf)
located_by core root None at is = absurd cc
located_by core root (Some one) at is = ap Some (leaf_in core root one (slice_get core.recon.segments one.0) at is)

located : (core : CoreValue) (root : ℕ) (at : Location) → location core root ≡ Some at → leaf_at core.recon root ≡ Some (at.seg, at.leaf)
located core root at is = located_by core root (leaf_at core.recon root) at is

-- a transaction that is taken
taken_is : (w : WorldValue) (number : ℕ) (txn : TxnValue) (became : Outcome) (new : CoreValue) (waits : Bool) → must_wait (core_at w number) txn.root ≡ waits → IsTaken waits (core_at w number) txn became new
    → (core_at w number).recon ≡ w.recon → (submitted w txn became, with_core w number new) ≡ taken w number txn None
taken_is w number txn became new true waits is recon =
    let core = core_at w number in
    let whole = λ (b : Bool). if b then (waits_at w.recon txn, with_core w number (record core { waiting = core.waiting ++ txn ∷ [] })) else (submitted w txn (served_core core txn).0, with_core w number (served_core core txn).1) in
    let leaf : leaf_at w.recon txn.root ≡ Some (is.at.seg, is.at.leaf) = ap (λ (r : ReconValue). leaf_at r txn.root) (sym recon) ∙ located core txn.root is.at is.moves in
    ap (λ (o : Outcome). (submitted w txn o, with_core w number new)) is.told
    ∙ ap (λ (c : CoreValue). (answer.Waits txn.id is.at.seg is.at.leaf, with_core w number c)) is.last
    ∙ ap (λ (o : Option (ℕ × ℕ)). (answer.Waits txn.id (unwrap_or o (0, 0)).0 (unwrap_or o (0, 0)).1, with_core w number (record core { waiting = core.waiting ++ txn ∷ [] }))) (sym leaf)
    ∙ ap whole (sym waits)
taken_is w number txn became new false waits is recon =
    let core = core_at w number in
    let whole = λ (b : Bool). if b then (waits_at w.recon txn, with_core w number (record core { waiting = core.waiting ++ txn ∷ [] })) else (submitted w txn (served_core core txn).0, with_core w number (served_core core txn).1) in
    ap (λ (o : Outcome). (submitted w txn o, with_core w number new)) is.told
    ∙ ap (λ (c : CoreValue). (submitted w txn (served_core core txn).0, with_core w number c)) is.after
    ∙ ap whole (sym waits)

-- a transaction that belongs here is run
runs_it : (here who : ℕ) (store : StoreValue) (txn : TxnValue) → who ≡ here → served here who store txn ≡ (outcome.Done (store_reply store txn), store_after store txn (store_reply store txn))
runs_it here who store txn same =
    ap (λ (b : Bool). if b then (outcome.Done (store_reply store txn), store_after store txn (store_reply store txn)) else (outcome.Moved who, store)) (eq-eqb who here same)

-- one for which there is no memory
takes_it : (w : WorldValue) (number : ℕ) (txn : TxnValue) (waits here : Bool) → must_wait (core_at w number) txn.root ≡ waits → (route (core_at w number) txn.root == (core_at w number).part) ≡ here
    → (waits || here) ≡ true → takes_memory (Submit number txn) (taken w number txn None).0 ≡ true
takes_it w number txn true here waits runs is =
    let core = core_at w number in
    let whole : Bool → StepResult = λ b.
    if b then (waits_at w.recon txn, with_core w number (record core { waiting = core.waiting ++ txn ∷ [] })) else (submitted w txn (served_core core txn).0, with_core w number (served_core core txn).1) in
    ap (λ (b : Bool). takes_memory (Submit number txn) (whole b).0) waits
takes_it w number txn false true waits runs is =
    let core = core_at w number in
    let whole : Bool → StepResult = λ b.
    if b then (waits_at w.recon txn, with_core w number (record core { waiting = core.waiting ++ txn ∷ [] })) else (submitted w txn (served_core core txn).0, with_core w number (served_core core txn).1) in
    ap (λ (b : Bool). takes_memory (Submit number txn) (whole b).0) waits
    ∙ ap (λ (both : Outcome × StoreValue). takes_memory (Submit number txn) (submitted w txn both.0)) (runs_it core.part (route core txn.root) core.store txn (eqb-true (route core txn.root) core.part runs))
takes_it w number txn false false waits runs is = absurd cc

submit_refused_by : (w : WorldValue) (number : ℕ) (txn : TxnValue) (refusal : Option SubmitFault) (fault : SubmitFault) → submit_refusal (core_at w number) txn ≡ refusal → fault ≡ unwrap_or refusal submit.Memory
    → (◌≡◌ {A = Result Outcome SubmitFault} (Err fault) (Err submit.Memory) → IsTrue (submit_takes_memory (core_at w number) txn))
    → IsResult (Submit number txn) w (taken w number txn refusal) (answer.Refused (submit_refused fault)) w
submit_refused_by w number txn (Some found) fault why is memory = inl (ap (λ (f : SubmitFault). (answer.Refused (submit_refused f), w)) is)
submit_refused_by w number txn None fault why is memory =
    let core = core_at w number in
    inr (ap (λ (f : SubmitFault). answer.Refused (submit_refused f)) is, takes_it w number txn (must_wait core txn.root) (route core txn.root == core.part) refl refl (memory (ap Err is)), refl)

was_false : (b : Bool) → not b ≡ true → b ≡ false
was_false true is = sym is
was_false false is = refl

-- the rows of a transaction that is ready aren't on their way
not_coming : (core : CoreValue) (place : ℕ) (txn : TxnValue) → position (is_ready_here core) core.waiting ≡ Some place → slice_get core.waiting place ≡ Some txn → is_coming_here core txn.root ≡ false
not_coming core place txn first found =
    let ready : is_ready_here core txn ≡ true = ap (is_ready_here core) (sym (get_or_from_slice_get core.waiting place txn txn found)) ∙ (position-Some (is_ready_here core) core.waiting place txn first).1 in
    was_false (is_coming_here core txn.root) (and_parts (not (is_coming_here core txn.root)) (not (is_stuck core txn.root)) ready).0

resume_refused_by : (w : WorldValue) (number : ℕ) (place : Option ℕ) (fault : ResumeFault) → position (is_ready_here (core_at w number)) (core_at w number).waiting ≡ place
    → fault ≡ unwrap_or (resume_refusal (core_at w number)) resume.Memory → IsResult (Resume number) w (resumed_at w number place) (answer.Refused (resume_refused fault)) w
resume_refused_by w number None fault first is =
    let core = core_at w number in
    let whole = λ (coming : Bool) (o : Option ℕ). if coming then Some resume.NoneReady else if is_none o then Some resume.LogFull else None in
    inl (ap (λ (f : ResumeFault). (answer.Refused (resume_refused f), w)) (is ∙ either (list_all (λ txn. is_coming_here core txn.root) core.waiting) (position (is_ready_here core) core.waiting) first))
  where
    either : (coming : Bool) (o : Option ℕ) → o ≡ None
        → unwrap_or (if coming then Some resume.NoneReady else if is_none o then Some resume.LogFull else None) resume.Memory
        ≡ unwrap_or (if coming then Some resume.NoneReady else if is_none o then Some resume.LogFull else None) resume.NoneReady
    either true o none = refl
    either false None none = refl
    either false (Some place) none = absurd cc
resume_refused_by w number (Some place) fault first is =
    let none : resume_refusal (core_at w number) ≡ None = nothing_refuses (core_at w number) place first in
    inr (ap (λ (f : ResumeFault). answer.Refused (resume_refused f)) (is ∙ ap (λ o. unwrap_or o resume.Memory) none), refl, refl)

-- a partition at which a transaction is submitted or taken up
module _ (w : WorldValue) (parts : List PartCoreValue) (number : ℕ) (part : PartCoreValue) (done : Unit {0}) (are : map core_of parts ≡ w.cores) (sound : IsSound w)
    (passes : Ok done ≡ refuse_if (nat_le w.old.parts number) NoSuchPartition) (part_is : part ≡ get_or parts number part) where
  exists : number < w.old.parts
  exists = part_exists w.old.parts number NoSuchPartition done passes

  core : part.core ≡ core_at w number
  core = core_read w parts are number part (omega (arith, exists, sound.cores)) part_is

  goes : (rest : StepResult) → rest ≡ if_partition w number rest
  goes rest = passed (nat_le w.old.parts number) NoSuchPartition w rest done passes

  kept : (after : PartCoreValue) → after.core ≡ part.core → record w { cores = map core_of (set parts number after) } ≡ w
  kept after is = λ k. record w { cores = core_kept w parts are number part after part_is is k }

  written : (after : PartCoreValue) → record w { cores = map core_of (set parts number after) } ≡ with_core w number after.core
  written after = λ k. record w { cores = core_written w parts are number after after.core refl k }

  pub submit_done : (txn : TxnValue) (became : Outcome) (after : PartCoreValue) (given : Answer) → submit_refusal part.core txn ≡ None → IsTaken (must_wait part.core txn.root) part.core txn became after.core
      → given ≡ submitted (record w { cores = map core_of (set parts number after) }) txn became
      → (given, record w { cores = map core_of (set parts number after) }) ≡ submit_result w number txn
  submit_done txn became after given free is given_is =
      let free_here : submit_refusal (core_at w number) txn ≡ None = ap (λ (c : CoreValue). submit_refusal c txn) (sym core) ∙ free in
      let is_here : IsTaken (must_wait (core_at w number) txn.root) (core_at w number) txn became after.core = subst (λ (c : CoreValue). IsTaken (must_wait c txn.root) c txn became after.core) core is in
      ap (λ (a : Answer). (a, record w { cores = map core_of (set parts number after) })) (given_is ∙ submitted_same w (map core_of (set parts number after)) txn became)
      ∙ ap (λ (v : WorldValue). (submitted w txn became, v)) (written after)
      ∙ taken_is w number txn became after.core (must_wait (core_at w number) txn.root) refl is_here (sound.parts number exists).recon
      ∙ ap (taken w number txn) (sym free_here)
      ∙ goes (taken w number txn (submit_refusal (core_at w number) txn))

  pub submit_fails : (txn : TxnValue) (fault : SubmitFault) (after : PartCoreValue) → fault ≡ unwrap_or (submit_refusal part.core txn) submit.Memory
      → (◌≡◌ {A = Result Outcome SubmitFault} (Err fault) (Err submit.Memory) → IsTrue (submit_takes_memory part.core txn)) → after.core ≡ part.core
      → IsResult (Submit number txn) w (submit_result w number txn) (answer.Refused (submit_refused fault)) (record w { cores = map core_of (set parts number after) })
  submit_fails txn fault after why memory same =
      let here = core_at w number in
      let why_here : fault ≡ unwrap_or (submit_refusal here txn) submit.Memory = why ∙ ap (λ (c : CoreValue). unwrap_or (submit_refusal c txn) submit.Memory) core in
      let memory_here : ◌≡◌ {A = Result Outcome SubmitFault} (Err fault) (Err submit.Memory) → IsTrue (submit_takes_memory here txn) = λ e. subst (λ (c : CoreValue). IsTrue (submit_takes_memory c txn)) core (memory e) in
      subst (λ (v : WorldValue). IsResult (Submit number txn) w (submit_result w number txn) (answer.Refused (submit_refused fault)) v) (sym (kept after same))
      (subst (λ (r : StepResult). IsResult (Submit number txn) w r (answer.Refused (submit_refused fault)) w) (goes (taken w number txn (submit_refusal here txn)))
      (submit_refused_by w number txn (submit_refusal here txn) fault refl why_here memory_here))

  -- what is known of a transaction that is taken up
  here_resumed : (resumed : Resumed) (new : CoreValue) → IsResumed part.core resumed new → IsResumed (core_at w number) resumed new
  here_resumed resumed new is = subst (λ (c : CoreValue). IsResumed c resumed new) core is

  served_here : (resumed : Resumed) (new : CoreValue) (is : IsResumed (core_at w number) resumed new)
      → served (core_at w number).part (route (core_at w number) resumed.txn.root) (core_at w number).store resumed.txn
      ≡ (outcome.Done (store_reply (core_at w number).store resumed.txn), store_after (core_at w number).store resumed.txn (store_reply (core_at w number).store resumed.txn))
  served_here resumed new is =
      let here = core_at w number in
      let known = sound.parts number exists in
      runs_it here.part (route here resumed.txn.root) here.store resumed.txn
      (known.runs is.place resumed.txn is.found (not_coming here is.place resumed.txn is.first is.found) ∙ sym known.number)

  pub resume_runs : (resumed : Resumed) (new : CoreValue) → IsResumed part.core resumed new → ((reply : Reply) → resumed.outcome ≡ outcome.Done reply → ⊥) → ⊥
  resume_runs resumed new is other =
      let is_here = here_resumed resumed new is in
      other (store_reply (core_at w number).store resumed.txn) (is_here.told ∙ ap (λ (both : Outcome × StoreValue). both.0) (served_here resumed new is_here))

  pub resume_done : (resumed : Resumed) (reply : Reply) (after : PartCoreValue) → IsResumed part.core resumed after.core → resumed.outcome ≡ outcome.Done reply
      → (answer.Resumed resumed.txn reply, record w { cores = map core_of (set parts number after) }) ≡ resume_result w number
  resume_done resumed reply after is ran =
      let here = core_at w number in
      let txn = resumed.txn in
      let is_here = here_resumed resumed after.core is in
      let serves = served_here resumed after.core is_here in
      let given = store_reply here.store txn in
      let same : outcome.Done reply ≡ outcome.Done given = sym ran ∙ is_here.told ∙ ap (λ (both : Outcome × StoreValue). both.0) serves in
      let reply_is : reply ≡ given = cc in
      let left = λ (both : Outcome × StoreValue). record here { store = both.1; waiting = remove here.waiting is_here.place } in
      let at : TxnValue → StepResult = λ t. (answer.Resumed t (store_reply here.store t), with_core w number (record here { store = store_after here.store t (store_reply here.store t); waiting = remove here.waiting is_here.place })) in
      ap (λ (r : Reply). (answer.Resumed txn r, record w { cores = map core_of (set parts number after) })) reply_is
      ∙ ap (λ (v : WorldValue). (answer.Resumed txn given, v)) (written after ∙ ap (with_core w number) (is_here.after ∙ ap left serves))
      ∙ ap at (sym (get_or_from_slice_get here.waiting is_here.place txn no_txn is_here.found))
      ∙ ap (resumed_at w number) (sym is_here.first)
      ∙ goes (resumed_at w number (position (is_ready_here here) here.waiting))

  pub resume_fails : (fault : ResumeFault) (after : PartCoreValue) → fault ≡ unwrap_or (resume_refusal part.core) resume.Memory → after.core ≡ part.core
      → IsResult (Resume number) w (resume_result w number) (answer.Refused (resume_refused fault)) (record w { cores = map core_of (set parts number after) })
  resume_fails fault after why same =
      let here = core_at w number in
      let why_here : fault ≡ unwrap_or (resume_refusal here) resume.Memory = why ∙ ap (λ (c : CoreValue). unwrap_or (resume_refusal c) resume.Memory) core in
      subst (λ (v : WorldValue). IsResult (Resume number) w (resume_result w number) (answer.Refused (resume_refused fault)) v) (sym (kept after same))
      (subst (λ (r : StepResult). IsResult (Resume number) w r (answer.Refused (resume_refused fault)) w) (goes (resumed_at w number (position (is_ready_here here) here.waiting)))
      (resume_refused_by w number (position (is_ready_here here) here.waiting) fault refl why_here))
