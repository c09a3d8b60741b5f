use Rattle.std.proofs.Common.{sym, ap, refl, ◌∙◌, arith}
use Rattle.std.proofs.lemmas.List.{length-map, get_or_default}
use Rattle.sq_store.specs.declared.chunk.Note.{Note}
use Rattle.sq_store.specs.ChunkValue.{ChunkValue}
use Rattle.std.proofs.lemmas.Option.{same_Some}
use Rattle.sq_exec.specs.Index.{is_between}
use Rattle.sq_exec.specs.Waiting.{txns_of}
use Rattle.sq_exec.specs.Runs.{runs_with}
use Rattle.sq_exec.specs.CoreValue.{PartCoreValue}
use Rattle.sq_exec.proofs.Loads.{on_err, came_loadable, was_loaded, runs_kept, all_kept, same_waiting, same_numbering, more_by, none_more, as_due, loads_kept, as_was}
use Rattle.sq_exec.proofs.part_core.PartCore.load.Goals as goal

pub index_mut-runs-requires : goal.index_mut-runs-requires
index_mut-runs-requires g c =
    let known = came_loadable c.self.view_is c.args.src c.from-from.result (c.from-from.ensures ∙ c.number.ensures) (omega arith) c.requires c.index.result.now c.in-Some.chunk c.index.ensures c.in-Some.is in
    let seg_is = c.number-2.ensures.number ∙ ap (λ (n : Note). n.seg) c.note-covered.ensures in
    omega (arith, known.exists, seg_is, c.self.invariant.loaded, length-map c.self.inside.loaded.items (λ runs. runs.items))

pub returns-in_err-reserve-clause-err : goal.returns-in_err-reserve-clause-err
returns-in_err-reserve-clause-err g c =
    on_err c.from_residual.result (runs_kept c.self.view_is c.args.src c.from-from.result (c.from-from.ensures ∙ c.number.ensures) (omega arith) (λ runs. runs.items) c.self.inside.loaded.items refl c.number-2.result c.index_mut-runs.result.now c.reserve.new.self (txns_of c.self.inside.waiting.arrivals) refl c.index_mut-runs.ensures.value c.reserve.ensures.items)

pub returns-in_err-make_due-clause-err : goal.returns-in_err-make_due-clause-err
returns-in_err-make_due-clause-err g c =
    on_err c.from_residual-in_err-make_due.result
    (runs_kept c.self.view_is c.args.src c.from-from.result (c.from-from.ensures ∙ c.number.ensures) (omega arith) (λ runs. runs.items) c.self.inside.loaded.items refl c.number-2.result c.index_mut-runs.result.now c.reserve.new.self (txns_of c.make_due.new.self.arrivals) (same_waiting c.self.inside.waiting c.make_due.new.self (as_due c.in_err-make_due.ensures.err))
    c.index_mut-runs.ensures.value c.reserve.ensures.items)

pub invariant_of-self-in_err-make_due : goal.invariant_of-self-in_err-make_due
invariant_of-self-in_err-make_due g c =
    let more = as_due c.in_err-make_due.ensures.err in
    as_was c.self.view_is _
    (runs_kept c.self.view_is c.args.src c.from-from.result (c.from-from.ensures ∙ c.number.ensures) (omega arith) (λ runs. runs.items) c.self.inside.loaded.items refl c.number-2.result c.index_mut-runs.result.now c.reserve.new.self (txns_of c.make_due.new.self.arrivals) (same_waiting c.self.inside.waiting c.make_due.new.self more)
    c.index_mut-runs.ensures.value c.reserve.ensures.items) c.self.inside.waiting c.make_due.new.self more c.self.invariant

pub give-requires : goal.give-requires
give-requires g c = λ chunk is.
    (came_loadable c.self.view_is c.args.src c.from-from.result (c.from-from.ensures ∙ c.number.ensures) (omega arith) c.requires c.index_mut.result.now chunk c.index_mut.ensures.value is).absent

pub returns-in_err-note-clause-err : goal.returns-in_err-note-clause-err
returns-in_err-note-clause-err g c =
    on_err c.from_residual-in_err-note.result (all_kept c.self.view_is c.args.src c.from-from.result (c.from-from.ensures ∙ c.number.ensures) (omega arith) (λ runs. runs.items) c.self.inside.loaded.items refl c.index_mut.result.now c.give.new.inbox c.number-2.result c.index_mut-runs.result.now c.reserve.new.self (g.S.FamilyStore.contents c.give.new.store) (txns_of c.make_due.new.self.arrivals) (same_waiting c.self.inside.waiting c.make_due.new.self (more_by (λ a. is_between c.note-covered.result.lo c.note-covered.result.hi (a.txn).root) c.in_ok-make_due.ensures.ok))
    c.index_mut.ensures.value c.in_err-note.ensures.err.0 c.index_mut-runs.ensures.value c.reserve.ensures.items c.in_err-note.ensures.err.1)

pub invariant_of-self : goal.invariant_of-self
invariant_of-self g c =
    as_was c.self.view_is _
    (runs_kept c.self.view_is c.args.src c.from-from.result (c.from-from.ensures ∙ c.number.ensures) (omega arith) (λ runs. runs.items) c.self.inside.loaded.items refl c.number-2.result c.index_mut-runs.result.now c.reserve.new.self (txns_of c.self.inside.waiting.arrivals) refl c.index_mut-runs.ensures.value c.reserve.ensures.items)
    c.self.inside.waiting c.self.inside.waiting (none_more c.self.inside.waiting) c.self.invariant

pub invariant_of-self-in_err-note : goal.invariant_of-self-in_err-note
invariant_of-self-in_err-note g c =
    let more = more_by (λ a. is_between c.note-covered.result.lo c.note-covered.result.hi (a.txn).root) c.in_ok-make_due.ensures.ok in
    as_was c.self.view_is _
    (all_kept c.self.view_is c.args.src c.from-from.result (c.from-from.ensures ∙ c.number.ensures) (omega arith) (λ runs. runs.items) c.self.inside.loaded.items refl c.index_mut.result.now c.give.new.inbox c.number-2.result c.index_mut-runs.result.now c.reserve.new.self (g.S.FamilyStore.contents c.give.new.store)
    (txns_of c.make_due.new.self.arrivals) (same_waiting c.self.inside.waiting c.make_due.new.self more)
    c.index_mut.ensures.value c.in_err-note.ensures.err.0 c.index_mut-runs.ensures.value c.reserve.ensures.items c.in_err-note.ensures.err.1) c.self.inside.waiting c.make_due.new.self more c.self.invariant

pub returns-clause-ok : goal.returns-clause-ok
returns-clause-ok g c =
    let given = c.in_ok-note.ensures.ok in
    let chunk : ChunkValue = record { note = c.in_ok-note.note; families = given.0 } in
    was_loaded c.self.view_is c.args.src c.from-from.result (c.from-from.ensures ∙ c.number.ensures) (omega arith) (λ runs. runs.items) c.self.inside.loaded.items refl c.index_mut.result.now c.give.new.inbox c.in-Some.chunk chunk c.number-2.result c.index_mut-runs.result.now c.add.new.runs (g.S.FamilyStore.contents c.give.new.store) (txns_of c.make_due.new.self.arrivals) (same_waiting c.self.inside.waiting c.make_due.new.self (more_by (λ a. is_between c.note-covered.result.lo c.note-covered.result.hi (a.txn).root) c.in_ok-make_due.ensures.ok))
    c.index_mut.ensures.value (c.index_mut.ensures.value ∙ get_or_default c.self.inside.inboxes.items c.from-from.result c.index_mut.result.now c.index.result.now (omega arith) ∙ sym c.index.ensures ∙ c.in-Some.is) given.1 given.2 (c.number-2.ensures.number ∙ ap (λ (n : Note). n.seg) c.note-covered.ensures) c.index_mut-runs.ensures.value (c.add.ensures ∙ ap (λ runs. runs_with runs c.in_ok-note.note) c.reserve.ensures.items) given.3

pub invariant_of-self-2 : goal.invariant_of-self-2
invariant_of-self-2 g c =
    let given = c.in_ok-note.ensures.ok in
    let chunk : ChunkValue = record { note = c.in_ok-note.note; families = given.0 } in
    let here = c.index_mut.ensures.value ∙ get_or_default c.self.inside.inboxes.items c.from-from.result c.index_mut.result.now c.index.result.now (omega arith) ∙ sym c.index.ensures ∙ c.in-Some.is in
    let loads =
    was_loaded c.self.view_is c.args.src c.from-from.result (c.from-from.ensures ∙ c.number.ensures) (omega arith) (λ runs. runs.items) c.self.inside.loaded.items refl c.index_mut.result.now c.give.new.inbox c.in-Some.chunk chunk c.number-2.result c.index_mut-runs.result.now c.add.new.runs (g.S.FamilyStore.contents c.give.new.store) (txns_of c.make_due.new.self.arrivals) (same_waiting c.self.inside.waiting c.make_due.new.self (more_by (λ a. is_between c.note-covered.result.lo c.note-covered.result.hi (a.txn).root) c.in_ok-make_due.ensures.ok))
    c.index_mut.ensures.value (c.index_mut.ensures.value ∙ get_or_default c.self.inside.inboxes.items c.from-from.result c.index_mut.result.now c.index.result.now (omega arith) ∙ sym c.index.ensures ∙ c.in-Some.is) given.1 given.2 (c.number-2.ensures.number ∙ ap (λ (n : Note). n.seg) c.note-covered.ensures) c.index_mut-runs.ensures.value (c.add.ensures ∙ ap (λ runs. runs_with runs c.in_ok-note.note) c.reserve.ensures.items) given.3 in
    loads_kept c.self.view_is c.args.src c.in_ok-note.note _ loads c.self.inside.waiting c.make_due.new.self c.note-covered.result
    (c.note-covered.ensures ∙ ap (λ (chunk : ChunkValue). chunk.note) (same_Some c.in-Some.chunk chunk (sym here ∙ given.1))) c.in_ok-make_due.ensures.ok c.self.invariant

pub returns-in_err-make_due-clause-numbering : goal.returns-in_err-make_due-clause-numbering
returns-in_err-make_due-clause-numbering g c = same_numbering c.self.inside.waiting c.make_due.new.self (as_due c.in_err-make_due.ensures.err) ∙ ap (λ (v : PartCoreValue). v.numbering) c.self.view_is

pub returns-in_err-note-clause-numbering : goal.returns-in_err-note-clause-numbering
returns-in_err-note-clause-numbering g c =
    same_numbering c.self.inside.waiting c.make_due.new.self (more_by (λ a. is_between c.note-covered.result.lo c.note-covered.result.hi (a.txn).root) c.in_ok-make_due.ensures.ok)
    ∙ ap (λ (v : PartCoreValue). v.numbering) c.self.view_is

pub returns-clause-numbering : goal.returns-clause-numbering
returns-clause-numbering g c =
    same_numbering c.self.inside.waiting c.make_due.new.self (more_by (λ a. is_between c.note-covered.result.lo c.note-covered.result.hi (a.txn).root) c.in_ok-make_due.ensures.ok)
    ∙ ap (λ (v : PartCoreValue). v.numbering) c.self.view_is
