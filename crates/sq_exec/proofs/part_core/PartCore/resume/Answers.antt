use Rattle.std.proofs.Common.{◌≡◌, true, refl, sym, ap, subst}
use Rattle.std.specs.Prelude.{unwrap_or, is_some}
use Rattle.std.specs.List.{list_all}
use Rattle.sq_moves.specs.ReconValue.{leaf_at}
use Rattle.sq_exec.specs.Waiting.{WaitingValue, txns_of}
use Rattle.sq_exec.specs.declared.fault.ResumeFault.TheVariants.{Memory}
use Rattle.sq_exec.proofs.Kept.{still_core}
use Rattle.sq_exec.proofs.Resumes.{nothing_refuses, stands, rest_due, rest_moves, was_resumed, number_taken, memory_here}
use Rattle.sq_exec.proofs.part_core.PartCore.resume.Goals as goal

pub txn-requires : goal.txn-requires
txn-requires g c = stands c.self.view_is c.in_ok-number.number c.in_ok-number.ensures.ok c.self.inside.waiting.arrivals refl refl

pub remove-txn-requires : goal.remove-txn-requires
remove-txn-requires g c = stands c.self.view_is c.in_ok-number.number c.in_ok-number.ensures.ok c.self.inside.waiting.arrivals refl refl

pub returns-in_default-clause-refused : goal.returns-in_default-clause-refused
returns-in_default-clause-refused g c = sym (ap (λ r. unwrap_or r Memory) (nothing_refuses c.args.self.now.core c.in_ok-number.ensures.ok.place c.in_ok-number.ensures.ok.first))

pub returns-in_default-clause-memory : goal.returns-in_default-clause-memory
returns-in_default-clause-memory g c = λ same.
    memory_here c.self.view_is c.in_ok-number.number c.in_ok-number.ensures.ok c.self.inside.waiting.arrivals refl refl c.txn.ensures.rises c.txn.result.now c.in_ok-number.who c.self.inside.part
    c.txn.ensures.txn c.in_ok-number.ensures.goes refl c.in_default.ensures.runs

pub invariant_of-self-2 : goal.invariant_of-self-2
invariant_of-self-2 g c =
    let arrivals = c.self.inside.waiting.arrivals in
    let left = ap (λ (w : WaitingValue). w.arrivals) (sym c.remove-txn.ensures.rest) in
    still_core c.self.invariant c.self.inside.started (g.S.FamilyStore.contents c.serve.new.store) (txns_of c.remove-txn.new.self.arrivals) c.remove-txn.new.self.arrivals
    (subst (λ xs. list_all (λ txn. is_some (leaf_at c.self.inside.recon txn.root)) (txns_of xs) ≡ true) left
    (rest_moves c.self.view_is c.in_ok-number.number c.in_ok-number.ensures.ok arrivals refl refl c.txn.ensures.rises (λ txn. is_some (leaf_at c.self.inside.recon txn.root)) c.self.invariant.moving))
    (rest_due c.self.view_is c.in_ok-number.number c.in_ok-number.ensures.ok arrivals refl refl c.txn.ensures.rises c.remove-txn.new.self.arrivals (sym left) c.self.invariant.due)

pub returns-clause-refused : goal.returns-clause-refused
returns-clause-refused g c = nothing_refuses c.args.self.now.core c.in_ok-number.ensures.ok.place c.in_ok-number.ensures.ok.first

pub returns-clause-ok : goal.returns-clause-ok
returns-clause-ok g c =
    let arrivals = c.self.inside.waiting.arrivals in
    let store = g.S.FamilyStore.contents c.serve.new.store in
    was_resumed c.self.view_is c.in_ok-number.number c.in_ok-number.ensures.ok arrivals refl refl c.txn.ensures.rises c.remove-txn.new.self.arrivals (ap (λ (w : WaitingValue). w.arrivals) c.remove-txn.ensures.rest) c.txn.result.now c.remove-txn.result c.in_ok-number.who c.in-Ok.outcome store
    c.txn.ensures.txn c.remove-txn.ensures.txn c.in_ok-number.ensures.goes c.in-Ok.ensures.outcome c.in-Ok.ensures.store

pub returns-clause-number : goal.returns-clause-number
returns-clause-number g c =
    number_taken c.self.view_is c.in_ok-number.number c.in_ok-number.ensures.ok c.self.inside.waiting.arrivals refl refl c.txn.ensures.rises c.remove-txn.new.self.arrivals (ap (λ (w : WaitingValue). w.arrivals) c.remove-txn.ensures.rest) _ c.remove-txn.new.self.next (ap (λ (w : WaitingValue). w.next) c.remove-txn.ensures.rest) refl
