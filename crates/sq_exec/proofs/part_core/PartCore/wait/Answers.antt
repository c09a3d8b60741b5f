use Rattle.std.proofs.Common.{◌≡◌, ◌++◌, ◌∷◌, [], sym, ap, subst, refl, ◌∙◌}
use Rattle.std.specs.Prelude.{not}
use Rattle.sq_exec.specs.Waiting.{WaitingValue, txns_of, numbers_of, with_a_number_left, with_last}
use Rattle.sq_exec.specs.CoreValue.{PartCoreValue}
use Rattle.sq_exec.specs.Location.{is_coming_here, is_coming_from}
use Rattle.sq_exec.specs.Kept.{IsCore}
use Rattle.sq_exec.specs.Numbering.{with_arrival}
use Rattle.sq_exec.proofs.Waits.{waits_located, txns_pushed, numbering_pushed, waits_last, waits_kept, due_or_comes}
use Rattle.sq_exec.proofs.part_core.PartCore.wait.Goals as goal

pub unreachable-requires : goal.unreachable-requires
unreachable-requires g c =
    let arrivals = c.self.inside.waiting.arrivals in
    waits_located c.args.self.now.core c.args.txn.now.root arrivals (subst (λ (v : PartCoreValue). IsCore v.core arrivals) c.self.view_is c.self.invariant) c.requires.waits (sym c.requires.located ∙ c.in_default.is)

pub returns-clause-ok : goal.returns-clause-ok
returns-clause-ok g c = record {
  at = c.in-Some.at;
  moves = sym c.requires.located ∙ c.in-Some.is;
  told = refl;
  last =
      waits_last c.self.view_is (txns_of c.push.new.self.arrivals) c.args.txn.now
      (ap (λ (w : WaitingValue). txns_of w.arrivals) c.in-Ok-push.ensures.ok ∙ txns_pushed c.self.inside.waiting c.in-Ok.entry (not c.is_coming-is_due.result) ∙ ap (λ t. txns_of c.self.inside.waiting.arrivals ++ t ∷ []) c.in-Ok.ensures.cases);
}

pub returns-clause-numbered : goal.returns-clause-numbered
returns-clause-numbered g c =
    ap (λ (w : WaitingValue). record { numbers = numbers_of w.arrivals; next = w.next }) c.in-Ok-push.ensures.ok ∙ numbering_pushed c.self.inside.waiting c.in-Ok.entry (not c.is_coming-is_due.result)
    ∙ ap (λ (v : PartCoreValue). with_arrival v.numbering) c.self.view_is

pub invariant_of-self-2 : goal.invariant_of-self-2
invariant_of-self-2 g c =
    let coming : c.is_coming-is_due.result ≡ is_coming_here c.args.self.now.core c.args.txn.now.root = c.is_coming-is_due.ensures ∙ ap (is_coming_from c.args.self.now.core) c.requires.located in
    waits_kept c.self.view_is c.self.inside.waiting c.push.new.self c.args.txn.now (not c.is_coming-is_due.result) c.in-Some.at c.self.invariant refl
    (c.in-Ok-push.ensures.ok ∙ ap (λ t. with_last (with_a_number_left c.self.inside.waiting) t (not c.is_coming-is_due.result)) c.in-Ok.ensures.cases)
    (sym c.requires.located ∙ c.in-Some.is) (due_or_comes c.is_coming-is_due.result (is_coming_here c.args.self.now.core c.args.txn.now.root) coming)
