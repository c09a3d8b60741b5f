use Rattle.std.proofs.Common.{ℕ, arith, Option, sym, ap, subst, ◌∙◌}
use Rattle.std.specs.Prelude.{◌≤◌, find, is_some, IsSome, option_map}
use Rattle.std.specs.List.Sorted.{IsStrictlyIncreasing}
use Rattle.std.proofs.lemmas.Bool.{true≢false}
use Rattle.sq_schema.specs.TxnValue.{TxnValue}
use Rattle.sq_exec.specs.Waiting.{Arrival, WaitingValue, is_due_from, numbers_of}
use Rattle.sq_exec.specs.Slots.{value_at}
use Rattle.sq_exec.specs.Indexed.{is_due_in}
use Rattle.sq_exec.proofs.Entries.{first_from, none_from}
use Rattle.sq_exec.proofs.Indexes.{none_waits, first_below, none_due, first_due, numbers_rise}
use Rattle.sq_exec.proofs.Places.{first_among, none_among_from}
use Rattle.sq_exec.proofs.waiting.Waiting.next_due.Goals as goal
use Rattle.sq_exec.proofs.waiting.Waiting.next_due.Goals.{After-first_from-2, then-from-self+in_ok-first+else-first-self, else-from-self}

abbrev found_of : Option Arrival → Option (ℕ × TxnValue)
found_of read = option_map {U = ℕ × TxnValue} (λ a. (a.number, a.txn)) read

pub returns-in_err-first-clause-due : goal.returns-in_err-first-clause-due
returns-in_err-first-clause-due c =
    let from = c.args.from in
    ap (option_map {U = ℕ × TxnValue} (λ found. (found.0, found.1.now))) c.from_residual.ensures
    ∙ sym (ap found_of (none_waits c.self.inside.txns.entries c.self.inside.by_root c.self.inside.due c.self.inside.due_below c.self.inside.txns.next c.self.invariant from (none_from from c.self.inside.txns.entries (sym c.in_err-first.ensures))))
    ∙ ap (λ (w : WaitingValue). found_of (find (is_due_from from) w.arrivals)) c.self.view_is

pub returns-in_err-first-clause-rises : goal.returns-in_err-first-clause-rises
returns-in_err-first-clause-rises c = subst (λ (w : WaitingValue). IsStrictlyIncreasing (numbers_of w.arrivals)) c.self.view_is (numbers_rise c.self.inside.txns.entries (is_due_in c.self.inside.due_below c.self.inside.due) c.self.invariant.ordered)

pub returns-then-first-self-clause-due : goal.returns-then-first-self-clause-due
returns-then-first-self-clause-due c =
    let from = c.args.from in
    let number : ℕ = c.in_ok-first.first in
    let txn : TxnValue = (c.in_ok-first.txn).now in
    let got = first_from from c.self.inside.txns.entries (number, txn) c.self.invariant.ordered (sym c.in_ok-first.ensures) in
    sym (ap found_of (first_below c.self.inside.txns.entries c.self.inside.by_root c.self.inside.due c.self.inside.due_below c.self.inside.txns.next c.self.invariant from number txn got.upto c.if-first-self.true got.least got.stands))
    ∙ ap (λ (w : WaitingValue). found_of (find (is_due_from from) w.arrivals)) c.self.view_is

pub returns-then-first-self-clause-rises : goal.returns-then-first-self-clause-rises
returns-then-first-self-clause-rises c = subst (λ (w : WaitingValue). IsStrictlyIncreasing (numbers_of w.arrivals)) c.self.view_is (numbers_rise c.self.inside.txns.entries (is_due_in c.self.inside.due_below c.self.inside.due) c.self.invariant.ordered)

-- none that waits from the number on is below the bound
past : (c : After-first_from-2) → (q : ℕ) → c.args.from ≤ q → IsSome (value_at c.self.inside.txns.entries q) → c.self.inside.due_below ≤ q
past c q upto there =
    elim c.if-from-self.branch [
      | then-from-self+in_ok-first+else-first-self w ↦
          let number : ℕ = w.in_ok-first.first in
          let got = first_from c.args.from c.self.inside.txns.entries (number, (w.in_ok-first.txn).now) c.self.invariant.ordered (sym w.in_ok-first.ensures) in
          omega (arith, w.if-first-self.false, got.least q upto there)
      | else-from-self w ↦ omega (arith, w.if-from-self.false, upto)
    ]

pub returns-in_err-number-clause-due : goal.returns-in_err-number-clause-due
returns-in_err-number-clause-due c =
    let from = c.args.from in
    ap (option_map {U = ℕ × TxnValue} (λ found. (found.0, found.1.now))) c.from_residual-in_err-number.ensures
    ∙ sym (ap found_of (none_due c.self.inside.txns.entries c.self.inside.by_root c.self.inside.due c.self.inside.due_below c.self.inside.txns.next c.self.invariant from
    (past (goal.at.returns-in_err-number-clause-due c).After-first_from-2)
    (none_among_from from c.self.inside.due (sym c.in_err-number.ensures.first))))
    ∙ ap (λ (w : WaitingValue). found_of (find (is_due_from from) w.arrivals)) c.self.view_is

pub returns-in_err-number-clause-rises : goal.returns-in_err-number-clause-rises
returns-in_err-number-clause-rises c = subst (λ (w : WaitingValue). IsStrictlyIncreasing (numbers_of w.arrivals)) c.self.view_is (numbers_rise c.self.inside.txns.entries (is_due_in c.self.inside.due_below c.self.inside.due) c.self.invariant.ordered)

pub returns-in-Some-clause-due : goal.returns-in-Some-clause-due
returns-in-Some-clause-due c =
    let from = c.args.from in
    let number : ℕ = c.in_ok-number.number in
    let got = first_among from c.self.inside.due number c.in_ok-number.ensures.rise (sym c.in_ok-number.ensures.first) in
    sym (ap found_of (first_due c.self.inside.txns.entries c.self.inside.by_root c.self.inside.due c.self.inside.due_below c.self.inside.txns.next c.self.invariant from
    (past (goal.at.returns-in-Some-clause-due c).After-first_from-2)
    number (c.in-Some.txn).now got.upto got.here got.least (sym c.in-Some.ensures)))
    ∙ ap (λ (w : WaitingValue). found_of (find (is_due_from from) w.arrivals)) c.self.view_is

pub returns-in-Some-clause-rises : goal.returns-in-Some-clause-rises
returns-in-Some-clause-rises c = subst (λ (w : WaitingValue). IsStrictlyIncreasing (numbers_of w.arrivals)) c.self.view_is (numbers_rise c.self.inside.txns.entries (is_due_in c.self.inside.due_below c.self.inside.due) c.self.invariant.ordered)

-- a due number has a transaction
pub returns-in-None-clause-due : goal.returns-in-None-clause-due
returns-in-None-clause-due c =
    let number : ℕ = c.in_ok-number.number in
    let got = first_among c.args.from c.self.inside.due number c.in_ok-number.ensures.rise (sym c.in_ok-number.ensures.first) in
    absurd (true≢false (sym (c.self.invariant.due number got.here) ∙ ap is_some (sym c.in-None.ensures)))

pub returns-in-None-clause-rises : goal.returns-in-None-clause-rises
returns-in-None-clause-rises c = subst (λ (w : WaitingValue). IsStrictlyIncreasing (numbers_of w.arrivals)) c.self.view_is (numbers_rise c.self.inside.txns.entries (is_due_in c.self.inside.due_below c.self.inside.due) c.self.invariant.ordered)
