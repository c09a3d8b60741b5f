-- A partition enters a stage.
use Rattle.std.proofs.Common.{◌≡◌, ℕ, Bool, true, false, ◌||◌, List, [], ◌∷◌, map, refl, ap, subst, ◌∙◌}
use Rattle.std.specs.Prelude.{◌&&◌, is_some}
use Rattle.std.specs.List.{list_all}
use Rattle.sq_schema.specs.TxnValue.{TxnValue}
use Rattle.sq_moves.specs.ReconValue.{leaf_at}
use Rattle.sq_exec.specs.Waiting.{Arrival, WaitingValue, txns_of, numbers_of, due_if, with_due}
use Rattle.sq_exec.specs.CoreValue.{CoreValue, Numbering, PartCoreValue, entered_core}
use Rattle.sq_exec.specs.Location.{is_coming_here}
use Rattle.sq_exec.specs.Kept.{is_due_here, IsCore}
use Rattle.sq_exec.proofs.Loads.{same_waiting, same_numbering, more_by}

-- whatever comes here, all are due once all were made due
all_are_due : (core : CoreValue) (arrivals : List Arrival) → list_all (is_due_here core) (map (due_if (λ a. true)) arrivals) ≡ true
all_are_due core [] = refl
all_are_due core (a ∷ arrivals) = λ k. due a.is_due (is_coming_here core (a.txn).root) k && all_are_due core arrivals k
  where
    due : (x y : Bool) → ((x || true) || y) ≡ true
    due true y = refl
    due false y = refl

module _ (stage : ℕ) (old new : WaitingValue) (all : new ≡ with_due (λ a. true) old) where
  same_txns : txns_of new.arrivals ≡ txns_of old.arrivals
  same_txns = same_waiting old new (more_by (λ a. true) all)

  -- the partition keeps what holds of it
  pub entered_kept : (core : CoreValue) → txns_of old.arrivals ≡ core.waiting → IsCore core old.arrivals → IsCore (record core { stage = stage; waiting = txns_of new.arrivals }) new.arrivals
  entered_kept core waiting_is is =
      let entered : CoreValue = record core { stage = stage; waiting = txns_of new.arrivals } in
      record {
        outs = is.outs;
        inboxes = is.inboxes;
        given_up = is.given_up;
        loaded = is.loaded;
        ends = is.ends;
        moving = ap (list_all (λ (txn : TxnValue). is_some (leaf_at core.recon txn.root))) (same_txns ∙ waiting_is) ∙ is.moving;
        due = ap (λ (w : WaitingValue). list_all (is_due_here entered) w.arrivals) all ∙ all_are_due entered old.arrivals;
      }

  -- and is in the stage, with all else as it was
  pub was_entered : {seen now : PartCoreValue} → seen ≡ now → txns_of old.arrivals ≡ seen.core.waiting → ◌≡◌ {A = Numbering} (record { numbers = numbers_of old.arrivals; next = old.next }) seen.numbering
      → ◌≡◌ {A = PartCoreValue} (record seen { core = record seen.core { stage = stage; waiting = txns_of new.arrivals }; numbering = record { numbers = numbers_of new.arrivals; next = new.next } }) (record now { core = entered_core stage now.core })
  was_entered {seen} view_is waiting_is numbering_is =
      (λ k. record seen { core = record seen.core { stage = stage; waiting = (same_txns ∙ waiting_is) k }; numbering = (same_numbering old new (more_by (λ a. true) all) ∙ numbering_is) k })
      ∙ ap (λ (v : PartCoreValue). record v { core = entered_core stage v.core }) view_is

module _ (old new : WaitingValue) (all : new ≡ with_due (λ a. true) old) where
  -- what it hands out when it is closed: the same transactions with the same numbers, all of them due
  pub all_due : list_all (λ a. a.is_due) new.arrivals ≡ true
  all_due = ap (λ (w : WaitingValue). list_all (λ (a : Arrival). a.is_due) w.arrivals) all ∙ each old.arrivals
    where
      or_true : (b : Bool) → (b || true) ≡ true
      or_true true = refl
      or_true false = refl

      each : (arrivals : List Arrival) → list_all (λ (a : Arrival). a.is_due) (map (due_if (λ a. true)) arrivals) ≡ true
      each [] = refl
      each (a ∷ arrivals) = λ k. or_true a.is_due k && each arrivals k

  module _ {seen now : PartCoreValue} (view_is : seen ≡ now) where
    pub closed_txns : txns_of old.arrivals ≡ seen.core.waiting → txns_of new.arrivals ≡ now.core.waiting
    closed_txns waiting_is = same_waiting old new (more_by (λ a. true) all) ∙ waiting_is ∙ ap (λ (v : PartCoreValue). v.core.waiting) view_is

    pub closed_numbers : numbers_of old.arrivals ≡ seen.numbering.numbers → numbers_of new.arrivals ≡ now.numbering.numbers
    closed_numbers numbers_are =
        ap (λ (n : Numbering). n.numbers) (same_numbering old new (more_by (λ a. true) all)) ∙ numbers_are ∙ ap (λ (v : PartCoreValue). v.numbering.numbers) view_is

    pub closed_kept : IsCore seen.core old.arrivals → IsCore now.core new.arrivals
    closed_kept is =
        subst (λ (v : PartCoreValue). IsCore v.core new.arrivals) view_is
        (record {
          outs = is.outs;
          inboxes = is.inboxes;
          given_up = is.given_up;
          loaded = is.loaded;
          ends = is.ends;
          moving = is.moving;
          due = ap (λ (w : WaitingValue). list_all (is_due_here seen.core) w.arrivals) all ∙ all_are_due seen.core old.arrivals;
        })
