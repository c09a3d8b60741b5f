-- A client that was served while the workers of a run were driven.
use Rattle.std.proofs.Common.{◌≡◌, Bool, true, false, if◌then◌else◌, List, [], ◌∷◌, ◌++◌, refl, sym, ap, ◌∙◌, subst, ℕ}
use Rattle.std.specs.Prelude.{◌&&◌, All}
use Rattle.std.proofs.lemmas.List.{append-nil}
use Rattle.std.proofs.lemmas.List.Elements.{All-nil, All-cons, All-append}
use Rattle.std.proofs.lemmas.List.Folds.{list_all-append}
use Rattle.sq_node_model.specs.NodeValue.{ReceiptValue}
use Rattle.sq_shared.specs.Pump.{PumpValue}
use Rattle.sq_node.specs.FabricValue.{FabricValue}
use Rattle.sq_driver.specs.Nodes.{AllDriven}
use Rattle.sq_driver.specs.Told.{nodes_of, AllDrivenTelling}
use Rattle.sq_driver.specs.Pumps.{AllPumpsDriven}
use Rattle.sq_driver.specs.declared.attendance.WorkersEnd.{WorkersEnd}
use Rattle.sq_driver.specs.declared.attendance.WorkersEnd.TheVariants as workers
use Rattle.sq_driver.proofs.Together.{all_were_driven}
use Rattle.sq_driver.specs.Sent.{SendsOrBreaksOff}
use Rattle.sq_engine.specs.declared.event.Event.{Event}
use Rattle.sq_engine.specs.declared.event.Event.TheVariants.{Loses}
use Rattle.sq_engine.specs.declared.serving.ServedRun.{ServedRun}
use Rattle.sq_engine.specs.declared.serving.EpochEnd.TheVariants.{Whole, LacksThreads, ReceiptUnknown, LacksMemory, ReceiptLost}
use Rattle.sq_engine.specs.Events.{arrived_from, commands_in, is_arrived, are_known}
use Rattle.sq_engine.specs.Events as events
use Rattle.sq_engine.specs.Open.{OpenJobsValue, Adds}
use Rattle.sq_engine.specs.Clients.{ClientCall, Happens, NamesPartition}
use Rattle.sq_engine.specs.Rings.{Serves, GivesArrived}
use Rattle.sq_engine.specs.Serving.{AllArrive, epoch_end, IsServed}
use Rattle.sq_engine.specs.Telling.{Ring, tellers_of, AreNewRings, HasAllSent, are_whole}
use Rattle.sq_engine.specs.Values.{run_value}
use Rattle.sq_engine.proofs.Passing.{arrived_on, none_asked_on, happens_none, happens_on, one_happens, arrived_serves, serves_on}
use Rattle.sq_engine.proofs.Resting.{Pair}
use Rattle.sq_engine.proofs.Arriving.{all_arrive}

-- an epoch whose workers had threads doesn't end for lack of them
by_known : (b c : Bool) → (if b then (if c then Whole else ReceiptLost) else ReceiptUnknown) ≡ LacksThreads → ⊥
by_known true true is = cc
by_known true false is = cc
by_known false c is = cc

by_memory : (b : Bool) → (if b then LacksMemory else ReceiptUnknown) ≡ LacksThreads → ⊥
by_memory true is = cc
by_memory false is = cc

lacks_threads : (list : List Event) (has_threads : Bool) (end : WorkersEnd) → epoch_end list has_threads end ≡ LacksThreads → has_threads ≡ false
lacks_threads list false end is = refl
lacks_threads list true workers.LacksMemory is = absurd (by_memory (are_known list) is)
lacks_threads list true workers.LacksThreads is = absurd (by_known (are_known list) (events.are_whole list) is)
lacks_threads list true workers.Done is = absurd (by_known (are_known list) (events.are_whole list) is)

-- the events at the end of an epoch: that receipts were lost, unless all tellers went on
pub record IsTail {X : Type 0} (becomes : X → ClientCall → X → Type 0) (whole : Bool) (tail : List Event)
    (old new : OpenJobsValue) (client : X) : Type 0 where
  pub happens : Happens becomes tail old client new client
  pub none_arrived : (part : ℕ) → arrived_from part tail ≡ []
  pub none_asked : commands_in tail ≡ []
  pub whole_is : events.are_whole tail ≡ whole
  pub named : (parts : ℕ) → All (NamesPartition parts) tail

pub none_lost : {X : Type 0} (becomes : X → ClientCall → X → Type 0) (jobs : OpenJobsValue) (client : X) → IsTail becomes true [] jobs jobs client
none_lost becomes jobs client = record {
  happens = happens_none becomes jobs client;
  none_arrived = λ part. refl;
  none_asked = refl;
  whole_is = refl;
  named = λ parts. All-nil (NamesPartition parts);
}

pub some_lost : {X : Type 0} (becomes : X → ClientCall → X → Type 0) (old new : OpenJobsValue) (client : X) → Adds Loses old new
    → IsTail becomes false (Loses ∷ []) old new client
some_lost becomes old new client adds = record {
  happens = one_happens becomes Loses old client new client adds (client, refl, refl);
  none_arrived = λ part. refl;
  none_asked = refl;
  whole_is = refl;
  named = λ parts. All-cons (NamesPartition parts) Loses [] tt (All-nil (NamesPartition parts));
}

module _ {X : Type 0} (becomes : X → ClientCall → X → Type 0) (fabric : FabricValue) (old new : List Pair) (rings now last : List Ring)
    (old_jobs mid_jobs rest_jobs new_jobs : OpenJobsValue) (before between after : X) (has_threads : Bool)
    (are : AreNewRings fabric.parts (tellers_of old) rings) (driven : AllDrivenTelling SendsOrBreaksOff fabric old new)
    (serves : Serves becomes old_jobs rings before mid_jobs now between has_threads)
    (given : GivesArrived becomes mid_jobs now between rest_jobs last after) (all_sent : HasAllSent new last)
    (tail : List Event) (ends : IsTail becomes (are_whole new) tail rest_jobs new_jobs after) where
  abbrev whole : Serves becomes old_jobs rings before rest_jobs last after has_threads
  whole = serves_on becomes old_jobs rings before mid_jobs now between rest_jobs last after has_threads serves
      (arrived_serves becomes mid_jobs now between rest_jobs last after has_threads given)

  abbrev all : List Event
  all = whole.more ++ tail

  same_arrived : (part : ℕ) → arrived_from part all ≡ arrived_from part whole.more
  same_arrived part = arrived_on part whole.more tail
      ∙ ap (λ (list : List ReceiptValue). arrived_from part whole.more ++ list) (ends.none_arrived part)
      ∙ append-nil (arrived_from part whole.more)

  whole_is : events.are_whole all ≡ are_whole new
  whole_is = list_all-append is_arrived whole.more tail
      ∙ ap (λ (b : Bool). b && events.are_whole tail) whole.passes.whole ∙ ends.whole_is

  happen : Happens becomes all old_jobs before new_jobs after
  happen = happens_on becomes whole.more tail old_jobs before rest_jobs after new_jobs after whole.passes.happens ends.happens

  pub is_served : (pumps : List PumpValue) (served : ServedRun) (end : WorkersEnd)
      → AllPumpsDriven fabric pumps served.run.pumps.items → served.run.fabric ≡ fabric → served.run.nodes.items ≡ nodes_of new
      → served.end ≡ epoch_end new_jobs.events has_threads end
      → IsServed becomes (run_value fabric (nodes_of old) pumps) old_jobs before served new_jobs after
  is_served pumps served end pumped same nodes ended = record {
    more = all;
    runs = record {
      jobs = happen.jobs;
      only = record {
        fabric = same;
        nodes = subst (AllDriven fabric (nodes_of old)) (sym nodes) (all_were_driven SendsOrBreaksOff fabric old new driven);
        pumps = pumped;
      };
      arrive = subst (AllArrive all (nodes_of old)) (sym nodes)
          (all_arrive fabric fabric.parts old new rings are driven becomes whole.more all old_jobs before rest_jobs last after
          whole.passes all_sent same_arrived whole_is);
      named = All-append (NamesPartition fabric.parts) whole.more tail
          (subst (λ (parts : ℕ). All (NamesPartition parts) whole.more) are.all_rings whole.passes.named) (ends.named fabric.parts);
      none_asked = λ is. none_asked_on whole.more tail
          (whole.none_asked (lacks_threads new_jobs.events has_threads end (sym ended ∙ is))) ends.none_asked;
      workers = end;
      has_threads = has_threads;
      ended = ended;
    };
    client = happen.client;
  }
