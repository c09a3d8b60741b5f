use Rattle.std.proofs.Common.{◌≡◌, ◌+◌, ◌++◌, ℕ, List, length, ap, ◌∙◌, arith}
use Rattle.std.specs.Prelude.{option_to_list}
use Rattle.std.specs.FinMap.{get, remove}
use Rattle.sq_schema.specs.declared.root.TheConstants.{ROOT_END}
use Rattle.sq_store.specs.StoreValue.{StoreValue, families_between, without_between}
use Rattle.sq_store.proofs.Lists.{rooted-store_of}
use Rattle.sq_store.specs.Run.{Run}
use Rattle.sq_store.specs.Runs.{families_in_runs, store_of_runs, AreRuns}
use Rattle.sq_store.proofs.InRuns.{runs_rise}
use Rattle.sq_store.proofs.OneRoots.{between_one, without_one, upto_one}
use Rattle.sq_store.proofs.slab_store.SlabStore.move_out.Goals as goal

-- the families that are taken
taken : (runs : List Run) (store : StoreValue) (root number : ℕ) → AreRuns ROOT_END runs → store_of_runs runs ≡ store → number ≡ root → families_between (store_of_runs runs) number (number + 1) ≡ option_to_list (get store root)
taken runs store root number are is same =
    ap (λ n. families_between (store_of_runs runs) n (n + 1)) same
    ∙ between_one (store_of_runs runs) root (rooted-store_of (families_in_runs runs) (runs_rise ROOT_END runs are))
    ∙ ap (λ s. option_to_list (get s root)) is

pub take_between-requires : goal.take_between-requires
take_between-requires c =
    let is = taken c.self.inside.runs c.args.self.now c.args.root c.number-at.result c.self.invariant c.self.view_is c.number-at.ensures.number in
    record {
      bounds = omega arith;
      runs = c.self.invariant;
      room = omega (arith, ap length is, upto_one (get c.args.self.now c.args.root), c.requires);
    }

pub returns-clause-taken : goal.returns-clause-taken
returns-clause-taken c =
    c.take_between.ensures.taken
    ∙ ap (λ fs. c.args.families.now.items ++ fs) (taken c.self.inside.runs c.args.self.now c.args.root c.number-at.result c.self.invariant c.self.view_is c.number-at.ensures.number)

pub returns-clause-store : goal.returns-clause-store
returns-clause-store c =
    let runs = c.self.inside.runs in
    c.take_between.ensures.store
    ∙ ap (λ n. without_between (store_of_runs runs) n (n + 1)) c.number-at.ensures.number
    ∙ without_one (store_of_runs runs) c.args.root
    ∙ ap (λ store. remove store c.args.root) c.self.view_is
