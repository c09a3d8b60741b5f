-- A single partition, as it is stored.
use Rattle.std.specs.Prelude.{map}
use Rattle.sq_exec.specs.Waiting.{txns_of}
use Rattle.sq_store.specs.StoreValue.{StoreValue}
use Rattle.sq_exec.specs.declared.part_core.PartCore.TheInside.{Inside}
use Rattle.sq_exec.specs.CoreValue.{CoreValue}

-- the partition that is stored so, whose store has these contents
abbrev pub core_inside : {S : Type 0} → (S → StoreValue) → Inside S → CoreValue
core_inside contents p =
    record {
      part = p.part;
      plan = p.plan;
      recon = p.recon;
      limit = p.limit;
      log_limit = p.log_limit;
      started = p.started;
      stage = p.stage;
      store = contents p.store;
      waiting = txns_of p.waiting.arrivals;
      outs = map (λ out. out.link) p.outs.items;
      inboxes = p.inboxes.items;
      given_up = p.given_up.items;
      loaded = map (λ runs. runs.items) p.loaded.items;
    }
