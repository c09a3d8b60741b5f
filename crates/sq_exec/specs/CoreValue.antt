-- A single partition.
use Rattle.std.specs.Prelude.{ℕ, Bool, false, ◌&&◌, nat_lt, List, [], replicate, length, slice_set, slice_index_or, Option, None}
use Rattle.sq_schema.specs.TxnValue.{TxnValue}
use Rattle.sq_plan.specs.PlanValue.{PlanValue}
use Rattle.sq_moves.specs.declared.recon.Link.{Link}
use Rattle.sq_moves.specs.declared.recon.Range.{Range}
use Rattle.sq_moves.specs.ReconValue.{ReconValue}
use Rattle.sq_moves.specs.OpeningValue.{OpeningValue}
use Rattle.sq_store.specs.StoreValue.{StoreValue, folded_store}
use Rattle.sq_store.specs.ChunkValue.{ChunkValue}
use Rattle.sq_exec.specs.declared.run.Run.{Run}
use Rattle.sq_exec.specs.GivenUp.{none_given_up}
use Rattle.sq_exec.specs.OutLink.{OutLinkValue, new_out_link}

-- a partition: the plan before the move and what moves, the limits of a chunk in bytes and of a log
-- in transactions, whether the move has started, and the running stage; its families, and the
-- waiting transactions in their order of arrival; for each partition the end of the link to it, and
-- the chunk that came from it; and for each segment the leaves that were given up, and what was
-- loaded
pub record CoreValue : Type 0 where
  pub part : ℕ
  pub plan : PlanValue
  pub recon : ReconValue
  pub limit : ℕ
  pub log_limit : ℕ
  pub started : Bool
  pub stage : ℕ
  pub store : StoreValue
  pub waiting : List TxnValue
  pub outs : List OutLinkValue
  pub inboxes : List (Option ChunkValue)
  pub given_up : List (List Bool)
  pub loaded : List (List Run)

-- the arrival numbers of the waiting transactions in their order, and the one that the next gets
pub record Numbering : Type 0 where
  pub numbers : List ℕ
  pub next : ℕ

-- a partition, with whether there is room for what the next Begin adds, and the arrival numbers of
-- the waiting transactions
pub record PartCoreValue : Type 0 where
  pub core : CoreValue
  pub has_room : Bool
  pub numbering : Numbering

-- a partition with these families, before the move
abbrev pub opened_core : OpeningValue → ℕ → StoreValue → CoreValue
opened_core o part store =
    record {
      part = part;
      plan = o.old;
      recon = o.recon;
      limit = o.config.limit;
      log_limit = o.config.log_limit;
      started = false;
      stage = 0;
      store = store;
      waiting = [];
      outs = replicate o.old.parts new_out_link;
      inboxes = replicate o.old.parts None;
      given_up = replicate (length o.recon.segments) none_given_up;
      loaded = replicate (length o.recon.segments) [];
    }

-- a partition with the logs of its families folded
abbrev pub folded_core : CoreValue → CoreValue
folded_core core = record core { store = folded_store core.store }

-- a partition in this stage
abbrev pub entered_core : ℕ → CoreValue → CoreValue
entered_core stage core = record core { stage = stage }

-- the end of the link to a partition
abbrev pub out_at : CoreValue → ℕ → OutLinkValue
out_at core dst = slice_index_or core.outs dst new_out_link

abbrev pub with_out : CoreValue → ℕ → OutLinkValue → CoreValue
with_out core dst out = record core { outs = slice_set core.outs dst out }

-- the chunk that came from a partition and isn't loaded yet
abbrev pub inbox_at : CoreValue → ℕ → Option ChunkValue
inbox_at core src = slice_index_or core.inboxes src None

abbrev pub with_inbox : CoreValue → ℕ → Option ChunkValue → CoreValue
with_inbox core src inbox = record core { inboxes = slice_set core.inboxes src inbox }

-- the leaves of a segment that were given up here
abbrev pub given_up_at : CoreValue → ℕ → List Bool
given_up_at core seg = slice_index_or core.given_up seg none_given_up

-- what of a segment was loaded here
abbrev pub loaded_at : CoreValue → ℕ → List Run
loaded_at core seg = slice_index_or core.loaded seg []

-- the link from here to a partition
abbrev pub link_to : CoreValue → ℕ → Link
link_to core dst = record { src = core.part; dst = dst }

-- a segment goes from one of this many partitions to another
abbrev pub has_ends : ℕ → Range → Bool
has_ends parts segment = nat_lt segment.src parts && nat_lt segment.dst parts
