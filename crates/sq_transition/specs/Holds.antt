-- A world by its history: each store and each chunk under way is exactly its share of the committed
-- transactions replayed on one table without partitions. Each part of what holds is a type of its
-- fields alone, so that it is the same type after a step that changes nothing that it names.
use Rattle.std.specs.Prelude.{◌≡◌, ℕ, Bool, true, false, ◌+◌, ◌==◌, ◌&&◌, ◌<◌, ◌≤◌, if◌then◌else◌, List, map, drop, reverse, length, slice_get, Option, Some, None, is_some}
use Rattle.std.specs.List.{list_any}
use Rattle.std.specs.FinMap.{get}
use Rattle.sq_schema.specs.Family.{FamilyValue}
use Rattle.sq_moves.specs.declared.node.TheConstants.{LEAVES}
use Rattle.sq_moves.specs.Node.{is_above}
use Rattle.sq_store.specs.declared.chunk.Note.{Note}
use Rattle.sq_store.specs.ChunkValue.{ChunkValue, covers, are_within}
use Rattle.sq_store.specs.StoreValue.{family_in}
use Rattle.sq_moves.specs.declared.recon.Range.{Range}
use Rattle.sq_moves.specs.ReconValue.{is_link}
use Rattle.sq_moves.specs.OpeningValue.{OpeningValue}
use Rattle.sq_model.specs.Trace.{Trace, stage, notes, loads, link, push_count, pop_count, load_count}
use Rattle.sq_exec.specs.GivenUp.{is_given_up}
use Rattle.sq_exec.specs.Runs.{is_loaded, is_whole}
use Rattle.sq_exec.specs.Work.{WorkValue}
use Rattle.sq_exec.specs.CoreValue.{CoreValue, given_up_at, loaded_at}
use Rattle.sq_model.specs.Leader.{phase, is_started, is_prepared, is_reported}
use Rattle.sq_model.specs.Nodes.{Item, status_of, items}
use Rattle.sq_model.specs.Tables.{stands, family_of}
use Rattle.sq_model.specs.Place.{Place, At, Under_way, place, extent_of}
use Rattle.sq_model.specs.Links.{reached, has_last, open_items}
use Rattle.sq_model.specs.Waiting.{waiting}
use Rattle.sq_transition.specs.WorldValue.{WorldValue, WholeLink, running_stage, core_at, status_in, link_index, queue_at, link_value, option_list, under_way}
use Rattle.sq_transition.specs.Leading.{phase_of, parts_of, moved_by, has_prepared, has_reported}

abbrev pub is_at : ℕ → Place → Bool
is_at part (At other) = other == part
is_at part (Under_way note) = false

-- the share of a part of the table: the families of the root keys that are there and have one
abbrev pub share : OpeningValue → Trace → (ℕ → Bool) → ℕ → Option FamilyValue
share o t here root = if stands o t root && here root then Some (family_of o t root) else None

-- the share of a partition: the families of the root keys that are placed at it
abbrev pub share_at : OpeningValue → Trace → ℕ → ℕ → Option FamilyValue
share_at o t part root = share o t (λ key. is_at part (place o t key)) root

-- a chunk under way holds the share of the keys that its note covers
abbrev pub ChunkHolds : OpeningValue → Trace → ChunkValue → Type 0
ChunkHolds o t chunk =
    record {
      families : (root : ℕ) → family_in chunk.families root ≡ share o t (covers chunk.note) root;
      rising : are_within chunk.note.lo chunk.note.hi chunk.families ≡ true;
    }

-- what these notes leave of a begun node
abbrev pub work_of : OpeningValue → List Note → Item → WorkValue
work_of o notes item =
    record {
      seg = item.seg;
      node = item.node;
      pull = item.pull;
      rest = reached o item.seg item.node notes;
      hi = (extent_of o item.seg item.node).hi;
    }

-- a link has the notes and the open nodes that the history determines, and holds the chunks that
-- were cut and aren't loaded yet
abbrev pub LinkHolds : OpeningValue → Trace → WholeLink → Type 0
LinkHolds o t link_now =
    record {
      work : link_now.out.work ≡ map (work_of o (notes t)) (open_items o t link_now.src link_now.dst);
      notes : reverse link_now.out.notes ≡ link link_now.src link_now.dst (notes t);
      few_loaded : load_count t link_now.src link_now.dst ≤ length link_now.out.notes;
      popped : pop_count t link_now.src link_now.dst ≡ load_count t link_now.src link_now.dst + length (option_list link_now.inbox);
      pushed : push_count t link_now.src link_now.dst ≡ pop_count t link_now.src link_now.dst + length link_now.queue;
      way : map (λ chunk. chunk.note) (under_way link_now) ≡ drop (load_count t link_now.src link_now.dst) link_now.out.notes;
      chunks : (i : ℕ) (chunk : ChunkValue) → slice_get (under_way link_now) i ≡ Some chunk → ChunkHolds o t chunk;
    }

-- the plans, what moves between them and the sizes are the opening's
abbrev pub PlansHold : OpeningValue → WorldValue → Type 0
PlansHold o w =
    record {
      old : w.old ≡ o.old;
      new : w.new ≡ o.new;
      recon : w.recon ≡ o.recon;
      config : w.config ≡ o.config;
    }

-- the leader leads the partitions of the opening and moves what moves; its phase is the history's,
-- and so are its stage and the partitions that have prepared and reported
abbrev pub LeaderHolds : OpeningValue → Trace → WorldValue → Type 0
LeaderHolds o t w =
    record {
      parts : parts_of w.leader ≡ o.old.parts;
      moves : moved_by w.leader ≡ o.recon;
      phase : phase_of w.leader ≡ phase t;
      stage : running_stage w ≡ stage t;
      prepared : (part : ℕ) → part < o.old.parts → has_prepared w.leader part ≡ is_prepared t part;
      reported : (part : ℕ) → part < o.old.parts → has_reported w.leader part ≡ is_reported t part;
    }

-- a begun node of the segment covers the leaf
abbrev pub is_leaf_begun : Trace → ℕ → ℕ → Bool
is_leaf_begun t seg leaf = list_any (λ item. (item.seg == seg) && is_above item.node leaf) (items t)

-- a loaded chunk of the segment covers the root key
abbrev pub is_key_loaded : Trace → ℕ → ℕ → Bool
is_key_loaded t seg root = list_any (λ note. (note.seg == seg) && covers note root) (loads t)

-- the segment leaves the partition
abbrev pub leaves_from : OpeningValue → ℕ → ℕ → Type 0
leaves_from o part seg = (range : Range) × (slice_get o.recon.segments seg ≡ Some range) × (range.src ≡ part)

-- the segment moves to the partition
abbrev pub comes_into : OpeningValue → ℕ → ℕ → Type 0
comes_into o part seg = (range : Range) × (slice_get o.recon.segments seg ≡ Some range) × (range.dst ≡ part)

-- a partition knows its number, what moves and whether the move has started, and has a place for
-- each partition and each segment
abbrev pub IsSetFor : OpeningValue → Trace → ℕ → CoreValue → Type 0
IsSetFor o t part core =
    record {
      part : core.part ≡ part;
      plan : core.plan ≡ o.old;
      recon : core.recon ≡ o.recon;
      limit : core.limit ≡ o.config.limit;
      log_limit : core.log_limit ≡ o.config.log_limit;
      started : core.started ≡ is_started t;
      stage : core.stage ≡ stage t;
      outs : length core.outs ≡ o.old.parts;
      inboxes : length core.inboxes ≡ o.old.parts;
      given_up : length core.given_up ≡ length o.recon.segments;
      loaded : length core.loaded ≡ length o.recon.segments;
    }

-- a partition gave up the leaves that begun nodes cover, and loaded the root keys that the loaded
-- chunks cover
abbrev pub MovesHold : OpeningValue → Trace → ℕ → CoreValue → Type 0
MovesHold o t part core =
    record {
      given_up : (seg leaf : ℕ) → leaves_from o part seg → leaf < LEAVES
          → is_given_up (given_up_at core seg) leaf ≡ is_leaf_begun t seg leaf;
      loaded : (seg root : ℕ) → comes_into o part seg → is_loaded (loaded_at core seg) root ≡ is_key_loaded t seg root;
      whole : (seg node : ℕ) → comes_into o part seg → is_whole (loaded_at core seg) node ≡ has_last seg node (loads t);
    }

-- a partition has its share of the table, its waiting transactions are those of the history, and it
-- gave up and loaded what the history determines
abbrev pub CoreHolds : OpeningValue → Trace → ℕ → CoreValue → Type 0
CoreHolds o t part core =
    record {
      set : IsSetFor o t part core;
      store : (root : ℕ) → get core.store root ≡ share_at o t part root;
      waiting : core.waiting ≡ waiting o t part;
      moves : MovesHold o t part core;
    }

-- each partition exists and holds what the history determines
abbrev pub PartitionsHold : OpeningValue → Trace → WorldValue → Type 0
PartitionsHold o t w =
    record {
      count : length w.cores ≡ o.old.parts;
      each : (part : ℕ) → part < o.old.parts → CoreHolds o t part (core_at w part);
    }

-- each node has the status that the history determines
abbrev pub SegmentsHold : OpeningValue → Trace → WorldValue → Type 0
SegmentsHold o t w =
    record {
      count : length w.trees ≡ length o.recon.segments;
      statuses : (seg node : ℕ) → seg < length o.recon.segments → status_in w seg node ≡ status_of t seg node;
    }

-- there is one link from a partition to another if a range moves there, and no other
abbrev pub LinksHold : OpeningValue → Trace → WorldValue → Type 0
LinksHold o t w =
    record {
      each : (i : ℕ) → i < length w.queues → LinkHolds o t (link_value w i);
      ends : (src dst : ℕ) → is_some (link_index w src dst) ≡ is_link o.recon.ranges src dst;
      one_each : (i j : ℕ) → i < length w.queues → j < length w.queues
          → (queue_at w i).src ≡ (queue_at w j).src → (queue_at w i).dst ≡ (queue_at w j).dst → i ≡ j;
    }

-- the world is the one that the trace leads to
pub record Holds (o : OpeningValue) (t : Trace) (w : WorldValue) : Type 0 where
  pub plans : PlansHold o w
  pub leader : LeaderHolds o t w
  pub partitions : PartitionsHold o t w
  pub segments : SegmentsHold o t w
  pub links : LinksHold o t w
