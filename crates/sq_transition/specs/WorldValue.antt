-- The state of a world, apart from where it is stored.
use Rattle.std.specs.Prelude.{ℕ, false, ◌==◌, ◌&&◌, List, [], slice_get, slice_set, slice_index_or, position, Option, Some, None, ◌∷◌, ◌++◌}
use Rattle.std.specs.Option.{option_map_or}
use Rattle.std.specs.FinMap.{empty}
use Rattle.sq_plan.specs.declared.version.Version.TheVariants.{First}
use Rattle.sq_plan.specs.PlanValue.{PlanValue}
use Rattle.sq_moves.specs.declared.status.Status.{Status}
use Rattle.sq_moves.specs.Tree.{status_at}
use Rattle.sq_moves.specs.declared.opening.Config.{Config}
use Rattle.sq_moves.specs.declared.recon.Range.{Range}
use Rattle.sq_moves.specs.ReconValue.{ReconValue, of_stage}
use Rattle.sq_leader.specs.declared.leader.Leader.{Leader}
use Rattle.sq_store.specs.ChunkValue.{ChunkValue}
use Rattle.sq_exec.specs.OutLink.{OutLinkValue}
use Rattle.sq_exec.specs.CoreValue.{CoreValue, out_at, inbox_at}
use Rattle.sq_transition.specs.Leading.{stage_of}

-- the queue of a link: the chunks that were pushed and haven't been popped, the oldest first
pub record QueueValue : Type 0 where
  pub src : ℕ
  pub dst : ℕ
  pub chunks : List ChunkValue

-- a world: the plans, what moves between them and the sizes; the leader; the partitions; for each
-- segment the statuses of its nodes from node 1 on; and the queues between the partitions
pub record WorldValue : Type 0 where
  pub tables : ℕ
  pub old : PlanValue
  pub new : PlanValue
  pub recon : ReconValue
  pub config : Config
  pub leader : Leader
  pub cores : List CoreValue
  pub trees : List (List Status)
  pub queues : List QueueValue

abbrev pub no_core : CoreValue
no_core = record {
  part = 0;
  plan = record { version = First; parts = 0; ranges = [] };
  recon = record { width = 0; ranges = []; segments = []; auto = false };
  limit = 0;
  log_limit = 0;
  started = false;
  stage = 0;
  store = empty;
  waiting = [];
  outs = [];
  inboxes = [];
  given_up = [];
  loaded = [];
}

-- a partition
abbrev pub core_at : WorldValue → ℕ → CoreValue
core_at w part = slice_index_or w.cores part no_core

abbrev pub with_core : WorldValue → ℕ → CoreValue → WorldValue
with_core w part core = record w { cores = slice_set w.cores part core }

-- the statuses of the nodes of a segment
abbrev pub tree_at : WorldValue → ℕ → List Status
tree_at w seg = slice_index_or w.trees seg []

abbrev pub with_tree : WorldValue → ℕ → List Status → WorldValue
with_tree w seg tree = record w { trees = slice_set w.trees seg tree }

-- the status of a node of a segment
abbrev pub status_in : WorldValue → ℕ → ℕ → Status
status_in w seg node = status_at (tree_at w seg) node

-- the place of the queue from the one partition to the other among the queues
abbrev pub link_index : WorldValue → ℕ → ℕ → Option ℕ
link_index w src dst = position (λ queue. (queue.src == src) && (queue.dst == dst)) w.queues

abbrev pub no_queue : QueueValue
no_queue = record { src = 0; dst = 0; chunks = [] }

abbrev pub queue_at : WorldValue → ℕ → QueueValue
queue_at w i = slice_index_or w.queues i no_queue

-- the world in which this queue holds these chunks
abbrev pub with_queue : WorldValue → ℕ → List ChunkValue → WorldValue
with_queue w i chunks = record w { queues = slice_set w.queues i (record (queue_at w i) { chunks = chunks }) }

-- the range of a segment
abbrev pub range_of : WorldValue → ℕ → Option Range
range_of w seg = slice_get w.recon.segments seg

-- the running stage
abbrev pub running_stage : WorldValue → ℕ
running_stage w = stage_of w.leader

-- the range of a segment of the running stage
abbrev pub running_range : WorldValue → ℕ → Option Range
running_range w seg = of_stage w.recon (running_stage w) (range_of w seg)

-- the partition that a segment leaves, and the one that it moves to
abbrev pub source_of : WorldValue → ℕ → ℕ
source_of w seg = option_map_or (λ range. range.src) (range_of w seg) 0

abbrev pub destination_of : WorldValue → ℕ → ℕ
destination_of w seg = option_map_or (λ range. range.dst) (range_of w seg) 0

-- a link as a whole: the source's end of it, the queue, and the chunk that was popped and isn't
-- loaded yet
pub record WholeLink : Type 0 where
  pub src : ℕ
  pub dst : ℕ
  pub out : OutLinkValue
  pub queue : List ChunkValue
  pub inbox : Option ChunkValue

-- the link of a queue, with its ends at the partitions
abbrev pub link_of : WorldValue → QueueValue → WholeLink
link_of w queue =
    record {
      src = queue.src;
      dst = queue.dst;
      out = out_at (core_at w queue.src) queue.dst;
      queue = queue.chunks;
      inbox = inbox_at (core_at w queue.dst) queue.src;
    }

-- the link whose queue is at this place
abbrev pub link_value : WorldValue → ℕ → WholeLink
link_value w i = link_of w (queue_at w i)

-- a chunk as a list, which is empty without a chunk
abbrev pub option_list : Option ChunkValue → List ChunkValue
option_list None = []
option_list (Some chunk) = chunk ∷ []

-- the chunks of a link that were cut and aren't loaded yet, the oldest first
abbrev pub under_way : WholeLink → List ChunkValue
under_way link = option_list link.inbox ++ (link.queue ++ option_list link.out.outbox)
