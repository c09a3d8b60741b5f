-- What the steps of a move do to a single partition: Begin, Cut and Load.
use Rattle.std.specs.Prelude.{◌≡◌, ℕ, Bool, false, ◌==◌, ◌&&◌, not, nat_le, if◌then◌else◌, List, [], ◌∷◌, ◌++◌, slice_get, slice_set, Option, Some, None, is_some}
use Rattle.std.specs.Option.{option_map_or}
use Rattle.sq_schema.specs.Prelude.{FamilyValue}
use Rattle.sq_moves.specs.declared.recon.Extent.{Extent}
use Rattle.sq_moves.specs.declared.recon.Range.{Range}
use Rattle.sq_moves.specs.ReconValue.{extent}
use Rattle.sq_store.specs.declared.chunk.Note.{Note}
use Rattle.sq_store.specs.ChunkValue.{ChunkValue}
use Rattle.sq_store.specs.StoreValue.{StoreValue, with_families, has_none_of}
use Rattle.sq_exec.specs.declared.fault.LoadFault.{LoadFault}
use Rattle.sq_exec.specs.declared.fault.LoadFault.TheVariants as fault
use Rattle.sq_exec.specs.GivenUp.{given_up_with}
use Rattle.sq_exec.specs.Runs.{is_met, runs_with}
use Rattle.sq_exec.specs.Work.{WorkValue}
use Rattle.sq_exec.specs.OutLink.{OutLinkValue, IsCut}
use Rattle.sq_exec.specs.CoreValue.{CoreValue, out_at, with_out, link_to, inbox_at, with_inbox, given_up_at, loaded_at}

-- the work on a whole node
abbrev pub whole_node : CoreValue → Range → ℕ → ℕ → ℕ → WorkValue
whole_node core segment seg node pull =
    let keys = extent core.recon.width segment node in record { seg = seg; node = node; pull = pull; rest = keys.lo; hi = keys.hi }

abbrev pub with_work : OutLinkValue → WorkValue → OutLinkValue
with_work out work = record out { work = out.work ++ work ∷ [] }

abbrev pub begun_in : CoreValue → ℕ → ℕ → ℕ → Option Range → CoreValue
begun_in core seg node pull None = core
begun_in core seg node pull (Some segment) =
    record (with_out core segment.dst (with_work (out_at core segment.dst) (whole_node core segment seg node pull))) {
      given_up = slice_set core.given_up seg (given_up_with (given_up_at core seg) node);
    }

-- the partition once it begins a node: its keys are the last work of the link, and its leaves are
-- given up
abbrev pub begun_core : CoreValue → ℕ → ℕ → ℕ → CoreValue
begun_core core seg node pull = begun_in core seg node pull (slice_get core.recon.segments seg)

-- a chunk for a partition was cut: the end of that link and the store are as the cut leaves them,
-- and all else is as it was
pub record CutsFor (old : CoreValue) (dst : ℕ) (note : Note) (new : CoreValue) : Type 0 where
  pub out : OutLinkValue
  pub store : StoreValue
  pub cut : IsCut old.limit (link_to old dst) (out_at old dst) old.store note out store
  pub after : new ≡ record (with_out old dst out) { store = store }

abbrev pub lies_in : Note → Extent → Bool
lies_in note keys = nat_le keys.lo note.lo && nat_le note.hi keys.hi

abbrev pub can_load_in : CoreValue → ℕ → ChunkValue → Option Range → Bool
can_load_in core src chunk None = false
can_load_in core src chunk (Some segment) =
    (segment.src == src) && ((segment.dst == core.part)
    && (lies_in chunk.note (extent core.recon.width segment chunk.note.node)
    && (not (is_met (loaded_at core chunk.note.seg) chunk.note) && has_none_of core.store chunk.families)))

-- the chunk is about a node of a segment that moves here from this partition, none of the keys that
-- it covers is loaded, and none of its families is here
abbrev pub can_load : CoreValue → ℕ → ChunkValue → Bool
can_load core src chunk = can_load_in core src chunk (slice_get core.recon.segments chunk.note.seg)

-- a chunk came from this partition that can be loaded
abbrev pub may_load : CoreValue → ℕ → Bool
may_load core src = option_map_or (can_load core src) (inbox_at core src) false

-- the chunk of an inbox with this note was moved to a store: its families are there, and the inbox
-- is empty
abbrev pub GivesChunk : Option ChunkValue → StoreValue → Note → Option ChunkValue → StoreValue → Type 0
GivesChunk inbox store note emptied filled =
    (families : List FamilyValue) × (inbox ≡ Some (record { note = note; families = families })) × (emptied ≡ None)
    × (filled ≡ with_families store families)

-- why no chunk is loaded: none came, or else memory ran out
abbrev pub load_fault : CoreValue → ℕ → LoadFault
load_fault core src = if is_some (inbox_at core src) then fault.Memory else fault.InboxEmpty

abbrev pub loaded_core : CoreValue → ℕ → ChunkValue → CoreValue
loaded_core core src chunk =
    record (with_inbox core src None) {
      store = with_families core.store chunk.families;
      loaded = slice_set core.loaded chunk.note.seg (runs_with (loaded_at core chunk.note.seg) chunk.note);
    }

-- the chunk that came from this partition was loaded: all of its families are here, and the keys
-- that it covers are loaded
pub record LoadsFrom (old : CoreValue) (src : ℕ) (note : Note) (new : CoreValue) : Type 0 where
  pub chunk : ChunkValue
  pub came : inbox_at old src ≡ Some chunk
  pub noted : note ≡ chunk.note
  pub after : new ≡ loaded_core old src chunk
