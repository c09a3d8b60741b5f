-- The source's end of a link, and what a cut does to it.
use Rattle.std.specs.Prelude.{◌≡◌, ℕ, Bool, false, ◌==◌, ◌&&◌, ◌≤◌, if◌then◌else◌, List, [], ◌∷◌, ◌++◌, length, Option, Some, None, is_some, is_none}
use Rattle.sq_store.specs.declared.chunk.Note.{Note}
use Rattle.sq_store.specs.ChunkValue.{ChunkValue}
use Rattle.sq_moves.specs.declared.recon.Link.{Link}
use Rattle.sq_store.specs.StoreValue.{StoreValue, families_between, without_between, take_end}
use Rattle.sq_exec.specs.declared.fault.CutFault.{CutFault}
use Rattle.sq_exec.specs.declared.fault.CutFault.TheVariants as fault
use Rattle.sq_exec.specs.Work.{WorkValue, next_work, work_at, work_after}

-- the notes of all chunks that were cut for the link, the open work in the order in which it was
-- begun, and the chunk that isn't sent yet
pub record OutLinkValue : Type 0 where
  pub notes : List Note
  pub work : List WorkValue
  pub outbox : Option ChunkValue

-- the end of a link, with whether there is room for one more piece of work
pub record RoomyOutLink : Type 0 where
  pub link : OutLinkValue
  pub has_room : Bool

-- nothing was begun
abbrev pub new_out_link : OutLinkValue
new_out_link = record { notes = []; work = []; outbox = None }

-- the note of a chunk of this work that ends here
abbrev pub note_for : Link → OutLinkValue → WorkValue → ℕ → Note
note_for ends out work end =
    record {
      src = ends.src;
      dst = ends.dst;
      number = length out.notes;
      seg = work.seg;
      node = work.node;
      lo = work.rest;
      hi = end;
      last = end == work.hi;
    }

-- a chunk can be cut, memory permitting
abbrev pub may_cut : OutLinkValue → Bool
may_cut out = is_none out.outbox && is_some (next_work out.work)

-- why no chunk is cut: the last one isn't sent, or there is no work, or else memory ran out
abbrev pub cut_fault : OutLinkValue → CutFault
cut_fault out = if is_some out.outbox then fault.OutboxFull else if is_none (next_work out.work) then fault.NothingToCut else fault.Memory

-- a chunk of the work at this place, which takes as many families as fit: its note, the end of the
-- link with it, and the store that it leaves
abbrev pub cut_here : ℕ → Link → OutLinkValue → StoreValue → ℕ → Note × (OutLinkValue × StoreValue)
cut_here limit ends out store at =
    let work = work_at out.work at in
    let end = take_end store work.rest work.hi limit in
    let note = note_for ends out work end in (
      note,
      (
        record {
          notes = out.notes ++ note ∷ [];
          work = work_after out.work at end;
          outbox = Some (record { note = note; families = families_between store work.rest end });
        },
        without_between store work.rest end,
      ),
    )

-- a chunk of the next work was cut, and came into the empty outbox
pub record IsCut (limit : ℕ) (ends : Link) (out : OutLinkValue) (store : StoreValue)
    (note : Note) (after : OutLinkValue) (left : StoreValue) : Type 0 where
  pub place : ℕ
  pub empty : is_some out.outbox ≡ false
  pub next : next_work out.work ≡ Some place
  pub cut : (note, (after, left)) ≡ cut_here limit ends out store place
  pub rises : note.lo ≤ note.hi
  pub within : note.hi ≤ (work_at out.work place).hi
