-- The queue of a link.
use Rattle.std.specs.Prelude.{◌≡◌, [], ◌∷◌, Option, Some, None}
use Rattle.sq_store.specs.ChunkValue.{ChunkValue}
use Rattle.sq_moves.specs.declared.recon.Link.{Link}
use Rattle.sq_transition.specs.WorldValue.{QueueValue}

-- an empty queue
abbrev pub opened_queue : Link → QueueValue
opened_queue link = record { src = link.src; dst = link.dst; chunks = [] }

-- the oldest chunk was popped, or there was none
abbrev pub IsPopped : QueueValue → Option ChunkValue → QueueValue → Type 0
IsPopped old None new = (old.chunks ≡ []) × (new ≡ old)
IsPopped old (Some chunk) new = (old.chunks ≡ chunk ∷ new.chunks) × (new ≡ record old { chunks = new.chunks })
