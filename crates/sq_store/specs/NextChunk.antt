-- The chunk that is cut next, of the keys that are left of a node.
use Rattle.std.specs.Prelude.{ℕ, ◌==◌}
use Rattle.sq_moves.specs.declared.recon.Extent.{Extent}
use Rattle.sq_store.specs.StoreValue.{StoreValue, take_end, families_between}
use Rattle.sq_store.specs.declared.chunk.Note.{Note}
use Rattle.sq_store.specs.ChunkValue.{ChunkValue}

-- it takes the store's families up to where a chunk of this limit ends, and is the last if that is
-- the end of the rest
abbrev pub next_chunk : StoreValue → Note → Extent → ℕ → ChunkValue
next_chunk store base rest limit =
    let end = take_end store rest.lo rest.hi limit in
    record {
      note = record base { lo = rest.lo; hi = end; last = end == rest.hi };
      families = families_between store rest.lo end;
    }
