-- The order of a link: what was sent is what was received, followed by what the queue holds, chunk
-- by chunk.
use Rattle.std.specs.Prelude.{◌≡◌, ℕ, Bool, true, List, ◌++◌}
use mathlib.Core.Option.{some}
use lib.ListN.{get_elem?}
use Rattle.sq_store.specs.ChunkValue.{ChunkValue}
use Rattle.sq_shared.specs.declared.order.EndView.{EndView}

-- a pass that may or may not send and receive, with what it sent and what it received
abbrev pub ends : Bool → Bool → List ChunkValue → List ChunkValue → EndView
ends sends receives sent received = record { sends = sends; receives = receives; sent = sent; received = received }

-- the rule of the queue, whatever each thread has done: at most one pass sends, and it knows all
-- that was sent; at most one receives, and it knows all that was received
pub record IsInOrder (items : List ChunkValue) (views : List EndView) : Type 0 where
  pub sender : ℕ
  pub receiver : ℕ
  pub sent : List ChunkValue
  pub received : List ChunkValue
  pub order : sent ≡ received ++ items
  pub sends : (pass : ℕ) (v : EndView) → get_elem? views pass ≡ some v → v.sends ≡ true → (pass ≡ sender) × (v.sent ≡ sent)
  pub receives : (pass : ℕ) (v : EndView) → get_elem? views pass ≡ some v → v.receives ≡ true → (pass ≡ receiver) × (v.received ≡ received)

-- the items are the last ones of what was sent
abbrev pub IsEndOf : List ChunkValue → List ChunkValue → Type 0
IsEndOf sent items = (received : List ChunkValue) × (sent ≡ received ++ items)

-- what was sent is what was received, followed by the items
abbrev pub ComesAfter : List ChunkValue → List ChunkValue → Type 0
ComesAfter received items = (sent : List ChunkValue) × (sent ≡ received ++ items)

-- what was sent is what was received, followed by the items; a pass that also sends knows what was
-- sent
abbrev pub KnowsRest : EndView → List ChunkValue → Type 0
KnowsRest v items = (sent : List ChunkValue) × (sent ≡ v.received ++ items) × (v.sends ≡ true → v.sent ≡ sent)
