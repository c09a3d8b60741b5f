-- The ends of links that a node had, each put at the place of its link.
use Rattle.std.specs.Prelude.{◌≡◌, ◌⊎◌, ℕ, ◌<◌, ◌≤◌, false, List, length, slice_get, slice_index_or, Option, Some, None}
use Rattle.sq_store.specs.ChunkValue.{ChunkValue}
use Rattle.sq_exec.specs.OutLink.{OutLinkValue, RoomyOutLink, new_out_link}
use Rattle.sq_node.specs.Ends.{EndValue, end_at}
use Rattle.sq_gather.specs.LinkEnds.{LinkEndsValue}

-- how an end of a node is put at the place of its link, with what belongs to it
abbrev pub PutBeside : Type 0 → Type 0
PutBeside Y = LinkEndsValue → EndValue → Y → LinkEndsValue

-- an end of a node, at a place from `from` on, was put here, with what belongs to it
pub record WasPut {Y : Type 0} (put : PutBeside Y) (ends : List (Option EndValue)) (beside : List Y) (none : Y) (from i : ℕ)
    (was now : LinkEndsValue) : Type 0 where
  pub other : ℕ
  pub past : from ≤ other
  pub end : EndValue
  pub there : end_at ends other ≡ Some end
  pub here : end.link ≡ i
  pub is : now ≡ put was end (slice_index_or beside other none)

-- each end that a node had, from place `from` on, was put at the place of its link, with what
-- belongs to it, and nothing else was put
pub record HavePut {Y : Type 0} (put : PutBeside Y) (ends : List (Option EndValue)) (beside : List Y) (none : Y) (from : ℕ)
    (old new : List LinkEndsValue) : Type 0 where
  pub count : length new ≡ length old
  pub all : (other : ℕ) (end : EndValue) (was : LinkEndsValue) → from ≤ other → end_at ends other ≡ Some end
      → slice_get old end.link ≡ Some was → slice_get new end.link ≡ Some (put was end (slice_index_or beside other none))
  pub each : (i : ℕ) (was : LinkEndsValue) → slice_get old i ≡ Some was
      → (now : LinkEndsValue) × (slice_get new i ≡ Some now) × (WasPut put ends beside none from i was now ⊎ (now ≡ was))

-- no two of a node's ends belong to the same link
abbrev pub AreApart : List (Option EndValue) → Type 0
AreApart ends = (a b : ℕ) (one other : EndValue) → end_at ends a ≡ Some one → end_at ends b ≡ Some other → one.link ≡ other.link → a ≡ b

-- each of a node's ends belongs to one of `count` links
abbrev pub AreAmong : ℕ → List (Option EndValue) → Type 0
AreAmong count ends = (other : ℕ) (end : EndValue) → end_at ends other ≡ Some end → end.link < count

-- `ends` with the source's end
abbrev pub with_source : LinkEndsValue → EndValue → OutLinkValue → LinkEndsValue
with_source ends end out = record ends { sender = Some end.pass; notes = out.notes; outbox = out.outbox }

abbrev pub with_out_link : LinkEndsValue → EndValue → RoomyOutLink → LinkEndsValue
with_out_link ends end out = with_source ends end out.link

abbrev pub no_out_link : RoomyOutLink
no_out_link = record { link = new_out_link; has_room = false }

-- `ends` with the destination's end
abbrev pub with_destination : LinkEndsValue → EndValue → Option ChunkValue → LinkEndsValue
with_destination ends end inbox = record ends { receiver = Some end.pass; inbox = inbox }

abbrev pub SourcesPut : List (Option EndValue) → List OutLinkValue → ℕ → List LinkEndsValue → List LinkEndsValue → Type 0
SourcesPut sends outs from old new = HavePut with_source sends outs new_out_link from old new

abbrev pub DestinationsPut : List (Option EndValue) → List (Option ChunkValue) → ℕ → List LinkEndsValue → List LinkEndsValue → Type 0
DestinationsPut recvs inboxes from old new = HavePut with_destination recvs inboxes None from old new
