-- Closed links.
use Rattle.std.specs.Prelude.{◌≡◌, ℕ, ◌+◌, ◌≤◌, List, [], ◌++◌, length, slice_get, Some, None, option_to_list}
use Rattle.sq_store.specs.ChunkValue.{ChunkValue}
use Rattle.sq_shared.specs.Values.{LinkValue, PassValue}
use Rattle.sq_node_model.specs.Gathered.{GatheredLink}
use Rattle.sq_gather.specs.LinkEnds.{LinkEndsValue}

-- room for `room` chunks, with neither end set
abbrev pub no_ends : ℕ → LinkEndsValue
no_ends room = record { sender = None; notes = []; outbox = None; receiver = None; inbox = None; room = room }

-- both ends are set and belong to the link, and there is room for all that can be under way on it
pub record HasBothEnds (link : LinkValue) (ends : LinkEndsValue) : Type 0 where
  pub sender : PassValue
  pub sends : ends.sender ≡ Some sender
  pub sends_on : sender.queue ≡ link.queue
  pub receiver : PassValue
  pub receives : ends.receiver ≡ Some receiver
  pub receives_on : receiver.queue ≡ link.queue
  pub room : link.capacity + 2 ≤ ends.room

-- the link is closed: what was sent is what was received, followed by what the queue held; under
-- way are the chunks in the inbox, the queue and the outbox
pub record IsClosed (link : LinkValue) (ends : LinkEndsValue) (closed : GatheredLink) : Type 0 where
  pub src : closed.src ≡ link.src
  pub dst : closed.dst ≡ link.dst
  pub sender : PassValue
  pub sends : ends.sender ≡ Some sender
  pub receiver : PassValue
  pub receives : ends.receiver ≡ Some receiver
  pub queue : List ChunkValue
  pub order : sender.chunks ≡ receiver.chunks ++ queue
  pub notes : closed.notes ≡ ends.notes
  pub way : closed.under_way ≡ option_to_list ends.inbox ++ (queue ++ option_to_list ends.outbox)

-- each link has its ends, in the same order
pub record HaveBothEnds (links : List LinkValue) (ends : List LinkEndsValue) : Type 0 where
  pub count : length ends ≡ length links
  pub each : (i : ℕ) (link : LinkValue) (left : LinkEndsValue) → slice_get links i ≡ Some link
      → slice_get ends i ≡ Some left → HasBothEnds link left

-- each link is closed with its ends, in the same order
pub record AreClosed (links : List LinkValue) (ends : List LinkEndsValue) (closed : List GatheredLink) : Type 0 where
  pub count : length closed ≡ length links
  pub each : (i : ℕ) (link : LinkValue) (left : LinkEndsValue) (now : GatheredLink) → slice_get links i ≡ Some link
      → slice_get ends i ≡ Some left → slice_get closed i ≡ Some now → IsClosed link left now
