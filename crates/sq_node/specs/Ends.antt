-- The ends of links that a node has.
use Rattle.std.specs.Prelude.{◌≡◌, ℕ, ◌<◌, ◌==◌, ◌&&◌, List, [], ◌∷◌, ◌++◌, length, position, slice_index_or, Option, Some, None, option_map}
use Rattle.crossbeam_queue.specs.Fifo.{Held}
use Rattle.sq_store.specs.ChunkValue.{ChunkValue}
use Rattle.sq_shared.specs.Values.{LinkValue, PassValue}
use Rattle.sq_shared.specs.Order.{IsEndOf, ComesAfter}
use Rattle.sq_node.specs.declared.ends.LinkEnd.{LinkEnd}

-- an end of a link: the place of the link, and the pass with the chunks that went by it
abbrev pub EndValue : Type 0
EndValue = LinkEnd PassValue

abbrev pub no_link : LinkValue
no_link = record {
  queue = record { words = 0; slots = 0; views_name = 0; atom = 0; block = 0; offset = 0; slot_names = [] };
  src = 0;
  dst = 0;
  capacity = 0;
}

abbrev pub link_at : List LinkValue → ℕ → LinkValue
link_at links i = slice_index_or links i no_link

-- the place of the link with `part` at its near end and `other` at its far end, or `None` if there
-- is no such link
abbrev pub link_between : (LinkValue → ℕ) → (LinkValue → ℕ) → List LinkValue → ℕ → ℕ → Option ℕ
link_between near far links part other = position (λ link. (near link == part) && (far link == other)) links

-- the end belongs to the link that it names
pub record IsEnd (links : List LinkValue) (end : EndValue) : Type 0 where
  pub exists : end.link < length links
  pub queue : end.pass.queue ≡ (link_at links end.link).queue

-- the end after one more chunk went by it
abbrev pub passed_on : EndValue → ChunkValue → EndValue
passed_on end chunk = record { link = end.link; pass = record { queue = end.pass.queue; chunks = end.pass.chunks ++ chunk ∷ [] } }

-- the end's link was full at one moment, as far as the end can know
abbrev pub WasFull : List LinkValue → EndValue → Type 0
WasFull links end = Held (link_at links end.link).capacity (IsEndOf end.pass.chunks)

-- the end's link was empty at one moment, as far as the end can know
abbrev pub WasEmpty : EndValue → Type 0
WasEmpty end = Held 0 (ComesAfter end.pass.chunks)

abbrev pub end_at : List (Option EndValue) → ℕ → Option EndValue
end_at ends other = slice_index_or ends other None

-- a partition's ends by the other partition: one of each link between the two in this direction
pub record AreEnds (near far : LinkValue → ℕ) (links : List LinkValue) (part : ℕ) (all : List (Option EndValue)) : Type 0 where
  pub which : (other : ℕ) → other < length all → option_map (λ end. end.link) (end_at all other) ≡ link_between near far links part other
  pub ends : (other : ℕ) (end : EndValue) → end_at all other ≡ Some end → IsEnd links end

-- the partition that a link leads from, and the one that it leads to
abbrev pub src_of : LinkValue → ℕ
src_of link = link.src

abbrev pub dst_of : LinkValue → ℕ
dst_of link = link.dst

-- its sending ends, by the partition that each sends to
abbrev pub AreSendEnds : List LinkValue → ℕ → List (Option EndValue) → Type 0
AreSendEnds = AreEnds src_of dst_of

-- its receiving ends, by the partition that each receives from
abbrev pub AreRecvEnds : List LinkValue → ℕ → List (Option EndValue) → Type 0
AreRecvEnds = AreEnds dst_of src_of
