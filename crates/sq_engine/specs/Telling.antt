-- Nodes with their tellers, which send over rings.
use Rattle.std.specs.Prelude.{◌≡◌, ℕ, ◌<◌, Bool, false, not, List, [], length, map, slice_index_or}
use Rattle.std.specs.List.{list_all}
use Rattle.rtrb.specs.Ring.{sent, received, IsPair}
use Rattle.rtrb.specs.declared.consumer.Consumer.{Consumer}
use Rattle.rtrb.specs.declared.AnyItems.{AnyItems}
use Rattle.std.specs.declared.alloc.Global.{Global}
use Rattle.sq_node_model.specs.NodeValue.{ReceiptValue}
use Rattle.sq_driver.specs.declared.ring.RingTeller.{RingTeller}
use Rattle.sq_driver.specs.declared.teller.TellingNode.{TellingNode}

-- the tellers of nodes with their tellers
abbrev pub tellers_of : {X : Type 0} → List (TellingNode X) → List X
tellers_of {X} pairs = map (λ (pair : TellingNode X). pair.teller) pairs

-- the receiving end of a ring that carries answers
abbrev pub Ring : Type 0
Ring = Consumer ReceiptValue Global AnyItems

-- a teller sends over a ring, over which nothing was sent yet
pub record IsNewRing (teller : RingTeller) (ring : Ring) : Type 0 where
  pub goes_on : teller.broke_off ≡ false
  pub pair : IsPair teller.producer ring
  pub none_sent : sent teller.producer ≡ []
  pub none_received : received ring ≡ []

-- a teller and a ring for each of `parts` partitions, over which nothing was sent yet
pub record AreNewRings (parts : ℕ) (tellers : List RingTeller) (rings : List Ring) : Type 0 where
  pub all_tellers : length tellers ≡ parts
  pub all_rings : length rings ≡ parts
  pub each : (i : ℕ) (t : RingTeller) (r : Ring) → i < parts → IsNewRing (slice_index_or tellers i t) (slice_index_or rings i r)

-- each teller sends over its ring
abbrev pub ArePaired : List (TellingNode RingTeller) → List Ring → Type 0
ArePaired pairs rings =
    (i : ℕ) (p : TellingNode RingTeller) (r : Ring) → i < length pairs
    → IsPair (slice_index_or pairs i p).teller.producer (slice_index_or rings i r)

-- all that the tellers sent was received
abbrev pub HasAllSent : List (TellingNode RingTeller) → List Ring → Type 0
HasAllSent pairs rings =
    (i : ℕ) (p : TellingNode RingTeller) (r : Ring) → i < length pairs
    → received (slice_index_or rings i r) ≡ sent (slice_index_or pairs i p).teller.producer

-- no teller broke off
abbrev pub are_whole : List (TellingNode RingTeller) → Bool
are_whole pairs = list_all (λ pair. not pair.teller.broke_off) pairs
