-- What is still on its way over the rings, given ring by ring.
use Rattle.std.proofs.Common.{◌≡◌, inl, inr, ℕ, ◌+◌, ◌<◌, ◌≤◌, List, length, get_or, set, sym, ap, ◌∙◌, subst, arith, get_or-set_same, get_or-set_other}
use Rattle.std.proofs.Math.Seq.{map-set_same}
use Rattle.std.proofs.lemmas.Bool.{cases_eq}
use Rattle.std.proofs.lemmas.Option.{slice_get-get_or, get_or_from_slice_get}
use Rattle.rtrb.specs.Ring.{sent, received, SameConsumer}
use Rattle.sq_driver.specs.declared.ring.RingTeller.{RingTeller}
use Rattle.sq_driver.specs.declared.teller.TellingNode.{TellingNode}
use Rattle.sq_engine.specs.Open.{OpenJobsValue}
use Rattle.sq_engine.specs.Clients.{ClientCall}
use Rattle.sq_engine.specs.Rings.{GivesGrown, GivesArrived}
use Rattle.sq_driver.specs.Told.{nodes_of}
use Rattle.sq_engine.specs.Telling.{Ring}
use Rattle.sq_engine.proofs.Passing.{arrived_over}

abbrev pub Pair : Type 0
Pair = TellingNode RingTeller

-- all that was sent over the first of the rings was given, and the others are as they were
pub record GivesFirst {X : Type 0} (becomes : X → ClientCall → X → Type 0) (count : ℕ)
    (first_pairs : List Pair) (first_jobs : OpenJobsValue) (first_rings : List Ring) (before : X)
    (pairs : List Pair) (jobs : OpenJobsValue) (rings : List Ring) (after : X) : Type 0 where
  pub nodes : nodes_of pairs ≡ nodes_of first_pairs
  pub given : GivesArrived becomes first_jobs first_rings before jobs rings after
  pub taken : (i : ℕ) (p : Pair) (r : Ring) → i < count
      → received (get_or rings i r) ≡ sent (get_or first_pairs i p).teller.producer
  pub ahead : (i : ℕ) (p : Pair) (r : Ring) → count ≤ i
      → (get_or pairs i p ≡ get_or first_pairs i p) × (get_or rings i r ≡ get_or first_rings i r)

any_default : {X : Type 0} (xs : List X) (i : ℕ) (d e : X) → i < length xs → get_or xs i d ≡ get_or xs i e
any_default xs i d e within = get_or_from_slice_get xs i (get_or xs i e) d (slice_get-get_or xs i e within)

-- one ring more
pub rest_on : {X : Type 0} (becomes : X → ClientCall → X → Type 0) (n : ℕ)
    (first_pairs : List Pair) (first_jobs : OpenJobsValue) (first_rings : List Ring) (before : X)
    (pairs : List Pair) (jobs : OpenJobsValue) (rings : List Ring) (between : X)
    (p pair : Pair) (r ring : Ring) (new : OpenJobsValue) (after : X)
    → GivesFirst becomes n first_pairs first_jobs first_rings before pairs jobs rings between
    → length pairs ≡ length first_pairs → n < length first_pairs → n < length rings
    → pair.node ≡ (get_or pairs n p).node
    → SameConsumer (get_or rings n r) ring → GivesGrown becomes n jobs (received (get_or rings n r)) between new (received ring) after
    → received ring ≡ sent (get_or pairs n p).teller.producer
    → GivesFirst becomes (n + 1) first_pairs first_jobs first_rings before (set pairs n pair) new (set rings n ring) after
rest_on becomes n first_pairs first_jobs first_rings before pairs jobs rings between p pair r ring new after was count within there same_node same grown all =
    record {
      nodes = map-set_same (λ (x : Pair). x.node) pairs n pair p same_node ∙ was.nodes;
      given = arrived_over becomes first_jobs first_rings before jobs rings between n (get_or rings n r) ring new after was.given
          (slice_get-get_or rings n r there) same grown;
      taken = λ i q s lt. elim (cases_eq i n) [
        | inl at ↦
            subst (λ (k : ℕ). received (get_or (set rings n ring) k s) ≡ sent (get_or first_pairs k q).teller.producer) (sym at)
            (ap received (get_or-set_same rings n ring s there) ∙ all
            ∙ ap (λ (x : Pair). sent x.teller.producer) ((was.ahead n p r (omega arith)).0 ∙ any_default first_pairs n p q within))
        | inr apart ↦ ap received (get_or-set_other rings n i ring s apart) ∙ was.taken i q s (omega (arith, lt, apart))
      ];
      ahead = λ i q s le.
          let apart : i ≡ n → ⊥ = λ at. omega (arith, le, at) in
          let ahead = was.ahead i q s (omega (arith, le)) in
          (get_or-set_other pairs n i pair q apart ∙ ahead.0, get_or-set_other rings n i ring s apart ∙ ahead.1);
    }
