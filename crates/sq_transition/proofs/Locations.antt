-- Where a root key's rows are, by its partition and by the history.
use Rattle.std.proofs.Common.{subst, ◌≡◌, ℕ, Bool, true, false, refl, sym, ap, ◌∙◌, true≢false}
use Rattle.std.specs.Prelude.{◌<◌, ◌≢◌, ◌==◌, ◌&&◌, nat_lt, if◌then◌else◌, not, slice_get, Option, Some, None, option_map, option_and_then, unwrap_or}
use Rattle.std.specs.Option.{option_map_or}
use Rattle.std.proofs.Math.Bool.{and-false}
use Rattle.std.proofs.lemmas.Bool.{ne_eqb, eq-eqb, not-true, cond_both, ltb-true}
use Rattle.std.proofs.lemmas.Option.{slice_get_within}
use Rattle.sq_plan.specs.PlanValue.{owner}
use Rattle.sq_moves.specs.declared.node.TheConstants.{LEAVES}
use Rattle.sq_moves.specs.Status.{covering, is_begun}
use Rattle.sq_moves.specs.declared.recon.Range.{Range}
use Rattle.sq_moves.specs.ReconValue.{ReconValue, stage_on, segment_of, leaf_of, leaf_at}
use Rattle.sq_moves.specs.OpeningValue.{OpeningValue}
use Rattle.sq_exec.specs.declared.location.Location.{Location}
use Rattle.sq_exec.specs.CoreValue.{CoreValue}
use Rattle.sq_exec.specs.Location.{location_in, location, is_coming_from, route_from}
use Rattle.sq_model.specs.Trace.{Trace, stage, loads}
use Rattle.sq_model.specs.Leader.{is_started}
use Rattle.sq_model.specs.Nodes.{status_of}
use Rattle.sq_model.specs.Place.{source, destination, moves, is_covered, is_begun_over, runner, is_coming}
use Rattle.sq_transition.specs.WorldValue.{WorldValue, status_in}
use Rattle.sq_transition.specs.SubmitResults.{is_root_given_up, sent_to}
use Rattle.sq_transition.specs.Holds.{is_leaf_begun, is_key_loaded, CoreHolds}
use Rattle.sq_transition.proofs.Sets.{by_place}
use Rattle.sq_transition.proofs.Changed.{PartsHold}
use Rattle.sq_transition.proofs.Nodes.{statuses_same}

-- the node over a root key of a segment
abbrev pub node_over : OpeningValue → Trace → ℕ → Range → ℕ → ℕ
node_over o t seg range root = covering (status_of t seg) (leaf_of o.recon.width range root)

-- what the history says of a root key in a segment
pub record InSegment (o : OpeningValue) (t : Trace) (root seg : ℕ) (range : Range) : Type 0 where
  pub comes_from : source o root ≡ range.src
  pub goes_to : destination o root ≡ range.dst
  pub moving : moves o root ≡ true
  pub leaf : leaf_of o.recon.width range root < LEAVES
  pub begun : is_begun_over o t root ≡ is_begun (status_of t seg (node_over o t seg range root))
  pub given_up : is_begun_over o t root ≡ is_leaf_begun t seg (leaf_of o.recon.width range root)
  pub loaded : is_covered (loads t) root ≡ is_key_loaded t seg root

-- what the history says of a root key in no segment
pub record InNone (o : OpeningValue) (t : Trace) (root : ℕ) : Type 0 where
  pub moving : moves o root ≡ false
  pub begun : is_begun_over o t root ≡ false
  pub covered : is_covered (loads t) root ≡ false

-- what routing rests on
pub record RoutingFacts (o : OpeningValue) (t : Trace) : Type 0 where
  pub in_segment : (root seg : ℕ) (range : Range) → segment_of o.recon.segments root ≡ Some seg → slice_get o.recon.segments seg ≡ Some range → InSegment o t root seg range
  pub in_none : (root : ℕ) → segment_of o.recon.segments root ≡ None → InNone o t root
  pub range : (root seg : ℕ) → segment_of o.recon.segments root ≡ Some seg → (range : Range) × (slice_get o.recon.segments seg ≡ Some range)
  pub past : (root : ℕ) → moves o root ≡ true → stage_on o.recon (source o root) (destination o root) < stage t → is_covered (loads t) root ≡ true
  pub loaded_begun : (root : ℕ) → is_covered (loads t) root ≡ true → is_begun_over o t root ≡ true

-- the leaf of a root key, by its segment
leaf_found : (recon : ReconValue) (root seg : ℕ) (range : Range) → segment_of recon.segments root ≡ Some seg → slice_get recon.segments seg ≡ Some range → leaf_at recon root ≡ Some (seg, leaf_of recon.width range root)
leaf_found recon root seg range found there =
    ap (option_and_then (λ (i : ℕ). option_map (λ (segment : Range). (i, leaf_of recon.width segment root)) (slice_get recon.segments i))) found
    ∙ ap (option_map (λ (segment : Range). (seg, leaf_of recon.width segment root))) there

leaf_none : (recon : ReconValue) (root : ℕ) → segment_of recon.segments root ≡ None → leaf_at recon root ≡ None
leaf_none recon root none = ap (option_and_then (λ (i : ℕ). option_map (λ (segment : Range). (i, leaf_of recon.width segment root)) (slice_get recon.segments i))) none

-- where a partition looks for a root key among these segments
abbrev located : CoreValue → ℕ → ReconValue → Option (ℕ × ℕ) → Option Location
located core root recon at = option_and_then (λ (at : ℕ × ℕ). option_map (location_in core root at) (slice_get recon.segments at.0)) at

located_in : (core : CoreValue) (recon : ReconValue) (root seg : ℕ) (range : Range) → core.recon ≡ recon → segment_of recon.segments root ≡ Some seg → slice_get recon.segments seg ≡ Some range
    → location core root ≡ Some (location_in core root (seg, leaf_of recon.width range root) range)
located_in core recon root seg range same found there =
    (λ k. located core root (same k) (leaf_at (same k) root))
    ∙ ap (located core root recon) (leaf_found recon root seg range found there)
    ∙ ap (option_map (location_in core root (seg, leaf_of recon.width range root))) there

located_nowhere : (core : CoreValue) (recon : ReconValue) (root : ℕ) → core.recon ≡ recon → segment_of recon.segments root ≡ None → location core root ≡ None
located_nowhere core recon root same none = (λ k. located core root (same k) (leaf_at (same k) root)) ∙ ap (located core root recon) (leaf_none recon root none)

-- a location is the one of the history, as far as its partition can know it
pub record IsAtLocation (o : OpeningValue) (t : Trace) (part root : ℕ) (at : Location) : Type 0 where
  pub comes_from : source o root ≡ at.src
  pub goes_to : destination o root ≡ at.dst
  pub moving : moves o root ≡ true
  pub by : at.stage ≡ stage_on o.recon (source o root) (destination o root)
  pub given_up : at.src ≡ part → at.given_up ≡ is_begun_over o t root
  pub loaded : at.dst ≡ part → at.loaded ≡ is_covered (loads t) root

abbrev pub LocationHolds : OpeningValue → Trace → ℕ → ℕ → Option Location → Type 0
LocationHolds o t part root None = InNone o t root
LocationHolds o t part root (Some at) = IsAtLocation o t part root at

location_by : (o : OpeningValue) (t : Trace) (part root : ℕ) (core : CoreValue) (found : Option ℕ) → RoutingFacts o t → CoreHolds o t part core → segment_of o.recon.segments root ≡ found → LocationHolds o t part root (location core root)
location_by o t part root core None facts h e = subst (LocationHolds o t part root) (sym (located_nowhere core o.recon root h.set.recon e)) (facts.in_none root e)
location_by o t part root core (Some seg) facts h e =
    let at = facts.range root seg e in
    let is = facts.in_segment root seg at.0 e at.1 in
    subst (LocationHolds o t part root) (sym (located_in core o.recon root seg at.0 h.set.recon e at.1)) (record {
      comes_from = is.comes_from;
      goes_to = is.goes_to;
      moving = is.moving;
      by = λ i. stage_on (h.set.recon i) (sym is.comes_from i) (sym is.goes_to i);
      given_up = λ here. h.moves.given_up seg (leaf_of o.recon.width at.0 root) (at.0, at.1, here) is.leaf ∙ sym is.given_up;
      loaded = λ here. h.moves.loaded seg root (at.0, at.1, here) ∙ sym is.loaded;
    })

-- the location of a root key is the one of the history
pub location_holds : (o : OpeningValue) (t : Trace) (part root : ℕ) (core : CoreValue) → RoutingFacts o t → CoreHolds o t part core → LocationHolds o t part root (location core root)
location_holds o t part root core facts h = location_by o t part root core (segment_of o.recon.segments root) facts h refl

-- whether rows come to a partition
pub comes_same : (o : OpeningValue) (t : Trace) (part root : ℕ) (core : CoreValue) (found : Option Location) → CoreHolds o t part core → LocationHolds o t part root found → is_coming_from core found ≡ is_coming o t part root
comes_same o t part root core None h s = sym (ap (λ b. is_started t && ((b && (stage_on o.recon (source o root) (destination o root) == stage t)) && ((destination o root == part) && not (is_covered (loads t) root)))) s.moving ∙ and-false (is_started t))
comes_same o t part root core (Some at) h s =
    (λ i. h.set.started i && ((s.by i == h.set.stage i) && ((sym s.goes_to i == h.set.part i) && not at.loaded)))
    ∙ ap (λ b. is_started t && ((stage_on o.recon (source o root) (destination o root) == stage t) && b))
    (by_place (destination o root) part (λ b. (b && not at.loaded) ≡ (b && not (is_covered (loads t) root)))
    (λ same. ap not (s.loaded (sym s.goes_to ∙ same)))
    (λ _. refl))
    ∙ sym (ap (λ b. is_started t && ((b && (stage_on o.recon (source o root) (destination o root) == stage t)) && ((destination o root == part) && not (is_covered (loads t) root)))) s.moving)

-- who runs transactions on a root key that moves, by whether it was loaded and whether it was given up
abbrev runner_of : ℕ → ℕ → Bool → Bool → Option ℕ
runner_of src dst covered begun = if covered then Some dst else if begun then None else Some src

-- the partition that transactions go to, by what one partition knows
abbrev route_of : ℕ → ℕ → ℕ → Bool → Bool → ℕ
route_of part src dst given_up loaded = if src == part then if given_up then dst else src else if (dst == part) && loaded then dst else src

-- the partition is the one that runs them
abbrev pub runs_at : ℕ → Option ℕ → Bool
runs_at part who = option_map_or (λ other. other == part) who false

module _ (part src dst : ℕ) where
  -- whether a partition takes itself for the one that runs a key: the source, the destination and any other one
  at_source : (covered begun : Bool) → (covered ≡ true → begun ≡ true) → dst ≢ part → ((if begun then dst else src) == part) ≡ runs_at part (runner_of src dst covered begun)
  at_source true true loaded_begun apart = refl
  at_source true false loaded_begun apart = absurd (true≢false (sym (loaded_begun refl)))
  at_source false true loaded_begun apart = ne_eqb dst part apart
  at_source false false loaded_begun apart = refl

  at_destination : (covered begun : Bool) → src ≢ part → ((if covered then dst else src) == part) ≡ runs_at part (runner_of src dst covered begun)
  at_destination true begun apart = refl
  at_destination false true apart = ne_eqb src part apart
  at_destination false false apart = refl

  elsewhere : (covered begun : Bool) → src ≢ part → dst ≢ part → (src == part) ≡ runs_at part (runner_of src dst covered begun)
  elsewhere true begun apart far = ne_eqb src part apart ∙ sym (ne_eqb dst part far)
  elsewhere false true apart far = ne_eqb src part apart
  elsewhere false false apart far = refl

  -- it does just where it is the one
  routes_here : (given_up loaded covered begun : Bool) → src ≢ dst → (covered ≡ true → begun ≡ true) → (src ≡ part → given_up ≡ begun) → (dst ≡ part → loaded ≡ covered)
      → (route_of part src dst given_up loaded == part) ≡ runs_at part (runner_of src dst covered begun)
  routes_here given_up loaded covered begun differ loaded_begun source_knows destination_knows =
      by_place src part (λ b. ((if b then if given_up then dst else src else if (dst == part) && loaded then dst else src) == part) ≡ runs_at part (runner_of src dst covered begun))
      (λ here. ap (λ b. (if b then dst else src) == part) (source_knows here) ∙ at_source covered begun loaded_begun (λ there. differ (here ∙ sym there)))
      (λ apart.
      by_place dst part (λ b. ((if b && loaded then dst else src) == part) ≡ runs_at part (runner_of src dst covered begun))
      (λ there. ap (λ b. (if b then dst else src) == part) (destination_knows there) ∙ at_destination covered begun apart)
      (λ far. elsewhere covered begun apart far))

  -- a key that wasn't given up is sent to its source
  routes_back : (given_up loaded : Bool) → (src ≡ part → given_up ≡ false) → (dst ≡ part → loaded ≡ false) → route_of part src dst given_up loaded ≡ src
  routes_back given_up loaded source_knows destination_knows =
      by_place src part (λ b. (if b then if given_up then dst else src else if (dst == part) && loaded then dst else src) ≡ src)
      (λ here. ap (λ b. if b then dst else src) (source_knows here))
      (λ apart.
      by_place dst part (λ b. (if b && loaded then dst else src) ≡ src)
      (λ there. ap (λ b. if b then dst else src) (destination_knows there))
      (λ _. refl))

  -- and one that was given up to its destination: so each goes to the partition that runs it, or where there is none to its destination
  sends_to : (given_up loaded covered begun : Bool) → (covered ≡ true → begun ≡ true) → (src ≡ part → given_up ≡ begun) → (dst ≡ part → loaded ≡ covered)
      → (if begun then dst else route_of part src dst given_up loaded) ≡ unwrap_or (runner_of src dst covered begun) dst
  sends_to given_up loaded true true loaded_begun source_knows destination_knows = refl
  sends_to given_up loaded false true loaded_begun source_knows destination_knows = refl
  sends_to given_up loaded true false loaded_begun source_knows destination_knows = absurd (true≢false (sym (loaded_begun refl)))
  sends_to given_up loaded false false loaded_begun source_knows destination_knows = routes_back given_up loaded source_knows destination_knows

-- a key that moves has two owners
owners_differ : (o : OpeningValue) (root : ℕ) → moves o root ≡ true → source o root ≢ destination o root
owners_differ o root moving same = true≢false (sym (eq-eqb (source o root) (destination o root) same) ∙ not-true (source o root == destination o root) moving)

-- a root key of a stage that went goes to its destination, which has it
by_stage : (o : OpeningValue) (t : Trace) (root way : ℕ) → RoutingFacts o t → moves o root ≡ true → (P : ℕ → Type 0) → (is_covered (loads t) root ≡ true → P (destination o root)) → P way
    → P (if nat_lt (stage_on o.recon (source o root) (destination o root)) (stage t) then destination o root else way)
by_stage o t root way facts moving P past now =
    cond_both (nat_lt (stage_on o.recon (source o root) (destination o root)) (stage t)) (destination o root) way P
    (λ went. past (facts.past root moving (ltb-true (stage_on o.recon (source o root) (destination o root)) (stage t) went)))
    (λ _. now)

always : (b : Bool) (n : ℕ) → (if b then n else n) ≡ n
always true n = refl
always false n = refl

-- a partition runs transactions on a root key just where it takes itself to
pub runs_same : (o : OpeningValue) (t : Trace) (part root : ℕ) (core : CoreValue) (found : Option Location) → RoutingFacts o t → CoreHolds o t part core → LocationHolds o t part root found
    → (route_from core root found == core.part) ≡ runs_at part (runner o t root)
runs_same o t part root core None facts h s =
    (λ i. owner (h.set.plan i) root == h.set.part i)
    ∙ sym (ap (λ b. runs_at part (if b then Some (destination o root) else if is_begun_over o t root then None else Some (source o root))) s.covered ∙ ap (λ b. runs_at part (if b then None else Some (source o root))) s.begun)
runs_same o t part root core (Some at) facts h s =
    (λ i. (if nat_lt (s.by i) (h.set.stage i) then sym s.goes_to i else route_of (h.set.part i) (sym s.comes_from i) (sym s.goes_to i) at.given_up at.loaded) == h.set.part i)
    ∙ by_stage o t root _ facts s.moving (λ who. (who == part) ≡ runs_at part (runner o t root))
    (λ covered. sym (ap (λ b. runs_at part (if b then Some (destination o root) else if is_begun_over o t root then None else Some (source o root))) covered))
    (routes_here part (source o root) (destination o root) at.given_up at.loaded (is_covered (loads t) root) (is_begun_over o t root)
    (owners_differ o root s.moving) (facts.loaded_begun root) (λ here. s.given_up (sym s.comes_from ∙ here)) (λ here. s.loaded (sym s.goes_to ∙ here)))

given_up_by : (o : OpeningValue) (t : Trace) (w : WorldValue) (root : ℕ) (found : Option ℕ) → RoutingFacts o t → PartsHold o t w → segment_of o.recon.segments root ≡ found → is_root_given_up w root ≡ is_begun_over o t root
given_up_by o t w root None facts h e =
    (λ i. option_map_or (λ (at : ℕ × ℕ). is_begun (status_in w at.0 (covering (status_in w at.0) at.1))) (leaf_at (h.plans.recon i) root) false)
    ∙ ap (λ at. option_map_or (λ (at : ℕ × ℕ). is_begun (status_in w at.0 (covering (status_in w at.0) at.1))) at false) (leaf_none o.recon root e)
    ∙ sym (facts.in_none root e).begun
given_up_by o t w root (Some seg) facts h e =
    let at = facts.range root seg e in
    let is = facts.in_segment root seg at.0 e at.1 in
    let same = statuses_same o t w seg h (slice_get_within o.recon.segments seg at.0 at.1) in
    (λ i. option_map_or (λ (at : ℕ × ℕ). is_begun (status_in w at.0 (covering (status_in w at.0) at.1))) (leaf_at (h.plans.recon i) root) false)
    ∙ ap (λ at. option_map_or (λ (at : ℕ × ℕ). is_begun (status_in w at.0 (covering (status_in w at.0) at.1))) at false) (leaf_found o.recon root seg at.0 e at.1)
    ∙ (λ i. is_begun (same i (covering (same i) (leaf_of o.recon.width at.0 root))))
    ∙ sym is.begun

-- the node over a root key was begun in the world just where it was by the history
pub given_up_same : (o : OpeningValue) (t : Trace) (w : WorldValue) (root : ℕ) → RoutingFacts o t → PartsHold o t w → is_root_given_up w root ≡ is_begun_over o t root
given_up_same o t w root facts h = given_up_by o t w root (segment_of o.recon.segments root) facts h refl

-- a transaction is sent to the partition that runs it, or where there is none to its destination
pub sent_same : (o : OpeningValue) (t : Trace) (w : WorldValue) (part root : ℕ) (core : CoreValue) (found : Option Location) → RoutingFacts o t → PartsHold o t w → CoreHolds o t part core → LocationHolds o t part root found
    → sent_to w root (route_from core root found) ≡ unwrap_or (runner o t root) (destination o root)
sent_same o t w part root core None facts all h s =
    (λ i. if given_up_same o t w root facts all i then owner (all.plans.new i) root else owner (h.set.plan i) root)
    ∙ ap (λ b. if b then destination o root else source o root) s.begun
    ∙ sym (ap (λ b. unwrap_or (if b then Some (destination o root) else if is_begun_over o t root then None else Some (source o root)) (destination o root)) s.covered
    ∙ ap (λ b. unwrap_or (if b then None else Some (source o root)) (destination o root)) s.begun)
sent_same o t w part root core (Some at) facts all h s =
    (λ i. if given_up_same o t w root facts all i then owner (all.plans.new i) root else if nat_lt (s.by i) (h.set.stage i) then sym s.goes_to i else route_of (h.set.part i) (sym s.comes_from i) (sym s.goes_to i) at.given_up at.loaded)
    ∙ by_stage o t root _ facts s.moving (λ who. (if is_begun_over o t root then destination o root else who) ≡ unwrap_or (runner o t root) (destination o root))
    (λ covered. always (is_begun_over o t root) (destination o root) ∙ sym (ap (λ b. unwrap_or (if b then Some (destination o root) else if is_begun_over o t root then None else Some (source o root)) (destination o root)) covered))
    (sends_to part (source o root) (destination o root) at.given_up at.loaded (is_covered (loads t) root) (is_begun_over o t root)
    (facts.loaded_begun root) (λ here. s.given_up (sym s.comes_from ∙ here)) (λ here. s.loaded (sym s.goes_to ∙ here)))
