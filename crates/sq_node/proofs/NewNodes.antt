-- Nodes and pumps that are opened one after another.
use Rattle.std.proofs.Common.{◌≡◌, ℕ, zero, suc, ◌+◌, ◌<◌, true, false, List, [], ◌∷◌, ◌++◌, length, replicate, get_or, map, Option, Some, None, refl, sym, ap, ◌∙◌, subst, ⊎_elim, true≢false, length-append, arith}
use Rattle.std.specs.Prelude.{◌==◌, Bool, Contains, if◌then◌else◌, nat_lt, ◌≢◌, slice_get, slice_index_or}
use Rattle.std.specs.Option.{option_map_or}
use Rattle.std.specs.FinMap.{empty}
use Rattle.std.proofs.lemmas.List.{length-replicate}
use Rattle.std.proofs.lemmas.List.FromFn.{length-map-range_with_len, get_or-map-range_with_len}
use Rattle.std.proofs.lemmas.Option.{same_Some, slice_get_within, slice_get-get_or}
use Rattle.atomic_table.specs.Seated.{TableId}
use Rattle.sq_schema.specs.Table.{TableValue}
use Rattle.sq_moves.specs.OpeningValue.{OpeningValue}
use Rattle.sq_shared.specs.Values.{LinkValue}
use Rattle.sq_shared.specs.declared.view.View.{View}
use Rattle.sq_shared.specs.View.{fresh, gave}
use Rattle.sq_shared.specs.Seat.{SeatValue}
use Rattle.sq_exec.specs.declared.run.Run.{Run}
use Rattle.sq_exec.specs.Runs.{is_whole}
use Rattle.sq_exec.specs.GivenUp.{none_given_up}
use Rattle.sq_exec.specs.OutLink.{new_out_link}
use Rattle.sq_exec.specs.CoreValue.{CoreValue, loaded_at}
use Rattle.sq_exec.specs.Opened.{opened_part, HasOwned}
use Rattle.std.proofs.lemmas.Bool.Decides.{nat_tests}
use Rattle.sq_store.specs.StoreValue.{StoreValue}
use Rattle.sq_node_model.proofs.Staged.{key_stage, unmoved_source}
use Rattle.sq_node_model.specs.NodeValue.{ReceiptValue}
use Rattle.sq_node_model.specs.BeganWith.{BeganWith, CanBegin, is_opened, opening_family, first_began}
use Rattle.sq_node_model.specs.Cores.{staged_core, OpensWith, IsUnused}
use Rattle.sq_node_model.specs.Folded.{folded_opening}
use Rattle.sq_node_model.proofs.CoreNew.{core_new, get_or-same}
use Rattle.sq_node_model.proofs.Members.{push_stood}
use Rattle.sq_node.specs.Ends.{EndValue, src_of, dst_of, end_at}
use Rattle.sq_node.specs.FabricValue.{FabricValue, IsFabric, HasBegun}
use Rattle.sq_node.specs.NodeState.{NodeState, IsNodeOf, views_of, passed_by}
use Rattle.sq_node.specs.Holds.{HoldsUnder}
use Rattle.sq_node.specs.Settled.{IsNode}
use Rattle.sq_shared.specs.Seats.{AreSeatsOf}
use Rattle.sq_shared.specs.Pump.{PumpValue}
use Rattle.sq_node.specs.Opened.{IsNewPump, AreNewPumps, AreFirstSeats, AreNewSeats, GaveEach, HasEnds, LeavesEnds, HavePassedNothing, AreNewEnds, IsFabricOf, IsNewNode, AreNewNodes, AreNewNodesFrom, AllOpenWith, AllHoldUnder, IsReopened, opened_stores, running_core}
use Rattle.sq_node.proofs.NewLinks.{before, last}

-- nothing is loaded at a partition as a stage begins
pub not_whole : (o : OpeningValue) (stage part : ℕ) (store : StoreValue) (core : CoreValue) → core ≡ staged_core o stage part store → (seg n : ℕ) → is_whole (loaded_at core seg) n ≡ false
not_whole o stage part store core is seg n =
    ap (λ (opened : CoreValue). is_whole (loaded_at opened seg) n) is ∙ ap (λ (runs : List Run). is_whole runs n) (get_or-same (length o.recon.segments) seg [])

-- no flag is set at first
unset : (count seg : ℕ) → slice_get (replicate count false) seg ≡ Some true → ⊥
unset zero seg set = cc
unset (suc count) zero set = cc
unset (suc count) (suc seg) set = unset count seg set

-- where nothing was loaded and no flag is set
pub new_is_node : (core : CoreValue) (seats : List SeatValue) (pending : List (ℕ × ℕ)) (complete : List Bool) → pending ≡ [] → complete ≡ replicate (length core.recon.segments) false
    → ((seg n : ℕ) → is_whole (loaded_at core seg) n ≡ false) → IsNode core seats pending complete
new_is_node core seats pending complete none flags fresh =
    let count = length core.recon.segments in
    record {
      flags = ap length flags ∙ length-replicate count false;
      seen = λ seg set. absurd (unset count seg (ap (λ (list : List Bool). slice_get list seg) (sym flags) ∙ set));
      exists = λ seg n there. absurd (no_pending seg n there);
      whole = λ seg n there. absurd (no_pending seg n there);
      each = λ seg n whole. absurd (true≢false (sym whole ∙ fresh seg n));
    }
  where
    no_pending : (seg n : ℕ) → Contains pending (seg, n) → ⊥
    no_pending seg n there = let among : Contains [] (seg, n) = subst (λ (xs : List (ℕ × ℕ)). Contains xs (seg, n)) none there in omega (arith, among.1)

unused : (trees : List TableId) (seats : List SeatValue) (sends recvs : List (Option EndValue)) → AreNewSeats trees seats → HavePassedNothing sends → HavePassedNothing recvs
    → IsUnused (views_of seats) (passed_by sends) (passed_by recvs)
unused trees seats sends recvs new unsent unreceived =
    record {
      begun = λ seg. begun_at seg (slice_get seats seg) refl;
      completed = λ seg. completed_at seg (slice_get seats seg) refl;
      none_sent = λ dst. none_by sends unsent dst (end_at sends dst) refl;
      none_received = λ src. none_by recvs unreceived src (end_at recvs src) refl;
    }
  where
    begun_at : (seg : ℕ) (found : Option SeatValue) → slice_get seats seg ≡ found → (option_map_or (λ (seat : SeatValue). seat.view) found (fresh false false)).begun ≡ []
    begun_at seg None is = refl
    begun_at seg (Some seat) is = ap (λ (v : View). v.begun) (new.each seg seat is)

    completed_at : (seg : ℕ) (found : Option SeatValue) → slice_get seats seg ≡ found → (option_map_or (λ (seat : SeatValue). seat.view) found (fresh false false)).completed ≡ []
    completed_at seg None is = refl
    completed_at seg (Some seat) is = ap (λ (v : View). v.completed) (new.each seg seat is)

    none_by : (ends : List (Option EndValue)) → HavePassedNothing ends → (other : ℕ) (found : Option EndValue) → end_at ends other ≡ found → option_map_or (λ (end : EndValue). end.pass.chunks) found [] ≡ []
    none_by ends none other None is = refl
    none_by ends none other (Some end) is = none other end is

none_earlier : (n : ℕ) → nat_lt n 0 ≡ false
none_earlier n = grind (arith, nat_tests)

-- the families of the opening rows are what the first stage begins with
owned_opens : (o : OpeningValue) (part : ℕ) (store : StoreValue) → HasOwned o part store → OpensWith o (first_began o) part store
owned_opens o part store owned root =
    owned root
    ∙ ap (λ p. if p == part then if is_opened o root then Some (opening_family o root) else None else None) (sym (unmoved_source o 0 root (none_earlier (key_stage o root))))

-- so they are for each partition
pub all_owned_open : (o : OpeningValue) → ((part : ℕ) → part < o.old.parts → HasOwned o part (opened_part o part).store) → AllOpenWith o (first_began o) (opened_stores o)
all_owned_open o owned part store there =
    let opened : ℕ → StoreValue = λ p. (opened_part o p).store in
    let within : part < o.old.parts = let lt = slice_get_within (opened_stores o) part store there in omega (arith, length-map-range_with_len opened 0 o.old.parts) in
    let stood = slice_get-get_or (opened_stores o) part empty (let lt = slice_get_within (opened_stores o) part store there in lt) in
    let is : opened part ≡ store = sym (get_or-map-range_with_len opened 0 o.old.parts part part empty within (omega arith)) ∙ same_Some (get_or (opened_stores o) part empty) store (sym stood ∙ there) in
    subst (OpensWith o (first_began o) part) is (owned_opens o part (opened part) (owned part within))

-- a node is new that is made of a partition as the stage begins, of new seats and of ends that nothing was sent and received by
pub new_node : (o : OpeningValue) (fabric : FabricValue) (part : ℕ) (store : StoreValue) (core : CoreValue) (seats : List SeatValue) (sends recvs : List (Option EndValue)) (node : NodeState)
    → IsFabricOf o fabric → part < o.old.parts → core ≡ staged_core o fabric.stage part store → AreNewSeats fabric.trees seats → AreNewEnds src_of dst_of fabric.links fabric.parts part sends → AreNewEnds dst_of src_of fabric.links fabric.parts part recvs
    → node ≡ record { core = record core { started = true }; seats = seats; sends = sends; recvs = recvs; receipts = []; claims = 0 } → IsNewNode fabric (running_core o fabric.stage part store) node
new_node o fabric part store core seats sends recvs node shared below opened new out into is =
    subst (IsNewNode fabric (running_core o fabric.stage part store)) (sym (is ∙ ap (λ (c : CoreValue). record { core = record c { started = true }; seats = seats; sends = sends; recvs = recvs; receipts = []; claims = 0 }) opened))
    (record {
      of = record {
        recon = sym shared.recon;
        stage = refl;
        parts = sym shared.parts;
        below = subst (λ (parts : ℕ). part < parts) (sym shared.parts) below;
        seats = new.of;
        sends = out.0;
        recvs = into.0;
        all_sends = out.2;
        all_recvs = into.2;
      };
      core = refl;
      seats = new;
      sends = out.1;
      recvs = into.1;
      receipts = refl;
      claims = refl;
    })

-- it is new whatever seats and receipts the fabric keeps
pub same_node : (fabric : FabricValue) (seats : List SeatValue) (receipts : List ReceiptValue) (core : CoreValue) (node : NodeState) → IsNewNode fabric core node → IsNewNode (record fabric { seats = seats; receipts = receipts }) core node
same_node fabric seats receipts core node new =
    let of = new.of in
    let still : IsNodeOf (record fabric { seats = seats; receipts = receipts }) node =
    record { recon = of.recon; stage = of.stage; parts = of.parts; below = of.below; seats = of.seats; sends = of.sends; recvs = of.recvs; all_sends = of.all_sends; all_recvs = of.all_recvs } in
    record { of = still; core = new.core; seats = new.seats; sends = new.sends; recvs = new.recvs; receipts = new.receipts; claims = new.claims }

-- the fabric is the other, whatever seats and receipts each keeps
abbrev pub IsAlike : FabricValue → FabricValue → Type 0
IsAlike old new = new ≡ record old { seats = new.seats; receipts = new.receipts }

pub alike : (old new : FabricValue) → new ≡ record old { seats = new.seats } → IsAlike old new
alike old new same = λ k. record (same k) { seats = new.seats; receipts = new.receipts }

pub same_nodes : (o : OpeningValue) (old new : FabricValue) (stores : List StoreValue) (nodes : List NodeState) → IsAlike old new → AreNewNodes o old stores nodes → AreNewNodes o new stores nodes
same_nodes o old new stores nodes same are =
    subst (λ (fabric : FabricValue). AreNewNodes o fabric stores nodes) (sym same)
    (record { all = are.all; each = λ part node there. same_node old new.seats new.receipts (running_core o old.stage part (slice_index_or stores part empty)) node (are.each part node there) })

pub same_new : (o : OpeningValue) (old new : FabricValue) (part : ℕ) (store : StoreValue) (node : NodeState) → IsAlike old new → IsNewNode old (running_core o old.stage part store) node → IsNewNode new (running_core o new.stage part store) node
same_new o old new part store node same made =
    subst (λ (fabric : FabricValue). IsNewNode fabric (running_core o fabric.stage part store) node) (sym same) (same_node old new.seats new.receipts (running_core o old.stage part store) node made)

pub no_nodes : (o : OpeningValue) (fabric : FabricValue) (first : ℕ) → AreNewNodesFrom o fabric first [] []
no_nodes o fabric first = record { all = refl; each = λ at node there. absurd (omega (arith, slice_get_within [] at node there)) }

-- one more node, of the partition before the others
pub node_before : (o : OpeningValue) (fabric : FabricValue) (first : ℕ) (store : StoreValue) (stores : List StoreValue) (node : NodeState) (nodes : List NodeState) → AreNewNodesFrom o fabric (first + 1) stores nodes
    → IsNewNode fabric (running_core o fabric.stage first store) node → AreNewNodesFrom o fabric first (store ∷ stores) (node ∷ nodes)
node_before o fabric first store stores node nodes are made = record { all = ap suc are.all; each = each }
  where
    each : (at : ℕ) (one : NodeState) → slice_get (node ∷ nodes) at ≡ Some one → IsNewNode fabric (running_core o fabric.stage (first + at) (slice_index_or (store ∷ stores) at empty)) one
    each zero one there = subst (IsNewNode fabric (running_core o fabric.stage (first + 0) store)) (same_Some node one there)
        (subst (λ (n : ℕ). IsNewNode fabric (running_core o fabric.stage n store) node) (omega arith) made)
    each (suc at) one there = subst (λ (n : ℕ). IsNewNode fabric (running_core o fabric.stage n (slice_index_or stores at empty)) one) (omega arith) (are.each at one there)

-- so they are whatever seats the fabric keeps
pub same_from : (o : OpeningValue) (old new : FabricValue) (first : ℕ) (stores : List StoreValue) (nodes : List NodeState) → IsAlike old new → AreNewNodesFrom o old first stores nodes → AreNewNodesFrom o new first stores nodes
same_from o old new first stores nodes same are =
    subst (λ (fabric : FabricValue). AreNewNodesFrom o fabric first stores nodes) (sym same)
    (record { all = are.all; each = λ at node there. same_node old new.seats new.receipts (running_core o old.stage (first + at) (slice_index_or stores at empty)) node (are.each at node there) })

-- from the first partition on they are all nodes
pub nodes_from : (o : OpeningValue) (fabric : FabricValue) (stores : List StoreValue) (nodes : List NodeState) → AreNewNodesFrom o fabric 0 stores nodes → AreNewNodes o fabric stores nodes
nodes_from o fabric stores nodes are =
    record {
      all = are.all;
      each = λ part node there. subst (λ (n : ℕ). IsNewNode fabric (running_core o fabric.stage n (slice_index_or stores part empty)) node) (omega arith) (are.each part node there);
    }

-- the families of new nodes are those that they were opened with
pub stores_of : (o : OpeningValue) (fabric : FabricValue) (first : ℕ) (stores : List StoreValue) (nodes : List NodeState) → AreNewNodesFrom o fabric first stores nodes → map (λ (node : NodeState). node.core.store) nodes ≡ stores
stores_of o fabric first [] [] are = refl
stores_of o fabric first [] (node ∷ nodes) are = let count = are.all in absurd (omega arith)
stores_of o fabric first (store ∷ stores) [] are = let count = are.all in absurd (omega arith)
stores_of o fabric first (store ∷ stores) (node ∷ nodes) are =
    let count = are.all in
    let own : node.core.store ≡ store = ap (λ (core : CoreValue). core.store) (are.each 0 node refl).core in
    let rest : map (λ (one : NodeState). one.core.store) nodes ≡ stores = stores_of o fabric (first + 1) stores nodes (record {
      all = omega arith;
      each = λ at one there. subst (λ (n : ℕ). IsNewNode fabric (running_core o fabric.stage n (slice_index_or stores at empty)) one) (omega arith) (are.each (suc at) one there);
    }) in
    λ k. own k ∷ rest k

gave_trees : (old new : List SeatValue) → GaveEach old new → map (λ (seat : SeatValue). seat.tree) new ≡ map (λ (seat : SeatValue). seat.tree) old
gave_trees [] [] gives = refl
gave_trees [] (seat ∷ new) gives = let count = gives.count in absurd (omega arith)
gave_trees (seat ∷ old) [] gives = let count = gives.count in absurd (omega arith)
gave_trees (seat ∷ old) (next ∷ new) gives =
    let is : next ≡ record { tree = seat.tree; view = gave seat.view } = same_Some next (record { tree = seat.tree; view = gave seat.view }) (gives.each 0 seat refl) in
    let count = gives.count in
    λ k. (is k).tree ∷ gave_trees old new (record { count = omega arith; each = λ seg before there. gives.each (suc seg) before there }) k

-- each first seat gave out one more
pub gave_one_more : (given : ℕ) (trees : List TableId) (old new : List SeatValue) → AreFirstSeats given trees old → GaveEach old new → AreFirstSeats (given + 1) trees new
gave_one_more given trees old new are gives =
    record {
      of = gave_trees old new gives ∙ are.of;
      each = λ seg seat there.
          let within : seg < length old = let lt = slice_get_within new seg seat there in omega (arith, gives.count) in
          let before = get_or old seg seat in
          let stood : slice_get old seg ≡ Some before = slice_get-get_or old seg seat within in
          let is : record { tree = before.tree; view = gave before.view } ≡ seat = same_Some (record { tree = before.tree; view = gave before.view }) seat (sym (gives.each seg before stood) ∙ there) in
          ap (λ (s : SeatValue). s.view) (sym is) ∙ ap gave (are.each seg before stood);
    }

-- the ends for another partition are left
pub left_ends : (near : LinkValue → ℕ) (links : List LinkValue) (old new : List (Option EndValue)) (part other : ℕ) → LeavesEnds near links old part new → part ≢ other → HasEnds near links old other
    → HasEnds near links new other
left_ends near links old new part other leaves apart has =
    record {
      count = leaves.count ∙ has.count;
      each = λ i lt own. leaves.each i (λ same. apart (sym same ∙ own)) ∙ has.each i lt own;
    }

-- of a new node all holds under each beginning of its stage in which its root keys were given its families
new_holds : (o : OpeningValue) (began : BeganWith) (fabric : FabricValue) (part : ℕ) (store : StoreValue) (node : NodeState) → part < o.old.parts → HasBegun began fabric → CanBegin o began → OpensWith o began part store
    → IsNewNode fabric (running_core o fabric.stage part store) node → HoldsUnder o began node
new_holds o began fabric part store node below begun can opens new =
    let core : node.core ≡ running_core o began.stage part store = new.core ∙ ap (λ stage. running_core o stage part store) (sym begun.stage) in
    subst (HoldsUnder o began) {x = record { core = running_core o began.stage part store; seats = node.seats; sends = node.sends; recvs = node.recvs; receipts = []; claims = node.claims }} {y = node}
    (λ k. record { core = sym core k; seats = node.seats; sends = node.sends; recvs = node.recvs; receipts = sym new.receipts k; claims = node.claims })
    (record {
      core = record { plan = refl; recon = refl; stage = refl; outs = length-replicate o.old.parts new_out_link; given_up = length-replicate (length o.recon.segments) none_given_up; loaded = length-replicate (length o.recon.segments) [] };
      holds = core_new o began can part store below opens (views_of node.seats) (passed_by node.sends) (passed_by node.recvs) (unused fabric.trees node.seats node.sends node.recvs new.seats new.sends new.recvs);
    })

-- so it does of all nodes of a stage that begins
pub new_nodes_hold : (o : OpeningValue) (began : BeganWith) (fabric : FabricValue) (stores : List StoreValue) (nodes : List NodeState) → length stores ≡ o.old.parts → HasBegun began fabric → CanBegin o began → AllOpenWith o began stores
    → AreNewNodes o fabric stores nodes → AllHoldUnder o began nodes
new_nodes_hold o began fabric stores nodes count begun can opens are part node there =
    let lt = slice_get_within nodes part node there in
    let within : part < length stores = omega (arith, are.all) in
    let store = slice_index_or stores part empty in
    new_holds o began fabric part store node (omega (arith, count)) begun can (opens part store (slice_get-get_or stores part empty within)) (are.each part node there)

-- what is shared fits an opening whatever seats and receipts it keeps
pub same_shared : (o : OpeningValue) (old new : FabricValue) → IsAlike old new → IsFabricOf o old → IsFabricOf o new
same_shared o old new same shared =
    subst (IsFabricOf o) (sym same) (record { recon = shared.recon; parts = shared.parts; capacity = shared.capacity })

-- it is a fabric with whatever seats its trees gave out, and whatever receipts it keeps
pub still_fabric : (old new : FabricValue) (given : ℕ) → IsAlike old new → IsFabric old → AreFirstSeats given new.trees new.seats → IsFabric new
still_fabric old new given same is seats =
    subst IsFabric (sym same) (record {
      few = is.few;
      trees = is.trees;
      seats = subst (λ (trees : List TableId). AreSeatsOf trees new.seats) (ap (λ (f : FabricValue). f.trees) same) seats.of;
      first = λ seg seat there. ap (λ (v : View). v.first) (seats.each seg seat there);
      links = is.links;
    })

pub told_fabric : (fabric : FabricValue) (receipts : List ReceiptValue) → IsFabric fabric → IsFabric (record fabric { receipts = receipts })
told_fabric fabric receipts is = record { few = is.few; trees = is.trees; seats = is.seats; first = is.first; links = is.links }

-- a pump is new whatever seats and receipts the fabric keeps
same_pump : (fabric : FabricValue) (seats : List SeatValue) (receipts : List ReceiptValue) (number : ℕ) (pump : PumpValue) → IsNewPump fabric number pump → IsNewPump (record fabric { seats = seats; receipts = receipts }) number pump
same_pump fabric seats receipts number pump new = record { numbered = new.numbered; wins = new.wins; seats = new.seats; round = new.round }

pub same_pumps : (old new : FabricValue) (count : ℕ) (pumps : List PumpValue) → IsAlike old new → AreNewPumps old count pumps → AreNewPumps new count pumps
same_pumps old new count pumps same are =
    subst (λ (fabric : FabricValue). AreNewPumps fabric count pumps) (sym same)
    (record { all = are.all; each = λ number pump there. same_pump old new.seats new.receipts number pump (are.each number pump there) })

pub more_pumps : (old new : FabricValue) (count : ℕ) (pumps : List PumpValue) (pump : PumpValue) → IsAlike old new → AreNewPumps old count pumps → IsNewPump old count pump
    → AreNewPumps new (count + 1) (pumps ++ pump ∷ [])
more_pumps old new count pumps pump same are made =
    subst (λ (fabric : FabricValue). AreNewPumps fabric (count + 1) (pumps ++ pump ∷ [])) (sym same)
    (record {
      all = length-append pumps (pump ∷ []) ∙ ap (λ (n : ℕ). n + 1) are.all;
      each = λ number one there. ⊎_elim (λ (before : slice_get pumps number ≡ Some one). same_pump old new.seats new.receipts number one (are.each number one before))
          (λ (last : (number ≡ length pumps) × (pump ≡ one)). same_pump old new.seats new.receipts number one (subst (λ (k : ℕ). IsNewPump old k one) (sym are.all ∙ sym last.0) (subst (IsNewPump old count) last.1 made)))
          (push_stood pumps pump number one there);
    })

-- a stage that begins keeps whatever receipts are handed in
pub told_run : (o : OpeningValue) (stage : ℕ) (stores : List StoreValue) (receipts : List ReceiptValue) (count : ℕ) (fabric : FabricValue) (nodes : List NodeState) (pumps : List PumpValue) → IsReopened o stage stores [] count fabric nodes pumps
    → IsReopened o stage stores receipts count (record fabric { receipts = receipts }) nodes pumps
told_run o stage stores receipts count fabric nodes pumps run =
    let now = record fabric { receipts = receipts } in
    record {
      shared = same_shared o fabric now refl run.shared;
      stage = run.stage;
      receipts = refl;
      seats = run.seats;
      each_node = same_nodes o fabric now stores nodes refl run.each_node;
      each_pump = same_pumps fabric now count pumps refl run.each_pump;
    }

-- nothing that a stage begins with has to do with the opening's rows
pub rowless_nodes : (o : OpeningValue) (table : TableValue) (fabric : FabricValue) (stores : List StoreValue) (nodes : List NodeState) → AreNewNodes o fabric stores nodes → AreNewNodes (folded_opening o table) fabric stores nodes
rowless_nodes o table fabric stores nodes are = record { all = are.all; each = are.each }

pub rowless_run : (o : OpeningValue) (table : TableValue) (stage : ℕ) (stores : List StoreValue) (receipts : List ReceiptValue) (count : ℕ) (fabric : FabricValue) (nodes : List NodeState) (pumps : List PumpValue) → IsReopened o stage stores receipts count fabric nodes pumps
    → IsReopened (folded_opening o table) stage stores receipts count fabric nodes pumps
rowless_run o table stage stores receipts count fabric nodes pumps run =
    record {
      shared = record { recon = run.shared.recon; parts = run.shared.parts; capacity = run.shared.capacity };
      stage = run.stage;
      receipts = run.receipts;
      seats = run.seats;
      each_node = rowless_nodes o table fabric stores nodes run.each_node;
      each_pump = run.each_pump;
    }
