use Rattle.std.proofs.Common.{rules, ◌≡◌, ℕ, ◌+◌, ◌<◌, List, Option, [], ◌∷◌, ◌++◌, length, reverse, map, refl, sym, ap, ◌∙◌, subst, append_assoc, length-append, arith}
use Rattle.std.specs.Prelude.{slice_get, Some}
use Rattle.std.proofs.lemmas.List.{append-nil, reverse-append}
use Rattle.atomic_table.specs.Seated.{TableId}
use Rattle.sq_shared.specs.Values.{LinkValue}
use Rattle.sq_store.specs.StoreValue.{StoreValue}
use Rattle.sq_node.specs.FabricValue.{FabricValue}
use Rattle.sq_node.specs.NodeState.{NodeState}
use Rattle.sq_node.specs.Ends.{EndValue, src_of, dst_of}
use Rattle.sq_node.specs.Opened.{AreFirstSeats, HasEnds, LeavesEnds, GivesOut, IsNewNode, AreNewNodes, AreNewNodesFrom, running_core}
use Rattle.sq_node.proofs.NewNodes.{alike, same_new, no_nodes, node_before, same_from, nodes_from, stores_of, left_ends, gave_one_more}
use Rattle.sq_node.proofs.fabric.workers.open_nodes.Goals as goal

pub loop-store-init : goal.loop-store-init
loop-store-init c =
    record {
      same = refl;
      taken = [];
      left = sym (append-nil c.args.stores.now.items);
      nodes = subst (λ (nodes : List NodeState). AreNewNodesFrom c.args.opening.now c.args.fabric.now (length c.args.stores.now.items) [] (reverse nodes)) (sym c.in_ok-nodes.ensures.items) (no_nodes c.args.opening.now c.args.fabric.now (length c.args.stores.now.items));
      seats = λ given first.
          let none : given ≡ given + 0 = omega arith in
          subst (λ (n : ℕ). AreFirstSeats n c.args.fabric.now.trees c.args.fabric.now.seats) none first;
      room = c.in_ok-nodes.ensures.exact ∙ search rules;
      capacity = refl;
      sends = c.requires.sends;
      recvs = c.requires.recvs;
    }

pub loop-store-preserved : goal.loop-store-preserved
loop-store-preserved c =
    let o = c.args.opening.now in
    let old = c.loop-store.fabric in
    let new = c.open_node.new.fabric in
    let inv = c.loop-store.invariant in
    let stores = c.pop.new.self.items in
    let store = c.in-Some.store in
    let node = c.in-Ok.node in
    let all = c.loop-store.nodes.items in
    let count : length c.loop-store.stores.items ≡ length stores + 1 = ap length c.in-Some.ensures.items ∙ length-append stores (store ∷ []) in
    let rest : c.len.result ≡ length stores = search rules in
    let part : c.new-part.result ≡ length stores = c.new-part.ensures ∙ rest in
    let links : new.links ≡ old.links = ap (λ (f : FabricValue). f.links) c.in-Ok.ensures.same in
    let made : IsNewNode old (running_core o old.stage (length stores) store) node = subst (λ (n : ℕ). IsNewNode old (running_core o old.stage n store) node) part c.in-Ok.ensures.node in
    let rest_have : (near : LinkValue → ℕ) (before after : List (Option EndValue)) → LeavesEnds near old.links before c.new-part.result after
    → ((one : ℕ) → one < length c.loop-store.stores.items → HasEnds near old.links before one)
    → (one : ℕ) → one < length stores → HasEnds near new.links after one
    = λ near before after leaves has one lt. subst (λ (ls : List LinkValue). HasEnds near ls after one) (sym links)
    (left_ends near old.links before after c.new-part.result one leaves (λ same. absurd (omega (arith, part, same, lt))) (has one (omega (arith, count, lt)))) in
    record {
      same = c.in-Ok.ensures.same ∙ ap (λ (f : FabricValue). record f { seats = new.seats }) inv.same;
      taken = store ∷ inv.taken;
      left = inv.left ∙ ap (λ (xs : List StoreValue). xs ++ inv.taken) c.in-Some.ensures.items ∙ append_assoc stores (store ∷ []) inv.taken;
      nodes = subst (λ (nodes : List NodeState). AreNewNodesFrom o new (length stores) (store ∷ inv.taken) (reverse nodes)) (sym c.push_reserved.ensures.items)
          (subst (AreNewNodesFrom o new (length stores) (store ∷ inv.taken)) (sym (reverse-append all (node ∷ [])))
          (node_before o new (length stores) store inv.taken node (reverse all)
          (same_from o old new (length stores + 1) inv.taken (reverse all) (alike old new c.in-Ok.ensures.same) (subst (λ (n : ℕ). AreNewNodesFrom o old n inv.taken (reverse all)) count inv.nodes))
          (same_new o old new (length stores) store node (alike old new c.in-Ok.ensures.same) made)));
      seats = λ given first.
          let more : given + length inv.taken + 1 ≡ given + length (store ∷ inv.taken) = omega arith in
          subst (λ (n : ℕ). AreFirstSeats n new.trees new.seats) more
          (subst (λ (trees : List TableId). AreFirstSeats (given + length inv.taken + 1) trees new.seats) (sym (ap (λ (f : FabricValue). f.trees) c.in-Ok.ensures.same))
          (gave_one_more (given + length inv.taken) old.trees old.seats new.seats (inv.seats given first) c.in-Ok.ensures.gave));
      room = c.push_reserved.ensures.capacity ∙ inv.room;
      capacity = c.pop.ensures.capacity ∙ inv.capacity;
      sends = rest_have src_of c.loop-store.ends.sends.items c.open_node.new.ends.sends.items c.in-Ok.ensures.sends inv.sends;
      recvs = rest_have dst_of c.loop-store.ends.recvs.items c.open_node.new.ends.recvs.items c.in-Ok.ensures.recvs inv.recvs;
    }

pub returns-in-Err-clause-back : goal.returns-in-Err-clause-back
returns-in-Err-clause-back c =
    let inv = c.loop-store.invariant in
    let before : c.push_reserved-in-Err.new.self.items ≡ c.loop-store.stores.items = c.push_reserved-in-Err.ensures.items ∙ ap (λ (s : StoreValue). c.pop.new.self.items ++ s ∷ []) c.in-Err.ensures.back ∙ sym c.in-Some.ensures.items in
    c.give_back.ensures.stores
    ∙ ap (λ (xs : List StoreValue). xs ++ map (λ (node : NodeState). node.core.store) (reverse c.loop-store.nodes.items)) before
    ∙ ap (λ (xs : List StoreValue). c.loop-store.stores.items ++ xs) (stores_of c.args.opening.now c.loop-store.fabric (length c.loop-store.stores.items) inv.taken (reverse c.loop-store.nodes.items) inv.nodes)
    ∙ sym inv.left

pub returns-clause-seats : goal.returns-clause-seats
returns-clause-seats c =
    let inv = c.loop-store.invariant in
    let none : c.loop-store.stores.items ≡ [] = search rules in
    let all : c.args.stores.now.items ≡ inv.taken = inv.left ∙ ap (λ (xs : List StoreValue). xs ++ inv.taken) none in
    subst (λ (xs : List StoreValue). GivesOut (length xs) c.args.fabric.now c.loop-store.fabric) (sym all) inv.seats

pub returns-clause-nodes : goal.returns-clause-nodes
returns-clause-nodes c =
    let o = c.args.opening.now in
    let inv = c.loop-store.invariant in
    let fabric = c.loop-store.fabric in
    let none : c.loop-store.stores.items ≡ [] = search rules in
    let all : c.args.stores.now.items ≡ inv.taken = inv.left ∙ ap (λ (xs : List StoreValue). xs ++ inv.taken) none in
    subst (λ (xs : List StoreValue). AreNewNodes o fabric xs c.reverse.new.self.items) (sym all)
    (subst (AreNewNodes o fabric inv.taken) (sym c.reverse.ensures.items)
    (nodes_from o fabric inv.taken (reverse c.loop-store.nodes.items)
    (subst (λ (xs : List StoreValue). AreNewNodesFrom o fabric (length xs) inv.taken (reverse c.loop-store.nodes.items)) none inv.nodes)))
