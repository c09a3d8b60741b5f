use Rattle.std.proofs.Common.{◌≡◌, List, [], ◌∷◌, ◌++◌, Option, Some, map, sym, ap, ◌∙◌, subst, ⊎_elim, length, arith}
use Rattle.std.specs.Prelude.{slice_get}
use Rattle.sq_shared.specs.Values.{LinkValue, PassValue}
use Rattle.sq_node.specs.Ends.{EndValue}
use Rattle.sq_node.specs.FabricValue.{ends_of}
use Rattle.sq_node.specs.Opened.{HasAllEnds}
use Rattle.sq_node_model.proofs.Members.{push_stood}
use Rattle.sq_node.proofs.NewLinks.{links_more, ends_more, as_many}
use Rattle.sq_node.proofs.fabric.open.open_links.Goals as goal

pub loop-at-preserved : goal.loop-at-preserved
loop-at-preserved c =
    let items = c.args.between.now in
    let links = c.loop-at.links.items in
    let sends = c.loop-at.sends.items in
    let recvs = c.loop-at.recvs.items in
    let at = c.loop-at.at in
    let link = c.in_ok-link.link in
    let send = c.in_ok-link.send in
    let recv = c.in_ok-link.recv in
    let end = c.index-between-at.result in
    let here = as_many items links at c.loop-at.invariant.links (omega (arith, c.loop-at-test.true)) in
    let with_end : (all : List LinkValue) (ends now : List (Option EndValue)) (pass : PassValue) → all ≡ links ++ link ∷ [] → now ≡ ends ++ Some (record { link = at; pass = pass }) ∷ []
    → HasAllEnds links ends → pass ≡ record { queue = link.queue; chunks = [] } → HasAllEnds all now
    = λ all ends now pass linked pushed have is.
    subst (λ (ls : List LinkValue). HasAllEnds ls now) (sym linked) (subst (HasAllEnds (links ++ link ∷ [])) (sym pushed) (ends_more links ends at link pass have here is)) in
    record {
      links = ap (map ends_of) c.in_ok-push.ensures.items ∙ links_more items links at end link c.loop-at.invariant.links c.loop-at-test.true c.index-between-at.is c.in_ok-link.ensures.link.0 c.in_ok-link.ensures.link.1;
      capacities = λ i one there.
          ⊎_elim (λ (before : slice_get links i ≡ Some one). c.loop-at.invariant.capacities i one before)
          (λ (now : (i ≡ length links) × (link ≡ one)). ap (λ (l : LinkValue). l.capacity) (sym now.1) ∙ c.in_ok-link.ensures.link.2)
          (push_stood links link i one (ap (λ (ls : List LinkValue). slice_get ls i) (sym c.in_ok-push.ensures.items) ∙ there));
      sends = with_end _ sends _ send c.in_ok-push.ensures.items (c.in_ok-push-2.ensures.items ∙ ap (λ (e : Option EndValue). sends ++ e ∷ []) c.new.ensures) c.loop-at.invariant.sends c.in_ok-link.ensures.sender;
      recvs = with_end _ recvs _ recv c.in_ok-push.ensures.items (c.in_ok-push-3.ensures.items ∙ ap (λ (e : Option EndValue). recvs ++ e ∷ []) c.new-in-loop-at.ensures) c.loop-at.invariant.recvs c.in_ok-link.ensures.receiver;
    }
