-- What a node does to the statuses of its trees: it looks, begins and completes.
use Rattle.std.proofs.Common.{◌≡◌, ℕ, ◌<◌, true, ◌==◌, List, ◌∷◌, length, Contains, slice_get, Some, refl, sym, ap, ◌∙◌, subst, arith}
use Rattle.std.proofs.lemmas.Bool.{and_from, eq-eqb}
use Rattle.std.proofs.lemmas.Option.{slice_get_within}
use Rattle.sq_moves.specs.declared.status.Status.TheVariants.{Partial, Complete}
use Rattle.sq_moves.specs.Node.{is_node}
use Rattle.sq_moves.specs.Status.{is_begun}
use Rattle.sq_moves.specs.Tree.{status_at}
use Rattle.sq_store.specs.ChunkValue.{ChunkValue}
use Rattle.sq_moves.specs.declared.recon.Range.{Range}
use Rattle.sq_moves.specs.declared.recon.Extent.{Extent}
use Rattle.sq_moves.specs.ReconValue.{extent}
use Rattle.sq_moves.specs.OpeningValue.{OpeningValue}
use Rattle.sq_moves.specs.Opening.{IsOpening}
use Rattle.sq_exec.specs.GivenUp.{none_given_up, given_up_with}
use Rattle.sq_exec.specs.Runs.{is_whole}
use Rattle.sq_exec.specs.Work.{WorkValue}
use Rattle.sq_exec.specs.OutLink.{new_out_link}
use Rattle.sq_exec.specs.CoreValue.{CoreValue, out_at, given_up_at, loaded_at}
use Rattle.sq_exec.specs.Moving.{whole_node, with_work, begun_in, begun_core}
use Rattle.sq_model.specs.Place.{extent_in, extent_of, is_within}
use Rattle.sq_model.specs.Links.{goes, is_on_link}
use Rattle.sq_model.proofs.Lists.{Contains-later}
use Rattle.sq_model.proofs.Keys.{ends_below}
use Rattle.sq_node_model.specs.Stages.{runs_in, is_on_link_in}
use Rattle.sq_shared.specs.declared.view.View.{View}
use Rattle.sq_shared.specs.Plays.{Won}
use Rattle.sq_node_model.specs.BeganWith.{BeganWith}
use Rattle.sq_node_model.specs.NodeValue.{ReceiptValue, NodeValue, put}
use Rattle.sq_node_model.specs.Steps.{node_begun, node_completed}
use Rattle.sq_node_model.specs.BegunHolds.{IsNamed}
use Rattle.sq_node_model.specs.NodeHolds.{NodeHolds}
use Rattle.sq_node_model.specs.Cores.{IsCoreOf}
use Rattle.sq_node_model.proofs.Made.{node_with}
use Rattle.sq_node_model.proofs.Puts.{put_set, put_field, put_still}
use Rattle.sq_node_model.proofs.Trees.{grown_tree, begun_stands, not_begun, begun_apart}
use Rattle.sq_node_model.proofs.NodeBegun.{keeps_begun}
use Rattle.sq_node_model.proofs.NodeSent.{keeps_completed}

-- looks, splits and claims change nothing that a node keeps
pub core_looked : {began : BeganWith} (o : OpeningValue) (core : CoreValue) (views now : ℕ → View) (sent received : ℕ → List ChunkValue) (receipts : List ReceiptValue)
    → ((seg : ℕ) → (now seg).begun ≡ (views seg).begun) → ((seg : ℕ) → (now seg).completed ≡ (views seg).completed)
    → NodeHolds o began (node_with core views sent received receipts) → NodeHolds o began (node_with core now sent received receipts)
core_looked {began} o core views now sent received receipts begun completed h =
    subst (NodeHolds o began) (λ i. record (node_with core views sent received receipts) { begun = λ seg. sym (begun seg) i; completed = λ seg. sym (completed seg) i }) h

-- a node of a segment's tree is completed
pub completed_node_is : (core : CoreValue) (views now : ℕ → View) (sent received : ℕ → List ChunkValue) (receipts : List ReceiptValue) (seg n pull : ℕ) (w : View)
    → Won (views seg) n (Complete pull) w → ((k : ℕ) → now k ≡ put seg w views k)
    → node_with core now sent received receipts ≡ node_completed (node_with core views sent received receipts) seg n pull
completed_node_is core views now sent received receipts seg n pull w won puts =
    λ i. record (node_with core now sent received receipts) { begun = λ k. begun_is k i; completed = λ k. completed_is k i }
  where
    begun_is : (k : ℕ) → (now k).begun ≡ (views k).begun
    begun_is k = ap (λ (v : View). v.begun) (puts k) ∙ put_still (λ (v : View). v.begun) seg w views k (ap (λ (v : View). v.begun) won.after)

    completed_is : (k : ℕ) → (now k).completed ≡ put seg ((n, pull) ∷ (views seg).completed) (λ j. (views j).completed) k
    completed_is k =
        ap (λ (v : View). v.completed) (puts k)
        ∙ put_field (λ (v : View). v.completed) seg w views k
        ∙ ap (λ entries. put seg entries (λ j. (views j).completed) k) (ap (λ (v : View). v.completed) won.after)

-- where its last chunk was loaded the node keeps what holds
pub core_completed : {began : BeganWith} (o : OpeningValue) (core : CoreValue) (views now : ℕ → View) (sent received : ℕ → List ChunkValue) (receipts : List ReceiptValue) (seg n pull : ℕ) (w : View)
    → is_whole (loaded_at core seg) n ≡ true → Won (views seg) n (Complete pull) w → ((k : ℕ) → now k ≡ put seg w views k)
    → NodeHolds o began (node_with core views sent received receipts) → NodeHolds o began (node_with core now sent received receipts)
core_completed {began} o core views now sent received receipts seg n pull w whole won puts h =
    subst (NodeHolds o began) (sym (completed_node_is core views now sent received receipts seg n pull w won puts))
    (keeps_completed o (node_with core views sent received receipts) seg n pull (h.loaded.whole seg n whole) h)

module _ (o : OpeningValue) (i : ℕ) (is : IsOpening o) (core : CoreValue) (views now : ℕ → View) (sent received : ℕ → List ChunkValue) (receipts : List ReceiptValue) (seg n pull : ℕ) (w : View) (segment : Range)
    (known : IsCoreOf o i core) (there : slice_get o.recon.segments seg ≡ Some segment) (won : Won (views seg) n (Partial pull) w)
    (puts : (k : ℕ) → now k ≡ put seg w views k) where
  abbrev node : NodeValue
  node = node_with core views sent received receipts

  abbrev work : WorkValue
  work = whole_node core segment seg n pull

  found : slice_get core.recon.segments seg ≡ Some segment
  found = ap (λ recon. slice_get recon.segments seg) known.recon ∙ there

  keys_are : extent core.recon.width segment n ≡ extent_of o seg n
  keys_are = ap (λ recon. extent recon.width segment n) known.recon ∙ ap (λ segment. extent_in o.recon.width segment n) (sym there)

  linked : (j : ℕ) → segment.src ≡ core.part → runs_in o j segment.src segment.dst ≡ true → is_on_link_in o j core.part segment.dst seg ≡ true
  linked j leaves runs =
      and_from (is_on_link o core.part segment.dst seg) (runs_in o j core.part segment.dst)
      (ap (λ found. goes found core.part segment.dst) there
      ∙ and_from (segment.src == core.part) (segment.dst == segment.dst) (eq-eqb segment.src core.part leaves) (eq-eqb segment.dst segment.dst refl))
      (subst (λ src. runs_in o j src segment.dst ≡ true) leaves runs)

  -- begun nodes of the tree have no key in common
  alone : {began : BeganWith} → is_node n ≡ true → NodeHolds o began node → (root m : ℕ) → IsNamed (node.begun seg) m → is_within (extent_of o seg n) root ≡ true → is_within (extent_of o seg m) root ≡ true → n ≡ m
  alone is_one h root m named within within' =
      let stood = won.stood in
      let grown = grown_tree stood.0 stood.1 stood.3 in
      let had : Contains w.begun (m, named.0) = subst (λ (v : View). Contains v.begun (m, named.0)) (sym won.after) (Contains-later (n, pull) (views seg).begun (m, named.0) named.1) in
      begun_apart o is (status_at stood.0) grown root seg n m is_one (h.begun.nodes seg m named) within within'
      (ap is_begun (sym stood.5))
      (begun_stands stood.0 stood.1 stood.2 w m named.0 stood.3 stood.4 had)

  dst_below : segment.dst < length core.outs
  dst_below =
      let low = (ends_below o is seg segment there).1 in
      let count = known.outs in
      omega (arith, low, count)

  seg_below : seg < length core.given_up
  seg_below = let exists = slice_get_within o.recon.segments seg segment there in let count = known.given_up in omega (arith, exists, count)

  begun_is : (k : ℕ) → (now k).begun ≡ put seg ((n, pull) ∷ (views seg).begun) (λ j. (views j).begun) k
  begun_is k =
      ap (λ (v : View). v.begun) (puts k)
      ∙ put_field (λ (v : View). v.begun) seg w views k
      ∙ ap (λ entries. put seg entries (λ j. (views j).begun) k) (ap (λ (v : View). v.begun) won.after)

  completed_is : (k : ℕ) → (now k).completed ≡ (views k).completed
  completed_is k = ap (λ (v : View). v.completed) (puts k) ∙ put_still (λ (v : View). v.completed) seg w views k (ap (λ (v : View). v.completed) won.after)

  -- what the begin does to the node
  pub begun_node_is : node_with (begun_core core seg n pull) now sent received receipts ≡ node_begun node segment.dst work
  begun_node_is =
      ap (λ at. node_with (begun_in core seg n pull at) now sent received receipts) found
      ∙ (λ i. record (node_with core now sent received receipts) {
        begun = λ k. begun_is k i;
        completed = λ k. completed_is k i;
        given_up = λ k. put_set core.given_up seg (given_up_with (given_up_at core seg) n) none_given_up seg_below k i;
        outs = λ k. put_set core.outs segment.dst (with_work (out_at core segment.dst) work) new_out_link dst_below k i;
      })

  pub core_begun : {began : BeganWith} → segment.src ≡ core.part → runs_in o began.stage segment.src segment.dst ≡ true → is_node n ≡ true → NodeHolds o began node → NodeHolds o began (node_with (begun_core core seg n pull) now sent received receipts)
  core_begun {began} leaves runs is_one h =
      subst (NodeHolds o began) (sym begun_node_is)
      (keeps_begun o node h segment.dst work (linked began.stage leaves runs) is_one (record { from = ap (λ (keys : Extent). keys.lo) keys_are; upto = ap (λ (keys : Extent). keys.hi) keys_are })
      (λ q has. not_begun (views seg) w n pull q won has) (alone is_one h))
