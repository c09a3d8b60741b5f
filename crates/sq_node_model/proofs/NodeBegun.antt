-- A node keeps what holds once it begins a tree node.
use Rattle.std.proofs.Common.{◌≡◌, ◌⊎◌, inl, inr, ⊎_elim, ℕ, ◌<◌, true, ◌||◌, List, ◌∷◌, ◌++◌, Contains, refl, sym, ap, ◌∙◌, subst}
use Rattle.std.specs.Prelude.{option_to_list}
use Rattle.std.proofs.Math.Bool.{or_comm}
use Rattle.sq_moves.specs.declared.node.TheConstants.{LEAVES}
use Rattle.sq_moves.specs.Node.{is_node, is_above}
use Rattle.sq_moves.specs.OpeningValue.{OpeningValue}
use Rattle.sq_exec.specs.GivenUp.{is_given_up, given_up_with}
use Rattle.sq_exec.specs.Work.{WorkValue}
use Rattle.sq_exec.specs.OutLink.{OutLinkValue}
use Rattle.sq_exec.specs.Moving.{with_work}
use Rattle.sq_exec.proofs.GivenUp.{given_up-with}
use Rattle.sq_model.specs.Place.{extent_of, is_within}
use Rattle.sq_model.proofs.Lists.{Contains-first, Contains-later, Contains-cases}
use Rattle.sq_node_model.specs.Stages.{is_on_link_in}
use Rattle.sq_node_model.specs.BeganWith.{BeganWith}
use Rattle.sq_node_model.specs.NodeValue.{NodeValue, put}
use Rattle.sq_node_model.specs.Steps.{node_begun}
use Rattle.sq_node_model.specs.Chunks.{cut_to}
use Rattle.sq_node_model.specs.BegunHolds.{IsNamed, is_leaf_under, BegunHolds}
use Rattle.sq_node_model.specs.OutHolds.{OutHolds}
use Rattle.sq_node_model.specs.NodeHolds.{NodeHolds}
use Rattle.sq_node_model.proofs.Puts.{put_each, put_same, put_both}
use Rattle.sq_node_model.proofs.Outs.{Begins, out_other, out_begun}
use Rattle.sq_node_model.proofs.Changed.{keeps_outs}

-- one more entry at one key
pub begins : (begun : ℕ → List (ℕ × ℕ)) (seg n pull : ℕ) → Begins begun (put seg ((n, pull) ∷ begun seg) begun) seg n pull
begins begun seg n pull = record {
  more = λ g entry.
      put_each (λ g entries. Contains (begun g) entry → Contains entries entry) seg ((n, pull) ∷ begun seg) begun
      (Contains-later (n, pull) (begun seg) entry) (λ g apart has. has) g;
  new = subst (λ entries. Contains entries (n, pull)) (sym (put_same seg ((n, pull) ∷ begun seg) begun)) (Contains-first (n, pull) (begun seg));
  only = λ g m q.
      put_each (λ g entries. Contains entries (m, q) → Contains (begun g) (m, q) ⊎ ((seg ≡ g) × (n ≡ m) × (pull ≡ q))) seg ((n, pull) ∷ begun seg) begun
      (λ has.
      ⊎_elim
      (λ new. inr (refl, ap (λ (entry : ℕ × ℕ). entry.0) new, ap (λ (entry : ℕ × ℕ). entry.1) new))
      (λ old. inl old)
      (Contains-cases (n, pull) (begun seg) (m, q) has))
      (λ g apart has. inl has)
      g;
}

-- the work on a whole node of a segment's tree
pub record IsWholeWork (o : OpeningValue) (work : WorkValue) : Type 0 where
  pub from : work.rest ≡ (extent_of o work.seg work.node).lo
  pub upto : work.hi ≡ (extent_of o work.seg work.node).hi

module _ {began : BeganWith} (o : OpeningValue) (node : NodeValue) (h : NodeHolds o began node) (dst : ℕ) (work : WorkValue) (linked : is_on_link_in o began.stage node.part dst work.seg ≡ true) (is_one : is_node work.node ≡ true) (whole : IsWholeWork o work)
    (fresh : (q : ℕ) → Contains (node.begun work.seg) (work.node, q) → ⊥)
    (alone : (root m : ℕ) → IsNamed (node.begun work.seg) m → is_within (extent_of o work.seg work.node) root ≡ true → is_within (extent_of o work.seg m) root ≡ true → work.node ≡ m) where
  abbrev after : NodeValue
  after = node_begun node dst work

  b : Begins node.begun after.begun work.seg work.node work.pull
  b = begins node.begun work.seg work.node work.pull

  -- a begun node was begun before, or is the new one
  named_before : (g m : ℕ) → IsNamed (after.begun g) m → IsNamed (node.begun g) m ⊎ ((work.seg ≡ g) × (work.node ≡ m))
  named_before g m named = ⊎_elim (λ old. inl (named.0, old)) (λ new. inr (new.0, new.1)) (b.only g m named.0 named.1)

  leaves_after : (g leaf : ℕ) → leaf < LEAVES → is_given_up (after.given_up g) leaf ≡ is_leaf_under (after.begun g) leaf
  leaves_after g leaf low =
      put_both (λ g leaves entries. is_given_up leaves leaf ≡ is_leaf_under entries leaf) work.seg (given_up_with (node.given_up work.seg) work.node) ((work.node, work.pull) ∷ node.begun work.seg) node.given_up node.begun
      (given_up-with (node.given_up work.seg) work.node leaf low
      ∙ ap (λ a. a || is_above work.node leaf) (h.begun.leaves work.seg leaf low)
      ∙ or_comm (is_leaf_under (node.begun work.seg) leaf) (is_above work.node leaf))
      (λ g apart. h.begun.leaves g leaf low)
      g

  begun_after : BegunHolds o began.stage node.part after.begun after.given_up
  begun_after = record {
    outward = λ g m named.
        ⊎_elim (λ old. h.begun.outward g m old) (λ new. (dst, subst (λ k. is_on_link_in o began.stage node.part dst k ≡ true) new.0 linked)) (named_before g m named);
    nodes = λ g m named. ⊎_elim (λ old. h.begun.nodes g m old) (λ new. subst (λ k. is_node k ≡ true) new.1 is_one) (named_before g m named);
    apart = λ root g m k one other within within'.
        ⊎_elim
        (λ old.
        ⊎_elim
        (λ old'. h.begun.apart root g m k old old' within within')
        (λ new'.
        sym (sym new'.1 ∙ alone root m (subst (λ s. IsNamed (node.begun s) m) (sym new'.0) old)
        (subst (λ j. is_within (extent_of o work.seg j) root ≡ true) (sym new'.1) (subst (λ s. is_within (extent_of o s k) root ≡ true) (sym new'.0) within'))
        (subst (λ s. is_within (extent_of o s m) root ≡ true) (sym new'.0) within)))
        (named_before g k other))
        (λ new.
        ⊎_elim
        (λ old'.
        sym new.1 ∙ alone root k (subst (λ s. IsNamed (node.begun s) k) (sym new.0) old')
        (subst (λ j. is_within (extent_of o work.seg j) root ≡ true) (sym new.1) (subst (λ s. is_within (extent_of o s m) root ≡ true) (sym new.0) within))
        (subst (λ s. is_within (extent_of o s k) root ≡ true) (sym new.0) within'))
        (λ new'. sym new.1 ∙ new'.1)
        (named_before g k other))
        (named_before g m one);
    leaves = leaves_after;
  }

  work_is : work ≡ record { seg = work.seg; node = work.node; pull = work.pull; rest = (extent_of o work.seg work.node).lo; hi = (extent_of o work.seg work.node).hi }
  work_is = λ i. record { seg = work.seg; node = work.node; pull = work.pull; rest = whole.from i; hi = whole.upto i }

  outs_after : (k : ℕ) → OutHolds o began node.part after.begun k (after.outs k).notes (after.outs k).work (cut_to after k)
  outs_after =
      put_each (λ k (end : OutLinkValue). OutHolds o began node.part after.begun k end.notes end.work (node.sent k ++ option_to_list end.outbox)) dst (with_work (node.outs dst) work) node.outs
      (out_begun began o node.part node.begun after.begun work.seg work.node work.pull b dst (node.outs dst).notes (node.outs dst).work (cut_to node dst) (h.outs dst) fresh work linked work_is)
      (λ k apart. out_other began o node.part node.begun after.begun work.seg work.node work.pull b dst k (node.outs k).notes (node.outs k).work (cut_to node k) linked apart (h.outs k))

  -- nothing more was cut
  same_cut : (k : ℕ) → cut_to after k ≡ cut_to node k
  same_cut = put_each (λ k (end : OutLinkValue). node.sent k ++ option_to_list end.outbox ≡ cut_to node k) dst (with_work (node.outs dst) work) node.outs refl (λ k apart. refl)

  pub keeps_begun : NodeHolds o began after
  keeps_begun = keeps_outs o node h after.begun after.given_up after.outs node.sent begun_after outs_after same_cut
