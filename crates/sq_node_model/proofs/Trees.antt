-- The trees that threads share: they are grown from free ones, a begun tree node stays begun, and no two begun nodes have a key in common.
use Rattle.std.proofs.Common.{◌≡◌, inl, inr, ℕ, zero, suc, ◌<◌, Bool, true, false, ◌==◌, ◌&&◌, ◌||◌, List, [], ◌∷◌, Contains, refl, sym, ap, ◌∙◌, subst, true≢false, arith}
use Rattle.std.specs.Prelude.{◌≢◌}
use Rattle.std.proofs.lemmas.Bool.{eq-eqb, ne_eqb, leb-true}
use mathlib.Core.Option.{some}
use lib.ListN.{get_elem?}
use Rattle.sq_moves.specs.declared.status.Status.{Status}
use Rattle.sq_moves.specs.declared.status.Status.TheVariants.{Free, Split, Partial, Complete}
use Rattle.sq_moves.specs.declared.node.TheConstants.{LEAVES}
use Rattle.sq_moves.specs.Node.{is_node, is_above, parent}
use Rattle.sq_moves.specs.Status.{is_past, is_free, is_split, is_begun, is_live, covering}
use Rattle.sq_moves.specs.Tree.{status_at, IsGrown}
use Rattle.sq_moves.proofs.Covering.{covering_touched}
use Rattle.sq_moves.specs.declared.recon.Range.{Range}
use Rattle.sq_moves.specs.ReconValue.{leaf_of}
use Rattle.sq_moves.specs.OpeningValue.{OpeningValue}
use Rattle.sq_moves.specs.Opening.{IsOpening}
use Rattle.sq_model.specs.Place.{extent_of, is_within}
use Rattle.sq_model.proofs.Lists.{Contains-nothing, Contains-cases}
use Rattle.sq_model.proofs.Keys.{IsIn, found_in_segment, under}
use Rattle.sq_model.proofs.Apart.{begun_touched}
use Rattle.sq_shared.specs.declared.view.View.{View}
use Rattle.sq_shared.specs.View.{one_if, times_with, times_won}
use Rattle.sq_shared.specs.Rule.{IsTreeOf}
use Rattle.sq_shared.specs.Plays.{Won}
use Rattle.sq_shared.proofs.Totals.{own_le_total}

-- a tree that keeps the rule is grown from a free one
pub grown_tree : (statuses : List Status) (views : List View) → IsTreeOf statuses views → IsGrown (status_at statuses)
grown_tree statuses views tree = record {
  live = λ n touched. live n touched;
  leaves = λ n leaf. not_split (status_at statuses n) (tree.shape.leaves n (leb-true LEAVES n leaf));
}
  where
    not_split : (st : Status) → st ≢ Split → is_split st ≡ false
    not_split Split apart = absurd (apart refl)
    not_split st apart = refl

    not_free : (st : Status) → is_free st ≡ false → st ≢ Free
    not_free Free touched = absurd (true≢false touched)
    not_free st touched = λ e. true≢false (ap is_free (sym e) ∙ touched)

    live : (n : ℕ) → is_free (status_at statuses n) ≡ false → is_live (status_at statuses) n ≡ true
    live zero touched = absurd (true≢false touched)
    live (suc zero) touched = refl
    live (suc (suc n)) touched =
        ap (λ b. b || is_split (status_at statuses (parent (suc (suc n))))) (ne_eqb (suc (suc n)) 1 (λ e. omega (arith, e)))
        ∙ ap is_split (tree.shape.above (suc (suc n)) (omega arith) (not_free (status_at statuses (suc (suc n))) touched))

-- a node that is in a list with its pull is counted
times-Contains : (n pull : ℕ) (entries : List (ℕ × ℕ)) → Contains entries (n, pull) → 0 < times_with n pull entries
times-Contains n pull [] has = absurd (Contains-nothing (n, pull) has)
times-Contains n pull (e ∷ es) has =
    elim (Contains-cases e es (n, pull) has) [
      | inl same ↦
          let one : one_if ((e.0 == n) && (e.1 == pull)) ≡ 1 =
          (λ i. one_if (eq-eqb e.0 n (ap (λ (x : ℕ × ℕ). x.0) same) i && eq-eqb e.1 pull (ap (λ (x : ℕ × ℕ). x.1) same) i)) in
          omega (arith, one)
      | inr later ↦ let rest = times-Contains n pull es later in omega (arith, rest)
    ]

counted_once : (b : Bool) → 0 < one_if b → b ≡ true
counted_once true h = refl
counted_once false h = absurd (omega (arith, h))

past_begun : (st : Status) (pull : ℕ) → is_past (Partial pull) st ≡ true → is_begun st ≡ true
past_begun (Partial p) pull e = refl
past_begun (Complete p) pull e = refl
past_begun st pull e = absurd (true≢false (sym e))

-- what a seat began is begun
pub begun_stands : (statuses : List Status) (views : List View) (seat : ℕ) (v : View) (n pull : ℕ) → IsTreeOf statuses views → get_elem? views seat ≡ some v → Contains v.begun (n, pull)
    → is_begun (status_at statuses n) ≡ true
begun_stands statuses views seat v n pull tree at has =
    let own = own_le_total (times_won n (Partial pull)) views seat v at in
    let some_times : 0 < times_won n (Partial pull) v = times-Contains n pull v.begun has in
    let counted = tree.once n (Partial pull) (λ e. absurd cc) in
    let one : 0 < one_if (is_past (Partial pull) (status_at statuses n)) = omega (arith, own, some_times, counted) in
    past_begun (status_at statuses n) pull (counted_once (is_past (Partial pull) (status_at statuses n)) one)

-- a node that is brought to partial wasn't begun by that seat before
pub not_begun : (v w : View) (n pull other : ℕ) → Won v n (Partial pull) w → Contains v.begun (n, other) → ⊥
not_begun v w n pull other won has = true≢false (sym (won.later.1 (Partial other) (times-Contains n other v.begun has)))

module _ (o : OpeningValue) (is : IsOpening o) (status : ℕ → Status) (grown : IsGrown status) where
  -- a begun node above a key's leaf is the one that covers it
  begun_covers : (root g n : ℕ) (segment : Range) → IsIn o root g segment → is_node n ≡ true → is_above n (leaf_of o.recon.width segment root) ≡ true → is_begun (status n) ≡ true
      → covering status (leaf_of o.recon.width segment root) ≡ n
  begun_covers root g n segment at node above begun =
      let touched = begun_touched (status n) begun in
      covering_touched status grown (leaf_of o.recon.width segment root) n at.leaf node above touched.0 touched.1

  -- so no two begun nodes of a segment have a key in common
  pub begun_apart : (root g n m : ℕ) → is_node n ≡ true → is_node m ≡ true → is_within (extent_of o g n) root ≡ true → is_within (extent_of o g m) root ≡ true
      → is_begun (status n) ≡ true → is_begun (status m) ≡ true → n ≡ m
  begun_apart root g n m node node' within within' begun begun' =
      let one = under o is root g n within in
      let other = under o is root g m within' in
      let at = found_in_segment o is root g one.found in
      let same : one.segment ≡ at.0 = let e = sym one.there ∙ at.1.there in cc in
      let same' : other.segment ≡ at.0 = let e = sym other.there ∙ at.1.there in cc in
      sym (begun_covers root g n at.0 at.1 node (subst (λ (s : Range). is_above n (leaf_of o.recon.width s root) ≡ true) same one.above) begun)
      ∙ begun_covers root g m at.0 at.1 node' (subst (λ (s : Range). is_above m (leaf_of o.recon.width s root) ≡ true) same' other.above) begun'
