-- The trees of what is gathered: they grew from free ones, what a node began is begun, and what is complete a node completed.
use Rattle.std.proofs.Common.{◌≡◌, inl, inr, ⊎_elim, ℕ, zero, suc, ◌<◌, ◌≤◌, true, ◌==◌, ◌&&◌, List, [], ◌∷◌, length, slice_get, Contains, Some, refl, sym, ap, ap₂, ◌∙◌, subst, true≢false, arith}
use Rattle.std.specs.Prelude.{slice_index_or}
use Rattle.std.proofs.lemmas.Bool.{cases_Bool, cases_lt, and_parts, eqb-true, eq-eqb}
use Rattle.std.proofs.lemmas.List.{get_or_past}
use Rattle.std.proofs.lemmas.Option.{slice_get_within}
use Rattle.sq_moves.specs.declared.status.Status.{Status}
use Rattle.sq_moves.specs.declared.status.Status.TheVariants.{Free, Complete}
use Rattle.sq_moves.specs.Status.{is_past, is_free, is_split, is_begun, is_complete}
use Rattle.sq_moves.specs.Tree.{status_at, IsGrown}
use Rattle.sq_moves.specs.OpeningValue.{OpeningValue}
use Rattle.sq_model.proofs.Lists.{Contains-first, Contains-later, Contains-slice_get, slice_get-Contains, flat_map_in}
use Rattle.sq_node_model.specs.Stages.{is_on_link_in}
use Rattle.sq_node_model.proofs.Staged.{on_link_goes}
use Rattle.sq_shared.specs.View.{one_if, times_with}
use Rattle.sq_node_model.specs.BeganWith.{BeganWith}
use Rattle.sq_node_model.specs.NodeValue.{NodeValue}
use Rattle.sq_node_model.specs.Chunks.{HasLoaded, HasLast}
use Rattle.sq_node_model.specs.BegunHolds.{IsNamed}
use Rattle.sq_node_model.specs.Gathered.{GatheredValue, Gathers}
use Rattle.sq_node_model.specs.Spots.{gathered_status}
use Rattle.sq_node_model.proofs.Trees.{grown_tree, begun_stands}
use Rattle.sq_node_model.proofs.Lists.{Contains-flat_map}

-- a node that is counted with its pull is in the list
counted_in : (n pull : ℕ) (entries : List (ℕ × ℕ)) → 0 < times_with n pull entries → Contains entries (n, pull)
counted_in n pull [] some_times = absurd (omega (arith, some_times))
counted_in n pull (e ∷ es) some_times =
    elim (cases_Bool ((e.0 == n) && (e.1 == pull))) [
      | inl same ↦
          let parts = and_parts (e.0 == n) (e.1 == pull) same in
          subst (Contains (e ∷ es)) (ap₂ (λ (a b : ℕ). (a, b)) (eqb-true e.0 n parts.0) (eqb-true e.1 pull parts.1)) (Contains-first e es)
      | inr other ↦
          let none = ap one_if other in
          Contains-later e es (n, pull) (counted_in n pull es (omega (arith, none, some_times)))
    ]

complete_is : (st : Status) → is_complete st ≡ true → (pull : ℕ) × (st ≡ Complete pull)
complete_is (Complete pull) e = (pull, refl)
complete_is st e = absurd (true≢false (sym e))

none_past : (n : ℕ) → status_at [] n ≡ Free
none_past zero = refl
none_past (suc n) = refl

module _ (o : OpeningValue) (began : BeganWith) (nodes : List NodeValue) (g : GatheredValue) (gathers : Gathers o began nodes g) where
  past_end : (seg : ℕ) → length o.recon.segments ≤ seg → (n : ℕ) → gathered_status g seg n ≡ Free
  past_end seg past n =
      let statuses = gathers.all_statuses in
      ap (λ statuses. status_at statuses n) (get_or_past g.statuses seg [] (omega (arith, statuses, past))) ∙ none_past n

  pub grown : (seg : ℕ) → IsGrown (gathered_status g seg)
  grown seg =
      ⊎_elim
      (λ below. let tree = gathers.trees seg below in grown_tree (slice_index_or g.statuses seg []) (tree.view ∷ []) tree.tree)
      (λ past. record {
        live = λ n touched. absurd (true≢false (sym (ap is_free (past_end seg past n)) ∙ touched));
        leaves = λ n leaf. ap is_split (past_end seg past n);
      })
      (cases_lt seg (length o.recon.segments))

  -- a tree node that a partition began for a link
  pub begun : (q : ℕ) (node : NodeValue) (src dst seg n : ℕ) → slice_get nodes q ≡ Some node → is_on_link_in o began.stage src dst seg ≡ true → IsNamed (node.begun seg) n → is_begun (gathered_status g seg n) ≡ true
  begun q node src dst seg n at linked named =
      let goes = on_link_goes o began.stage src dst seg linked in
      let tree = gathers.trees seg (slice_get_within o.recon.segments seg goes.segment goes.there) in
      let among = Contains-flat_map (λ (node : NodeValue). node.begun seg) nodes node (n, named.0) (Contains-slice_get nodes q node at) named.1 in
      begun_stands (slice_index_or g.statuses seg []) (tree.view ∷ []) 0 tree.view n named.0 tree.tree refl
      (subst (λ list. Contains list (n, named.0)) (sym tree.begun) among)

  complete_below : (seg n : ℕ) → is_complete (gathered_status g seg n) ≡ true → seg < length o.recon.segments
  complete_below seg n complete =
      ⊎_elim (λ (below : seg < length o.recon.segments). below)
      (λ past. absurd (true≢false (sym complete ∙ ap is_complete (past_end seg past n))))
      (cases_lt seg (length o.recon.segments))

  -- of a complete tree node some partition loaded the last chunk
  pub completed : (seg n : ℕ) → is_complete (gathered_status g seg n) ≡ true → (q : ℕ) × (node : NodeValue) × (slice_get nodes q ≡ Some node) × HasLast (HasLoaded node) seg n
  completed seg n complete =
      let tree = gathers.trees seg (complete_below seg n complete) in
      let is = complete_is (gathered_status g seg n) complete in
      let pull = is.0 in
      let won = tree.tree.once n (Complete pull) (λ e. absurd cc) in
      let counted : one_if (is_past (Complete pull) (gathered_status g seg n)) ≡ 1 = ap (λ st. one_if (is_past (Complete pull) st)) is.1 ∙ ap one_if (eq-eqb pull pull refl) in
      let has = counted_in n pull tree.view.completed (omega (arith, won, counted)) in
      let found = flat_map_in (λ (node : NodeValue). node.completed seg) nodes (n, pull) (subst (λ list. Contains list (n, pull)) tree.completed has) in
      let there = slice_get-Contains nodes found.0 found.1 in
      ((found.1).0, found.0, there, (gathers.holds (found.1).0 found.0 there).completed seg n pull found.2)
