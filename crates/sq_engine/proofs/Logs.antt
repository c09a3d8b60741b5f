-- The rows and the logs of families after a stage whose segments are complete.
use Rattle.std.proofs.Common.{◌≡◌, inl, inr, ℕ, ◌+◌, ◌==◌, false, [], length, Option, Some, None, refl, sym, ap, ◌∙◌, subst}
use Rattle.std.specs.Prelude.{not, unwrap_or}
use Rattle.std.proofs.lemmas.Bool.{cases_Bool, eqb-true, not-false}
use Rattle.std.proofs.lemmas.List.{nil_from_length}
use Rattle.std.proofs.lemmas.Option.{none-some}
use Rattle.sq_schema.specs.Effect.{RowList}
use Rattle.sq_schema.specs.Family.{FamilyValue}
use Rattle.sq_store.specs.StoreValue.{absent}
use Rattle.sq_moves.specs.OpeningValue.{OpeningValue}
use Rattle.sq_moves.specs.Opening.{IsOpening}
use Rattle.sq_model.specs.Staged.{owner_in}
use Rattle.sq_model.specs.Tables.{opening_rows}
use Rattle.sq_node_model.specs.declared.spot.Spot.{Spot}
use Rattle.sq_node_model.specs.declared.spot.Spot.TheVariants.{Store}
use Rattle.sq_node_model.specs.Gathered.{GatheredValue}
use Rattle.sq_node_model.specs.Spots.{family_at_spot, StandsAt}
use Rattle.sq_node_model.specs.Placed.{IsPlaced}
use Rattle.sq_node_model.specs.Next.{IsStageDone}
use Rattle.sq_node_model.proofs.Next.{stands_next}
use Rattle.sq_engine.specs.Ending.{family_after}

no_rows : (rows : RowList) → not (length rows == 0) ≡ false → rows ≡ []
no_rows rows none = nil_from_length rows (eqb-true (length rows) 0 (not-false (length rows == 0) none))

module _ (o : OpeningValue) (g : GatheredValue) (is : IsOpening o) (placed : IsPlaced o g) (done : IsStageDone o g) where
  abbrev owner : ℕ → ℕ
  owner root = owner_in o (g.stage + 1) root

  abbrev found : ℕ → Option FamilyValue
  found root = family_at_spot g (Store (owner root)) root

  at_owner : (spot : Spot) (root : ℕ) (family : FamilyValue) → StandsAt g spot root family → found root ≡ Some family
  at_owner spot root family stands =
      subst (λ (s : Spot). StandsAt g s root family) (stands_next o is g placed done spot root family stands) stands

  -- each log starts from the rows of the opening in force
  pub base_is : (root : ℕ) → (family_after o g root).base ≡ opening_rows o root
  base_is root = by (found root) refl
    where
      none_opened : found root ≡ None → opening_rows o root ≡ []
      none_opened none = elim (cases_Bool (not (length (opening_rows o root) == 0))) [
        | inl opened ↦
            let there = placed.opening root opened in
            absurd (none-some there.1 (sym none ∙ at_owner there.0 root there.1 there.2))
        | inr fails ↦ no_rows (opening_rows o root) fails
      ]

      by : (family : Option FamilyValue) → found root ≡ family → (family_after o g root).base ≡ opening_rows o root
      by None none = ap (λ (f : Option FamilyValue). (unwrap_or f (absent root)).base) none ∙ sym (none_opened none)
      by (Some family) stands =
          ap (λ (f : Option FamilyValue). (unwrap_or f (absent root)).base) stands
          ∙ placed.base (Store (owner root)) root family stands
