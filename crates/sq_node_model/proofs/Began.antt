-- What a stage begins with: families that continue, and those of the opening rows.
use Rattle.std.proofs.Common.{◌≡◌, inl, inr, ℕ, Bool, true, false, nat_lt, if◌then◌else◌, ◌++◌, length, Option, Some, None, refl, sym, ap, ◌∙◌, subst, true≢false, append_assoc, arith}
use Rattle.std.specs.Prelude.{is_some, unwrap_or}
use Rattle.std.proofs.lemmas.Bool.{cases_Bool}
use Rattle.std.proofs.lemmas.Bool.Decides.{nat_tests}
use Rattle.std.proofs.lemmas.List.Elements.{All-nil}
use Rattle.sq_schema.specs.TxnValue.{TxnValue}
use Rattle.sq_schema.specs.Family.{FamilyValue}
use Rattle.sq_store.specs.StoreValue.{absent}
use Rattle.sq_moves.specs.OpeningValue.{OpeningValue}
use Rattle.sq_model.specs.Tables.{opening_rows}
use Rattle.sq_model.proofs.Lists.{Contains-nothing}
use Rattle.sq_shared.specs.View.{one_if}
use Rattle.sq_node_model.specs.BeganWith.{BeganWith, given_family, is_opened, opening_family, first_began, IsOf, GrowsFrom, CanBegin}
use Rattle.sq_node_model.specs.Receipts.{times_named}
use Rattle.sq_node_model.proofs.Named.{unnamed}
use Rattle.sq_node_model.proofs.FamiliesAnswered.{not_opened, not_given}

-- a family that continues one that continues another continues that one
pub grows_on : (one two three : FamilyValue) → GrowsFrom one two → GrowsFrom two three → GrowsFrom one three
grows_on one two three a b = record {
  base = b.base ∙ a.base;
  log = (a.log.0 ++ b.log.0, b.log.1 ∙ ap (λ log. log ++ b.log.0) a.log.1 ∙ append_assoc one.log a.log.0 b.log.0);
}

pub none_first : (position : ℕ) → 0 ≡ one_if (nat_lt position 0)
none_first position = grind (arith, nat_tests)

pub given_is : (began : BeganWith) (root : ℕ) (family : FamilyValue) → began.families root ≡ Some family → given_family began root ≡ family
given_is began root family e = ap (λ found. unwrap_or found (absent root)) e

module _ (o : OpeningValue) (began : BeganWith) (can : CanBegin o began) where
  -- what a root key was given starts from its opening rows, also where that is nothing
  pub given_base : (root : ℕ) → (given_family began root).base ≡ opening_rows o root
  given_base root = by (began.families root) refl
    where
      by : (found : Option FamilyValue) → began.families root ≡ found → (given_family began root).base ≡ opening_rows o root
      by (Some family) e = ap (λ (one : FamilyValue). one.base) (given_is began root family e) ∙ can.base root family e
      by None e =
          elim (cases_Bool (is_opened o root)) [
            | inl opened ↦ absurd (true≢false (sym (sym (ap is_some e) ∙ can.opening root opened)))
            | inr none ↦ ap (λ (one : FamilyValue). one.base) (not_given began root (ap is_some e)) ∙ sym (not_opened o root none)
          ]

  -- the receipts so far name each position of the log that a root key was given, once
  pub past_named : (root position : ℕ) → times_named root position began.receipts ≡ one_if (nat_lt position (length (given_family began root).log))
  past_named root position = by (began.families root) refl
    where
      by : (found : Option FamilyValue) → began.families root ≡ found → times_named root position began.receipts ≡ one_if (nat_lt position (length (given_family began root).log))
      by (Some family) e = can.named root family e position ∙ ap (λ (one : FamilyValue). one_if (nat_lt position (length one.log))) (sym (given_is began root family e))
      by None e =
          unnamed root position began.receipts
          (λ receipt has commit same. let t = can.told receipt has commit in absurd (let f = sym e ∙ ap began.families (sym same) ∙ t.1 in cc))
          ∙ none_first position
          ∙ ap (λ (one : FamilyValue). one_if (nat_lt position (length one.log))) (sym (not_given began root (ap is_some e)))

-- the families of the opening rows
pub first_can : (o : OpeningValue) → CanBegin o (first_began o)
first_can o = record {
  keyed = λ root family e. subst (λ one. IsOf root one) (opening_is root family e) (record { same_root = refl; own_log = All-nil (λ (txn : TxnValue). txn.root ≡ root) });
  base = λ root family e. ap (λ (one : FamilyValue). one.base) (sym (opening_is root family e));
  opening = λ root opened. ap (λ b. is_some (if b then Some (opening_family o root) else None)) opened;
  named = λ root family e position. none_first position ∙ ap (λ (one : FamilyValue). one_if (nat_lt position (length one.log))) (opening_is root family e);
  told = λ receipt has commit. absurd (Contains-nothing receipt has);
  aborted = λ receipt has aborts. absurd (Contains-nothing receipt has);
}
  where
    opening_is : (root : ℕ) (family : FamilyValue) → (first_began o).families root ≡ Some family → opening_family o root ≡ family
    opening_is root family e = by (is_opened o root) refl
      where
        by : (b : Bool) → is_opened o root ≡ b → opening_family o root ≡ family
        by true opened = let f = sym (ap (λ b. if b then Some (opening_family o root) else None) opened) ∙ e in cc
        by false opened = absurd (let f = sym (ap (λ b. if b then Some (opening_family o root) else None) opened) ∙ e in cc)
