-- Tellers and the rings over which they send.
use Rattle.std.proofs.Common.{◌≡◌, inl, inr, ℕ, ◌+◌, ◌<◌, List, [], ◌∷◌, ◌++◌, length, get_or, sym, ap, ◌∙◌, subst, arith, length-append}
use Rattle.std.proofs.Math.Seq.{get_or-append_seam}
use Rattle.std.proofs.lemmas.Bool.{cases_eq}
use Rattle.std.proofs.lemmas.List.{get_or_append_left}
use Rattle.sq_driver.specs.declared.ring.RingTeller.{RingTeller}
use Rattle.sq_engine.specs.Telling.{Ring, IsNewRing, AreNewRings}

last_of : {X : Type 0} (xs : List X) (x : X) (i : ℕ) (d : X) → i ≡ length xs → get_or (xs ++ x ∷ []) i d ≡ x
last_of xs x i d at = subst (λ (k : ℕ). get_or (xs ++ x ∷ []) k d ≡ x) (sym at) (get_or-append_seam xs x [] d)

-- one more ring was made
pub one_more : (parts : ℕ) (tellers : List RingTeller) (rings : List Ring) (teller : RingTeller) (ring : Ring)
    → AreNewRings parts tellers rings → IsNewRing teller ring
    → AreNewRings (parts + 1) (tellers ++ teller ∷ []) (rings ++ ring ∷ [])
one_more parts tellers rings teller ring are new = record {
  all_tellers = length-append tellers (teller ∷ []) ∙ ap (λ n. n + 1) are.all_tellers;
  all_rings = length-append rings (ring ∷ []) ∙ ap (λ n. n + 1) are.all_rings;
  each = λ i t r lt. elim (cases_eq i parts) [
    | inl at ↦
        subst (λ (p : RingTeller × Ring). IsNewRing p.0 p.1)
        (λ k. (sym (last_of tellers teller i t (at ∙ sym are.all_tellers)) k, sym (last_of rings ring i r (at ∙ sym are.all_rings)) k)) new
    | inr apart ↦
        let within : i < parts = omega (arith, lt, apart) in
        let one : i < length tellers = omega (arith, within, are.all_tellers) in
        let two : i < length rings = omega (arith, within, are.all_rings) in
        subst (λ (p : RingTeller × Ring). IsNewRing p.0 p.1)
        (λ k. (sym (get_or_append_left tellers (teller ∷ []) t i one) k, sym (get_or_append_left rings (ring ∷ []) r i two) k))
        (are.each i t r within)
  ];
}
