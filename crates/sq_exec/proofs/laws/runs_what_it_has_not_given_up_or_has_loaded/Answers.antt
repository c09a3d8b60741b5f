use Rattle.std.proofs.Common.{◌≡◌, ◌≢◌, ℕ, Bool, true, false, inl, inr, Some, refl, sym, ap, ◌∙◌, arith}
use Rattle.std.specs.Prelude.{◌==◌, ◌&&◌, ◌⊎◌, nat_lt, if◌then◌else◌}
use Rattle.std.proofs.lemmas.Bool.{le-ltb, eqb-true, eqb-false}
use Rattle.sq_exec.specs.declared.location.Location.{Location}
use Rattle.sq_exec.specs.CoreValue.{CoreValue}
use Rattle.sq_exec.specs.Location.{location, route, route_from}
use Rattle.sq_exec.proofs.laws.runs_what_it_has_not_given_up_or_has_loaded.Goals as goal

-- by the three tests of a route; the first says whether the partition is the source
by_tests : (src dst part : ℕ) (is_src given_up is_dst loaded : Bool) → (is_src ≡ true → src ≡ part) → (is_src ≡ false → src ≢ part) → (is_dst ≡ true → dst ≡ part) → src ≢ dst
    → (if is_src then (if given_up then dst else src) else if is_dst && loaded then dst else src) ≡ part → ((src ≡ part) × (given_up ≡ false)) ⊎ ((dst ≡ part) × (loaded ≡ true))
by_tests src dst part true true is_dst loaded same other to apart goes = absurd (apart (same refl ∙ sym goes))
by_tests src dst part true false is_dst loaded same other to apart goes = inl (goes, refl)
by_tests src dst part false given_up true true same other to apart goes = inr (goes, refl)
by_tests src dst part false given_up true false same other to apart goes = absurd (other refl goes)
by_tests src dst part false given_up false loaded same other to apart goes = absurd (other refl goes)

pub returns : goal.returns
returns c = λ core root at is now apart goes.
    let here = sym (ap (route_from core root) is) ∙ goes in
    let runs = sym (ap (λ b. if b then at.dst else if at.src == core.part then (if at.given_up then at.dst else at.src) else if (at.dst == core.part) && at.loaded then at.dst else at.src) (le-ltb at.stage core.stage (omega (arith, now)))) ∙ here in
    by_tests at.src at.dst core.part (at.src == core.part) at.given_up (at.dst == core.part) at.loaded (eqb-true at.src core.part) (eqb-false at.src core.part) (eqb-true at.dst core.part) apart runs
