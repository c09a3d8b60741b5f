use Rattle.std.proofs.Common.{◌≡◌, ℕ, Bool, true, false, not, Option, Some, None, refl, sym, ap, ◌∙◌}
use Rattle.std.specs.Prelude.{◌==◌, ◌&&◌}
use Rattle.std.proofs.lemmas.Bool.{and_parts, and_from, eq-eqb, eqb-true, true≢false}
use Rattle.sq_exec.specs.declared.location.Location.{Location}
use Rattle.sq_exec.specs.CoreValue.{CoreValue}
use Rattle.sq_exec.specs.Location.{location, is_coming_here, is_coming_from}
use Rattle.sq_exec.specs.Laws.{IsOnItsWay}
use Rattle.sq_exec.proofs.laws.comes_until_it_is_loaded.Goals as goal

not_loaded : (b : Bool) → not b ≡ true → b ≡ false
not_loaded true h = sym h
not_loaded false h = refl

found : (core : CoreValue) (root : ℕ) (read : Option Location) → location core root ≡ read → is_coming_from core read ≡ true
    → (at : Location) × IsOnItsWay core root at
found core root None is coming = absurd (true≢false (sym coming))
found core root (Some at) is coming =
    let a = and_parts core.started ((at.stage == core.stage) && ((at.dst == core.part) && not at.loaded)) coming in
    let b = and_parts (at.stage == core.stage) ((at.dst == core.part) && not at.loaded) a.1 in
    let d = and_parts (at.dst == core.part) (not at.loaded) b.1 in
    (at, record { found = is; started = a.0; now = eqb-true at.stage core.stage b.0; here = eqb-true at.dst core.part d.0; left = not_loaded at.loaded d.1 })

pub returns-clause-comes : goal.returns-clause-comes
returns-clause-comes c = λ core root coming. found core root (location core root) refl coming

pub returns-clause-coming : goal.returns-clause-coming
returns-clause-coming c = λ core root at way.
    ap (is_coming_from core) way.found
    ∙ and_from core.started ((at.stage == core.stage) && ((at.dst == core.part) && not at.loaded)) way.started
    (and_from (at.stage == core.stage) ((at.dst == core.part) && not at.loaded) (eq-eqb at.stage core.stage way.now)
    (and_from (at.dst == core.part) (not at.loaded) (eq-eqb at.dst core.part way.here) (ap not way.left)))
