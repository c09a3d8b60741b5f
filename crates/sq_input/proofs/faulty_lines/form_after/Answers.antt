use Rattle.std.proofs.Common.{◌≡◌, ◌<◌, List, [], ◌∷◌, length, refl, arith}
use Rattle.sq_input.proofs.faulty_lines.form_after.Goals as goal

none_left : {X : Type 0} (xs : List X) → length xs < 1 → xs ≡ []
none_left [] none = refl
none_left (x ∷ xs) none = absurd (omega (arith, none))

pub returns-in-empty : goal.returns-in-empty
returns-in-empty c = λ words. rw (none_left c.args.form.now (omega (arith, c.in-empty.len_below))) (c.form_behind.ensures words)
