use Rattle.std.proofs.Common.{◌≡◌, ℕ, true, false, ◌||◌, not, Bool, List, [], ◌∷◌, take, zero, suc, Result, Ok, Err, refl, sym, ap, ◌∙◌}
use Rattle.std.specs.Prelude.{◌&&◌, ◌==◌, OnErr}
use Rattle.std.specs.Result.{is_ok}
use Rattle.std.proofs.lemmas.Bool.{true≢false}
use Rattle.sq_exec.specs.Index.{is_among}
use Rattle.sq_exec.proofs.index.add_all.Goals as goal

among_first : (at : ℕ) (numbers : List ℕ) (n : ℕ) → is_among (take at numbers) n ≡ true → is_among numbers n ≡ true
among_first zero numbers n among = absurd (true≢false (sym among))
among_first (suc at) [] n among = among
among_first (suc at) (x ∷ numbers) n among =
    elim (n == x) as (λ b. (b || is_among (take at numbers) n) ≡ true → (b || is_among numbers n) ≡ true) [
      | true ↦ λ _. refl
      | false ↦ among_first at numbers n
    ] among

-- what a set lacked is taken out again
undone : (had among : Bool) → (among ≡ true → had ≡ false) → ((had || among) && not among) ≡ had
undone true true lacked = sym (lacked refl)
undone true false lacked = refl
undone false true lacked = refl
undone false false lacked = refl

on_err : {T E : Type 0} {P : Type 0} → (result : Result T E) → is_ok result ≡ false → OnErr result P → P
on_err (Ok x) fails p = absurd (true≢false fails)
on_err (Err e) fails p = p

pub returns-then-is_err-clause-err : goal.returns-then-is_err-clause-err
returns-then-is_err-clause-err c = λ n.
    let among = is_among (take c.loop-at.at c.args.lacking.now) n in
    let same = on_err c.put.result c.if-is_err.ensures.negation c.put.ensures.err in
    c.remove_all.ensures n ∙ ap (λ ns. is_among ns n && not among) same ∙ ap (λ b. b && not among) (c.loop-at.invariant n)
    ∙ undone (is_among c.args.numbers.now n) among (λ first. c.requires n (among_first c.loop-at.at c.args.lacking.now n first))
