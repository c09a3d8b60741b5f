-- The history of a run grows by one step at its end.
use Rattle.std.proofs.Common.{◌≡◌, ℕ, ◌+◌, ◌<◌, ◌≤◌, List, [], ◌∷◌, ◌++◌, suc, take, refl, ap, ◌∙◌, sym, arith, length}
use Rattle.std.specs.Prelude.{reverse, slice_index_or}
use Rattle.std.specs.List.{zip}
use Rattle.std.proofs.Math.Seq.{take-suc}
use Rattle.std.proofs.lemmas.List.{reverse-append, length-take-le}
use Rattle.sq_model.specs.declared.step.Step.{Step}
use Rattle.sq_model.specs.declared.answer.Answer.{Answer}
use Rattle.sq_world.specs.History.{history_of}

zip_push : {K X : Type 0} (ks : List K) (vs : List X) (k : K) (v : X) → length vs ≡ length ks → zip (ks ++ k ∷ []) (vs ++ v ∷ []) ≡ zip ks vs ++ (k, v) ∷ []
zip_push [] [] k v same = refl
zip_push [] (w ∷ vs) k v same = absurd (omega (arith, same))
zip_push (j ∷ ks) [] k v same = absurd (omega (arith, same))
zip_push (j ∷ ks) (w ∷ vs) k v same = ap (λ rest. (j, w) ∷ rest) (zip_push ks vs k v (omega (arith, same)))

history_push : (steps : List Step) (answers : List Answer) (step : Step) (given : Answer) → length answers ≡ length steps → history_of (steps ++ step ∷ []) (answers ++ given ∷ []) ≡ (step, given) ∷ history_of steps answers
history_push steps answers step given same =
    ap reverse (zip_push steps answers step given same) ∙ reverse-append (zip steps answers) ((step, given) ∷ [])

-- one more step is made
pub history_grows : (steps : List Step) (answers : List Answer) (at : ℕ) (step : Step) (given : Answer) → at < length steps → length answers ≡ at → step ≡ slice_index_or steps at step
    → history_of (take (at + 1) steps) (answers ++ given ∷ []) ≡ (step, given) ∷ history_of (take at steps) answers
history_grows steps answers at step given within count is =
    let one : at + 1 ≡ suc at = omega arith in
    let next : take (at + 1) steps ≡ take at steps ++ step ∷ [] =
    ap (λ n. take n steps) one ∙ take-suc steps at step within ∙ ap (λ s. take at steps ++ s ∷ []) (sym is) in
    let upto : at ≤ length steps = omega (arith, within) in
    ap (λ made. history_of made (answers ++ given ∷ [])) next
    ∙ history_push (take at steps) answers step given (count ∙ sym (length-take-le at steps upto))
