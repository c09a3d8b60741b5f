-- A run of commands, up to some command.
use Rattle.std.proofs.Common.{◌≡◌, List, [], ◌∷◌, ◌++◌, length, sym, ap, subst, ◌∙◌, append_assoc, append-nil, refl}
use Rattle.std.proofs.lemmas.List.{nil_from_length}
use Rattle.sq_store.specs.declared.command.StoreCommand.{StoreCommand}
use Rattle.sq_store.specs.declared.command.StoreAnswer.{StoreAnswer}
use Rattle.sq_store.specs.StoreValue.{StoreValue}
use Rattle.sq_store.specs.Commands.{IsStoreAnswer, AreStoreAnswers}

-- answers to the commands that are left make answers to all, behind those so far
abbrev pub Completes : StoreValue → List StoreCommand → List StoreAnswer → StoreValue → List StoreCommand → Type 0
Completes store commands so_far now left =
    (more : List StoreAnswer) (after : StoreValue) → AreStoreAnswers now left more after → AreStoreAnswers store commands (so_far ++ more) after

pub completes_more : (store : StoreValue) (commands : List StoreCommand) (so_far answers : List StoreAnswer) (now next : StoreValue) (left rest : List StoreCommand) (command : StoreCommand) (answer : StoreAnswer)
    → Completes store commands so_far now left → left ≡ command ∷ rest → IsStoreAnswer now command answer next → answers ≡ so_far ++ answer ∷ [] → Completes store commands answers next rest
completes_more store commands so_far answers now next left rest command answer completes first is same more after answered =
    subst (λ told. AreStoreAnswers store commands told after) (sym (ap (λ told. told ++ more) same ∙ append_assoc so_far (answer ∷ []) more))
    (completes (answer ∷ more) after (subst (λ cs. AreStoreAnswers now cs (answer ∷ more) after) (sym first) (next, is, answered)))

pub completes_all : (store : StoreValue) (commands : List StoreCommand) (answers : List StoreAnswer) (now : StoreValue) (left : List StoreCommand)
    → Completes store commands answers now left → length left ≡ 0 → AreStoreAnswers store commands answers now
completes_all store commands answers now left completes none =
    subst (λ told. AreStoreAnswers store commands told now) (append-nil answers)
    (completes [] now (subst (λ cs. AreStoreAnswers now cs [] now) (sym (nil_from_length left none)) refl))
