-- A store's answers to commands, as a finite map by root key.
use Rattle.std.specs.Prelude.{◌≡◌, ◌<◌, ◌≤◌, true, false, List, [], ◌∷◌, Ok, Err}
use Rattle.sq_schema.specs.declared.family.TheConstants.{MAX_LOG}
use Rattle.sq_schema.specs.declared.fault.ApplyFault.TheVariants.{LogFull, Memory}
use Rattle.sq_store.specs.declared.command.StoreCommand.{StoreCommand}
use Rattle.sq_store.specs.declared.command.StoreCommand.TheVariants.{Apply, Take, Give}
use Rattle.sq_store.specs.declared.command.StoreAnswer.{StoreAnswer}
use Rattle.sq_store.specs.declared.command.StoreAnswer.TheVariants.{Applied, Taken, Given, NotGiven}
use Rattle.sq_store.specs.StoreValue.{StoreValue, log_length, store_reply, store_after, without_between, with_families, can_give}
use Rattle.sq_store.specs.Cut.{IsCutOf}

-- the answer to a command, and the store after it
abbrev pub IsStoreAnswer : StoreValue → StoreCommand → StoreAnswer → StoreValue → Type 0
IsStoreAnswer store (Apply txn) (Applied (Ok reply)) after =
    (log_length store txn.root < MAX_LOG) × (reply ≡ store_reply store txn) × (after ≡ store_after store txn reply)
IsStoreAnswer store (Apply txn) (Applied (Err LogFull)) after = (MAX_LOG ≤ log_length store txn.root) × (after ≡ store)
IsStoreAnswer store (Apply txn) (Applied (Err Memory)) after = (log_length store txn.root < MAX_LOG) × (after ≡ store)
IsStoreAnswer store (Take extent limit) (Taken (Ok cut)) after =
    IsCutOf store extent limit cut × (after ≡ without_between store extent.lo cut.end)
IsStoreAnswer store (Take extent limit) (Taken (Err memory)) after = after ≡ store
IsStoreAnswer store (Give families) (Given (Ok done)) after =
    (can_give store families.items ≡ true) × (after ≡ with_families store families.items)
IsStoreAnswer store (Give families) (Given (Err back)) after =
    (can_give store families.items ≡ true) × (back.items ≡ families.items) × (after ≡ store)
IsStoreAnswer store (Give families) (NotGiven back) after =
    (can_give store families.items ≡ false) × (back.items ≡ families.items) × (after ≡ store)
IsStoreAnswer store command answer after = ⊥

-- the answers to commands in their order, and the store after them
abbrev pub AreStoreAnswers : StoreValue → List StoreCommand → List StoreAnswer → StoreValue → Type 0
AreStoreAnswers store [] [] after = after ≡ store
AreStoreAnswers store (command ∷ commands) (answer ∷ answers) after =
    (next : StoreValue) × IsStoreAnswer store command answer next × AreStoreAnswers next commands answers after
AreStoreAnswers store commands answers after = ⊥
