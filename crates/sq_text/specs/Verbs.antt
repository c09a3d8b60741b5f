-- The first words of lines, and the names of operations.
use Rattle.std.specs.Prelude.{[], ◌∷◌, Option, bytes_eq, codes, find}
use Rattle.sq_text.specs.Words.{Word}
use Rattle.sq_text.specs.declared.verb.Verb.{Verb}
use Rattle.sq_text.specs.declared.verb.Verb.TheVariants.{Prepare, Start, Resume, Split, Claim, Begin, Cut, Push, Pop, Load, Complete, Report, Next, Finish, Fold, Status}
use Rattle.sq_text.specs.declared.verb.OpName.{OpName}
use Rattle.sq_text.specs.declared.verb.OpName.TheVariants.{Get, Put, Add, Del, Check}

-- the word of a verb
abbrev pub verb_word : Verb → Word
verb_word Prepare = codes "prepare"
verb_word Start = codes "start"
verb_word Resume = codes "resume"
verb_word Split = codes "split"
verb_word Claim = codes "claim"
verb_word Begin = codes "begin"
verb_word Cut = codes "cut"
verb_word Push = codes "push"
verb_word Pop = codes "pop"
verb_word Load = codes "load"
verb_word Complete = codes "complete"
verb_word Report = codes "report"
verb_word Next = codes "next"
verb_word Finish = codes "finish"
verb_word Fold = codes "fold"
verb_word Status = codes "status"

-- the verb of this word
unfoldable pub verb_in : Word → Option Verb
verb_in word =
    find (λ verb. bytes_eq (verb_word verb) word)
    (Prepare ∷ Start ∷ Resume ∷ Split ∷ Claim ∷ Begin ∷ Cut ∷ Push ∷ Pop ∷ Load ∷ Complete ∷ Report ∷ Next ∷ Finish ∷ Fold
    ∷ Status ∷ [])

-- the word of an operation
abbrev pub op_word : OpName → Word
op_word Get = codes "get"
op_word Put = codes "put"
op_word Add = codes "add"
op_word Del = codes "del"
op_word Check = codes "check"

-- the operation of this name
unfoldable pub op_name_in : Word → Option OpName
op_name_in word = find (λ name. bytes_eq (op_word name) word) (Get ∷ Put ∷ Add ∷ Del ∷ Check ∷ [])
