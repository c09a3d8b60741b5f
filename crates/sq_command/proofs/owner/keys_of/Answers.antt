use Rattle.std.proofs.Common.{◌≡◌, ◌∙◌, sym, subst, codes, ℕ, ◌+◌, List, take}
use Rattle.std.specs.Borrow.{Bor}
use Rattle.std.specs.List.{All}
use Rattle.std.proofs.lemmas.List.{take_all}
use Rattle.std.proofs.lemmas.Result.{err_from_is_err_and}
use Rattle.clap.specs.Matches.{found_of}
use Rattle.clap.specs.Walk.{Text, rows_of}
use Rattle.clap.proofs.WalkLemmas.{raw_values-rows}
use Rattle.sq_command.specs.Owner.{SpellsKey, key_words}
use Rattle.sq_command.proofs.CommandKeys.{SpellBy, texts_of, one_more, one_spells_none, all_told, words_named, none_named, no_texts, some_texts}
use Rattle.sq_command.proofs.owner.keys_of.Goals as goal
use Rattle.sq_command.proofs.owner.keys_of.Goals.{In-Some}

-- the words that are read are those that are named
named : (c : In-Some) → key_words (rows_of (found_of c.args.options.now)) ≡ texts_of c.in-Some.words.now
named c = words_named (rows_of (found_of c.args.options.now)) c.get_strs.result c.in-Some.words (c.get_strs.ensures ∙ raw_values-rows (found_of c.args.options.now) (codes "key")) c.in-Some.is

pub returns-in_default-clause-keys : goal.returns-in_default-clause-keys
returns-in_default-clause-keys c =
    none_named (rows_of (found_of c.args.options.now)) c.get_strs.result (c.get_strs.ensures ∙ raw_values-rows (found_of c.args.options.now) (codes "key")) c.in_default.is

pub returns-then-is_empty-clause-keys : goal.returns-then-is_empty-clause-keys
returns-then-is_empty-clause-keys c =
    named (goal.at.returns-then-is_empty-clause-keys c).In-Some ∙ no_texts c.in-Some.words.now c.if-is_empty.ensures

pub returns-in_err-key-clause-keys : goal.returns-in_err-key-clause-keys
returns-in_err-key-clause-keys c =
    let clash = c.in_err-key.ensures in
    let p = err_from_is_err_and c.from_residual.result c.from_residual.ensures.1 in
    let told = named (goal.at.returns-in_err-key-clause-keys c).In-Some in
    rw (p.1, p.2, clash.0) (λ all. one_spells_none c.in-Some.words.now c.loop-word.word-index _ c.loop-word-test.true clash.1 (subst (λ (texts : List Text). All SpellsKey texts) told all))

pub returns-in_err-push-clause-keys : goal.returns-in_err-push-clause-keys
returns-in_err-push-clause-keys c =
    let p = err_from_is_err_and c.from_residual-in_err-push.result c.from_residual-in_err-push.ensures.1 in
    let told = named (goal.at.returns-in_err-push-clause-keys c).In-Some in
    rw (p.1, p.2) (λ none. some_texts c.in-Some.words.now c.loop-word.word-index c.loop-word-test.true (sym told ∙ none))

pub loop-word-preserved : goal.loop-word-preserved
loop-word-preserved c =
    let read = c.in_ok-key.ensures in
    let more = one_more c.in-Some.words.now c.loop-word.word-index _ c.loop-word.keys.items c.in_ok-key.key c.loop-word-test.true c.loop-word.invariant read.0 read.1 in
    subst (λ (items : List ℕ). SpellBy (take (c.loop-word.word-index + 1) c.in-Some.words.now) items) (sym c.in_ok-push.ensures.items) more

pub returns-clause-keys : goal.returns-clause-keys
returns-clause-keys c =
    let whole = take_all c.loop-word.word-index c.in-Some.words.now c.loop-word-test.false in
    all_told (rows_of (found_of c.args.options.now)) c.in-Some.words.now c.loop-word.keys.items (named (goal.at.returns-clause-keys c).In-Some)
    (subst (λ (words : List (Bor Text)). SpellBy words c.loop-word.keys.items) whole c.loop-word.invariant)
