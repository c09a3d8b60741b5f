-- What the text is read as is what the bytes are.
use Rattle.std.proofs.Common.{◌≡◌, None, ◌∙◌, refl, sym, ap}
use Rattle.std.proofs.lemmas.Bool.{cond-true, cond_both, false≢true}
use Rattle.std.proofs.lemmas.Str.{IsUtf8-from_is_utf8, is_utf8-from_IsUtf8}
use Rattle.std.specs.Str.{is_utf8}
use Rattle.serde_json.specs.declared.error.Code.TheVariants.{OutOfMemory}
use Rattle.serde_json.specs.Read.{read}
use Rattle.sq_plan.specs.Reading.{json_of}
use Rattle.sq_input.specs.Stages.{has_unread_stages}
use Rattle.sq_input.proofs.stages.has_unread_stages.Goals as goal

pub returns-in-Ok : goal.returns-in-Ok
unfolding json_of
returns-in-Ok c = c.leaves_stages_unread.ensures ∙ sym (ap has_unread_stages (cond-true _ _ _ (is_utf8-from_IsUtf8 _ c.in-Ok.ensures.ok.0) ∙ c.in-Ok.ensures.ok.1))

pub returns-in-Err-2 : goal.returns-in-Err-2
unfolding json_of
returns-in-Err-2 c =
    let other : c.in-Err.error.code ≡ OutOfMemory → ⊥ = λ m. false≢true (c.if-is_memory.ensures.1 m) in
    sym (ap has_unread_stages (cond_both (is_utf8 c.args.text.now) (read c.args.text.now) None (λ o. o ≡ None)
    (λ text. c.in-Err.ensures.err other (IsUtf8-from_is_utf8 _ text)) (λ none. refl)))
