use Rattle.std.proofs.Common.{[], ◌∙◌, subst}
use Rattle.sq_serving.specs.Becoming.{ServeDeskValue, desk_value, offered_by, Hears}
use Rattle.sq_serving.proofs.Desks.{nothing_hears}
use Rattle.sq_serving.proofs.control.ControlClient.next.Goals as goal

pub returns-then-ends : goal.returns-then-ends
returns-then-ends g c =
    let flush = c.flush in
    subst (λ (desk : ServeDeskValue). Hears [] desk [] (desk_value g.W.Write.contents flush.new.self))
    (c.begin_call.ensures ∙ c.note_stage.ensures) (nothing_hears _ _ flush.ensures)

pub returns : goal.returns
returns g c =
    let next = c.next_command-command in
    subst (λ (desk : ServeDeskValue). Hears [] desk (offered_by next.result) (desk_value g.W.Write.contents next.new.self))
    (c.begin_call.ensures ∙ c.note_stage.ensures) next.ensures
