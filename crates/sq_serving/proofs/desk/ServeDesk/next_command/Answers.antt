use Rattle.std.proofs.Common.{[], ◌∷◌, sym, subst}
use Rattle.sq_serving.specs.Becoming.{ServeDeskValue, desk_value, Hears}
use Rattle.sq_serving.proofs.Desks.{hears_then, nothing_hears}
use Rattle.sq_serving.proofs.desk.ServeDesk.next_command.Goals as goal

pub returns-in-Some : goal.returns-in-Some
returns-in-Some g c =
    subst (λ (desk : ServeDeskValue). Hears [] (desk_value g.W.Write.contents c.args.self.now) (c.in-Some.job ∷ []) desk)
    (sym c.note_offered.ensures) c.in-Some.ensures

pub returns-in-None : goal.returns-in-None
returns-in-None g c =
    hears_then [] [] _ _ _ c.in-None.ensures (nothing_hears _ _ c.idle.ensures)
