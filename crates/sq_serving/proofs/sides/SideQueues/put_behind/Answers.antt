use Rattle.std.proofs.Common.{[], ◌∷◌, ◌++◌, List, ap, ◌∙◌}
use Rattle.sq_serving.proofs.Changes.{on_err, read_at, put_at, same_at}
use Rattle.sq_serving.proofs.sides.SideQueues.put_behind.Goals as goal

pub returns-in_err-push_back-clause-err : goal.returns-in_err-push_back-clause-err
returns-in_err-push_back-clause-err g c =
    on_err c.from_residual-in_err-push_back.result
    (same_at c.self.inside.sides.items c.args.self.now c.args.part _ c.index_mut-side.result.now c.self.view_is
    c.index_mut-side.ensures.value c.in_err-push_back.ensures.items)

pub returns-clause-ok : goal.returns-clause-ok
returns-clause-ok g c =
    put_at c.self.inside.sides.items c.args.self.now c.args.part _ _ c.self.view_is c.requires
    (c.in_ok-push_back.ensures.items ∙ ap (λ (jobs : List g.row.J.Denot). jobs ++ c.args.job ∷ [])
    (read_at c.self.inside.sides.items c.args.self.now c.args.part c.index_mut-side.result.now c.self.view_is c.requires
    c.index_mut-side.ensures.value))
