use Rattle.std.proofs.Common.{subst, List, ◌∷◌, []}
use Rattle.std.specs.Prelude.{ℕ}
use Rattle.std.proofs.lemmas.List.{take_all}
use Rattle.sq_outputs.specs.Calls.{Makes, Removed, removes_beside}
use Rattle.sq_outputs.proofs.Made.{made_none, made_one_more}
use Rattle.sq_outputs.proofs.saving.remove_beside.Goals as goal

pub loop-file-init : goal.loop-file-init
loop-file-init g c = made_none _

pub loop-file-preserved : goal.loop-file-preserved
loop-file-preserved g c =
    let gone = subst (λ (part : List ℕ). Makes (g.F.Folder.calls c.loop-file.folder) (g.F.Folder.calls c.remove.new.self) (Removed part ∷ [])) c.as_str.ensures.value c.remove.ensures in
    made_one_more removes_beside _ _ _ _ _ c.file-item.result c.loop-file-test.true c.file-item.is c.loop-file.invariant gone

pub returns : goal.returns
returns g c =
    let past = c.loop-file-test.false in
    rw take_all at c.loop-file.invariant
