use Rattle.std.proofs.Common.{sym, ◌∙◌, arith, refl}
use Rattle.std.proofs.lemmas.Slice.Eq.{bytes_eq-Decides}
use Rattle.sq_outputs.proofs.conflict.is_read.Goals as goal

pub returns-then-eq : goal.returns-then-eq
returns-then-eq c =
    let same = (bytes_eq-Decides c.as_str.result.now c.args.place.now).0 (sym c.eq.ensures ∙ c.if-eq.true) in
    (λ found. (c.loop-file.file-index, c.file-item.result, omega arith, sym c.file-item.is, sym c.as_str.ensures.value ∙ same), λ found. refl)
