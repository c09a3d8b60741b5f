-- A family that comes is weighed with those before it.
use Rattle.std.proofs.Common.{◌<◌, ℕ, ap, ◌∙◌, sym, subst}
use Rattle.sq_schema.specs.Table.{TableValue}
use Rattle.sq_picture.specs.Cutting.{chunks_more, room_behind}
use Rattle.std.specs.Prelude.{◌+◌, Some}
use Rattle.sq_picture.specs.Sizes.{in_64_bits}
use Rattle.sq_picture.specs.declared.size.Size.{Size}
use Rattle.sq_picture.proofs.Weighing.{Weighs, weighs_none, weighs_next}
use Rattle.sq_picture.proofs.size.size_below.Goals as goal

pub loop-root-init : goal.loop-root-init
loop-root-init c =
    subst (λ (rest : TableValue). Weighs c.args.limit c.args.end c.args.entries rest (record { families = 0; rows = 0; bytes = 0; chunks = 0 }) c.new-cutting.result) (sym c.into_iter-root-iterator.ensures.into_iter_gives)
    (weighs_none c.args.limit c.args.end c.args.entries c.new-cutting.result c.new-cutting.ensures)

pub loop-root-preserved : goal.loop-root-preserved
loop-root-preserved c =
    let size = c.loop-root.size in
    let cutting = c.loop-root.cutting in
    let low : c.in-Some.root.now < c.args.end = subst (λ (n : ℕ). n < c.args.end) c.number.ensures.number c.if-number-end.false in
    let before = subst (λ (rest : TableValue). Weighs c.args.limit c.args.end c.args.entries rest size cutting) c.in-Some.ensures.steps c.loop-root.invariant in
    weighs_next c.args.limit c.args.end c.args.entries c.in-Some.root.now c.in-Some.rows.now c.next.new.self size c.plus-size.result cutting c.take.new.self low before
    (ap (λ (s : Size). s.families) c.plus-size.ensures ∙ ap (λ (s : Size). in_64_bits (size.families + s.families)) c.size_of_rows.ensures)
    (ap (λ (s : Size). s.rows) c.plus-size.ensures ∙ ap (λ (s : Size). in_64_bits (size.rows + s.rows)) c.size_of_rows.ensures)
    (ap (λ (s : Size). s.bytes) c.plus-size.ensures ∙ ap (λ (s : Size). in_64_bits (size.bytes + s.bytes)) c.size_of_rows.ensures)
    c.take.ensures.limit
    (c.take.ensures.chunks ∙ ap (λ (n : ℕ). in_64_bits (cutting.chunks + chunks_more cutting.room n)) c.size.ensures)
    (c.take.ensures.room ∙ ap (λ (n : ℕ). Some (room_behind cutting.limit cutting.room n)) c.size.ensures)
