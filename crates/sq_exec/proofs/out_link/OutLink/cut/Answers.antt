use Rattle.std.proofs.Common.{sym, ap, ◌∙◌, arith}
use Rattle.std.specs.Prelude.{vec_len, vec_capacity}
use Rattle.std.proofs.lemmas.Bool.{lt-ltb, ltb-true}
use Rattle.sq_exec.specs.Work.{next_work}
use Rattle.sq_exec.specs.OutLink.{RoomyOutLink}
use Rattle.sq_exec.proofs.Cuts.{was_cut}
use Rattle.sq_exec.proofs.out_link.OutLink.cut.Goals as goal

pub returns-clause-ok : goal.returns-clause-ok
returns-clause-ok g c =
    was_cut c.args.limit c.args.ends _ (g.S.FamilyStore.contents c.args.store.now) c.in-Some.at c.args.self.now.link c.index-work.result.now c.rest.result c.reserve.new.self.items c.note_base-base.result c.in_ok-chunk.chunk c.note-note.result c.note.result c.push_reserved.new.self.items c.go_on.new.works.items (g.S.FamilyStore.contents c.cut_next.new.store)
    (ap (λ (o : RoomyOutLink). o.link) c.self.view_is) (sym c.is_some.ensures ∙ c.if-is_some.false) (c.in-Some.ensures ∙ ap next_work c.deref.ensures.value) c.index-work.ensures c.rest.ensures.from c.rest.ensures.upto
    c.reserve.ensures.items c.note_base-base.ensures c.in_ok-chunk.ensures.chunk c.in_ok-chunk.ensures.store (c.in_ok-chunk.ensures.from (omega (arith, c.rest.ensures.from, c.rest.ensures.upto, c.rest.ensures.rises))) c.in_ok-chunk.ensures.upto
    c.note-note.ensures c.note.ensures c.push_reserved.ensures.items c.go_on.ensures.left

pub returns-clause-room : goal.returns-clause-room
returns-clause-room g c = λ had.
    let before = ltb-true (vec_len c.self.inside.work) (vec_capacity c.self.inside.work) (ap (λ (o : RoomyOutLink). o.has_room) c.self.view_is ∙ had) in
    lt-ltb (vec_len c.go_on.new.works) (vec_capacity c.go_on.new.works) (omega (arith, before, c.go_on.ensures.no_more, c.go_on.ensures.capacity))
