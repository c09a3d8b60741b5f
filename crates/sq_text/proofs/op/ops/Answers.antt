use Rattle.std.proofs.Common.{◌≡◌, None, rules, arith, sym, ◌∙◌}
use Rattle.std.proofs.lemmas.Result.{err_from_is_err_and}
use Rattle.sq_rows.specs.declared.short_list.ShortList.{ShortList}
use Rattle.sq_rows.specs.ShortList.{short_items}
use Rattle.sq_schema.specs.declared.txn.Op.{Op}
use Rattle.sq_text.proofs.OpRun.{goes_on, unnamed, fails, all_read, takes_words}
use Rattle.sq_text.proofs.op.ops.Goals as goal

pub loop-word-preserved : goal.loop-word-preserved
loop-word-preserved c = goes_on (short_items c.loop-word.ops) _ c.in-Some.word.now c.loop-word.words c.next.new.self c.op.new.words c.in_ok-name.name c.in_ok-op.field-0 _ c.in-Some.ensures (search rules) c.in_ok-op.ensures c.in_ok-push.ensures.ok c.loop-word.invariant

pub loop-word-smaller : goal.loop-word-smaller
loop-word-smaller c = takes_words c.loop-word.words c.next.new.self c.op.new.words c.in-Some.word.now c.in_ok-name.name c.in_ok-op.field-0 c.in-Some.ensures c.in_ok-op.ensures

pub returns-in_err-name : goal.returns-in_err-name
returns-in_err-name c =
    let p = err_from_is_err_and c.from_residual.result c.from_residual.ensures.1 in
    let none : c.of.result ≡ None = grind arith in
    rw (p.1, p.2) (unnamed (short_items c.loop-word.ops) c.in-Some.word.now c.loop-word.words c.next.new.self _ c.in-Some.ensures (sym c.of.ensures ∙ none) c.loop-word.invariant)

pub returns-in_err-op : goal.returns-in_err-op
returns-in_err-op c =
    let p = err_from_is_err_and c.from_residual-in_err-op.result c.from_residual-in_err-op.ensures.1 in
    rw (p.1, p.2) (fails {X = Op} {Y = ShortList Op} (λ o. (o, c.op.new.words)) short_items c.in_err-op.field-0.0 (short_items c.loop-word.ops) c.in-Some.word.now c.loop-word.words c.next.new.self c.in_ok-name.name _ c.in-Some.ensures (search rules) c.in_err-op.ensures c.loop-word.invariant)

pub returns : goal.returns
returns c = all_read (short_items c.loop-word.ops) c.loop-word.words _ c.in_default.ensures.0 c.loop-word.invariant
