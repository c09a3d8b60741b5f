use Rattle.std.proofs.Common.{◌∙◌, sym, ap, true≢false, is_some, map, inl}
use Rattle.std.proofs.lemmas.Result.{err_from_is_err_and}
use Rattle.clap.specs.Matches.{found_of}
use Rattle.clap.specs.Walk.{rows_of}
use Rattle.sq_command.proofs.Subcommands.{met_own, is_met, own_name, met_is, without_fault, with_fault, settled_comes, settled_within}
use Rattle.sq_command.proofs.line.line_of.Goals as goal

pub unreachable-requires : goal.unreachable-requires
unreachable-requires g c =
    let met = met_own c.in_ok-command.field-0 (map g.S.AsStr.text c.args.words.now) c.in_ok-matches.matches c.in_ok-command.ensures c.in_ok-matches.ensures.kinds c.in_ok-matches.ensures.matches in
    true≢false (sym (ap is_some c.in_default.ensures.name ∙ is_met _ met))

pub asked-requires : goal.asked-requires
asked-requires g c =
    own_name c.in-Some.name.now _ c.in-Some.ensures.name
    (met_own c.in_ok-command.field-0 (map g.S.AsStr.text c.args.words.now) c.in_ok-matches.matches c.in_ok-command.ensures c.in_ok-matches.ensures.kinds c.in_ok-matches.ensures.matches)

pub returns-in_err-matches-clause-comes : goal.returns-in_err-matches-clause-comes
returns-in_err-matches-clause-comes g c =
    let p = err_from_is_err_and c.from_residual-in_err-matches.result c.from_residual-in_err-matches.ensures.1 in
    rw (p.1, p.2) (inl (with_fault c.in_ok-command.field-0 (map g.S.AsStr.text c.args.words.now) c.in_err-matches.field-0.0 c.in_ok-command.ensures c.in_err-matches.ensures.kinds))

pub returns-clause-comes : goal.returns-clause-comes
returns-clause-comes g c =
    let words = map g.S.AsStr.text c.args.words.now in
    let name = c.in-Some.name.now in
    let rows = rows_of (found_of c.in-Some.options.now) in
    settled_comes words name rows (without_fault c.in_ok-command.field-0 words c.in_ok-command.ensures c.in_ok-matches.ensures.kinds)
    (met_is c.in_ok-command.field-0 words c.in_ok-matches.matches name rows c.in_ok-command.ensures c.in_ok-matches.ensures.matches c.in-Some.ensures.name c.in-Some.ensures.rows)
    c.asked.result c.settle.result c.settle.ensures c.asked.ensures.line

pub returns-clause-within : goal.returns-clause-within
returns-clause-within g c = settled_within c.asked.result c.settle.result c.settle.ensures c.asked.ensures.within
