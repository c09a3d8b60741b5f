use Rattle.std.proofs.Common.{◌==◌, ap, ◌∙◌, option_map, rules, tests}
use Rattle.std.specs.Prelude.{find}
use Rattle.std.proofs.lemmas.Iterator.{YieldsList-from_slice}
use Rattle.std.proofs.lemmas.Iterator.Search.{find_from_yields_List}
use Rattle.sq_explain.proofs.Lookups.{found_alike}
use Rattle.sq_explain.proofs.telling.entry.Goals as goal

pub returns-clause-means : goal.returns-clause-means
returns-clause-means c =
    let items = c.entries.result.now in
    let road = YieldsList-from_slice items cc in
    let found = find_from_yields_List (λ entry. entry.number == c.args.number) _ _ c.find-found.result c.find-found.ensures.ran road (λ x b q k. search (rules, tests)) in
    ap (option_map (λ entry. entry.meaning.now)) (c.copied.ensures ∙ found) ∙ found_alike c.args.number items
    ∙ ap (λ rows. option_map (λ row. row.1) (find (λ row. row.0 == c.args.number) rows)) c.entries.ensures
