use Rattle.std.proofs.Common.{◌≡◌, ◌<◌, length, refl, sym, ap, ◌∙◌, rules}
use Rattle.std.proofs.lemmas.List.{get_or_read_under}
use Rattle.sq_schema.specs.Family.{FamilyValue}
use Rattle.sq_store.proofs.Searches.{family_at}
use Rattle.sq_store.proofs.search.at_place.Goals as goal

pub returns-then-eq : goal.returns-then-eq
returns-then-eq c =
    let items = c.families-families.result.now in
    let own : c.index-families-at.result.root ≡ c.args.root = search rules in
    let within : c.in_ok-at.at < length items = search rules in
    family_at c.args.runs.now c.args.root c.args.near.run c.in_ok-at.at items c.requires (search rules) c.families-families.ensures
    (record {
      within = within;
      here = λ d. sym (ap (λ (f : FamilyValue). f.root) (get_or_read_under items c.in_ok-at.at (length items) c.index-families-at.result d c.index-families-at.is within refl)) ∙ own;
    })
