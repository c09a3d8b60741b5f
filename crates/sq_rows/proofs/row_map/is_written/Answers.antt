use Rattle.std.proofs.Common.{◌≡◌, Option, Some, None, is_some, ap, refl, ◌∙◌, rules, tests}
use Rattle.std.specs.Option.{option_map}
use Rattle.std.proofs.lemmas.Iterator.Search.{find_from_yields_List}
use Rattle.std.proofs.lemmas.Iterator.Adapters.{YieldsList-from_rev_slice}
use Rattle.sq_rows.proofs.Latest.{is_key}
use Rattle.sq_rows.proofs.row_map.is_written.Goals as goal

is_some-map : {A B : Type 0} (f : A → B) (found : Option A) → is_some found ≡ is_some (option_map f found)
is_some-map f None = refl
is_some-map f (Some x) = refl

pub returns : goal.returns
returns c =
    let road = YieldsList-from_rev_slice c.args.writes.now cc in
    let found = find_from_yields_List (λ write. is_key write.0 c.args.key) _ _ c.find.result c.find.ensures.ran road (λ x b q k. search (rules, tests)) in
    c.is_some.ensures ∙ is_some-map (λ write. write.now) c.find.result ∙ ap is_some found
