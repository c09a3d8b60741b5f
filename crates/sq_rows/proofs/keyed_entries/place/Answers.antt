use Rattle.std.proofs.Common.{sym, ap, ◌∙◌, rules}
use Rattle.std.specs.Prelude.{option_copied}
use Rattle.std.proofs.lemmas.List.Sorted.{answers_always}
use Rattle.sq_rows.proofs.Places.{past_last, last_tied, searched}
use Rattle.sq_rows.proofs.keyed_entries.place.Goals as goal

pub returns-in-Less : goal.returns-in-Less
returns-in-Less g c =
    past_last g.K.Ord.cmp g.met.K.Ord.total c.args.list.now c.args.key c.in-Some.field-0.now (sym c.last.ensures.value ∙ ap option_copied c.in-Some.is) c.requires (sym c.cmp.ensures ∙ c.in-Less.is)

pub returns-in-Equal : goal.returns-in-Equal
returns-in-Equal g c =
    last_tied g.K.Ord.cmp g.met.K.Ord.total c.args.list.now c.args.key c.in-Some.field-0.now (sym c.last.ensures.value ∙ ap option_copied c.in-Some.is) c.requires (sym c.cmp.ensures ∙ c.in-Equal.is)

-- the closure gives an entry's key
pub returns : goal.returns
returns g c =
    let search_by_key = c.binary_search_by_key.ensures in
    searched g.K.Ord.cmp g.met.K.Ord.total c.args.list.now c.args.key c.binary_search_by_key.result c.requires search_by_key.bound (search_by_key.position (λ entry. entry.0) (answers_always _ _ _ (λ f a r h called. search rules)))
