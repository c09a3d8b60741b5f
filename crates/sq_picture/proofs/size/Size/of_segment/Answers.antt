-- The segment's families are those of its root keys.
use Rattle.std.proofs.Common.{◌≡◌, ◌<◌, ◌≤◌, ℕ, [], ap, ◌∙◌, sym, ⊎_elim}
use Rattle.std.proofs.lemmas.Bool.{cases_lt}
use Rattle.sq_schema.specs.declared.root.TheConstants.{ROOT_END}
use Rattle.sq_schema.specs.Table.{TableValue}
use Rattle.sq_moves.specs.declared.opening.Config.{Config}
use Rattle.sq_picture.specs.Sizes.{entries_size, size_in_64_bits}
use Rattle.sq_picture.proofs.Weighing.{below, from_on, none_from}
use Rattle.sq_picture.proofs.size.Size.of_segment.Goals as goal

pub returns-in-Some : goal.returns-in-Some
returns-in-Some c =
    let o = c.args.opening.now in
    let entries : c.iter_from.result ≡ from_on c.args.segment.lo o.table =
    c.iter_from.ensures ∙ ap (λ (n : ℕ). from_on n c.table.result.now) c.in-Some.ensures.1 ∙ ap (from_on c.args.segment.lo) c.table.ensures.table in
    c.size_below.ensures
    ∙ ap (λ (t : TableValue). size_in_64_bits (entries_size c.config-limit.result.limit (below c.args.segment.hi t))) entries
    ∙ ap (λ (config : Config). size_in_64_bits (entries_size config.limit (below c.args.segment.hi (from_on c.args.segment.lo o.table)))) c.config-limit.ensures.config

pub returns-in-None : goal.returns-in-None
returns-in-None c =
    let o = c.args.opening.now in
    let past : ROOT_END ≤ c.args.segment.lo = ⊎_elim (λ (low : c.args.segment.lo < ROOT_END). absurd (c.in-None.ensures low)) (λ (high : ROOT_END ≤ c.args.segment.lo). high) (cases_lt c.args.segment.lo ROOT_END) in
    c.no_families.ensures
    ∙ ap (λ (config : Config). size_in_64_bits (entries_size config.limit [])) c.config-limit.ensures.config
    ∙ ap (λ (t : TableValue). size_in_64_bits (entries_size o.config.limit (below c.args.segment.hi t))) (sym (none_from c.args.segment.lo o.table c.config-limit.ensures.set_up.roots past))
