-- Lists that mostly have one item, however they are stored.
use Rattle.std.specs.Prelude.{List, [], ◌∷◌}
use Rattle.sq_rows.specs.declared.short_list.ShortList.{ShortList}
use Rattle.sq_rows.specs.declared.short_list.ShortList.TheVariants.{One, Many}

abbrev pub short_items : {T : Type 0} → ShortList T → List T
short_items (One item) = item ∷ []
short_items (Many items) = items.items

-- one item is kept without memory of its own
abbrev pub IsSingle : {T : Type 0} → ShortList T → Type 0
IsSingle (One item) = Unit {0}
IsSingle (Many items) = ⊥
