-- The lemmas of the crates below that callers cite of what was gathered, passed on from one place. Declares nothing.
pub use Rattle.sq_model.proofs.Apart.{cover_once, covers_bounds, covers_extent}
pub use Rattle.sq_model.proofs.Keys.{found_in_segment, linked, unfound_stays}
pub use Rattle.sq_model.proofs.Lists.{Contains-cases, Contains-filter, Contains-first, Contains-later, Contains-nothing, Contains-slice_get, any_in, filter-first, filter-other, flat_map_in, found_in, kept_in, list_any-Contains, map_in, not_found, slice_get-Contains}
pub use Rattle.sq_model.proofs.Tiles.{about_is, tile}
pub use Rattle.sq_node_model.proofs.Aborts.{aborted_keeps}
pub use Rattle.sq_node_model.proofs.Carried.{carried_covered}
pub use Rattle.sq_node_model.proofs.Folded.{done_folded, fit_folded, folded_done, folded_placed, rowless_opening}
pub use Rattle.sq_node_model.proofs.Keys.{one_segment}
pub use Rattle.sq_node_model.proofs.Lists.{Contains-flat_map, at_map, at_reverse, map_at, none_found, same_from_end, some_found, stands_at}
pub use Rattle.sq_node_model.proofs.Members.{Contains-map, Contains-reverse, Contains-unreversed}
pub use Rattle.sq_node_model.proofs.Next.{stands_fit, stands_next}
pub use Rattle.sq_node_model.proofs.Staged.{key_stage, moved_source, source_below, staying_source, unmoved_source}
pub use Rattle.sq_node_model.proofs.Stands.{of_some}
pub use Rattle.sq_node_model.proofs.Trees.{begun_apart}
pub use Rattle.sq_moves.proofs.Stages.{stage_below}
pub use Rattle.sq_schema.proofs.Equal.{reply_same, rows_same, txn_same}
pub use Rattle.sq_store.proofs.Between.{family_in-entries, sorted_is}
pub use Rattle.sq_store.proofs.Firsts.{first_is, first_none, none_between, rising_in}
pub use Rattle.sq_store.proofs.Folds.{get-folded}
pub use Rattle.sq_store.proofs.Given.{FirstDiffers, first_differs, get-with_new, names, or_false}
pub use Rattle.sq_store.proofs.Order.{cmp_less, first_rises, is_below, less_from_cmp, rising_differ}
pub use Rattle.sq_store.proofs.Rising.{rises}
pub use Rattle.sq_moves.proofs.Grown.{grown-free}
