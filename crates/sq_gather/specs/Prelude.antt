-- Re-exports the definitions of lower crates that callers cite of what was gathered. It declares
-- nothing.
pub use Rattle.sq_store.specs.ChunkValue.{ChunkValue, are_within, covers}
pub use Rattle.sq_store.specs.declared.chunk.Note.{Note}
pub use Rattle.sq_model.specs.Links.{end_of_note, is_about, is_on_link}
pub use Rattle.sq_model.specs.Orderly.{GoesOn}
pub use Rattle.sq_model.specs.Place.{At, Place, Under_way, destination, extent_of, is_within, loaded_place, place_from, source}
pub use Rattle.sq_model.specs.Prelude.{AreDisjoint, AreNumbered, Tiles, extent_in, goes, has_last, owner_in}
pub use Rattle.sq_model.specs.Tables.{opening_rows}
pub use Rattle.sq_node_model.specs.BeganWith.{is_opened}
pub use Rattle.sq_node_model.specs.FamiliesHold.{IsOf}
pub use Rattle.sq_node_model.specs.Folded.{IsFolded, folded_family}
pub use Rattle.sq_node_model.specs.Gathered.{GatheredLink, HasEachLink}
pub use Rattle.sq_node_model.specs.Placed.{AllStand, AreAborted, AreTold, HasNone, KeepBases, NameEach, StandOnce}
pub use Rattle.sq_node_model.specs.Prelude.{AllGrown, FitTogether, GatheredValue, HasEachPart, IsLinkNote, IsLinkPlaced, IsPlaced, IsStageDone, IsStageOver, ReceiptValue, cut_notes, folded_gathered, folded_opening, is_commit, loaded_count, loads_of}
pub use Rattle.sq_node_model.specs.Receipts.{names, times_named}
pub use Rattle.sq_node_model.specs.Spots.{IsSpotOf, StandsAt, chunk_in, family_at_spot, gathered_place, gathered_status, loaded_notes}
pub use Rattle.sq_node_model.specs.Stages.{cut_place_in, is_link_in, runs_in}
pub use Rattle.sq_node_model.specs.declared.spot.Spot.{Spot}
pub use Rattle.sq_node_model.specs.declared.spot.Spot.TheVariants.{Chunk, Store}
pub use Rattle.sq_plan.specs.PlanValue.{PlanValue, owner}
pub use Rattle.sq_moves.specs.Moves.{IsMovingRun}
pub use Rattle.sq_moves.specs.Prelude.{IsOpening, IsSetUp, OpeningValue, stages}
pub use Rattle.sq_moves.specs.ReconValue.{AreLinks, ReconValue, is_link, segment_of, segments_of, stage_on}
pub use Rattle.sq_moves.specs.declared.opening_fault.OpeningFault.{OpeningFault}
pub use Rattle.sq_moves.specs.declared.recon.Extent.{Extent}
pub use Rattle.sq_moves.specs.declared.recon.Link.{Link}
pub use Rattle.sq_moves.specs.declared.recon.Range.{Range}
pub use Rattle.sq_schema.specs.Effect.{RowList, RowTable, effect, replay_rows, reply}
pub use Rattle.sq_schema.specs.Family.{logged, rows_of}
pub use Rattle.sq_schema.specs.Prelude.{FamilyValue, rows_in}
pub use Rattle.sq_schema.specs.Table.{TableValue, is_opening}
pub use Rattle.sq_schema.specs.TxnValue.{TxnValue}
pub use Rattle.sq_schema.specs.declared.root.TheConstants.{ROOT_END}
pub use Rattle.sq_shared.specs.View.{one_if}
pub use Rattle.sq_store.specs.First.{IsFirst}
pub use Rattle.sq_store.specs.InOrder.{AreKeyed}
pub use Rattle.sq_store.specs.Listed.{roots_rise}
pub use Rattle.sq_store.specs.Prelude.{HoldsByRoot, families_in, family_from, family_in, folded_store}
pub use Rattle.sq_store.specs.StoreValue.{StoreValue, absent, fold_of, has_none_of, roots_differ, with_families}
pub use Rattle.sq_moves.specs.Node.{is_leaf}
pub use Rattle.sq_moves.specs.Prelude.{IsGrown, is_begun, is_live, is_node, status_at}
pub use Rattle.sq_moves.specs.Status.{is_complete, is_free, is_split}
pub use Rattle.sq_moves.specs.declared.status.Status.{Status}
pub use Rattle.sq_moves.specs.declared.status.Status.TheVariants.{Free}
