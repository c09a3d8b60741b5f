-- The words of this crate that contracts of other crates cite, passed on from one place. Declares
-- nothing.
pub use Rattle.sq_store.specs.StoreValue.{StoreValue, log_length, families_between, without_between, with_families, folded_store, family_in, has_none_of}
pub use Rattle.sq_store.specs.Codes.{store_coded}
pub use Rattle.sq_store.specs.InOrder.{families_in, family_from, HoldsByRoot}
pub use Rattle.sq_store.specs.First.{FirstIs}
