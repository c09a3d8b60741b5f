-- Texts of a reconfiguration.
use Rattle.std.proofs.Common.{◌≡◌, ℕ, List, [], ◌∷◌, ◌++◌, Option, refl}
use Rattle.std.specs.Prelude.{Some}
use Rattle.std.proofs.KnownBytes.{Appends-nil}
use Rattle.std.specs.Io.KnownBytes.{Appends}
use Rattle.serde_json.specs.Read.{read}
use Rattle.serde_json.specs.Written.{compact_text}
use Rattle.sq_moves.specs.ReconValue.{ReconValue}
use Rattle.sq_world.specs.declared.telling.Told.TheVariants.{Written, NoMemory}
use Rattle.sq_world.specs.Listing.{IsTold}
use Rattle.sq_picture.specs.Json.{moves_data, TellsAsJson}

-- nothing was written
pub not_told : (tells : ReconValue → List ℕ → Type 0) (recon : ReconValue) (a : Option (List ℕ)) → IsTold tells recon a a NoMemory
not_told tells recon a = Appends-nil a

-- a line of JSON was written
pub told_as_json : (recon : ReconValue) (text : List ℕ) (a b : Option (List ℕ)) → text ≡ compact_text (moves_data recon) → read text ≡ Some (moves_data recon) → Appends a b (text ++ 10 ∷ []) → IsTold TellsAsJson recon a b Written
told_as_json recon text a b compact back wrote = (text ++ 10 ∷ [], wrote, (text, record { compact = compact; reads_back = back }, refl))
