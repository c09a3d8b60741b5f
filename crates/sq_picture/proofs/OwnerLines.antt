-- What a writer got of the line of a root key.
use Rattle.std.proofs.Common.{◌≡◌, ℕ, Bool, List, [], ◌∷◌, ◌++◌, Option, subst}
use Rattle.std.specs.Prelude.{Result, OnOk}
use Rattle.std.specs.Io.KnownBytes.{Appends}
use Rattle.std.proofs.KnownBytes.{Appends-trans}
use Rattle.std.proofs.lemmas.Result.{on_ok_weaker}
use Rattle.sq_moves.specs.OpeningValue.{OpeningValue}
use Rattle.sq_moves.specs.ReconValue.{ReconValue}
use Rattle.sq_picture.specs.Owners.{range_with, key_range_text, told_leaf, leaf_text, key_owners_text, owner_line}

-- the owners, the range, the leaf that was looked up, and the end of the line
pub owner_written : {T E : Type 0} (r : Result T E) (tells_leaf : Bool) (o : OpeningValue) (key : ℕ) (recon : ReconValue) (place : Option (ℕ × ℕ)) (a b c d e : Option (List ℕ)) → recon ≡ o.recon → place ≡ told_leaf tells_leaf o.recon key
    → Appends a b (key_owners_text o key) → Appends b c (key_range_text recon (range_with recon key)) → Appends c d (leaf_text place) → OnOk r (Appends d e (10 ∷ [])) → OnOk r (Appends a e (owner_line tells_leaf o key))
owner_written r tells_leaf o key recon place a b c d e is told owners range leaf end =
    let range_is : Appends b c (key_range_text o.recon (range_with o.recon key)) = subst (λ (m : ReconValue). Appends b c (key_range_text m (range_with m key))) is range in
    let leaf_is : Appends c d (leaf_text (told_leaf tells_leaf o.recon key)) = subst (λ (p : Option (ℕ × ℕ)). Appends c d (leaf_text p)) told leaf in
    on_ok_weaker r
    (λ ended. Appends-trans a b e (key_owners_text o key) (key_range_text o.recon (range_with o.recon key) ++ (leaf_text (told_leaf tells_leaf o.recon key) ++ 10 ∷ [])) owners
    (Appends-trans b c e (key_range_text o.recon (range_with o.recon key)) (leaf_text (told_leaf tells_leaf o.recon key) ++ 10 ∷ []) range_is
    (Appends-trans c d e (leaf_text (told_leaf tells_leaf o.recon key)) (10 ∷ []) leaf_is ended)))
    end
