-- What was read so far, and what is read after it.
use Rattle.std.proofs.Common.{◌≡◌, List, [], ◌∷◌, ◌++◌, Option, Some, None, refl, ap, append_assoc}
use Rattle.sq_text.specs.Words.{◌>>=◌}

-- what was read, and then these
abbrev pub onto : {A : Type 0} → List A → Option (List A) → Option (List A)
onto front None = None
onto front (Some xs) = Some (front ++ xs)

pub onto_more : {A : Type 0} (front : List A) (x : A) (read : Option (List A)) → onto (front ++ x ∷ []) read ≡ onto front (read >>= λ xs. Some (x ∷ xs))
onto_more front x None = refl
onto_more front x (Some xs) = ap Some (append_assoc front (x ∷ []) xs)
