-- Calls that are made one after another.
use Rattle.std.proofs.Common.{◌≡◌, ◌∙◌, ap, refl, sym, subst, inl, inr, append_assoc, ℕ, suc, ◌+◌, ◌<◌, length, get_or, take, drop, map, add-one}
use Rattle.std.proofs.lemmas.List.{append-nil, map-append, take_more, take-append-drop}
use Rattle.std.proofs.lemmas.Grind.{flat_map-append}
use Rattle.std.proofs.Math.Seq.{drop-cons}
use Rattle.std.specs.Prelude.{Bool, true, false, List, [], ◌∷◌, ◌++◌, Option, None, Some, Result, Ok, Err, is_ok, OnOk, OnErr, string_bytes}
use Rattle.std.specs.List.{flat_map}
use Rattle.sq_outputs.specs.declared.saving.NewFile.{NewFile}
use Rattle.sq_outputs.specs.Calls.{FileCall, Written, Renamed, Makes, MakesSome, writes_beside, takes_place, placed_for_good, removes_beside, replacing, LeavesAll, LeavesRest, GivesUp}

-- no call
pub made_none : (a : Option (List FileCall)) → Makes a a []
made_none None = tt
made_none (Some made) = sym (append-nil made)

-- some calls, and then others
pub made_both : (a b c : Option (List FileCall)) (xs ys : List FileCall) → Makes a b xs → Makes b c ys → Makes a c (xs ++ ys)
made_both None b c xs ys first then = tt
made_both (Some front) None c xs ys first then = absurd first
made_both (Some front) (Some middle) None xs ys first then = absurd then
made_both (Some front) (Some middle) (Some all) xs ys first then = then ∙ ap (λ (l : List FileCall). l ++ ys) first ∙ append_assoc front xs ys

-- the files up to one, and those from one on
pub one_more : (files : List NewFile) (at : ℕ) (file : NewFile) → at < length files → file ≡ get_or files at file → take (at + 1) files ≡ take at files ++ file ∷ []
one_more files at file within is = take_more files at file within ∙ ap (λ (x : NewFile). take at files ++ x ∷ []) (sym is)

pub from_one_on : (files : List NewFile) (at : ℕ) (file : NewFile) → at < length files → file ≡ get_or files at file → drop at files ≡ file ∷ drop (at + 1) files
from_one_on files at file within is = simp add-one (drop-cons files at file within ∙ ap (λ (x : NewFile). x ∷ drop (suc at) files) (sym is))

-- the files before one, that one, and those after it
pub split_at : (files : List NewFile) (at : ℕ) (file : NewFile) → at < length files → file ≡ get_or files at file → files ≡ take at files ++ file ∷ drop (at + 1) files
split_at files at file within is =
    sym (take-append-drop at files) ∙ ap (λ (l : List NewFile). take at files ++ l) (from_one_on files at file within is)

-- a call for each of the files before, and one for the next one
pub made_one_more : (f : NewFile → FileCall) (a b c : Option (List FileCall)) (files : List NewFile) (at : ℕ) (file : NewFile) → at < length files → file ≡ get_or files at file
    → Makes a b (map f (take at files)) → Makes b c (f file ∷ []) → Makes a c (map f (take (at + 1) files))
made_one_more f a b c files at file within is before now =
    subst (λ (l : List FileCall). Makes a c l)
    (sym (ap (λ (l : List NewFile). map f l) (one_more files at file within is) ∙ map-append f (take at files) (file ∷ [])))
    (made_both a b c _ _ before now)

-- some calls for each of the files before, and those for the next one
pub made_some_more : (f : NewFile → List FileCall) (a b c : Option (List FileCall)) (files : List NewFile) (at : ℕ) (file : NewFile) → at < length files → file ≡ get_or files at file
    → Makes a b (flat_map f (take at files)) → Makes b c (f file) → Makes a c (flat_map f (take (at + 1) files))
made_some_more f a b c files at file within is before now =
    let last : flat_map f (file ∷ []) ≡ f file = append-nil (f file) in
    subst (λ (l : List FileCall). Makes a c l)
    (sym (ap (λ (l : List NewFile). flat_map f l) (one_more files at file within is) ∙ flat_map-append f (take at files) (file ∷ []) ∙ ap (λ (l : List FileCall). flat_map f (take at files) ++ l) last))
    (made_both a b c _ _ before now)

-- the call that writes the text of a file beside it, with its outcome
pub wrote : {T E : Type 0} (r : Result T E) (done : Bool) (file : NewFile) (part : List ℕ) (a b : Option (List FileCall)) → part ≡ string_bytes file.part → is_ok r ≡ done
    → Makes a b (Written part file.name.now file.text.now (is_ok r) ∷ []) → Makes a b (writes_beside done file ∷ [])
wrote r done file part a b spelled is made =
    subst (λ (d : Bool). Makes a b (Written (string_bytes file.part) file.name.now file.text.now d ∷ [])) is
    (subst (λ (p : List ℕ). Makes a b (Written p file.name.now file.text.now (is_ok r) ∷ [])) spelled made)

-- the call by which the file beside a file takes its place, with its outcome
pub renamed : {T E : Type 0} (r : Result T E) (done : Bool) (file : NewFile) (part : List ℕ) (a b : Option (List FileCall)) → part ≡ string_bytes file.part → is_ok r ≡ done
    → Makes a b (Renamed part file.name.now (is_ok r) ∷ []) → Makes a b (takes_place done file ∷ [])
renamed r done file part a b spelled is made =
    subst (λ (d : Bool). Makes a b (Renamed (string_bytes file.part) file.name.now d ∷ [])) is
    (subst (λ (p : List ℕ). Makes a b (Renamed p file.name.now (is_ok r) ∷ [])) spelled made)

-- a text can't be written, and the files beside are removed
pub leaves_all : (a b c d : Option (List FileCall)) (files : List NewFile) (at : ℕ) (file : NewFile) → at < length files → file ≡ get_or files at file
    → Makes a b (map (writes_beside true) (take at files)) → Makes b c (writes_beside false file ∷ []) → Makes c d (map removes_beside (take (at + 1) files))
    → MakesSome (LeavesAll files) a d
leaves_all a b c d files at file within is before failed removed =
    let gone : Makes c d (map removes_beside (take at files ++ file ∷ [])) =
    subst (λ (l : List NewFile). Makes c d (map removes_beside l)) (one_more files at file within is) removed in (
      _,
      (take at files, drop (at + 1) files, file, split_at files at file within is, refl),
      made_both a b d _ _ before (made_both b c d _ _ failed gone),
    )

-- a file can't be replaced, and the files beside it and the later ones are removed
pub leaves_rest : (a b c d : Option (List FileCall)) (files : List NewFile) (at : ℕ) (file : NewFile) → at < length files → file ≡ get_or files at file
    → Makes a b (flat_map placed_for_good (take at files)) → Makes b c (takes_place false file ∷ []) → Makes c d (map removes_beside (drop at files))
    → MakesSome (LeavesRest files) a d
leaves_rest a b c d files at file within is before failed removed =
    let gone : Makes c d (map removes_beside (file ∷ drop (at + 1) files)) =
    subst (λ (l : List NewFile). Makes c d (map removes_beside l)) (from_one_on files at file within is) removed in (
      _,
      (take at files, drop (at + 1) files, file, split_at files at file within is, refl),
      made_both a b d _ _ before (made_both b c d _ _ failed gone),
    )

-- all texts are written, and then all files are replaced, or not all
pub saved_all : {T E : Type 0} (r : Result T E) (a b c : Option (List FileCall)) (files : List NewFile) → Makes a b (map (writes_beside true) files)
    → OnOk r (Makes b c (flat_map placed_for_good files)) → OnOk r (Makes a c (replacing files))
saved_all (Ok x) a b c files wrote placed = made_both a b c _ _ wrote placed
saved_all (Err x) a b c files wrote placed = tt

pub gave_up : {T E : Type 0} (r : Result T E) (a b c : Option (List FileCall)) (files : List NewFile) → Makes a b (map (writes_beside true) files)
    → OnErr r (MakesSome (LeavesRest files) b c) → OnErr r (MakesSome (GivesUp files) a c)
gave_up (Ok x) a b c files wrote left = tt
gave_up (Err x) a b c files wrote left =
    (_, inr (left.0, left.1, refl), made_both a b c _ left.0 wrote left.2)

-- a text can't be written
pub gave_up_writing : {T E : Type 0} (r : Result T E) (a b : Option (List FileCall)) (files : List NewFile) → MakesSome (LeavesAll files) a b → OnErr r (MakesSome (GivesUp files) a b)
gave_up_writing (Ok x) a b files left = tt
gave_up_writing (Err x) a b files left = (left.0, inl left.1, left.2)
