-- What a writer got of segments, one after another.
use Rattle.std.proofs.Common.{◌≡◌, ℕ, ◌+◌, ◌<◌, List, [], ◌∷◌, ◌++◌, length, get_or, take, Option, sym, ap, ◌∙◌, append_assoc, arith}
use Rattle.std.proofs.lemmas.List.{append-nil, take_more, length-take-le}
use Rattle.std.specs.Io.KnownBytes.{Appends}
use Rattle.sq_moves.specs.declared.recon.Range.{Range}
use Rattle.sq_moves.specs.ReconValue.{ReconValue}
use Rattle.sq_text.specs.Texts.{told_stage, segment_line, segment_lines}
use Rattle.sq_text.proofs.Appending.{both}

-- segments, and then more, with the numbers behind theirs
lines_behind : (recon : ReconValue) (first : ℕ) (xs ys : List Range) → segment_lines recon first (xs ++ ys) ≡ segment_lines recon first xs ++ segment_lines recon (first + length xs) ys
lines_behind recon first [] ys = let same : first ≡ first + 0 = omega arith in ap (λ (n : ℕ). segment_lines recon n ys) same
lines_behind recon first (x ∷ xs) ys =
    let same : first + 1 + length xs ≡ first + length (x ∷ xs) = omega arith in
    let own : List ℕ = segment_line first x (told_stage recon x) in
    ap (λ (t : List ℕ). own ++ t) (lines_behind recon (first + 1) xs ys ∙ ap (λ (n : ℕ). segment_lines recon (first + 1) xs ++ segment_lines recon n ys) same)
    ∙ sym (append_assoc own (segment_lines recon (first + 1) xs) (segment_lines recon (first + length (x ∷ xs)) ys))

-- one more segment, after the lines of those before it
pub segments_next : (recon : ReconValue) (xs : List Range) (i : ℕ) (x : Range) (stage : Option ℕ) (a b c : Option (List ℕ)) → i < length xs → x ≡ get_or xs i x → stage ≡ told_stage recon x → Appends a b (segment_lines recon 0 (take i xs)) → Appends b c (segment_line i x stage)
    → Appends a c (segment_lines recon 0 (take (i + 1) xs))
segments_next recon xs i x stage a b c within is told before here =
    let count : 0 + length (take i xs) ≡ i = omega (arith, length-take-le i xs (omega (arith, within))) in
    let own : List ℕ = segment_line i x (told_stage recon x) in
    both a b c (segment_lines recon 0 (take i xs)) own (segment_lines recon 0 (take (i + 1) xs)) before (rw told at here)
    (rw (take_more xs i x within, ← is, lines_behind recon 0 (take i xs) (x ∷ []), count) (ap (λ (t : List ℕ). segment_lines recon 0 (take i xs) ++ t) (sym (append-nil own))))
