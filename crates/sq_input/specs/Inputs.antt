-- Inputs that are assembled from several texts.
use Rattle.std.specs.Prelude.{ℕ, Bool, true, ◌==◌, if◌then◌else◌, List, [], ◌∷◌, ◌++◌, map, codes, Option, Some, None}

-- a text on one line, with a space in place of each line end
abbrev pub on_one_line : List ℕ → List ℕ
on_one_line text = map (λ byte. if byte == 10 then 32 else byte) text

-- the first two lines of a header, from the texts of both plans
abbrev pub plan_lines : List ℕ → List ℕ → List ℕ
plan_lines old new = codes "old " ++ on_one_line old ++ codes "\nnew " ++ on_one_line new ++ 10 ∷ []

-- bytes, and a line end after them if their last line has none; `at_start` is whether they begin a
-- line
unfoldable pub ended : Bool → List ℕ → List ℕ
ended at_start [] = if at_start then [] else 10 ∷ []
ended at_start (byte ∷ bytes) = byte ∷ ended (byte == 10) bytes

-- bytes with others inserted after their first line; without them if that line has no end
unfoldable pub with_inserted : List ℕ → List ℕ → List ℕ
with_inserted others [] = []
with_inserted others (byte ∷ bytes) = byte ∷ (if byte == 10 then ended true others ++ bytes else with_inserted others bytes)

-- the same of what two readers read, if both are known
abbrev pub inserted_text : Option (List ℕ) → Option (List ℕ) → Option (List ℕ)
inserted_text None others = None
inserted_text (Some bytes) None = None
inserted_text (Some bytes) (Some others) = Some (with_inserted others bytes)
