-- What is done with files, by their names.
use Rattle.std.specs.Prelude.{◌≡◌, ◌⊎◌, Bool, true, false, ℕ, List, [], ◌∷◌, ◌++◌, map, codes, Option, None, Some, ⊤, string_bytes}
use Rattle.std.specs.List.{flat_map}
use Rattle.sq_outputs.specs.declared.saving.NewFile.{NewFile}

-- a call on files, and whether it succeeded
pub data FileCall : Type 0 where
  -- a text replaces the content of the file with this name, and is put onto the disk; the file has
  -- the mode of the file `like`
  Written : (name like text : List ℕ) (done : Bool) → FileCall
  -- the file `from` replaces the file `to`
  Renamed : (from to : List ℕ) (done : Bool) → FileCall
  -- the names in the folder of this file are put onto the disk, if the system can do that
  FolderSynced : (name : List ℕ) → FileCall
  -- the file with this name is removed, if it can be
  Removed : (name : List ℕ) → FileCall

-- the calls that were made so far grow by these, if they are known
abbrev pub Makes : Option (List FileCall) → Option (List FileCall) → List FileCall → Type 0
Makes None new made = ⊤
Makes (Some before) None made = ⊥
Makes (Some before) (Some now) made = now ≡ before ++ made

-- the name of the part file for a file
abbrev pub part_of : List ℕ → List ℕ
part_of name = name ++ codes ".squall-part"

-- the text of a file is written into its part file, or can't be
abbrev pub writes_beside : Bool → NewFile → FileCall
writes_beside done file = Written (string_bytes file.part) file.name.now file.text.now done

-- the part file replaces the file, or can't
abbrev pub takes_place : Bool → NewFile → FileCall
takes_place done file = Renamed (string_bytes file.part) file.name.now done

-- the part file has replaced the file for good
abbrev pub placed_for_good : NewFile → List FileCall
placed_for_good file = takes_place true file ∷ FolderSynced file.name.now ∷ []

-- the part file is removed
abbrev pub removes_beside : NewFile → FileCall
removes_beside file = Removed (string_bytes file.part)

-- each text is on the disk before the first file is replaced
abbrev pub replacing : List NewFile → List FileCall
replacing files = map (writes_beside true) files ++ flat_map placed_for_good files

-- a text can't be written: no file is replaced, and the part files are removed
abbrev pub LeavesAll : List NewFile → List FileCall → Type 0
LeavesAll files made =
    (front rest : List NewFile) × (file : NewFile) × (files ≡ front ++ file ∷ rest)
    × (made ≡ map (writes_beside true) front ++ writes_beside false file ∷ map removes_beside (front ++ file ∷ []))

-- a file can't be replaced: those before it are, none after it is, and the part files that are left
-- are removed
abbrev pub LeavesRest : List NewFile → List FileCall → Type 0
LeavesRest files made =
    (front rest : List NewFile) × (file : NewFile) × (files ≡ front ++ file ∷ rest)
    × (made ≡ flat_map placed_for_good front ++ takes_place false file ∷ map removes_beside (file ∷ rest))

-- a text can't be written; or all are, and then a file can't be replaced
abbrev pub GivesUp : List NewFile → List FileCall → Type 0
GivesUp files made =
    LeavesAll files made
    ⊎ ((placing : List FileCall) × LeavesRest files placing × (made ≡ map (writes_beside true) files ++ placing))

-- the call makes some file calls that satisfy `Holds`
abbrev pub MakesSome : (List FileCall → Type 0) → Option (List FileCall) → Option (List FileCall) → Type 0
MakesSome Holds before now = (made : List FileCall) × Holds made × Makes before now made
