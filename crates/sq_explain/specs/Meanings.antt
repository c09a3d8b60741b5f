-- The meanings of the numbers that a user sees, and their texts.
use Rattle.std.specs.Prelude.{◌≡◌, ◌==◌, ℕ, Bool, true, false, List, ◌∷◌, ◌++◌, [], Option, Some, None, find, map, option_map, decimal, codes}
use Rattle.std.specs.List.{flat_map}
use Rattle.std.specs.Io.KnownBytes.{Appends}
use Rattle.sq_explain.specs.declared.table.Entry.{Entry}

-- each number, with its meaning
abbrev pub meanings : List (ℕ × List ℕ)
meanings =
    (101, codes "a plan isn't JSON")
    ∷ (102, codes "a plan isn't an object with a version, a number of partitions, ranges of three whole numbers each and, in version 2, a text for its stages")
    ∷ (103, codes "a plan's version isn't 1 or 2")
    ∷ (104, codes "a plan's partitions aren't from 1 to 16, or in version 2 to 64")
    ∷ (105, codes "a plan's ranges don't follow one another from 0 to 4294967296, each nonempty")
    ∷ (106, codes "a plan gives a range to a partition that it doesn't have")
    ∷ (107, codes "a plan has more than 256 ranges")
    ∷ (108, codes "a plan's stages are neither \"one\" nor \"auto\"")
    ∷ (111, codes "the old and the new plan have different numbers of partitions")
    ∷ (112, codes "the width of a leaf isn't from 1 to 65536")
    ∷ (113, codes "the move would have more than 256 segments, or 1024 where the new plan is of version 2: wider leaves may make fewer")
    ∷ (114, codes "the limit of a chunk isn't from 64 to 1048576")
    ∷ (115, codes "the capacity of a link isn't from 1 to 64")
    ∷ (121, codes "a line of the header is missing or isn't of its form: 'old PLAN', 'new PLAN', 'config W L C' and lines 'row ROOT T S N NOTE', in this order, each ended by a line feed alone")
    ∷ (122, codes "the input is too long, or a line of it has no end")
    ∷ (123, codes "the input can't be read")
    ∷ (124, codes "the output can't be written")
    ∷ (125, codes "there are more than 4096 jobs")
    ∷ (126, codes "a line behind the header is no transaction")
    ∷ (127, codes "a job has the id of one before it")
    ∷ (131, codes "a transaction has no operation, or more than 64")
    ∷ (132, codes "a root key isn't below 4294967296")
    ∷ (133, codes "a table isn't in the schema")
    ∷ (134, codes "a row of table 0 has another sub key than 0")
    ∷ (135, codes "a note has more than 255 bytes")
    ∷ (136, codes "a row is given twice")
    ∷ (137, codes "a row is given before its root row")
    ∷ (201, codes "the move isn't under way")
    ∷ (202, codes "there is no such segment")
    ∷ (203, codes "a node isn't one of 1 to 63")
    ∷ (204, codes "the node isn't free")
    ∷ (205, codes "the node's parent isn't split")
    ∷ (206, codes "a leaf isn't split")
    ∷ (207, codes "the node isn't claimed")
    ∷ (208, codes "another pull has the node")
    ∷ (209, codes "the source has no work for this link")
    ∷ (210, codes "the chunk that was cut before still waits to go onto the link")
    ∷ (211, codes "no chunk waits to go onto the link")
    ∷ (212, codes "the link holds as many chunks as it can")
    ∷ (213, codes "the link holds no chunk")
    ∷ (214, codes "the chunk that came before still waits to be loaded")
    ∷ (215, codes "no chunk waits to be loaded")
    ∷ (216, codes "the node's last chunk isn't loaded")
    ∷ (217, codes "the move was started before")
    ∷ (218, codes "something of the move, or a report of it, is missing")
    ∷ (219, codes "there is no such partition")
    ∷ (220, codes "as many transactions wait at the partition as can")
    ∷ (221, codes "the log of a root key holds 4096 transactions")
    ∷ (222, codes "memory allocation failed")
    ∷ (223, codes "the rows of all waiting transactions are on their way")
    ∷ (224, codes "no range goes from the one partition to the other")
    ∷ (225, codes "no stage comes after the running one")
    ∷ (227, codes "the node isn't partial")
    ∷ (228, codes "a partition isn't prepared")
    ∷ (230, codes "a line is of no step's form")
    ∷ (231, codes "a line has more than 65536 bytes")
    ∷ (301, codes "a root key with opening rows has no family")
    ∷ (302, codes "a root key has a family at two places")
    ∷ (303, codes "a family doesn't start from the opening rows of its root key")
    ∷ (304, codes "a family isn't where it belongs, or notes, statuses and chunks don't fit one another")
    ∷ (305, codes "a receipt isn't what its job had to be answered, or a log position isn't named by one receipt")
    ∷ (306, codes "a job has no receipt, or more than one")
    ∷ []

-- the meaning of this number
abbrev pub meaning_of : ℕ → Option (List ℕ)
meaning_of number = option_map (λ row. row.1) (find (λ row. row.0 == number) meanings)

-- three lines: the number and its meaning, what it is returned for, and what to do
unfoldable pub entry_lines : Entry → List ℕ
entry_lines entry =
    decimal entry.number ++ 32 ∷ entry.meaning.now ++ codes "\n    " ++ entry.given.now ++ codes "\n    " ++ entry.advice.now ++ 10 ∷ []

-- the entries of all numbers are written
pub record TellsAll (before now : Option (List ℕ)) : Type 0 where
  pub entries : List Entry
  pub are : map (λ entry. (entry.number, entry.meaning.now)) entries ≡ meanings
  pub written : Appends before now (flat_map entry_lines entries)

-- the entry of this number is written
pub record TellsOne (number : ℕ) (before now : Option (List ℕ)) : Type 0 where
  pub entry : Entry
  pub is : entry.number ≡ number
  pub means : meaning_of number ≡ Some entry.meaning.now
  pub written : Appends before now (entry_lines entry)

-- nothing is written for this number, which has no entry
pub record TellsNothing (number : ℕ) (before now : Option (List ℕ)) : Type 0 where
  pub unknown : meaning_of number ≡ None
  pub written : Appends before now []

-- the entry of this number is written, or without a number all entries; `told` is false if there is
-- no entry
abbrev pub Explains : Option ℕ → Option (List ℕ) → Option (List ℕ) → Bool → Type 0
Explains None before now told = TellsAll before now × (told ≡ true)
Explains (Some number) before now true = TellsOne number before now
Explains (Some number) before now false = TellsNothing number before now
