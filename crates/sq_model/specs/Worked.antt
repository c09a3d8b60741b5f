-- Worked examples: the answers to steps from one opening.
use Rattle.std.specs.Prelude.{ℕ, ℤ, pos, true, false, ◌==◌, List, [], ◌∷◌, ◌++◌, Some, None}
use Rattle.sq_schema.specs.declared.txn.Op.TheVariants as op
use Rattle.sq_schema.specs.declared.txn.OpAnswer.TheVariants as op_answer
use Rattle.sq_schema.specs.declared.txn.Reply.{Reply}
use Rattle.sq_schema.specs.declared.txn.Reply.TheVariants.{Committed}
use Rattle.sq_schema.specs.Effect.{RowList, root_key}
use Rattle.sq_schema.specs.TxnValue.{TxnValue}
use Rattle.sq_schema.specs.Table.{TableValue}
use Rattle.sq_schema.specs.declared.root.TheConstants.{ROOT_END}
use Rattle.sq_moves.specs.declared.status.Status.TheVariants as status
use Rattle.sq_moves.specs.declared.status.Reading.TheVariants as reads
use Rattle.sq_store.specs.declared.chunk.Note.{Note}
use Rattle.sq_plan.specs.declared.version.Version.TheVariants.{First}
use Rattle.sq_moves.specs.declared.recon.Range.{Range}
use Rattle.sq_moves.specs.OpeningValue.{OpeningValue}
use Rattle.sq_model.specs.declared.step.Step.{Step}
use Rattle.sq_model.specs.declared.step.Step.TheVariants.{Prepare, Start, Submit, Resume, Split, Claim, Begin, Cut, Push, Pop, Load, Complete, Report, Finish, Fold, Status}
use Rattle.sq_model.specs.declared.answer.Answer.{Answer}
use Rattle.sq_model.specs.declared.answer.Answer.TheVariants.{Done, Replied, Moved, Waits, Resumed, WasCut, WasLoaded, Reads, Refused}
use Rattle.sq_model.specs.declared.answer.Refusal.TheVariants.{NotMoving, NoSuchSegment, NoSuchNode, NotFree, NotLive, IsLeaf, NotClaimed, WrongPull, NothingToCut, OutboxFull, OutboxEmpty, LinkFull, LinkEmpty, InboxEmpty, NotLoaded, AlreadyMoving, NotFinished, NoSuchPartition, NoneReady, NoSuchLink, NotPartial, NotPrepared}
use Rattle.sq_moves.specs.declared.opening.TheConstants.{LOG_LIMIT}

-- one root row with a note, which enlarges its family
abbrev pub noted_row : ℤ → List ℕ → RowList
noted_row number note = (root_key, record { number = number; note = note }) ∷ []

-- a root row with this number and no note
abbrev pub row : ℤ → RowList
row number = noted_row number []

-- partition 0 owns all keys, and the keys 4 to 7 move to partition 1, in leaves of one key
abbrev pub four_keys : ℕ → ℕ → TableValue → OpeningValue
four_keys limit capacity table =
    let moving : List Range = record { lo = 4; hi = 8; src = 0; dst = 1 } ∷ [] in
    record {
      tables = 8;
      old = record { version = First; parts = 2; ranges = record { lo = 0; hi = ROOT_END; owner = 0 } ∷ [] };
      new = record {
        version = First;
        parts = 2;
        ranges = record { lo = 0; hi = 4; owner = 0 } ∷ record { lo = 4; hi = 8; owner = 1 }
            ∷ record { lo = 8; hi = ROOT_END; owner = 0 } ∷ [];
      };
      recon = record { width = 1; ranges = moving; segments = moving; auto = false };
      config = record { width = 1; limit = limit; capacity = capacity; log_limit = LOG_LIMIT };
      table = table;
    }

-- the opening with the one row 5 of number 10
abbrev pub one_row : OpeningValue
one_row = four_keys 64 1 ((5, row (pos 10)) ∷ [])

-- both partitions prepare, and the move starts
abbrev pub begun : List Step
begun = Prepare 0 ∷ Prepare 1 ∷ Start ∷ []

abbrev pub begun_answers : List Answer
begun_answers = Done ∷ Done ∷ Done ∷ []

-- a transaction that gets the root row
abbrev pub get_row : ℕ → ℕ → TxnValue
get_row id root = record { id = id; root = root; ops = op.Get root_key ∷ [] }

-- a transaction that adds to the root row
abbrev pub add_one : ℕ → ℕ → TxnValue
add_one id root = record { id = id; root = root; ops = op.Add root_key (pos 1) ∷ [] }

-- the reply to getting a row with this number and no note
abbrev pub found : ℤ → Reply
found number = Committed (op_answer.Found (Some (record { number = number; note = [] })) ∷ [])

abbrev pub got : ℕ → ℤ → Answer
got id number = Replied id (found number)

abbrev pub got_none : ℕ → Answer
got_none id = Replied id (Committed (op_answer.Found None ∷ []))

-- a note of segment 0, from partition 0 to partition 1
abbrev pub noted : ℕ → ℕ → ℕ → ℕ → Note
noted number node lo hi = record { src = 0; dst = 1; number = number; seg = 0; node = node; lo = lo; hi = hi; last = hi == 8 }

-- the next chunk is cut, goes over the link to this partition, and is loaded
abbrev pub carried_to : ℕ → List Step
carried_to dst = Cut 0 dst ∷ Push 0 dst ∷ Pop 0 dst ∷ Load 0 dst ∷ []

abbrev pub carried_answers : Note → ℕ → List Answer
carried_answers note families = WasCut note families ∷ Done ∷ Done ∷ WasLoaded note families ∷ []

-- the shortest whole path
abbrev pub whole_path : List Step
whole_path = begun ++ Claim 0 1 2 ∷ Begin 0 1 2 ∷ carried_to 1 ++ Complete 0 1 2 ∷ Report 1 ∷ Finish ∷ Submit 1 (get_row 9 5) ∷ []

abbrev pub whole_path_answers : List Answer
whole_path_answers = begun_answers ++ Done ∷ Done ∷ carried_answers (noted 0 1 4 8) 1 ++ Done ∷ Done ∷ Done ∷ got 9 (pos 10) ∷ []

-- the shortest whole path, and then the logs are folded: those of partition 0, which has none, and
-- twice those of partition 1
abbrev pub folded_twice : List Step
folded_twice = whole_path ++ Fold 0 ∷ Fold 1 ∷ Submit 1 (add_one 10 5) ∷ Submit 1 (get_row 11 6) ∷ Fold 1 ∷ Fold 2 ∷ []

abbrev pub folded_twice_answers : List Answer
folded_twice_answers =
    whole_path_answers ++ Done ∷ Done ∷ Replied 10 (Committed (op_answer.Number (pos 11) ∷ [])) ∷ got_none 11 ∷ Done
    ∷ Refused NoSuchPartition ∷ []

-- logs are folded only after the reconfiguration has ended
abbrev pub folded_early : List Step
folded_early = Fold 0 ∷ Fold 2 ∷ begun ++ Fold 0 ∷ []

abbrev pub folded_early_answers : List Answer
folded_early_answers = Refused NotFinished ∷ Refused NoSuchPartition ∷ begun_answers ++ Refused NotFinished ∷ []

-- the source runs transactions until it gives the node up, and none after that
abbrev pub given_up : List Step
given_up = begun ++ Claim 0 1 2 ∷ Submit 0 (add_one 7 5) ∷ Begin 0 1 2 ∷ Submit 0 (add_one 8 5) ∷ Cut 0 1 ∷ []

abbrev pub given_up_answers : List Answer
given_up_answers =
    begun_answers ++ Done ∷ Replied 7 (Committed (op_answer.Number (pos 11) ∷ [])) ∷ Done ∷ Moved 8 1 ∷ WasCut (noted 0 1 4 8) 1 ∷ []

-- a node is begun once, by the pull that claimed it
abbrev pub begun_again : List Step
begun_again = begun ++ Claim 0 1 2 ∷ Begin 0 1 4 ∷ Begin 0 1 2 ∷ Begin 0 1 2 ∷ Begin 0 2 2 ∷ []

abbrev pub begun_again_answers : List Answer
begun_again_answers = begun_answers ++ Done ∷ Refused WrongPull ∷ Done ∷ Refused NotClaimed ∷ Refused NotClaimed ∷ []

-- two families of 56 bytes, with chunks of 64
abbrev pub two_families : OpeningValue
two_families = four_keys 64 1 ((4, row (pos 1)) ∷ (7, row (pos 2)) ∷ [])

abbrev pub two_chunks : List Step
two_chunks =
    begun ++ Claim 0 1 2 ∷ Begin 0 1 2 ∷ Cut 0 1 ∷ Cut 0 1 ∷ Push 0 1 ∷ Cut 0 1 ∷ Pop 0 1 ∷ Load 0 1 ∷ Submit 1 (get_row 3 6)
    ∷ Submit 1 (get_row 4 7) ∷ []

abbrev pub two_chunks_answers : List Answer
two_chunks_answers =
    begun_answers ++ Done ∷ Done ∷ WasCut (noted 0 1 4 7) 1 ∷ Refused OutboxFull ∷ Done ∷ WasCut (noted 1 1 7 8) 1 ∷ Done
    ∷ WasLoaded (noted 0 1 4 7) 1 ∷ got_none 3 ∷ Waits 4 0 3 ∷ []

-- a family of 66 bytes and one of 56, with chunks of 64
abbrev pub large_family : OpeningValue
large_family =
    four_keys 64 1 ((5, noted_row (pos 1) (0 ∷ 1 ∷ 2 ∷ 3 ∷ 4 ∷ 5 ∷ 6 ∷ 7 ∷ 8 ∷ 9 ∷ [])) ∷ (6, row (pos 2)) ∷ [])

abbrev pub large_chunk : List Step
large_chunk = begun ++ Claim 0 1 2 ∷ Begin 0 1 2 ∷ Cut 0 1 ∷ Push 0 1 ∷ Cut 0 1 ∷ []

abbrev pub large_chunk_answers : List Answer
large_chunk_answers = begun_answers ++ Done ∷ Done ∷ WasCut (noted 0 1 4 6) 1 ∷ Done ∷ WasCut (noted 1 1 6 8) 1 ∷ []

-- the rows 4, 5 and 6 of numbers 1, 2 and 3
abbrev pub three_rows : TableValue
three_rows = (4, row (pos 1)) ∷ (5, row (pos 2)) ∷ (6, row (pos 3)) ∷ []

-- three families, and a link that holds one chunk
abbrev pub three_families : OpeningValue
three_families = four_keys 64 1 three_rows

abbrev pub full_link : List Step
full_link = begun ++ Claim 0 1 2 ∷ Begin 0 1 2 ∷ Cut 0 1 ∷ Push 0 1 ∷ Cut 0 1 ∷ Push 0 1 ∷ Cut 0 1 ∷ []

abbrev pub full_link_answers : List Answer
full_link_answers =
    begun_answers ++ Done ∷ Done ∷ WasCut (noted 0 1 4 5) 1 ∷ Done ∷ WasCut (noted 1 1 5 6) 1 ∷ Refused LinkFull ∷ Refused OutboxFull ∷ []

-- steps in the wrong order, and with wrong numbers
abbrev pub out_of_order : List Step
out_of_order =
    Claim 0 1 2 ∷ Prepare 2 ∷ Start ∷ Prepare 0 ∷ Start ∷ Prepare 1 ∷ Start ∷ Start ∷ Prepare 0 ∷ Cut 1 0 ∷ Cut 0 1 ∷ Push 0 1
    ∷ Pop 0 1 ∷ Load 0 1 ∷ Resume 1 ∷ Resume 2 ∷ []

abbrev pub out_of_order_answers : List Answer
out_of_order_answers =
    Refused NotMoving ∷ Refused NoSuchPartition ∷ Refused NotPrepared ∷ Done ∷ Refused NotPrepared ∷ Done ∷ Done
    ∷ Refused AlreadyMoving ∷ Refused AlreadyMoving ∷ Refused NoSuchLink ∷ Refused NothingToCut ∷ Refused OutboxEmpty
    ∷ Refused LinkEmpty ∷ Refused InboxEmpty ∷ Refused NoneReady ∷ Refused NoSuchPartition ∷ []

-- a transaction waits at the destination until its rows are loaded; one on a key that doesn't move
-- is forwarded
abbrev pub waits_for_rows : List Step
waits_for_rows = begun ++ Submit 1 (get_row 7 5) ∷ Submit 1 (get_row 8 9) ∷ Submit 0 (get_row 6 5) ∷ Submit 2 (get_row 5 5) ∷ []

abbrev pub waits_for_rows_answers : List Answer
waits_for_rows_answers = begun_answers ++ Waits 7 0 1 ∷ Moved 8 0 ∷ got 6 (pos 10) ∷ Refused NoSuchPartition ∷ []

-- nothing is completed, reported or finished before its rows are loaded
abbrev pub too_soon : List Step
too_soon =
    begun ++ Claim 0 1 2 ∷ Complete 0 1 2 ∷ Begin 0 1 2 ∷ Complete 0 1 2 ∷ Report 1 ∷ Report 0 ∷ Finish ∷ Claim 1 1 2
    ∷ Claim 0 2 2 ∷ Claim 0 64 2 ∷ []

abbrev pub too_soon_answers : List Answer
too_soon_answers =
    begun_answers ++ Done ∷ Refused NotPartial ∷ Done ∷ Refused NotLoaded ∷ Refused NotFinished ∷ Done ∷ Refused NotFinished
    ∷ Refused NoSuchSegment ∷ Refused NotLive ∷ Refused NoSuchNode ∷ []

-- waiting transactions run in their order of arrival, and not before their rows are loaded; one
-- that comes while another waits on its root key waits too
abbrev pub resumed_in_order : List Step
resumed_in_order =
    begun ++ Submit 1 (get_row 7 5) ∷ Resume 1 ∷ Claim 0 1 3 ∷ Begin 0 1 3 ∷ carried_to 1 ++ Submit 1 (get_row 8 5) ∷ Resume 1
    ∷ Resume 1 ∷ Resume 1 ∷ []

abbrev pub resumed_in_order_answers : List Answer
resumed_in_order_answers =
    begun_answers ++ Waits 7 0 1 ∷ Refused NoneReady ∷ Done ∷ Done ∷ carried_answers (noted 0 1 4 8) 1
    ++ Waits 8 0 1 ∷ Resumed (get_row 7 5) (found (pos 10)) ∷ Resumed (get_row 8 5) (found (pos 10)) ∷ Refused NoneReady ∷ []

-- a claimed node can't be split
abbrev pub claimed_whole : List Step
claimed_whole = begun ++ Claim 0 1 2 ∷ Split 0 1 ∷ Status 0 1 ∷ []

abbrev pub claimed_whole_answers : List Answer
claimed_whole_answers = begun_answers ++ Done ∷ Refused NotFree ∷ Reads (status.Claimed 2) reads.NotStarted ∷ []

-- a split node can't be claimed, but its halves can
abbrev pub claimed_half : List Step
claimed_half = begun ++ Split 0 1 ∷ Claim 0 1 2 ∷ Claim 0 2 2 ∷ Status 0 1 ∷ []

abbrev pub claimed_half_answers : List Answer
claimed_half_answers = begun_answers ++ Done ∷ Refused NotFree ∷ Done ∷ Reads status.Split reads.NotStarted ∷ []

-- no node below an unsplit node can be claimed or split, and no leaf can be split
abbrev pub split_too_low : List Step
split_too_low = begun ++ Split 0 1 ∷ Claim 0 33 3 ∷ Split 0 33 ∷ Split 0 64 ∷ Split 0 16 ∷ Claim 1 1 2 ∷ []

abbrev pub split_too_low_answers : List Answer
split_too_low_answers =
    begun_answers ++ Done ∷ Refused NotLive ∷ Refused IsLeaf ∷ Refused NoSuchNode ∷ Refused NotLive ∷ Refused NoSuchSegment ∷ []

-- the last leaf of the segment has no keys: its node moves in one empty chunk
abbrev pub empty_leaf : List Step
empty_leaf =
    begun ++ Split 0 1 ∷ Split 0 3 ∷ Split 0 7 ∷ Split 0 15 ∷ Split 0 31 ∷ Claim 0 63 2 ∷ Begin 0 63 2
    ∷ carried_to 1 ++ Complete 0 63 2 ∷ []

abbrev pub empty_leaf_answers : List Answer
empty_leaf_answers =
    begun_answers ++ Done ∷ Done ∷ Done ∷ Done ∷ Done ∷ Done ∷ Done ∷ carried_answers (noted 0 63 8 8) 0 ++ Done ∷ []

-- the readings of nodes: a split node has the common one of its halves, and a node that isn't live
-- that of the live node above it
abbrev pub read_nodes : List Step
read_nodes =
    Status 0 1 ∷ Status 1 1 ∷ Status 0 0 ∷ begun
    ++ Split 0 1 ∷ Claim 0 2 2 ∷ Begin 0 2 2 ∷ Status 0 1 ∷ Status 0 4 ∷ Status 0 3 ∷ Status 0 2 ∷ []

abbrev pub read_nodes_answers : List Answer
read_nodes_answers =
    Reads status.Free reads.NotStarted ∷ Refused NoSuchSegment ∷ Refused NoSuchNode ∷ begun_answers
    ++ Done ∷ Done ∷ Done ∷ Reads status.Split reads.Partial ∷ Reads status.Free reads.Partial
    ∷ Reads status.Free reads.NotStarted ∷ Reads (status.Partial 2) reads.Partial ∷ []

-- three families, and a link that holds four chunks
abbrev pub wide_link : OpeningValue
wide_link = four_keys 64 4 three_rows

-- a reactive pull comes while an asynchronous one is under way: its node is cut next, and then the
-- rest of the other
abbrev pub reactive_first : List Step
reactive_first =
    begun ++ Split 0 1 ∷ Split 0 2 ∷ Split 0 4 ∷ Split 0 8 ∷ Claim 0 16 2 ∷ Begin 0 16 2 ∷ Cut 0 1 ∷ Claim 0 17 3 ∷ Begin 0 17 3
    ∷ Push 0 1 ∷ Cut 0 1 ∷ Push 0 1 ∷ Cut 0 1 ∷ Push 0 1 ∷ Pop 0 1 ∷ Load 0 1 ∷ Pop 0 1 ∷ Load 0 1 ∷ Pop 0 1 ∷ Load 0 1
    ∷ Complete 0 17 3 ∷ Complete 0 16 2 ∷ Status 0 8 ∷ Status 0 1 ∷ Status 0 32 ∷ []

abbrev pub reactive_first_answers : List Answer
reactive_first_answers =
    let first = noted 0 16 4 5 in
    let other = noted 1 17 6 8 in
    let rest : Note = record (noted 2 16 5 6) { last = true } in
    begun_answers ++ Done ∷ Done ∷ Done ∷ Done ∷ Done ∷ Done ∷ WasCut first 1 ∷ Done ∷ Done ∷ Done ∷ WasCut other 1 ∷ Done
    ∷ WasCut rest 1 ∷ Done ∷ Done ∷ WasLoaded first 1 ∷ Done ∷ WasLoaded other 1 ∷ Done ∷ WasLoaded rest 1 ∷ Done ∷ Done
    ∷ Reads status.Split reads.Complete ∷ Reads status.Split reads.Partial ∷ Reads status.Free reads.Complete ∷ []
