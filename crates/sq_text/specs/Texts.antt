-- The lines that are written.
use Rattle.std.specs.Prelude.{ℕ, Bool, true, false, not, ◌==◌, ◌+◌, ◌/◌, ◌%◌, nat_lt, if◌then◌else◌, List, [], ◌∷◌, ◌++◌, length, map, Option, Some, None, decimal, codes}
use Rattle.std.specs.List.{flat_map, join_with_byte}
use Rattle.std.specs.Fmt.{signed_decimal, digit_glyph}
use Rattle.sq_schema.specs.RowKey.{RowKey}
use Rattle.sq_schema.specs.declared.txn.Cause.{Cause}
use Rattle.sq_schema.specs.declared.txn.Cause.TheVariants.{Absent, Small, Range, NoRoot, Children}
use Rattle.sq_schema.specs.declared.txn.OpAnswer.{OpAnswer}
use Rattle.sq_schema.specs.declared.txn.OpAnswer.TheVariants.{Found, Number, Done}
use Rattle.sq_schema.specs.declared.txn.Reply.{Reply}
use Rattle.sq_schema.specs.declared.txn.Reply.TheVariants.{Committed, Aborted}
use Rattle.sq_schema.specs.Values.{RowValue}
use Rattle.sq_schema.specs.Family.{FamilyValue, rows_of}
use Rattle.sq_moves.specs.declared.status.Status.{Status}
use Rattle.sq_moves.specs.declared.status.Status.TheVariants as status
use Rattle.sq_moves.specs.declared.status.Reading.{Reading}
use Rattle.sq_moves.specs.declared.status.Reading.TheVariants as reading
use Rattle.sq_moves.specs.declared.recon.Range.{Range as MovingRange}
use Rattle.sq_moves.specs.ReconValue.{ReconValue, stages, stage_in}
use Rattle.sq_store.specs.declared.chunk.Note.{Note}
use Rattle.sq_store.specs.ChunkValue.{ChunkValue}
use Rattle.sq_model.specs.declared.answer.Answer.{Answer}
use Rattle.sq_model.specs.declared.answer.Answer.TheVariants as answer
use Rattle.sq_model.specs.Refusal.{refusal_number}
use Rattle.sq_model.specs.declared.step.Phase.{Phase}
use Rattle.sq_model.specs.declared.step.Phase.TheVariants as phase
use Rattle.sq_text.specs.Words.{Word}

-- a line of these words, with its end
abbrev pub line : List Word → List ℕ
line words = join_with_byte 32 words ++ 10 ∷ []

-- two hexadecimal digits
abbrev pub hex_byte_text : ℕ → List ℕ
hex_byte_text byte = digit_glyph false (byte / 16) ∷ digit_glyph false (byte % 16) ∷ []

-- - for no byte, or two digits for each byte
abbrev pub note_text : List ℕ → List ℕ
note_text [] = codes "-"
note_text (byte ∷ bytes) = flat_map hex_byte_text (byte ∷ bytes)

-- a row: N/NOTE
abbrev pub row_text : RowValue → List ℕ
row_text row = signed_decimal row.number ++ (47 ∷ note_text row.note)

-- the answer of an operation: a row, none, the new number, or ok
abbrev pub op_answer_text : OpAnswer → List ℕ
op_answer_text (Found None) = codes "none"
op_answer_text (Found (Some row)) = row_text row
op_answer_text (Number n) = signed_decimal n
op_answer_text Done = codes "ok"

-- whether the answer of an operation has a note
abbrev pub has_note : OpAnswer → Bool
has_note (Found None) = false
has_note (Found (Some row)) = not (length row.note == 0)
has_note (Number n) = false
has_note Done = false

-- why a transaction aborted
abbrev pub cause_text : Cause → List ℕ
cause_text Absent = codes "absent"
cause_text Small = codes "small"
cause_text Range = codes "range"
cause_text NoRoot = codes "noroot"
cause_text Children = codes "children"

-- a refusal
abbrev pub refused_line : ℕ → List ℕ
refused_line number = line (codes "refused" ∷ decimal number ∷ [])

-- a fault that ends the run
abbrev pub fault_line : ℕ → List ℕ
fault_line number = line (codes "fault" ∷ decimal number ∷ [])

abbrev pub commit_words : ℕ → List OpAnswer → List Word
commit_words id answers = codes "commit" ∷ decimal id ∷ map op_answer_text answers

-- the words of the reply to a transaction
abbrev pub reply_words : ℕ → Reply → List Word
reply_words id (Committed answers) = commit_words id answers
reply_words id (Aborted at cause) = codes "abort" ∷ decimal id ∷ decimal at ∷ cause_text cause ∷ []

-- whether a chunk is its node's last
abbrev pub mark_text : Bool → List ℕ
mark_text true = codes "last"
mark_text false = codes "more"

-- a note after its link, and how many families its chunk holds
abbrev pub note_words : Note → ℕ → List Word
note_words note families =
    decimal note.number ∷ decimal note.seg ∷ decimal note.node ∷ decimal note.lo ∷ decimal note.hi
    ∷ mark_text note.last ∷ decimal families ∷ []

-- the status of a node, with its pull
abbrev pub status_text : Status → List ℕ
status_text status.Free = codes "free"
status_text status.Split = codes "split"
status_text (status.Claimed pull) = codes "claimed " ++ decimal pull
status_text (status.Partial pull) = codes "partial " ++ decimal pull
status_text (status.Complete pull) = codes "complete " ++ decimal pull

-- the reading of a node
abbrev pub reading_text : Reading → List ℕ
reading_text reading.NotStarted = codes "not-started"
reading_text reading.Partial = codes "partial"
reading_text reading.Complete = codes "complete"

-- a node's status and its reading
abbrev pub node_words : Status → Reading → List Word
node_words status reading = codes "is" ∷ status_text status ∷ reading_text reading ∷ []

abbrev pub answer_words : Answer → List Word
answer_words answer.Done = codes "ok" ∷ []
answer_words (answer.Replied id reply) = reply_words id reply
answer_words (answer.Moved id to) = codes "moved" ∷ decimal id ∷ decimal to ∷ []
answer_words (answer.Waits id seg leaf) = codes "waits" ∷ decimal id ∷ decimal seg ∷ decimal leaf ∷ []
answer_words (answer.Resumed txn reply) = reply_words txn.id reply
answer_words (answer.WasCut note families) = codes "cut" ∷ note_words note families
answer_words (answer.WasLoaded note families) = codes "load" ∷ note_words note families
answer_words (answer.Reads status reading) = node_words status reading
answer_words (answer.Refused refusal) = codes "refused" ∷ decimal (refusal_number refusal) ∷ []

-- the line that answers a step
abbrev pub answer_line : Answer → List ℕ
answer_line answer = line (answer_words answer)

-- the phase of a world
abbrev pub phase_text : Phase → List ℕ
phase_text phase.Idle = codes "idle"
phase_text phase.Preparing = codes "preparing"
phase_text phase.Moving = codes "moving"
phase_text phase.Ended = codes "ended"

-- the first line of a dump
abbrev pub end_line : Phase → List ℕ
end_line phase = line (codes "end" ∷ phase_text phase ∷ [])

-- a row with its key: T.S=N/NOTE
abbrev pub entry_text : RowKey × RowValue → List ℕ
entry_text entry = decimal entry.0.table ++ (46 ∷ decimal entry.0.sub) ++ (61 ∷ row_text entry.1)

-- a root key, the length of its log, and its rows
abbrev pub family_words : FamilyValue → List Word
family_words family = decimal family.root ∷ decimal (length family.log) ∷ map entry_text (rows_of family)

-- a family in the store of a partition
abbrev pub at_line : ℕ → FamilyValue → List ℕ
at_line part family = line (codes "at" ∷ decimal part ∷ family_words family)

-- a family in a chunk
abbrev pub in_line : FamilyValue → List ℕ
in_line family = line (codes "in" ∷ family_words family)

-- a chunk that was cut and isn't loaded yet, and its families
abbrev pub way_lines : ChunkValue → List ℕ
way_lines chunk =
    line (codes "way" ∷ decimal chunk.note.src ∷ decimal chunk.note.dst ∷ note_words chunk.note (length chunk.families))
    ++ flat_map in_line chunk.families

-- the keys of a range, and the partitions that they leave and move to
abbrev pub move_words : MovingRange → List Word
move_words range = decimal range.lo ∷ decimal range.hi ∷ decimal range.src ∷ decimal range.dst ∷ []

-- a reconfiguration range
abbrev pub range_line : MovingRange → List ℕ
range_line range = line (codes "range" ∷ move_words range)

-- the stage of a segment, if there are several
abbrev pub told_stage : ReconValue → MovingRange → Option ℕ
told_stage recon segment = if nat_lt 1 (stages recon) then Some (stage_in recon segment) else None

abbrev pub stage_words : Option ℕ → List Word
stage_words None = []
stage_words (Some stage) = codes "stage" ∷ decimal stage ∷ []

-- a segment with this number, with its stage if there are several
abbrev pub segment_line : ℕ → MovingRange → Option ℕ → List ℕ
segment_line seg segment stage = line (codes "segment" ∷ decimal seg ∷ move_words segment ++ stage_words stage)

-- segments, numbered from this on
abbrev pub segment_lines : ReconValue → ℕ → List MovingRange → List ℕ
segment_lines recon first [] = []
segment_lines recon first (segment ∷ segments) =
    segment_line first segment (told_stage recon segment) ++ segment_lines recon (first + 1) segments

-- what moves: the reconfiguration ranges in key order, and then the segments
abbrev pub moves_text : ReconValue → List ℕ
moves_text recon = flat_map range_line recon.ranges ++ segment_lines recon 0 recon.segments
