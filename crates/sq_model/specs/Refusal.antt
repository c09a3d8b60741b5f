-- The numbers of refusals, as a user sees them.
use Rattle.std.specs.Prelude.{ℕ}
use Rattle.sq_schema.specs.Fault.{memory_number}
use Rattle.sq_model.specs.declared.answer.Refusal.{Refusal}
use Rattle.sq_model.specs.declared.answer.Refusal.TheVariants.{NotMoving, NoSuchSegment, NoSuchNode, NotFree, NotLive, IsLeaf, NotClaimed, WrongPull, NothingToCut, OutboxFull, OutboxEmpty, LinkFull, LinkEmpty, InboxFull, InboxEmpty, NotLoaded, AlreadyMoving, NotFinished, NoSuchPartition, WaitFull, LogFull, Memory, NoneReady, NoSuchLink, LastStage, NotPartial, NotPrepared}

abbrev pub refusal_number : Refusal → ℕ
refusal_number NotMoving = 201
refusal_number NoSuchSegment = 202
refusal_number NoSuchNode = 203
refusal_number NotFree = 204
refusal_number NotLive = 205
refusal_number IsLeaf = 206
refusal_number NotClaimed = 207
refusal_number WrongPull = 208
refusal_number NothingToCut = 209
refusal_number OutboxFull = 210
refusal_number OutboxEmpty = 211
refusal_number LinkFull = 212
refusal_number LinkEmpty = 213
refusal_number InboxFull = 214
refusal_number InboxEmpty = 215
refusal_number NotLoaded = 216
refusal_number AlreadyMoving = 217
refusal_number NotFinished = 218
refusal_number NoSuchPartition = 219
refusal_number WaitFull = 220
refusal_number LogFull = 221
refusal_number Memory = memory_number
refusal_number NoneReady = 223
refusal_number NoSuchLink = 224
refusal_number LastStage = 225
refusal_number NotPartial = 227
refusal_number NotPrepared = 228
