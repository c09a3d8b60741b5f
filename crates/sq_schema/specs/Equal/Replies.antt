-- When replies are equal.
use Rattle.std.specs.Prelude.{Bool}
use Rattle.sq_schema.specs.declared.txn.Reply.{Reply}
use Rattle.sq_schema.specs.contracts.txn.ReplyPartialEq.TheImpl as reply

abbrev pub reply_eq : Reply → Reply → Bool
reply_eq one other = (reply.ghosts).eq one other
