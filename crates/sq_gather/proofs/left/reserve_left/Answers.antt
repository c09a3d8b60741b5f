use Rattle.std.proofs.Common.{◌≡◌, ◌+◌, ◌++◌, ◌∷◌, [], Vec, Global, ◌∙◌, map, vec_capacity, sym, ap, subst, arith}
use Rattle.std.proofs.lemmas.List.{map-append}
use Rattle.sq_schema.specs.declared.txn.Txn.{Txn}
use Rattle.sq_gather.specs.Left.{Room, AreRooms}
use Rattle.sq_gather.proofs.Filled.{rooms_more}
use Rattle.sq_gather.proofs.left.reserve_left.Goals as goal

abbrev room_of : Vec Txn Global → Room
room_of jobs = (jobs.items, vec_capacity jobs)

pub loop-part-preserved : goal.loop-part-preserved
loop-part-preserved c =
    let old = c.loop-part.left.items in
    let room = c.in_ok-room.room in
    let rooms : map room_of c.push.new.self.items ≡ map room_of old ++ room_of room ∷ [] = ap (map room_of) c.in_ok-push.ensures.items ∙ map-append room_of old (room ∷ []) in
    subst (AreRooms (c.loop-part._part + 1)) (sym rooms) (rooms_more c.loop-part._part (map room_of old) (room_of room) c.loop-part.invariant c.in_ok-room.ensures.items (omega (arith, c.in_ok-room.ensures.exact, c.saturating_add-places.ensures)))
