-- Room for rows.
use Rattle.std.proofs.Common.{ℕ, ◌≤◌, arith}
use Rattle.sq_rows.specs.declared.entry_list.EntryList.{EntryList}
use Rattle.sq_rows.specs.declared.entry_list.EntryList.TheVariants.{One, Many, Map}
use Rattle.sq_rows.specs.EntryList.{HasRoom}

-- where there is room for many rows there is room for fewer
pub HasRoom-fewer : (list : EntryList) (few many : ℕ) → few ≤ many → HasRoom list many → HasRoom list few
HasRoom-fewer (One entry) few many fewer room = room
HasRoom-fewer (Many entries) few many fewer room = omega arith
HasRoom-fewer (Map entries) few many fewer room = room
