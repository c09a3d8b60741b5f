use Rattle.sq_serving.proofs.desk.ServeDesk.take_back.Goals as goal

pub returns-in-QueueFull : goal.returns-in-QueueFull
returns-in-QueueFull g c = rw c.in-QueueFull.is c.put_back.ensures

pub returns-in-RepeatedId : goal.returns-in-RepeatedId
returns-in-RepeatedId g c = rw c.in-RepeatedId.is c.refuse_returned.ensures

pub returns-in-NoSuchPartition : goal.returns-in-NoSuchPartition
returns-in-NoSuchPartition g c = rw c.in-NoSuchPartition.is c.refuse_returned-in-NoSuchPartition.ensures

pub returns-in-Memory : goal.returns-in-Memory
returns-in-Memory g c = rw c.in-Memory.is c.stop_for_memory.ensures
