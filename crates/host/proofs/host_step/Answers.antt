-- Each arm is its call: a call of the table is played, an arrival and a leaving show nothing and leave the lent arrays alone.
use Rattle.host.proofs.Replies.{played, arrives, leaves}
use Rattle.host.proofs.host_step.Goals as goal

pub returns-in-Play : goal.returns-in-Play
returns-in-Play c =
    let a = c.args in
    played a.h a.order.now a.names.now a.nets.now _ c.play.ensures c.in-Play.is

pub returns-in-Arrive : goal.returns-in-Arrive
returns-in-Arrive c =
    let a = c.args in
    arrives a.h a.order.now a.names.now a.nets.now _ _ c.plain_host_reply.ensures _ _ c.arrive.ensures c.in-Arrive.is

pub returns-in-Leave : goal.returns-in-Leave
returns-in-Leave c =
    let a = c.args in
    leaves a.h a.order.now a.names.now a.nets.now _ _ c.plain_host_reply-in-Leave.ensures _ c.leave.ensures c.in-Leave.is
