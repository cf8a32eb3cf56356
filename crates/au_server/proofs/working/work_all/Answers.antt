use denote.Exit.{no}
use denote.Param.Send.{arg_send, param_send}
use Rattle.au_server.proofs.Sends.{worker_send}
use Rattle.au_server.proofs.working.work_all.Goals as goal

pub returns : goal.returns
returns g c = λ k d lt.
    let changed = (c.for_each_mut.ensures k d lt).1 in
    rw (← changed.argument_is, ← changed.left) changed.call

pub for_each_mut-requires-send-T : goal.for_each_mut-requires-send-T
for_each_mut-requires-send-T g c κs within = param_send 1 _ (arg_send _ no _ (worker_send _ _ _ _ _ _ _ _ _ _ _ g.C.Clock c.type_bounds.send-L c.type_bounds.send-D c.type_bounds.send-C c.type_bounds.send-L-Link))
