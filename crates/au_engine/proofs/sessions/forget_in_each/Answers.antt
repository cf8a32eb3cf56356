use Rattle.std.proofs.Common.{◌<◌, ◌∙◌, ap, length, arith}
use Rattle.au_step.specs.declared.session.Session.{Session}
use Rattle.au_engine.specs.Sessions.{forgotten}
use Rattle.au_engine.proofs.Mapped.{mapped_more}
use Rattle.au_engine.proofs.sessions.forget_in_each.Goals as goal

pub loop-place-preserved : goal.loop-place-preserved
loop-place-preserved c =
    let within : c.loop-place.place < length c.args.sessions.now.items = omega arith in
    let forgets = λ (session : Session). forgotten c.args.forgets.now session in
    record {
      items = mapped_more forgets _ _ _ _ _ within c.loop-place.invariant.items (c.forget_in.ensures ∙ ap forgets c.index_mut.ensures.value);
      len = c.loop-place.invariant.len;
      capacity = c.loop-place.invariant.capacity;
    }
