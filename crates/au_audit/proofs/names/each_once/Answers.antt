use Rattle.au_audit.proofs.Once.{once_pushed}
use Rattle.au_audit.proofs.names.each_once.Goals as goal

pub loop-name-preserved : goal.loop-name-preserved
loop-name-preserved c =
    once_pushed c.args.names.now c.loop-name.once.keys c.push_once.new.once.keys c.loop-name.name-index c.name-item.result c.loop-name-test.true c.name-item.is c.loop-name.invariant c.in_ok-push_once.ensures.keys
