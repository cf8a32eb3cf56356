use Rattle.std.specs.Str.{bytes_eq}
use Rattle.std.proofs.lemmas.Slice.Eq.{bytes_eq-Decides}
use Rattle.au_calls.proofs.KeptOnce.{once_pushed}
use Rattle.au_calls.proofs.once.set_of.Goals as goal

pub loop-name-preserved : goal.loop-name-preserved
loop-name-preserved c =
    once_pushed bytes_eq (λ a b is. (bytes_eq-Decides a b).0 is) c.args.names.now c.loop-name.kept.keys c.push_once.new.kept.keys c.loop-name.name-index c.name-item.result c.loop-name-test.true c.name-item.is c.loop-name.invariant c.in_ok-push_once.ensures
