use Rattle.std.proofs.Common.{refl}
use Rattle.au_rows.specs.Kept.{change_of}
use Rattle.au_rows.proofs.KeyLemmas.{failed, other-client, tail}
use Rattle.au_rows.proofs.keys.is_locking.Goals as goal

pub returns : goal.returns
returns c =
    tail c.has_committed_key.result
    (other-client c.args.asked.now.by c.args.change.now.by c.if-change-asked.false (change_of c.args.versions.now.slots c.args.change.now) refl)
    c.if-change-asked-2.false (failed c.has_key_in.result c.has_key_in.ensures c.if-has_key_in.false) c.has_committed_key.ensures
