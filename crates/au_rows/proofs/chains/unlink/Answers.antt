use Rattle.au_rows.proofs.ChainLemmas.{frees-node}
use Rattle.au_rows.proofs.chains.unlink.Goals as goal

pub returns-in-Some-clause-frees : goal.returns-in-Some-clause-frees
returns-in-Some-clause-frees c =
    frees-node c.args.nodes.now.slots c.bypass.new.nodes.slots c.take_out.new.self.slots c.args.slot
    c.take_out.ensures.vacant c.take_out.ensures.others c.bypass.ensures.versions
