use Rattle.std.proofs.Common.{◌∙◌, ℕ, ap, nat_eq, Option, Some}
use Rattle.indexmap.specs.IndexMap.{get}
use Rattle.au_rows.specs.declared.node.Node.{Node}
use Rattle.au_rows.proofs.ChainLemmas.{chained-more, puts-node}
use Rattle.au_rows.proofs.chains.link.Goals as goal

pub returns-clause-chained : goal.returns-clause-chained
returns-clause-chained c =
    let node : Option ℕ → Option Node = λ below. Some (record { version = c.args.version; below = below }) in
    chained-more c.args.nodes.now.slots c.insert-slot.new.self.slots (λ hash. get nat_eq c.args.heads.now hash) (λ hash. get nat_eq c.add_head.new.heads hash) c.insert-slot.result c.args.version
    c.insert-slot.ensures.vacant (c.insert-slot.ensures.filled ∙ ap node c.head_of-below.ensures) c.insert-slot.ensures.others c.add_head.ensures.heads c.requires.chained

pub returns-clause-puts : goal.returns-clause-puts
returns-clause-puts c =
    puts-node c.args.nodes.now.slots c.insert-slot.new.self.slots c.insert-slot.result (record { version = c.args.version; below = c.head_of-below.result })
    c.insert-slot.ensures.vacant c.insert-slot.ensures.filled c.insert-slot.ensures.others
