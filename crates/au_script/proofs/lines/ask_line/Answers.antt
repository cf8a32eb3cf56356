use Rattle.au_script.proofs.LineLaws.{asks_as_split, asks_without_space, labelled_asks}
use Rattle.au_script.proofs.lines.ask_line.Goals as goal

pub returns-in-None : goal.returns-in-None
returns-in-None c = asks_without_space c.args.content.now c.in-None.ensures

pub returns-then-not-is_label : goal.returns-then-not-is_label
returns-then-not-is_label c = λ label a asks.
    let parts = asks_as_split c.args.content.now c.in-Some.parts.0.now c.in-Some.parts.1.now c.in-Some.ensures label a asks in
    let is = parts.0 in cc

pub returns : goal.returns
returns c = labelled_asks c.args.content.now c.in-Some.parts.0.now c.in-Some.parts.1.now c.utf8.content c.in-Some.ensures (cc) c.labelled.result c.labelled.ensures
