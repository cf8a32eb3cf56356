use Rattle.au_script.proofs.LineLaws.{named_split}
use Rattle.au_script.proofs.asks.split_at_space.Goals as goal

pub returns : goal.returns
returns c = named_split c.args.text.now c.split_once.result c.split_once.ensures.cases
