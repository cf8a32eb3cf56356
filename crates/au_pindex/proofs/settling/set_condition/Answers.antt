use Rattle.au_pindex.proofs.Laid.{set_laid}
use Rattle.au_pindex.proofs.settling.set_condition.Goals as goal

pub returns : goal.returns
returns c = set_laid c.args.conditions.now.items c.args.place c.args.condition c.requires.place
