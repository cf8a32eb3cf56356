use Rattle.au_script.proofs.LineLaws.{one_thing}
use Rattle.au_script.proofs.laws.say_one_thing.Goals as goal

pub returns : goal.returns
returns c = λ bytes. one_thing bytes
