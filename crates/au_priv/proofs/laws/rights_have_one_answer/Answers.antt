use Rattle.au_priv.proofs.Answers.{exactly}
use Rattle.au_priv.proofs.laws.rights_have_one_answer.Goals as goal

pub returns : goal.returns
returns c grants user table action one other is same = (exactly grants user table action one is other).1 same
