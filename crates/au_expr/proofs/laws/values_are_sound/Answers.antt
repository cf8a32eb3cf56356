use Rattle.au_expr.proofs.Sound.{sound_value}
use Rattle.au_expr.proofs.laws.values_are_sound.Goals as goal

pub returns : goal.returns
returns c ranges rows session x tree resolved fits cells session_sound literals = sound_value ranges rows session x tree resolved fits cells session_sound literals
