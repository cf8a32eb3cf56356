use Rattle.au_http.proofs.NeedLaws.{stands_alone}
use Rattle.au_http.proofs.laws.stand_alone.Goals as goal

pub returns : goal.returns
returns c = λ bytes. stands_alone bytes
