use Rattle.au_http.proofs.NeedLaws.{one_need}
use Rattle.au_http.proofs.laws.have_one_need.Goals as goal

pub returns : goal.returns
returns c = λ bytes. one_need bytes
