use Rattle.au_http.proofs.NeedLaws.{needs_stay}
use Rattle.au_http.proofs.laws.keep_need.Goals as goal

pub returns : goal.returns
returns c = λ bytes. needs_stay bytes
