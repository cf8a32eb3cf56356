use Rattle.au_http.proofs.NeedLaws.{requests_stay}
use Rattle.au_http.proofs.laws.keep_requests.Goals as goal

pub returns : goal.returns
returns c = λ bytes more requests rest are. requests_stay requests bytes more rest are
