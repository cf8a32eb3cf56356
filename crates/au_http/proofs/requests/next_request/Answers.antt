use Rattle.std.proofs.lemmas.Result.{IfOk-weaker}
use Rattle.au_http.proofs.NeedLaws.{needs_fit}
use Rattle.au_http.proofs.requests.next_request.Goals as goal

pub returns-clause-fits : goal.returns-clause-fits
returns-clause-fits c = IfOk-weaker c.need_of.result _ _ (λ need h. needs_fit c.args.bytes.now need h) c.need_of.ensures
