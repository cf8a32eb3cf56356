use Rattle.au_http.proofs.HeadLengths.{decided}
use Rattle.au_http.proofs.head_end.head_length.Goals as goal

pub returns-clause-found : goal.returns-clause-found
returns-clause-found c = decided c.args.bytes.now c.min.result c.walk.result c.min.ensures c.walk.ensures.value
