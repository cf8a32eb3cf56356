use Rattle.std.proofs.Common.{[], length, refl}
use Rattle.sql_lex.proofs.Leading.{in_order}
use Rattle.sql_lex.proofs.Unique.{one_way, stuck_or_ended}
use Rattle.sql_lex.proofs.scan.one_way.Goals as goal

pub returns-clause-tokens : goal.returns-clause-tokens
returns-clause-tokens c = λ text ts us h g. one_way 0 0 text text ts us (length text) (length text) h g refl refl

pub returns-clause-fault : goal.returns-clause-fault
returns-clause-fault c = λ text place ts h g.
    stuck_or_ended 0 0 text text h.tokens ts place (length text) h.first h.rest h.no_gap h.no_token h.leads g refl refl

pub returns-clause-places : goal.returns-clause-places
returns-clause-places c = λ text ts h. in_order 0 text ts (length text) [] h
