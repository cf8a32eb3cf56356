use Rattle.std.proofs.Common.{List, arith, subst}
use Rattle.std.proofs.lemmas.List.{take_all}
use Rattle.au_rows.specs.Held.{number_of, seen_at}
use Rattle.au_txn.specs.declared.row_name.RowName.{RowName}
use Rattle.au_txn.specs.Listing.{AreListed}
use Rattle.au_txn.proofs.listing.finals_in.Goals as goal

pub returns : goal.returns
returns c = subst (λ (done : List RowName). AreListed (λ t n. seen_at (number_of t c.args.rows.now.tables) n c.args.clients.0 c.args.rows.now.held) (λ t n. seen_at (number_of t c.args.rows.now.tables) n c.args.clients.1 c.args.rows.now.held) done c.loop-at.finals.items)
    (take_all c.loop-at.at c.args.names.now (omega arith)) c.loop-at.invariant
