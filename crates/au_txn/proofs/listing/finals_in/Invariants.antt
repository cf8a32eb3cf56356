use Rattle.std.proofs.Common.{take}
use Rattle.au_rows.specs.Held.{number_of, seen_at}
use Rattle.au_txn.specs.Listing.{AreListed}
use Rattle.au_txn.proofs.listing.finals_in.Given as goal

abbrev pub invariant-loop-at : goal.invariant-loop-at
invariant-loop-at l = AreListed (λ t n. seen_at (number_of t l.rows.tables) n l.clients.0 l.rows.held) (λ t n. seen_at (number_of t l.rows.tables) n l.clients.1 l.rows.held) (take l.at l.names) l.finals.items
