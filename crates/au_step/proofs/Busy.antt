-- What is told of busy tables is enough for each statement.
use Rattle.std.proofs.Common.{◌≡◌, ℕ, Bool, true, false, ◌==◌, cond, List, [], ◌∷◌, refl, ap, subst, arith}
use Rattle.std.specs.Prelude.{IsTrue, Option, Some, None}
use Rattle.std.specs.List.{Contains, filter, flat_map}
use Rattle.std.proofs.lemmas.Bool.Decides.{nat_tests}
use Rattle.au_base.specs.declared.numbers.ClientNo.{ClientNo}
use Rattle.au_base.specs.declared.table.TableName.{TableName}
use Rattle.au_txn.specs.Transactions.{names_table}
use Rattle.au_step.specs.State.{OpenSession}
use Rattle.au_step.specs.Step.{busy_of, session_of, transaction_in, transaction_of}
use Rattle.au_step.proofs.Clients.{is_of}
use Rattle.au_step.proofs.Desks.{found_is}
use Rattle.au_step.proofs.Lists.{filtered, here, made, mapped, there}

-- numbers tell clients apart
pub one_client : (a b : ClientNo) → (a.0 == b.0) ≡ true → a ≡ b
one_client a b is = let same : a.0 ≡ b.0 = grind (arith, nat_tests) in ap (λ (n : ℕ). let c : ClientNo = record { 0 = n } in c) same

-- the session that is found is one of them
found_at : (s found : OpenSession) (rest : List OpenSession) (client : ClientNo) (own : Bool) → (session_of rest client ≡ Some found → Contains rest found) → cond own (Some s) (session_of rest client) ≡ Some found → Contains (s ∷ rest) found
found_at s found rest client true more is = subst (Contains (s ∷ rest)) (let e : Some s ≡ Some found = is in cc) (here s rest)
found_at s found rest client false more is = there s rest found (more is)

found_among : (client : ClientNo) (sessions : List OpenSession) (found : OpenSession) → session_of sessions client ≡ Some found → Contains sessions found
found_among client [] found is = absurd (let e : None ≡ Some found = is in cc)
found_among client (s ∷ sessions) found is = found_at s found sessions client (is_of client s) (found_among client sessions found) is

-- a session with a change in a table that is asked for tells of it
tells_of : (tables : List TableName) (sessions : List OpenSession) (client : ClientNo) (table : TableName) (found : OpenSession) → Contains sessions found → found.session.client ≡ client → Contains tables table
    → IsTrue (names_table table found.transaction) → Contains (flat_map (busy_of tables) sessions) (table, client)
tells_of tables sessions client table found has is asked busy =
    made (busy_of tables) sessions found (table, client) has
    (subst (λ (c : ClientNo). Contains (busy_of tables found) (table, c)) is
    (mapped (λ (t : TableName). (t, found.session.client)) (filter (λ (t : TableName). names_table t found.transaction) tables) table
    (filtered (λ (t : TableName). names_table t found.transaction) tables table asked busy)))

busy_at : (tables : List TableName) (sessions : List OpenSession) (client : ClientNo) (table : TableName) (found : Option OpenSession) → session_of sessions client ≡ found → Contains tables table
    → IsTrue (names_table table (transaction_in found)) → Contains (flat_map (busy_of tables) sessions) (table, client)
busy_at tables sessions client table None is asked busy = absurd (let e : false ≡ true = busy in cc)
busy_at tables sessions client table (Some found) is asked busy =
    tells_of tables sessions client table found (found_among client sessions found is) (one_client found.session.client client (found_is client sessions found is)) asked busy

-- a client with a change in a table that is asked for is told of
pub busy_told : (tables : List TableName) (sessions : List OpenSession) (client : ClientNo) (table : TableName) → Contains tables table → IsTrue (names_table table (transaction_of sessions client))
    → Contains (flat_map (busy_of tables) sessions) (table, client)
busy_told tables sessions client table asked busy = busy_at tables sessions client table (session_of sessions client) refl asked busy
