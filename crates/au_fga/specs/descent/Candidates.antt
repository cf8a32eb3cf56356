-- Policies that fire where a row passes their tests.
use Rattle.std.specs.Prelude.{◌≡◌, Bool, List, map, Option}
use Rattle.std.specs.Borrow.{Bor}
use Rattle.std.specs.List.{filter, list_any}
use Rattle.au_audit.specs.Firing.{fires, meets}
use Rattle.au_base.specs.declared.cell.Cell.{Cell}
use Rattle.au_base.specs.declared.table.TableName.{TableName}
use Rattle.au_base.specs.Codes.{DONE}
use Rattle.au_catalog.specs.declared.catalog.Catalog.{Catalog}
use Rattle.au_entries.specs.declared.fine_grained.FgaName.{FgaName}
use Rattle.au_entries.specs.declared.policy.Condition.{Condition}
use Rattle.au_entries.specs.declared.table.Table.{Table}
use Rattle.au_expr.specs.Sessions.{Session}
use Rattle.au_fga.specs.declared.candidates.Candidate.{Candidate}
use Rattle.au_fga.specs.declared.facts.RowFacts.{RowFacts}
use Rattle.au_fga.specs.declared.testing.Test.{Test}
use Rattle.au_fga.specs.Testing.{FitTable, seen, table_of, truth_over}
use Rattle.au_fga.specs.descent.Comparing.{passes}
use Rattle.au_fga.specs.descent.Rows.{some_of}

-- the policy's name
abbrev pub name_of : Candidate → FgaName
name_of candidate = candidate.name.now

-- one of these rows of the table passes the candidate's test, where the table is its own
abbrev pub hits : Session → TableName → List (Bor (List Cell)) → Candidate → Bool
hits session table rows candidate = some_of (passes session candidate.test) candidate.name.now.table (table, rows)

-- a touched row of its table passes the candidate's test
abbrev pub answer : Session → List (TableName × List (Bor (List Cell))) → Candidate → Bool
answer session touched candidate = list_any (some_of (passes session candidate.test) candidate.name.now.table) touched

-- some of the rows, which fit the table, passes the test where some meets the condition
abbrev pub AnswersFor : List Table → TableName → Option Condition → Test → Type 0
AnswersFor tables name condition test =
    (session : Session) (rows : List (List Cell)) → FitTable (table_of tables name) rows → list_any (passes session test) rows ≡ list_any (meets (truth_over session tables) name condition) rows

-- those of them that answer are the policies that fire, in their order
abbrev pub AreCandidates : Catalog → RowFacts → List Candidate → Type 0
AreCandidates catalog facts candidates =
    (session : Session) → map name_of (filter (answer session facts.touched) candidates)
    ≡ map (λ policy. policy.name) (filter (fires (truth_over session catalog.tables) DONE (seen facts)) catalog.fga)
