-- What a check counts of what is kept, and its text.
use Rattle.std.specs.Prelude.{ℕ, List, [], ◌∷◌, ◌++◌, length, codes, decimal}
use Rattle.au_entries.specs.declared.kept.Kept.{Kept}
use Rattle.au_report.specs.declared.counts.Counts.{Counts}

-- the counts of what is kept, where so many bytes of the journal's area are used; the built-in tables aren't kept
abbrev pub counts_of : Kept → ℕ → Counts
counts_of kept used = record {
  users = length kept.users;
  roles = length kept.roles;
  tables = length kept.tables;
  rows = length kept.rows;
  policies = length kept.policies;
  fga = length kept.fga;
  records = length kept.trail;
  instance = kept.instance;
  bytes = used;
}

-- a line of a word, a space (32) and a number
unfoldable pub counted : List ℕ → ℕ → List ℕ
counted word number = word ++ 32 ∷ [] ++ decimal number ++ 10 ∷ []

-- the nine lines
abbrev pub check_text : Counts → List ℕ
check_text counts =
    counted (codes "users") counts.users
    ++ counted (codes "roles") counts.roles
    ++ counted (codes "tables") counts.tables
    ++ counted (codes "rows") counts.rows
    ++ counted (codes "policies") counts.policies
    ++ counted (codes "fga") counts.fga
    ++ counted (codes "records") counts.records
    ++ counted (codes "instance") counts.instance
    ++ counted (codes "bytes") counts.bytes
