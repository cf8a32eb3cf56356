-- The grammar of GRANT and REVOKE, rule by rule (SQL Language Reference, "GRANT" and "REVOKE"; the choice of rules is this
-- project's profile).
use Rattle.std.specs.Prelude.{ℕ, Bool, true, false, List, ◌∷◌, codes}
use Rattle.au_base.specs.declared.grant.GrantStatement.{GrantStatement}
use Rattle.au_base.specs.declared.grant.GrantStatement.TheVariants as statement
use Rattle.au_base.specs.declared.grant.ObjectRight.{ObjectRight}
use Rattle.au_base.specs.declared.grant.Right.{Right}
use Rattle.au_base.specs.declared.table.TableReference.{TableReference}
use Rattle.sql_lex.specs.declared.token.Kind.{Kind}
use Rattle.sql_lex.specs.declared.token.Kind.TheVariants.{Word}
use Rattle.sql_parse.specs.Symbols.{comma}
use Rattle.sql_parse.specs.Rules.{Parted}
use Rattle.sql_parse.specs.Tables.{Name, Table}
use Rattle.sql_parse.specs.Privileges.{IsObjectRight, IsRight}

-- [WITH ADMIN OPTION], and whether it stands there
pub data AdminOption : List Kind → Bool → List Kind → Type 0 where
  without : {o : List Kind} → AdminOption o false o
  with_option : {o : List Kind} → AdminOption (Word (codes "WITH") ∷ Word (codes "ADMIN") ∷ Word (codes "OPTION") ∷ o) true o

-- name {, name}
abbrev pub Names : List Kind → List (List ℕ) → List Kind → Type 0
Names = Parted comma Name

-- Grant = GRANT right {, right} TO name {, name} [WITH ADMIN OPTION]
-- Revoke = REVOKE right {, right} FROM name {, name}
-- GrantObject = GRANT oright {, oright} ON table TO name {, name}
-- RevokeObject = REVOKE oright {, oright} ON table FROM name {, name}
pub data IsGrant : List Kind → GrantStatement → List Kind → Type 0 where
  grant : {i j m o : List Kind} {rs : List Right} {ns : List (List ℕ)} {b : Bool}
      → Parted comma IsRight i rs (Word (codes "TO") ∷ j) → Names j ns m → AdminOption m b o → IsGrant (Word (codes "GRANT") ∷ i) (statement.Grant rs ns b) o
  revoke : {i j o : List Kind} {rs : List Right} {ns : List (List ℕ)}
      → Parted comma IsRight i rs (Word (codes "FROM") ∷ j) → Names j ns o → IsGrant (Word (codes "REVOKE") ∷ i) (statement.Revoke rs ns) o
  grant_object : {i j m o : List Kind} {rs : List ObjectRight} {t : TableReference} {ns : List (List ℕ)}
      → Parted comma IsObjectRight i rs (Word (codes "ON") ∷ j) → Table j t (Word (codes "TO") ∷ m) → Names m ns o → IsGrant (Word (codes "GRANT") ∷ i) (statement.GrantObject rs t ns) o
  revoke_object : {i j m o : List Kind} {rs : List ObjectRight} {t : TableReference} {ns : List (List ℕ)}
      → Parted comma IsObjectRight i rs (Word (codes "ON") ∷ j) → Table j t (Word (codes "FROM") ∷ m) → Names m ns o → IsGrant (Word (codes "REVOKE") ∷ i) (statement.RevokeObject rs t ns) o
