-- The grammar of what is granted (SQL Language Reference, "GRANT"; the choice of rules is this project's profile).
use Rattle.std.specs.Prelude.{ℕ, ◌==◌, List, ◌∷◌, ◌++◌, map, codes}
use Rattle.std.specs.List.{slice_split}
use Rattle.au_base.specs.declared.privilege.Privilege.{Privilege}
use Rattle.au_base.specs.declared.grant.ObjectRight.{ObjectRight}
use Rattle.au_base.specs.declared.grant.ObjectRight.TheVariants as on
use Rattle.au_base.specs.declared.grant.Right.{Right}
use Rattle.au_base.specs.declared.grant.Right.TheVariants as kind
use Rattle.au_base.specs.Privileges.{name_of}
use Rattle.sql_lex.specs.declared.token.Kind.{Kind}
use Rattle.sql_lex.specs.declared.token.Kind.TheVariants.{Word}
use Rattle.sql_parse.specs.Rules.{Maybe}
use Rattle.sql_parse.specs.Tables.{Name}

-- the words of a name, which blanks (byte 32) part
abbrev pub words : List ℕ → List (List ℕ)
words name = slice_split (λ byte. byte == 32) name

-- the words that a privilege's name has
abbrev pub words_of : Privilege → List (List ℕ)
words_of privilege = words (name_of privilege)

-- as tokens
abbrev pub tokens_of : List (List ℕ) → List Kind
tokens_of each = map (λ word. Word word) each

-- privilege = the words of a system privilege, one behind the other
pub data IsPrivilege : List Kind → Privilege → List Kind → Type 0 where
  privilege : {p : Privilege} {o : List Kind} → IsPrivilege (tokens_of (words_of p) ++ o) p o

-- right = privilege | name
pub data IsRight : List Kind → Right → List Kind → Type 0 where
  system : {i o : List Kind} {p : Privilege} → IsPrivilege i p o → IsRight i (kind.Privilege p) o
  role : {i o : List Kind} {n : List ℕ} → Name i n o → IsRight i (kind.Role n) o

-- oright = SELECT | INSERT | UPDATE | DELETE | ALL [PRIVILEGES]
pub data IsObjectRight : List Kind → ObjectRight → List Kind → Type 0 where
  select : {o : List Kind} → IsObjectRight (Word (codes "SELECT") ∷ o) on.Select o
  insert : {o : List Kind} → IsObjectRight (Word (codes "INSERT") ∷ o) on.Insert o
  update : {o : List Kind} → IsObjectRight (Word (codes "UPDATE") ∷ o) on.Update o
  delete : {o : List Kind} → IsObjectRight (Word (codes "DELETE") ∷ o) on.Delete o
  all : {i o : List Kind} → Maybe (Word (codes "PRIVILEGES")) i o → IsObjectRight (Word (codes "ALL") ∷ i) on.All o
