-- Reading what is granted by descent: what each function of the code answers.
use Rattle.std.specs.Prelude.{ℕ, Bool, not, ◌||◌, ◌&&◌, if◌then◌else◌, List, Option, Some, None, codes}
use Rattle.au_base.specs.declared.grant.ObjectRight.{ObjectRight}
use Rattle.au_base.specs.declared.grant.ObjectRight.TheVariants as on
use Rattle.au_base.specs.declared.grant.Right.{Right}
use Rattle.au_base.specs.declared.grant.Right.TheVariants as kind
use Rattle.au_base.specs.declared.privilege.Privilege.{Privilege}
use Rattle.au_base.specs.Privileges.{each_privilege}
use Rattle.sql_lex.specs.declared.token.Kind.{Kind}
use Rattle.sql_lex.specs.declared.token.Kind.TheVariants.{Word}
use Rattle.sql_parse.specs.Symbols.{sees, comma}
use Rattle.sql_parse.specs.Privileges.{words_of}
use Rattle.sql_parse.specs.descent.Reading.{Reader, under, behind, name, parted}
use Rattle.sql_parse.specs.descent.ReadTables.{past}
use Rattle.sql_parse_admin.specs.descent.ReadWords.{first_of}

-- the privilege whose words come next
unfoldable pub privilege : Reader Privilege
privilege = first_of words_of each_privilege

-- privilege {, privilege}
unfoldable pub privileges : Reader (List Privilege)
privileges = parted comma privilege

-- a role, where a name was read, or else a privilege
abbrev pub role_or : List Kind → Option (List ℕ × List Kind) → Option (Right × List Kind)
role_or i (Some x) = Some (kind.Role x.0, x.1)
role_or i None = under kind.Privilege (privilege i)

-- privilege | name
unfoldable pub right : Reader Right
right i = role_or i (name i)

-- SELECT | INSERT | UPDATE | DELETE | ALL [PRIVILEGES]
unfoldable pub object_right : Reader ObjectRight
object_right i =
    if sees (Word (codes "SELECT")) i then Some (on.Select, behind i) else (if sees (Word (codes "INSERT")) i then Some (on.Insert, behind i)
    else (if sees (Word (codes "UPDATE")) i then Some (on.Update, behind i) else (if sees (Word (codes "DELETE")) i then Some (on.Delete, behind i)
    else (if sees (Word (codes "ALL")) i then Some (on.All, past (Word (codes "PRIVILEGES")) (behind i)) else None))))

-- whether one of the four actions comes next
abbrev pub is_action : List Kind → Bool
is_action i = sees (Word (codes "SELECT")) i || sees (Word (codes "INSERT")) i || sees (Word (codes "UPDATE")) i || sees (Word (codes "DELETE")) i

-- whether a right on a table comes next
abbrev pub is_object_right : List Kind → Bool
is_object_right i = sees (Word (codes "ALL")) i || (not (sees (Word (codes "ANY")) (behind i)) && is_action i)
