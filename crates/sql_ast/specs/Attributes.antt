-- What SYS_CONTEXT tells of a session (SQL Language Reference, "SYS_CONTEXT"; which attributes there are is this
-- project's profile).
use Rattle.std.specs.Prelude.{ℕ, List, [], ◌∷◌, codes}
use Rattle.sql_ast.specs.declared.context.Attribute.{Attribute}
use Rattle.sql_ast.specs.declared.context.Attribute.TheVariants as attribute

-- the namespace
abbrev pub namespace : List ℕ
namespace = codes "USERENV"

-- all attributes of the namespace
abbrev pub each_attribute : List Attribute
each_attribute = attribute.SessionUser ∷ attribute.SessionId ∷ []

-- the name of the attribute
abbrev pub attribute_name : Attribute → List ℕ
attribute_name attribute.SessionUser = codes "SESSION_USER"
attribute_name attribute.SessionId = codes "SESSIONID"
