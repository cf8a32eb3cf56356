-- The names that are there from the start, and the table that a statement means by a name
-- (Database Security Guide, "Configuring Privilege and Role Authorization"; which unqualified names mean the
-- built-in tables is this project's profile).
use Rattle.std.specs.Prelude.{ℕ, List, codes, Option, Some, None, if◌then◌else◌}
use Rattle.std.specs.Str.{bytes_eq}
use Rattle.au_base.specs.declared.table.TableName.{TableName}
use Rattle.au_base.specs.declared.table.TableReference.{TableReference}

-- the user who owns the store, and DUAL
abbrev pub sys : List ℕ
sys = codes "SYS"

-- the owner of the audit trail, who is no user
abbrev pub audsys : List ℕ
audsys = codes "AUDSYS"

-- no user or role can have this name
abbrev pub public_name : List ℕ
public_name = codes "PUBLIC"

-- the role that may administer auditing
abbrev pub audit_admin : List ℕ
audit_admin = codes "AUDIT_ADMIN"

-- the role that may read the audit trail
abbrev pub audit_viewer : List ℕ
audit_viewer = codes "AUDIT_VIEWER"

-- the policy that is always on, and is in no catalogue
abbrev pub ora_mandatory : List ℕ
ora_mandatory = codes "ORA$MANDATORY"

-- the audit policy that every store begins with
abbrev pub p_all : List ℕ
p_all = codes "P_ALL"

-- the name of the table with one row
abbrev pub dual_name : List ℕ
dual_name = codes "DUAL"

-- the name of the table whose rows are the trail's records
abbrev pub trail_name : List ℕ
trail_name = codes "UNIFIED_AUDIT_TRAIL"

-- the table with one row
abbrev pub dual : TableName
dual = record { owner = sys; name = dual_name }

-- the table whose rows are the trail's records
abbrev pub trail : TableName
trail = record { owner = audsys; name = trail_name }

-- whose table an unqualified name means: the built-in ones come before the user's own
abbrev pub owner_of : List ℕ → List ℕ → List ℕ
owner_of user table =
    if bytes_eq table dual.name then dual.owner
    else (if bytes_eq table trail.name then trail.owner else user)

-- the owner that is written, or else the implied one
abbrev pub owner_in : List ℕ → List ℕ → Option (List ℕ) → List ℕ
owner_in user table (Some owner) = owner
owner_in user table None = owner_of user table

-- the table that the user means
abbrev pub resolved_table : List ℕ → TableReference → TableName
resolved_table user t = record { owner = owner_in user t.name t.owner; name = t.name }
