-- The records that a statement leaves in the trail (Database Reference, "UNIFIED_AUDIT_TRAIL"; how entries are counted is
-- this project's profile).
use Rattle.std.specs.Prelude.{ℕ, ◌+◌, min, List, [], ◌∷◌, ◌++◌, map, Option, Some, None, option_map}
use Rattle.std.specs.List.{enumerate_from, filter, list_any}
use Rattle.au_base.specs.declared.privilege.Privilege.{Privilege}
use Rattle.au_base.specs.Codes.{DONE}
use Rattle.au_base.specs.Limits.{SESSION_COUNT}
use Rattle.au_base.specs.Privileges.{each_privilege}
use Rattle.au_base.specs.Sameness.{same_privilege}
use Rattle.au_entries.specs.declared.facts.Facts.{Facts}
use Rattle.au_entries.specs.declared.fine_grained.FgaName.{FgaName}
use Rattle.au_entries.specs.declared.trail_record.Record.{Record}
use Rattle.au_entries.specs.declared.trail_record.RecordKind.TheVariants.{Standard, FineGrained}
use Rattle.au_audit.specs.declared.place.Place.{Place}
use Rattle.au_audit.specs.Statements.{Object}

-- the owner of an object that has one
abbrev pub owner_of : Option Object → Option (List ℕ)
owner_of None = None
owner_of (Some object) = object.0

-- the object's name
abbrev pub name_of : Option Object → Option (List ℕ)
name_of None = None
name_of (Some object) = Some object.1

-- the privileges in the order of their numbers, each once
abbrev pub in_code_order : List Privilege → List Privilege
in_code_order used = filter (λ privilege. list_any (same_privilege privilege) used) each_privilege

-- the unified record that these policies demand
abbrev pub unified_record : Facts → Place → List (List ℕ) → Record
unified_record facts place policies = record {
  kind = Standard;
  session = place.session;
  entry = place.entry;
  statement = place.statement;
  stamp = place.stamp;
  user = facts.user;
  action = facts.action;
  schema = owner_of place.object;
  object = name_of place.object;
  sql = place.sql;
  used = in_code_order facts.used;
  policies = policies;
  fga = None;
  code = facts.code;
}

-- the record that this fine-grained policy demands: its object is the policy's table, its code is that of a statement that
-- was done, and it names no privileges and no audit policies
abbrev pub fine_grained_record : Facts → Place → FgaName → Record
fine_grained_record facts place policy = record {
  kind = FineGrained;
  session = place.session;
  entry = place.entry;
  statement = place.statement;
  stamp = place.stamp;
  user = facts.user;
  action = facts.action;
  schema = Some policy.table.owner;
  object = Some policy.table.name;
  sql = place.sql;
  used = [];
  policies = [];
  fga = Some policy.policy;
  code = DONE;
}

-- one unified record that names all policies which demand one, and none where none does
abbrev pub unified_records : Facts → Place → List (List ℕ) → List Record
unified_records facts place [] = []
unified_records facts place (policy ∷ policies) = unified_record facts place (policy ∷ policies) ∷ []

-- the record with the number that stands so many entries behind this one; the numbers stop at 999,999,999
abbrev pub numbered : ℕ → ℕ × Record → Record
numbered entry counted = record counted.1 { entry = min (entry + counted.0) SESSION_COUNT }

-- What a statement leaves in the trail: the unified record, where some policy demands one, and behind it one record for each
-- fine-grained policy that demands one, in their order. Their entries are counted on from the place's.
abbrev pub records_of : Facts → Place → List (List ℕ) → List FgaName → List Record
records_of facts place policies fired =
    map (numbered place.entry) (enumerate_from 0 (unified_records facts place policies ++ map (fine_grained_record facts place) fired))
