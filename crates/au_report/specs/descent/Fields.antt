-- The fields of a record, of which some are lent and some are made.
use Rattle.std.specs.Prelude.{ℕ, List, [], ◌∷◌, map, min, decimal, Option, Some, None}
use Rattle.au_base.specs.Actions as actions
use Rattle.au_base.specs.Limits.{LAST_MOMENT}
use Rattle.au_base.specs.Moments.{text_of_moment}
use Rattle.au_base.specs.Privileges as privileges
use Rattle.au_entries.specs.declared.trail_record.Record.{Record}
use Rattle.au_audit.specs.TrailRows.{joined, kind_name}
use Rattle.au_report.specs.declared.made.Made.{Made}

-- what isn't there is empty
abbrev pub or_empty : Option (List ℕ) → List ℕ
or_empty None = []
or_empty (Some text) = text

-- the texts that are made for a record
abbrev pub made_for : Record → Made
made_for entry = record {
  session = decimal entry.session.0;
  entry = decimal entry.entry;
  statement = decimal entry.statement;
  moment = text_of_moment (min entry.stamp.0 LAST_MOMENT);
  used = joined (map privileges.name_of entry.used);
  policies = joined entry.policies;
  code = decimal entry.code.0;
}

-- the fields, with those texts
abbrev pub fields_with : Record → Made → List (List ℕ)
fields_with entry made =
    kind_name entry.kind
    ∷ made.session
    ∷ made.entry
    ∷ made.statement
    ∷ made.moment
    ∷ entry.user
    ∷ actions.name_of entry.action
    ∷ or_empty entry.schema
    ∷ or_empty entry.object
    ∷ or_empty entry.sql
    ∷ made.used
    ∷ made.policies
    ∷ or_empty entry.fga
    ∷ made.code
    ∷ []
