-- How the records of the audit trail are spelled.
use Rattle.std.specs.Prelude.{ℕ, List, length, nat_le, ◌&&◌}
use Rattle.std.specs.Int.{w32}
use Rattle.au_base.specs.Actions as actions
use Rattle.au_base.specs.Limits.{RECORD_POLICIES, STATEMENT_BYTES}
use Rattle.au_base.specs.declared.action.Action.{Action}
use Rattle.au_entries.specs.declared.trail_record.Record.{Record}
use Rattle.rec_codec.specs.declared.record_parts.Deed.{Deed}
use Rattle.rec_codec.specs.declared.record_parts.Grounds.{Grounds}
use Rattle.rec_codec.specs.declared.record_parts.Origin.{Origin}
use Rattle.rec_parts.specs.Spelling.{Spelling, by_parts, number, option, pair, such_that}
use Rattle.rec_parts.specs.Parts.{name, text, stamp, session, action, kind, return_code, names, privileges_in_order}

-- an action that was done, and not just any
unfoldable pub done_action : Spelling Action
done_action = such_that action (λ a. nat_le 1 (actions.code_of a))

-- the text of a statement: 1 to 32,767 bytes
unfoldable pub statement_text : Spelling (List ℕ)
statement_text = such_that text (λ bytes. nat_le 1 (length bytes) && nat_le (length bytes) STATEMENT_BYTES)

-- the policies that demand a record: at most 10,001
unfoldable pub demanding : Spelling (List (List ℕ))
demanding = such_that names (λ ns. nat_le (length ns) RECORD_POLICIES)

-- whose event a record is of: the kind, the session, the counts, the moment and the user
unfoldable pub origin : Spelling Origin
origin = by_parts (pair kind (pair session (pair (number w32) (pair (number w32) (pair stamp name))))) (λ o. (o.kind, (o.session, (o.entry, (o.statement, (o.stamp, o.user))))))

-- what was done: the action, the object and the text
unfoldable pub deed : Spelling Deed
deed = by_parts (pair done_action (pair (option name) (pair (option name) (option statement_text)))) (λ d. (d.action, (d.schema, (d.object, d.sql))))

-- why there is a record, and what came of it: privileges, policies and the code
unfoldable pub grounds : Spelling Grounds
grounds = by_parts (pair privileges_in_order (pair demanding (pair (option name) return_code))) (λ g. (g.used, (g.policies, (g.fga, g.code))))

-- a record, part by part
abbrev pub origin_of : Record → Origin
origin_of r = record { kind = r.kind; session = r.session; entry = r.entry; statement = r.statement; stamp = r.stamp; user = r.user }

abbrev pub deed_of : Record → Deed
deed_of r = record { action = r.action; schema = r.schema; object = r.object; sql = r.sql }

abbrev pub grounds_of : Record → Grounds
grounds_of r = record { used = r.used; policies = r.policies; fga = r.fga; code = r.code }

abbrev pub record_of : Origin → Deed → Grounds → Record
record_of o d g = record {
  kind = o.kind;
  session = o.session;
  entry = o.entry;
  statement = o.statement;
  stamp = o.stamp;
  user = o.user;
  action = d.action;
  schema = d.schema;
  object = d.object;
  sql = d.sql;
  used = g.used;
  policies = g.policies;
  fga = g.fga;
  code = g.code;
}

unfoldable pub trail_record : Spelling Record
trail_record = by_parts (pair origin (pair deed grounds)) (λ r. (origin_of r, (deed_of r, grounds_of r)))
