-- How the records of the audit trail are read.
use Rattle.std.specs.Prelude.{ℕ, List, length, nat_le, ◌&&◌}
use Rattle.std.specs.Int.{w32}
use Rattle.au_base.specs.Actions as actions
use Rattle.au_base.specs.Limits.{RECORD_POLICIES, STATEMENT_BYTES}
use Rattle.au_base.specs.declared.action.Action.{Action}
use Rattle.au_entries.specs.declared.trail_record.Record.{Record}
use Rattle.rec_parts.specs.descent.Reading.{Front, made_first, number_first, option_first, pair_first, tested_first}
use Rattle.rec_parts.specs.descent.Parts.{name_first, text_first, stamp_first, session_first, action_first, kind_first, return_code_first, names_first, privileges_first}
use Rattle.rec_codec.specs.declared.record_parts.Deed.{Deed}
use Rattle.rec_codec.specs.declared.record_parts.Grounds.{Grounds}
use Rattle.rec_codec.specs.declared.record_parts.Origin.{Origin}
use Rattle.rec_codec.specs.Records.{record_of}

unfoldable pub done_action_first : Front Action
done_action_first = tested_first action_first (λ a. nat_le 1 (actions.code_of a))

unfoldable pub statement_text_first : Front (List ℕ)
statement_text_first = tested_first text_first (λ bytes. nat_le 1 (length bytes) && nat_le (length bytes) STATEMENT_BYTES)

unfoldable pub demanding_first : Front (List (List ℕ))
demanding_first = tested_first names_first (λ ns. nat_le (length ns) RECORD_POLICIES)

unfoldable pub origin_first : Front Origin
origin_first = made_first (pair_first kind_first (pair_first session_first (pair_first (number_first w32) (pair_first (number_first w32) (pair_first stamp_first name_first)))))
    (λ x. record { kind = x.0; session = x.1.0; entry = x.1.1.0; statement = x.1.1.1.0; stamp = x.1.1.1.1.0; user = x.1.1.1.1.1 })

unfoldable pub deed_first : Front Deed
deed_first = made_first (pair_first done_action_first (pair_first (option_first name_first) (pair_first (option_first name_first) (option_first statement_text_first))))
    (λ x. record { action = x.0; schema = x.1.0; object = x.1.1.0; sql = x.1.1.1 })

unfoldable pub grounds_first : Front Grounds
grounds_first = made_first (pair_first privileges_first (pair_first demanding_first (pair_first (option_first name_first) return_code_first)))
    (λ x. record { used = x.0; policies = x.1.0; fga = x.1.1.0; code = x.1.1.1 })

unfoldable pub record_first : Front Record
record_first = made_first (pair_first origin_first (pair_first deed_first grounds_first)) (λ x. record_of x.0 x.1.0 x.1.1)
