-- How names, texts, numbers, codes and lists are read.
use Rattle.std.specs.Prelude.{ℕ, List, length, nat_le, ◌==◌, ◌&&◌, Bool, true, false, Option, Some, None, if◌then◌else◌}
use Rattle.std.specs.Int.{w16, w32, w64}
use Rattle.std.specs.List.{find}
use Rattle.std.specs.Str.{is_utf8, bytes_eq}
use Rattle.au_base.specs.Actions as actions
use Rattle.au_base.specs.Limits.{LAST_MOMENT, NAME_BYTES}
use Rattle.au_base.specs.Privileges as privileges
use Rattle.au_base.specs.declared.action.Action.{Action}
use Rattle.au_base.specs.declared.code.Code.{Code}
use Rattle.au_base.specs.declared.numbers.SessionNo.{SessionNo}
use Rattle.au_base.specs.declared.numbers.Stamp.{Stamp}
use Rattle.au_base.specs.declared.privilege.Privilege.{Privilege}
use Rattle.au_base.specs.declared.table.TableName.{TableName}
use Rattle.au_entries.specs.declared.policy.Outcomes.{Outcomes}
use Rattle.au_entries.specs.declared.trail_record.RecordKind.{RecordKind}
use Rattle.au_entries.specs.declared.trail_record.RecordKind.TheVariants.{Standard, FineGrained}
use Rattle.rec_parts.specs.Spelling.{is_without_repeats}
use Rattle.rec_parts.specs.Parts.{is_rising}
use Rattle.rec_parts.specs.descent.Reading.{Front, byte_first, coded_first, counted_first, long_first, made_first, number_first, pair_first, run_first, tested_first}

-- whether the bytes are a name
abbrev pub is_name : List ℕ → Bool
is_name bytes = nat_le 1 (length bytes) && (nat_le (length bytes) NAME_BYTES && is_utf8 bytes)

unfoldable pub name_first : Front (List ℕ)
name_first = tested_first (long_first (number_first w16)) is_name

unfoldable pub text_first : Front (List ℕ)
text_first = tested_first (long_first (number_first w32)) is_utf8

abbrev pub truth_with : ℕ → Option Bool
truth_with code = if code == 0 then Some false else (if code == 1 then Some true else None)

unfoldable pub truth_first : Front Bool
truth_first = coded_first truth_with

unfoldable pub stamp_first : Front Stamp
stamp_first = made_first (tested_first (number_first w64) (λ n. nat_le n LAST_MOMENT)) (λ n. record { 0 = n })

unfoldable pub session_first : Front SessionNo
session_first = made_first (tested_first (number_first w64) (λ n. nat_le n 999_999_999_999_999_999)) (λ n. record { 0 = n })

unfoldable pub return_code_first : Front Code
return_code_first = made_first (number_first w32) (λ n. record { 0 = n })

unfoldable pub verifier_first : Front (List ℕ)
verifier_first = run_first 32

unfoldable pub privilege_with : ℕ → Option Privilege
privilege_with code = find (λ privilege. privileges.code_of privilege == code) privileges.each_privilege

unfoldable pub privilege_first : Front Privilege
privilege_first = coded_first privilege_with

unfoldable pub action_with : ℕ → Option Action
action_with code = find (λ action. actions.code_of action == code) actions.each_action

unfoldable pub action_first : Front Action
action_first = coded_first action_with

abbrev pub kind_with : ℕ → Option RecordKind
kind_with code = if code == 1 then Some Standard else (if code == 2 then Some FineGrained else None)

unfoldable pub kind_first : Front RecordKind
kind_first = coded_first kind_with

abbrev pub outcomes_with : ℕ → Option Outcomes
outcomes_with code =
    if code == 1 then Some (record { success = true; failure = false })
    else (if code == 2 then Some (record { success = false; failure = true })
    else (if code == 3 then Some (record { success = true; failure = true })
    else None))

unfoldable pub outcomes_first : Front Outcomes
outcomes_first = coded_first outcomes_with

unfoldable pub table_first : Front TableName
table_first = made_first (pair_first name_first name_first) (λ x. record { owner = x.0; name = x.1 })

unfoldable pub names_first : Front (List (List ℕ))
names_first = tested_first (counted_first (number_first w16) name_first) (is_without_repeats bytes_eq)

unfoldable pub privileges_first : Front (List Privilege)
privileges_first = tested_first (counted_first byte_first privilege_first) (is_rising 0)
