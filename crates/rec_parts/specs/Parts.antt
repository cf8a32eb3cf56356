-- What frames are made of: names, texts, numbers, codes and lists.
use Rattle.std.specs.Prelude.{ℕ, ◌+◌, List, [], ◌∷◌, nat_le, nat_lt, ◌&&◌, ◌||◌, Bool, true, false, IsTrue, Option, if◌then◌else◌}
use Rattle.std.specs.Int.{w16, w32, w64}
use Rattle.std.specs.Option.{option_eq}
use Rattle.std.specs.Str.{IsUtf8, bytes_eq}
use Rattle.au_base.specs.Actions as actions
use Rattle.au_base.specs.Limits.{LAST_MOMENT}
use Rattle.au_base.specs.Naming.{IsName}
use Rattle.au_base.specs.Privileges as privileges
use Rattle.au_base.specs.declared.action.Action.{Action}
use Rattle.au_base.specs.declared.code.Code.{Code}
use Rattle.au_base.specs.declared.numbers.SessionNo.{SessionNo}
use Rattle.au_base.specs.declared.numbers.Stamp.{Stamp}
use Rattle.au_base.specs.declared.privilege.Privilege.{Privilege}
use Rattle.au_base.specs.declared.table.TableName.{TableName}
use Rattle.au_entries.specs.declared.policy.Outcomes.{Outcomes}
use Rattle.au_entries.specs.declared.trail_record.RecordKind.{RecordKind}
use Rattle.au_entries.specs.declared.trail_record.RecordKind.TheVariants.{Standard, FineGrained}
use Rattle.au_grants.specs.Holding.{same_action, same_table}
use Rattle.rec_parts.specs.Spelling.{Spelling, by_parts, byte, coded, counted, is_without_repeats, long, number, only, pair, run, such_that}

-- a name: its length in two bytes, and its bytes, 1 to 128 of UTF-8
unfoldable pub name : Spelling (List ℕ)
name = only (long (number w16)) IsName

-- a long text: its length in four bytes, and its bytes, which are UTF-8
unfoldable pub text : Spelling (List ℕ)
text = only (long (number w32)) IsUtf8

-- a truth value is 0 or 1
abbrev pub truth_code : Bool → ℕ
truth_code false = 0
truth_code true = 1

unfoldable pub truth : Spelling Bool
truth = coded truth_code

-- a moment up to the end of the year 9999
unfoldable pub stamp : Spelling Stamp
stamp = by_parts (such_that (number w64) (λ n. nat_le n LAST_MOMENT)) (λ s. s.0)

-- a session's number, of up to 18 digits
unfoldable pub session : Spelling SessionNo
session = by_parts (such_that (number w64) (λ n. nat_le n 999_999_999_999_999_999)) (λ s. s.0)

-- a return code
unfoldable pub return_code : Spelling Code
return_code = by_parts (number w32) (λ c. c.0)

-- a password's verifier
unfoldable pub verifier : Spelling (List ℕ)
verifier = run 32

-- a privilege by its number
unfoldable pub privilege : Spelling Privilege
privilege = coded privileges.code_of

-- an action by its number, 0 for any action
unfoldable pub action : Spelling Action
action = coded actions.code_of

-- the type of a record: 1 for a standard one, 2 for one of fine-grained auditing
abbrev pub kind_code : RecordKind → ℕ
kind_code Standard = 1
kind_code FineGrained = 2

unfoldable pub kind : Spelling RecordKind
kind = coded kind_code

-- 1 for a statement that was done and 2 for one that was refused, added; at least one of them
abbrev pub outcomes_code : Outcomes → ℕ
outcomes_code o = (if o.success then 1 else 0) + (if o.failure then 2 else 0)

unfoldable pub outcomes : Spelling Outcomes
outcomes = record { spelled = λ o. outcomes_code o ∷ []; IsSpellable = λ o. IsTrue (o.success || o.failure) }

-- a table: its owner and its name
unfoldable pub table : Spelling TableName
table = by_parts (pair name name) (λ t. (t.owner, t.name))

-- up to 65,535 names, no two the same
unfoldable pub names : Spelling (List (List ℕ))
names = such_that (counted (number w16) name) (is_without_repeats bytes_eq)

-- each privilege's number is over the one before it
abbrev pub is_rising : ℕ → List Privilege → Bool
is_rising low [] = true
is_rising low (p ∷ ps) = nat_lt low (privileges.code_of p) && is_rising (privileges.code_of p) ps

-- privileges in the order of their numbers, no two the same
unfoldable pub privileges_in_order : Spelling (List Privilege)
privileges_in_order = such_that (counted byte privilege) (is_rising 0)

-- a part of a policy: an action, on one table where one is named
abbrev pub Part : Type 0
Part = Action × Option TableName

-- two parts are the same
abbrev pub same_part : Part → Part → Bool
same_part a b = same_action a.0 b.0 && option_eq same_table a.1 b.1
