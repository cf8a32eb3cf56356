-- What has to be so of a call, and of what is kept of fine-grained policies, so that the changes of the call can be written.
use Rattle.std.specs.Prelude.{◌≤◌, ⊤, IsUtf8, List, length, map}
use Rattle.std.specs.List.{AllByRecursion}
use Rattle.au_base.specs.Limits.{STATEMENT_BYTES}
use Rattle.au_entries.specs.declared.fine_grained.FgaPolicy.{FgaPolicy}
use Rattle.au_entries.specs.Imaging.{fga_change}
use Rattle.rec_codec.specs.Changes.{IsChangeSpellable}
use Rattle.sql_ast.specs.declared.call.Argument.{Argument}
use Rattle.sql_ast.specs.declared.call.Call.{Call}
use Rattle.sql_ast.specs.declared.call.Value.{Value}
use Rattle.sql_ast.specs.declared.call.Value.TheVariants.{Constant, False, Literal, Moment, Now, Null, Number, True}

-- a text that is given is UTF-8
abbrev pub IsValueText : Value → Type 0
IsValueText (Literal text) = IsUtf8 text
IsValueText (Number number) = ⊤
IsValueText Null = ⊤
IsValueText True = ⊤
IsValueText False = ⊤
IsValueText (Constant home name) = ⊤
IsValueText Now = ⊤
IsValueText (Moment moment) = ⊤

abbrev pub IsArgumentText : Argument → Type 0
IsArgumentText argument = IsValueText argument.value

-- each text in a call is UTF-8, as the types of the program have it
abbrev pub AreCallTexts : Call → Type 0
AreCallTexts call = AllByRecursion IsArgumentText call.arguments

-- a text that is given has no more bytes than the text of a statement may have
abbrev pub IsValueShort : Value → Type 0
IsValueShort (Literal text) = length text ≤ STATEMENT_BYTES
IsValueShort (Number number) = ⊤
IsValueShort Null = ⊤
IsValueShort True = ⊤
IsValueShort False = ⊤
IsValueShort (Constant home name) = ⊤
IsValueShort Now = ⊤
IsValueShort (Moment moment) = ⊤

abbrev pub IsArgumentShort : Argument → Type 0
IsArgumentShort argument = IsValueShort argument.value

-- so of each text in a call
abbrev pub IsCallShort : Call → Type 0
IsCallShort call = AllByRecursion IsArgumentShort call.arguments

-- each fine-grained policy that is kept has a spelling, as the change that makes it so
abbrev pub AreFgaSpelled : List FgaPolicy → Type 0
AreFgaSpelled policies = AllByRecursion IsChangeSpellable (map fga_change policies)
