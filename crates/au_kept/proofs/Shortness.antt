-- A condition's text that has a spelling is short enough to be read.
use Rattle.std.proofs.Common.{ℕ, ◌<◌, ◌^◌, List, [], ◌∷◌, length}
use Rattle.std.specs.Prelude.{Option, Some, None}
use Rattle.std.specs.List.{AllByRecursion}
use Rattle.au_entries.specs.declared.change.Change.{Change}
use Rattle.au_entries.specs.declared.change.Change.TheVariants.{User, UserGone, Role, RoleGone, SysGrant, SysRevoke, RoleGrant, RoleRevoke, ObjGrant, ObjRevoke, Table, TableGone, Put, Gone, Policy, PolicyGone, Enable, Fga, FgaGone, Archive, Start}
use Rattle.au_entries.specs.declared.policy.Evaluate.{Evaluate}
use Rattle.au_replay.specs.Reading.{HasShortText, IsShortText, when_text}
use Rattle.rec_codec.specs.Changes.{IsChangeSpellable, IsWhenSpellable, fga, fga_parts, policy, when}
use Rattle.rec_parts.specs.Parts.{text}
use Rattle.rec_parts.specs.Spelling.{option}

text_short : (bytes : List ℕ) → text.IsSpellable bytes → length bytes < 2 ^ 32
unfolding text
text_short bytes can = can.0

when_short : (given : Option (Evaluate × List ℕ)) → IsWhenSpellable given → IsShortText (when_text given)
when_short None can = tt
when_short (Some given) can = text_short given.1 can

option_short : (given : Option (List ℕ)) → (option text).IsSpellable given → IsShortText given
option_short None can = tt
option_short (Some bytes) can = text_short bytes can

pub short : (change : Change) → IsChangeSpellable change → HasShortText change
unfolding policy when fga fga_parts
short (Policy name privileges actions roles given) can = when_short given can.1.1.1.1
short (Fga table name condition columns all types enabled) can = option_short condition can.1.0
short (User name verifier) can = tt
short (UserGone name) can = tt
short (Role name) can = tt
short (RoleGone name) can = tt
short (SysGrant grantee privilege admin) can = tt
short (SysRevoke grantee privilege) can = tt
short (RoleGrant grantee role admin) can = tt
short (RoleRevoke grantee role) can = tt
short (ObjGrant grantee table action) can = tt
short (ObjRevoke grantee table action) can = tt
short (Table name columns key) can = tt
short (TableGone name) can = tt
short (Put table number cells) can = tt
short (Gone table number) can = tt
short (PolicyGone name) can = tt
short (Enable policy enabled) can = tt
short (FgaGone table name) can = tt
short (Archive stamp) can = tt
short (Start instance) can = tt

pub all_short : (changes : List Change) → AllByRecursion IsChangeSpellable changes → AllByRecursion HasShortText changes
all_short [] can = tt
all_short (change ∷ changes) can = (short change can.0, all_short changes can.1)
