-- What has to be so of a statement's condition and of its moments, so that its changes go on from what is kept.
use Rattle.std.specs.Prelude.{ℕ, ⊤, List, None, option_map}
use Rattle.au_calls.specs.Calling.{IsCallRead, IsCallTimely}
use Rattle.au_calls.specs.Going.{IsReadAs}
use Rattle.au_entries.specs.declared.decision.ReadCondition.{ReadCondition}
use Rattle.au_entries.specs.declared.kept.Kept.{Kept}
use Rattle.au_entries.specs.Replaying.{Conditions}
use Rattle.sql_ast.specs.declared.statement.Statement.{Statement}
use Rattle.sql_ast.specs.declared.statement.Statement.TheVariants.{CreatePolicy, Call}

-- so of the condition in the user's statement: that of an audit policy is over no table, that of a fine-grained policy over its
-- table
abbrev pub IsReadIn : Conditions → Kept → List ℕ → Statement → ReadCondition → Type 0
IsReadIn conditions kept user (CreatePolicy create) read = IsReadAs conditions None (option_map (λ condition. condition.text) create.condition) read
IsReadIn conditions kept user (Call call) read = IsCallRead conditions kept user call read
IsReadIn conditions kept user _ read = ⊤

-- the moment that a call is given isn't over the last moment
abbrev pub IsTimely : Statement → Type 0
IsTimely (Call call) = IsCallTimely call
IsTimely _ = ⊤
