-- What rules make of a statement (the orders of the rules, and what a refused statement has used, are this project's
-- profile).
use Rattle.std.specs.Prelude.{◌↔◌, ◌++◌, Bool, if◌then◌else◌, IsTrue, List, [], None}
use Rattle.std.specs.List.{list_any}
use Rattle.au_base.specs.FirstCode.{first_code}
use Rattle.au_base.specs.declared.code.Code.{Code}
use Rattle.au_base.specs.declared.privilege.Privilege.{Privilege}
use Rattle.au_entries.specs.declared.change.Change.{Change}
use Rattle.au_entries.specs.declared.decision.Decision.{Decision}

-- rules in their order: whether each is broken, and its code
abbrev pub Rules : Type 0
Rules = List (Bool × Code)

-- some of the rules is broken
abbrev pub is_broken : Rules → Bool
is_broken rules = list_any (λ rule. rule.0) rules

-- What is decided by the rules up to the one on rights and by the others behind them: the first that is broken gives the
-- code. The privileges that are needed count as used unless one of the first is broken. Nothing is changed where any is.
abbrev pub decided : Rules → Rules → List Privilege → List Change → Decision
decided rights others needed changes = record {
  code = first_code (rights ++ others);
  used = if is_broken rights then [] else needed;
  changes = if is_broken (rights ++ others) then [] else changes;
  purge = None;
  forgets = [];
}

-- the test tells whether the fact holds
abbrev pub Tells : Bool → Type 0 → Type 0
Tells test P = IsTrue test ↔ P
