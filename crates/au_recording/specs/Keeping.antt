-- Where results of conditions are kept (SQL Language Reference, "CREATE AUDIT POLICY (Unified Auditing)", "EVALUATE PER").
use Rattle.std.specs.Prelude.{ℕ, ◌&&◌, not, Bool, true, false, IsTrue, List, map, Option, Some, None}
use Rattle.std.specs.List.{list_any}
use Rattle.std.specs.Str.{bytes_eq}
use Rattle.au_audit.specs.Conditions.{Result, is_evaluated_per, result_before}
use Rattle.au_base.specs.Order.{is_in_order, name_before}
use Rattle.au_entries.specs.declared.policy.AuditPolicy.{AuditPolicy}
use Rattle.au_entries.specs.declared.policy.Evaluate.{Evaluate}
use Rattle.au_entries.specs.declared.policy.Evaluate.TheVariants.{Statement, Session, Instance}

-- the policies stand in the byte order of their names
abbrev pub ArePoliciesOrdered : List AuditPolicy → Type 0
ArePoliciesOrdered policies = IsTrue (is_in_order name_before (map (λ policy. policy.name) policies))

-- the second result doesn't come before the first
abbrev pub is_at_most : Result → Result → Bool
is_at_most a b = not (result_before b a)

-- the results rise by the names of their policies; a name may stand there again
abbrev pub AreRising : List Result → Type 0
AreRising results = IsTrue (is_in_order is_at_most results)

-- the policy has this name, and its condition is evaluated so
abbrev pub is_named_so : Evaluate → List ℕ → AuditPolicy → Bool
is_named_so evaluate name policy = bytes_eq policy.name name && is_evaluated_per evaluate policy.when

-- the condition of the policy of this name is evaluated so
abbrev pub is_of : Evaluate → List AuditPolicy → List ℕ → Bool
is_of evaluate policies name = list_any (is_named_so evaluate name) policies

-- the evaluation that is found, where one is, is this one
abbrev pub is_found : Evaluate → Option Evaluate → Bool
is_found evaluate None = false
is_found Statement (Some Statement) = true
is_found Session (Some Session) = true
is_found Instance (Some Instance) = true
is_found _ _ = false
