-- The rights of a user are one, and a call of a package has one decision.
use Rattle.std.proofs.Common.{◌≡◌, ◌∙◌, Bool, true, false, refl, sym, ap, ap₂}
use Rattle.au_calls.specs.declared.rights.AuditRights.{AuditRights}
use Rattle.au_calls.specs.Calling.{DecidesCall, call_decided}
use Rattle.au_calls.specs.Rights.{AreRights, DecidedByRights}
use Rattle.au_calls.specs.Settings.{AuditSetting}
use Rattle.au_define.specs.Rules.{Tells}
use Rattle.au_entries.specs.declared.decision.Decision.{Decision}
use Rattle.sql_ast.specs.declared.call.Call.{Call}

-- two tests of one fact are the same
same_test : (P : Type 0) (a b : Bool) → Tells a P → Tells b P → a ≡ b
same_test P true true one other = refl
same_test P false false one other = refl
same_test P true false one other = absurd (let e : false ≡ true = other.1 (one.0 refl) in cc)
same_test P false true one other = absurd (let e : false ≡ true = one.1 (other.0 refl) in cc)

pub same_rights : (setting : AuditSetting) (a b : AuditRights) → AreRights setting a → AreRights setting b → a ≡ b
same_rights setting a b one other =
    ap₂ (λ (system admin : Bool). record { system = system; admin = admin }) (same_test _ a.system b.system one.system other.system) (same_test _ a.admin b.admin one.admin other.admin)

by_rights : (setting : AuditSetting) (answer : AuditRights → Decision) (a b : Decision) → DecidedByRights setting answer a → DecidedByRights setting answer b → a ≡ b
by_rights setting answer a b (r, rights, is) (q, others, are) = is ∙ ap answer (same_rights setting r q rights others) ∙ sym are

pub one : (setting : AuditSetting) (call : Call) (a b : Decision) → DecidesCall setting call a → DecidesCall setting call b → a ≡ b
one setting call a b = by_rights setting (λ rights. call_decided rights setting call.procedure call.arguments) a b
