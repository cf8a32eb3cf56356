-- What a statement on auditing is decided by.
use Rattle.std.specs.Prelude.{ℕ, List, Option}
use Rattle.au_calls.specs.declared.case.AuditCase.{AuditCase}
use Rattle.au_base.specs.declared.numbers.ClientNo.{ClientNo}
use Rattle.au_base.specs.declared.numbers.Stamp.{Stamp}
use Rattle.au_define.specs.Settings as base
use Rattle.au_define.specs.Settings.{Setting}
use Rattle.au_entries.specs.declared.decision.Busy.{Busy}
use Rattle.au_entries.specs.declared.decision.ReadCondition.{ReadCondition}
use Rattle.au_entries.specs.declared.fine_grained.FgaPolicy.{FgaPolicy}
use Rattle.au_entries.specs.declared.kept.Kept.{Kept}
use Rattle.au_entries.specs.declared.policy.AuditPolicy.{AuditPolicy}
use Rattle.au_entries.specs.declared.policy.Enabled.{Enabled}

-- What is there before the statement: all that statements on tables, users, roles and grants are decided by; the audit
-- policies, the enablements that aren't for nobody, the fine-grained policies and the archive timestamp; the stamp of the
-- event; and what became of the condition in the statement.
pub record AuditSetting : Type 0 where
  pub setting : Setting
  pub policies : List AuditPolicy
  pub enabled : List (List ℕ × Enabled)
  pub fga : List FgaPolicy
  pub archive : Option Stamp
  pub stamp : Stamp
  pub read : ReadCondition

-- what a case lends
abbrev pub lent : AuditCase → AuditSetting
lent case = record {
  setting = base.lent case.case;
  policies = case.policies.now;
  enabled = case.enabled.now;
  fga = case.fga.now;
  archive = case.archive;
  stamp = case.stamp;
  read = case.read.now;
}

-- what is kept; a user whose statement it is; the stamp of the event; and what became of the condition in the statement
abbrev pub setting_of : Kept → List ℕ → ClientNo → Busy → Stamp → ReadCondition → AuditSetting
setting_of kept user client busy stamp read = record {
  setting = base.setting_of kept user client busy;
  policies = kept.policies;
  enabled = kept.enabled;
  fga = kept.fga;
  archive = kept.archive;
  stamp = stamp;
  read = read;
}
