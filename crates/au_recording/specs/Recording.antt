-- What auditing leaves of an event: records in the trail, and results of conditions that are kept (Database Security Guide,
-- "Auditing Activities with Unified Audit Policies"; SQL Language Reference, "CREATE AUDIT POLICY (Unified Auditing)",
-- "EVALUATE PER"; what is kept is this project's profile).
use Rattle.std.specs.Prelude.{ℕ, List}
use Rattle.au_audit.specs.Conditions.{results_after}
use Rattle.au_audit.specs.Records.{records_of}
use Rattle.au_audit.specs.declared.place.Place.{Place}
use Rattle.au_catalog.specs.declared.catalog.Catalog.{Catalog}
use Rattle.au_entries.specs.declared.facts.Facts.{Facts}
use Rattle.au_entries.specs.declared.fine_grained.FgaName.{FgaName}
use Rattle.au_entries.specs.declared.results.KeptResults.{KeptResults}
use Rattle.au_expr.specs.Sessions.{Session}
use Rattle.au_grants.specs.declared.grants.Grants.{Grants}
use Rattle.au_policy.specs.Asking.{demanded_now}
use Rattle.au_recording.specs.declared.left.Left.{Left}

-- What an event leaves by what its audit policies demand now: a record that names those which demand one, and behind it one
-- for each fine-grained policy that fired; and the results that are kept with what was learnt, but for those of the audit
-- policies that are forgotten.
abbrev pub left_by : Catalog → Grants → KeptResults → Session → Facts → Place → List FgaName → List (List ℕ) → Left
left_by catalog grants kept session facts place fired forgets = record {
  records = records_of facts place (demanded_now catalog grants kept session facts).names fired;
  results = results_after catalog.policies (demanded_now catalog grants kept session facts).learnt forgets kept;
}
