use Rattle.std.proofs.Common.{◌∙◌, ◌&&◌, ℕ, List, ap, refl}
use Rattle.std.proofs.lemmas.List.{take_all}
use Rattle.std.specs.List.{list_any, slice_get}
use Rattle.std.specs.Str.{bytes_eq}
use Rattle.au_entries.specs.declared.policy.AuditPolicy.{AuditPolicy}
use Rattle.au_entries.specs.declared.policy.Enabled.{Enabled}
use Rattle.au_pindex.specs.Places.{passes_at}
use Rattle.au_pindex.specs.descent.Edits.{is_left_by, is_off_without}
use Rattle.au_pindex.proofs.EnabledBy.{some_passes}
use Rattle.au_pindex.proofs.Leading.{same_tests}
use Rattle.au_pindex.proofs.enabling.places_left.Goals as goal

pub returns : goal.returns
returns c at =
    let user = c.args.user.now in
    let enabled = c.args.enabled.now in
    c.loop-entry.invariant at
    ∙ ap (λ (entries : List (List ℕ × Enabled)). passes_at (λ (policy : AuditPolicy). list_any (λ (entry : List ℕ × Enabled). is_left_by user entry.1 && bytes_eq policy.name entry.0) entries) c.args.policies.now at)
    (take_all c.loop-entry.entry-index enabled c.loop-entry-test.false)
    ∙ same_tests (λ policy. list_any (λ (entry : List ℕ × Enabled). is_left_by user entry.1 && bytes_eq policy.name entry.0) enabled) (is_off_without user enabled)
    (λ policy. some_passes (is_left_by user) refl policy.name enabled c.requires.enabled) (slice_get c.args.policies.now at)
