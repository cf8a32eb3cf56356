use Rattle.std.proofs.Common.{◌≡◌, ◌∙◌, List, ap, subst}
use Rattle.std.specs.Prelude.{IfOk}
use Rattle.au_base.specs.declared.privilege.Privilege.{Privilege}
use Rattle.au_audit.specs.Records.{in_code_order, numbered, unified_record}
use Rattle.au_trail.proofs.recording.unified_record.Goals as goal

pub returns : goal.returns
returns c =
    subst (λ (used : List Privilege). IfOk c.unified_with.result (λ made. made ≡ record (numbered c.args.at.now.entry (0, unified_record c.args.facts.now c.args.at.now c.args.policies.now)) { used = used }))
    (c.in_ok-used.ensures ∙ ap in_code_order c.as_slice.ensures) c.unified_with.ensures
