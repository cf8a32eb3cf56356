use Rattle.std.proofs.Common.{subst, sym}
use Rattle.au_entries.specs.Changing.{enabled_after, policies_after}
use Rattle.au_pindex.specs.descent.Leading.{Leads}
use Rattle.au_pindex.proofs.Afterwards.{unaffected}
use Rattle.au_pindex.proofs.staging.unaffected.Goals as goal

pub returns-clause-leads : goal.returns-clause-leads
returns-clause-leads c = λ tree enabled policies.
    subst (λ edit. Leads enabled policies (enabled_after c.args._change.now enabled) (policies_after tree c.args._change.now policies) edit) (sym c.no_edit.ensures) (unaffected tree c.args._change.now enabled policies c.requires)
