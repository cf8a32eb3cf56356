-- What auditing leaves of an event, by what it is asked with.
use Rattle.std.proofs.Common.{◌≡◌, ◌∙◌, ℕ, Bool, List, ap₂}
use Rattle.au_audit.specs.declared.place.Place.{Place}
use Rattle.au_catalog.specs.Settling.{catalog_of}
use Rattle.au_catalog.specs.declared.catalog.Catalog.{Catalog}
use Rattle.au_entries.specs.declared.facts.Facts.{Facts}
use Rattle.au_entries.specs.declared.fine_grained.FgaName.{FgaName}
use Rattle.au_entries.specs.declared.results.KeptResults.{KeptResults}
use Rattle.au_expr.specs.Sessions.{Session}
use Rattle.au_grants.specs.declared.grants.Grants.{Grants}
use Rattle.au_recording.specs.declared.left.Left.{Left}
use Rattle.au_recording.specs.Recording.{left_by}
use Rattle.au_step.specs.State.{State}
use Rattle.au_step.specs.Step.{event_left, facts_at, results_seen}

-- asked with the catalogue, the grants, the results and the session's facts of the event, it leaves what the event leaves
pub event_made : (m : State) (results : List (List ℕ × Bool)) (facts : Facts) (place : Place) (fired : List FgaName) (forgets : List (List ℕ)) (catalog : Catalog) (grants : Grants) (kept : KeptResults) (session : Session) (left : Left)
    → catalog ≡ catalog_of m.kept → grants ≡ m.kept.grants → kept ≡ results_seen m results → session ≡ facts_at facts.user place.session place.stamp.0
    → left ≡ left_by catalog grants kept session facts place fired forgets → left ≡ event_left m results facts place fired forgets
event_made m results facts place fired forgets catalog grants kept session left its_catalog its_grants its_results its_facts is =
    is ∙ (ap₂ (λ (c : Catalog) (g : Grants). left_by c g kept session facts place fired forgets) its_catalog its_grants
    ∙ ap₂ (λ (k : KeptResults) (s : Session). left_by (catalog_of m.kept) m.kept.grants k s facts place fired forgets) its_results its_facts)

-- the same by the facts and the place
pub left_at : (m : State) (results : List (List ℕ × Bool)) (facts known : Facts) (place stands : Place) (fired fires : List FgaName) (forgets forgotten : List (List ℕ)) (left : Left)
    → facts ≡ known → place ≡ stands → fired ≡ fires → forgets ≡ forgotten → left ≡ event_left m results facts place fired forgets → left ≡ event_left m results known stands fires forgotten
left_at m results facts known place stands fired fires forgets forgotten left same_facts same_place same_fired same_forgets is =
    is ∙ (ap₂ (λ (f : Facts) (p : Place). event_left m results f p fired forgets) same_facts same_place
    ∙ ap₂ (λ (f : List FgaName) (g : List (List ℕ)). event_left m results known stands f g) same_fired same_forgets)
