-- The steps that are counted, by the facts of the event.
use Rattle.std.proofs.Common.{◌≡◌, ◌∙◌, ℕ, Bool, false, inl, inr, sym}
use Rattle.std.specs.Prelude.{is_some}
use Rattle.au_audit.specs.Statements.{logon_facts}
use Rattle.au_base.specs.declared.numbers.ClientNo.{ClientNo}
use Rattle.au_entries.specs.declared.facts.Facts.{Facts}
use Rattle.au_logon.specs.declared.admission.Admission.{Admission}
use Rattle.au_step.specs.State.{State}
use Rattle.au_step.specs.Step.{session_of}
use Rattle.au_engine.specs.Counting.{AreLogonFacts, CountsUp}

-- what is counted by facts of one kind is counted by those of another that they are too
pub counts_by : (m : State) (A B : Facts → Type 0) (old new : ℕ) → ((facts : Facts) → A facts → B facts) → CountsUp m A old new → CountsUp m B old new
counts_by m A B old new leads (inl same) = inl same
counts_by m A B old new leads (inr (facts, is, counted)) = inr (facts, leads facts is, counted)

-- the facts of a logon are those of the admission that it has
pub logon_counts : (Is : Admission → Type 0) (m : State) (client : ClientNo) (stands : Bool) (admission : Admission) (old new : ℕ) → stands ≡ is_some (session_of m.sessions client) → stands ≡ false → Is admission
    → CountsUp m (λ facts. facts ≡ logon_facts admission.user admission.used admission.code) old new → CountsUp m (AreLogonFacts Is m client) old new
logon_counts Is m client stands admission old new is out it counted =
    counts_by m (λ facts. facts ≡ logon_facts admission.user admission.used admission.code) (AreLogonFacts Is m client) old new (λ facts are. (sym is ∙ out, admission, it, are)) counted
