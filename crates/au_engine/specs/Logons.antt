-- The two ends of a logon, apart. No promise of the crate rests on these.
use Rattle.std.specs.Prelude.{ℕ, ◌+◌, ◌∷◌, ◌++◌, []}
use Rattle.au_base.specs.declared.numbers.ClientNo.{ClientNo}
use Rattle.au_logon.specs.declared.admission.Admission.{Admission}
use Rattle.au_recording.specs.declared.left.Left.{Left}
use Rattle.au_step.specs.State.{State}
use Rattle.au_step.specs.Step.{kept_after, new_session, opened, recorded}

-- the state after a logon that is admitted: the instance's next session has begun
abbrev pub after_admission : State → ClientNo → ℕ → Admission → Left → State
after_admission m client stamp admission left = record {
  kept = kept_after m.kept stamp (recorded left);
  sessions = m.sessions ++ opened (new_session m client admission left) ∷ [];
  drawn = m.drawn + 1;
  results = left.results.instance;
}

-- the state after one that is refused
abbrev pub after_refusal : State → ℕ → Left → State
after_refusal m stamp left = record m { kept = kept_after m.kept stamp (recorded left); results = left.results.instance }
