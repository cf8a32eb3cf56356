-- Commands that did nothing, since there was no memory for their words.
use Rattle.std.proofs.Common.{inl, ℕ, List, refl}
use Rattle.std.specs.Prelude.{Option}
use Rattle.au_io.specs.Disk.{Stays}
use Rattle.au_io.specs.Moments.{CountsNow, OnlyNow, no_call}
use Rattle.au_journal.specs.Creation.{OthersAreBlank}
use Rattle.au_opening.specs.Opening.{opening}
use Rattle.au_store.specs.declared.open_fault.OpenFault.TheVariants as fault
use Rattle.au_store.specs.Creating.{CreateLeaves}
use Rattle.au_main.specs.declared.export.Export.{Export}
use Rattle.au_main.specs.declared.status.Status.TheVariants.{Memory}
use Rattle.au_main.specs.Exports.{HasExport}
use Rattle.au_main.specs.Init.{HasInit}
use Rattle.au_main.specs.Means.{Means}
use Rattle.au_main.specs.Ran.{IsUnopened}
use Rattle.au_main.proofs.OnDisk.{passes_none}

module _ {D C : Type 0} (means : Means D C) (disk : D) (clock : C) (counts : CountsNow (means.meaning disk)) (only : OnlyNow (means.meaning disk)) where
  stays : Stays (means.meaning disk) (means.meaning disk)
  stays = record {
    reads = refl;
    images = only;
    written = refl;
    time = passes_none (means.meaning disk) counts only;
  }

  pub nothing_run : IsUnopened means Memory disk disk clock clock
  nothing_run = record { why = fault.Memory; status_is = refl; says = λ _. tt; in_vain = (inl refl, stays); cause = refl }

  pub nothing_made : (password : List ℕ) (limit : ℕ) → HasInit means.told means.meaning means.faults Memory password limit disk disk
  nothing_made password limit = record {
    ends = refl;
    untouched = λ _. refl;
    again = λ told leaves. no_call OthersAreBlank (means.meaning disk) only leaves;
    any_moment = λ told leaves. no_call (CreateLeaves (means.meaning disk) (opening password)) (means.meaning disk) only (λ c image. inl image);
  }

  pub nothing_exported : (command : Export) (given : Option (List ℕ)) → HasExport means.told means.meaning means.faults command Memory disk disk given given
  nothing_exported command given = record { ends = (refl, refl); stays = stays }
