-- What a disk and a clock mean to a run.
use Rattle.std.specs.Prelude.{ℕ, Option}
use Rattle.au_io.specs.Disk.{Meaning}
use Rattle.au_io.specs.Time.{Ticking}

-- whether the disk tells what it holds, what is known of it, how often it has failed, and what the clock reads next
pub record Means (D C : Type 0) : Type 1 where
  pub told : Type 0
  pub meaning : D → Meaning
  pub faults : D → ℕ
  pub ticking : C → Option Ticking

abbrev pub means_of : {D C : Type 0} → Type 0 → (D → Meaning) → (D → ℕ) → (C → Option Ticking) → Means D C
means_of told meaning faults ticking = record { told = told; meaning = meaning; faults = faults; ticking = ticking }
