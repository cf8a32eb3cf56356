use Rattle.std.proofs.Common.{◌≡◌, ◌⊎◌, inl, inr, ℕ, ⊎_elim, refl, rules, subst}
use Rattle.std.specs.Prelude.{Option}
use Rattle.au_words.specs.declared.command.Command.{Command}
use Rattle.au_words.specs.declared.command.Command.TheVariants as word
use Rattle.au_words.specs.Words.{IsCommand}
use Rattle.au_main.specs.Means.{means_of}
use Rattle.au_main.specs.Ran.{IsUnopened}
use Rattle.au_main.specs.Serves.{HasServed, asked_of}
use Rattle.au_main.proofs.Commands.{serve_alone}
use Rattle.au_main.proofs.Nothing.{nothing_run}
use Rattle.au_main.proofs.Served.{serve_completes, serve_over, serve_says}
use Rattle.au_main.proofs.command.serve_by_words.Goals as goal

pub returns-in-Ok-Some-Serve-clause-serve : goal.returns-in-Ok-Some-Serve-clause-serve
returns-in-Ok-Some-Serve-clause-serve g c = λ port workers connections serves.
    let here = c.in-Ok-Some-Serve in
    let is = rw (here.field-0-is, here.field-0-0-is) at here.ensures in
    let means = means_of g.D.Disk.told g.D.Disk.meaning g.D.Disk.faults g.C.Clock.ticking in
    let lobby = g.L.Lobby in
    serve_alone
    (λ (n : ℕ). HasServed means c.serve.result.0 (asked_of n) c.args.disk c.serve.result.1 c.args.clock c.serve.result.2 (lobby.visits c.args.lobby) (lobby.visits c.serve.result.3) (lobby.faults c.args.lobby) (lobby.faults c.serve.result.3)
    ⊎ (IsUnopened means c.serve.result.0 c.args.disk c.serve.result.1 c.args.clock c.serve.result.2 × (c.serve.result.3 ≡ c.args.lobby)))
    here.port here.workers here.connections c.serve.ensures.serves port workers connections
    (c.one_command.ensures c.args.words.now (word.Serve here.port here.workers here.connections) (word.Serve port workers connections) is serves)

pub returns-in-Ok-Some-Serve-clause-serve_over : goal.returns-in-Ok-Some-Serve-clause-serve_over
returns-in-Ok-Some-Serve-clause-serve_over g c = λ port workers connections serves told.
    let laws = g.met.D.Disk g.world.𝓛 g.world.𝓜 g.world.𝓡 ((λ s x. x), (λ x. x), (λ x. x), λ x. x) in
    let means = means_of g.D.Disk.told g.D.Disk.meaning g.D.Disk.faults g.C.Clock.ticking in
    let reads = (g.D.Disk.meaning c.args.disk).reads in
    let bounded = laws.bounded c.args.disk reads (laws.reads_is_image c.args.disk told) in
    serve_over means _ _ _ _ _ _ _ _ _ _ _ c.serve.ensures.serves
    (λ why other. c.one_cause.ensures.one reads why other bounded) (λ why reading m. c.one_cause.ensures.opened reads why reading m bounded) told

pub returns-in-Ok-Some-Serve-clause-serve_completes : goal.returns-in-Ok-Some-Serve-clause-serve_completes
returns-in-Ok-Some-Serve-clause-serve_completes g c = λ port workers connections serves told ready no_disk no_lobby.
    let means = means_of g.D.Disk.told g.D.Disk.meaning g.D.Disk.faults g.C.Clock.ticking in
    serve_completes means _ _ _ _ _ _ _ _ _ _ _ c.serve.ensures.serves told ready no_disk no_lobby

pub returns-in-Ok-Some-Serve-clause-says : goal.returns-in-Ok-Some-Serve-clause-says
returns-in-Ok-Some-Serve-clause-says g c =
    let means = means_of g.D.Disk.told g.D.Disk.meaning g.D.Disk.faults g.C.Clock.ticking in
    serve_says means _ _ _ _ _ _ _ _ _ _ _ c.serve.ensures.serves

pub returns-in-Ok-clause-serve : goal.returns-in-Ok-clause-serve
returns-in-Ok-clause-serve g c = λ port workers connections serves.
    let none : (command : Command) → IsCommand c.args.words.now command → ⊥ = search rules in
    absurd (none (word.Serve port workers connections) serves)

pub returns-in-Ok-clause-serve_over : goal.returns-in-Ok-clause-serve_over
returns-in-Ok-clause-serve_over g c = λ port workers connections serves.
    let none : (command : Command) → IsCommand c.args.words.now command → ⊥ = search rules in
    absurd (none (word.Serve port workers connections) serves)

pub returns-in-Ok-clause-serve_completes : goal.returns-in-Ok-clause-serve_completes
returns-in-Ok-clause-serve_completes g c = λ port workers connections serves.
    let none : (command : Command) → IsCommand c.args.words.now command → ⊥ = search rules in
    absurd (none (word.Serve port workers connections) serves)

pub returns-clause-serve : goal.returns-clause-serve
returns-clause-serve g c =
    let laws = g.met.D.Disk g.world.𝓛 g.world.𝓜 g.world.𝓡 ((λ s x. x), (λ x. x), (λ x. x), λ x. x) in
    let means = means_of g.D.Disk.told g.D.Disk.meaning g.D.Disk.faults g.C.Clock.ticking in
    λ port workers connections serves. inr (nothing_run means c.args.disk c.args.clock (laws.counts_now c.args.disk) (laws.only_now c.args.disk), refl)
