use Rattle.std.proofs.Common.{◌∙◌, ◌++◌, ◌∷◌, [], ℕ, List, ap, if◌then◌else◌}
use Rattle.au_entries.specs.Enabling.{is_among}
use Rattle.au_audit.proofs.Once.{among_pushed}
use Rattle.au_audit.proofs.names.push_once.Goals as goal

pub returns-clause-among : goal.returns-clause-among
returns-clause-among c = λ other.
    let keys = c.args.once.now.keys in
    ap (λ (now : List (List ℕ)). is_among now other)
    (c.in_ok-insert.ensures.keys ∙ ap (λ (name : List ℕ). if is_among keys name then keys else keys ++ name ∷ []) c.in_ok-clone.ensures.cases)
    ∙ among_pushed keys c.args.name.now other
