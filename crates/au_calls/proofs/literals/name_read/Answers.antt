use Rattle.std.proofs.Common.{◌≡◌, Option, List, ℕ}
use Rattle.au_base.specs.Found.{MakesExactly}
use Rattle.au_base.specs.Naming.{IsName, identifier_of}
use Rattle.au_calls.specs.Literals.{name_of}
use Rattle.au_calls.proofs.Answered.{if_ok}
use Rattle.au_calls.proofs.Naming.{name_made}
use Rattle.au_calls.proofs.literals.name_read.Goals as goal

pub returns : goal.returns
returns c =
    let text = c.args.text.now in
    if_ok (MakesExactly (IsName (identifier_of text)) (identifier_of text)) (λ (name : Option (List ℕ)). name ≡ name_of text) c.identifier.result
    (λ (name : Option (List ℕ)) made. name_made text name c.as_bytes-bytes.ensures.utf8 made) c.identifier.ensures
