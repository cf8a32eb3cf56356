use Rattle.std.proofs.Common.{◌≡◌, ◌∙◌, ℕ, List, ap, subst}
use Rattle.std.specs.Prelude.{IfOk}
use Rattle.au_define.specs.Settings.{lent}
use Rattle.au_define.specs.Users.{new_verifier, verifier}
use Rattle.au_define.proofs.users.new_password.Goals as goal

pub returns : goal.returns
returns c =
    let made : c.verifier-verifier.result ≡ verifier c.args.name.now c.args.password.now =
    c.verifier-verifier.ensures ∙ ap (λ (name : List ℕ). verifier name c.as_bytes.result.now) c.as_str.ensures ∙ ap (λ (password : List ℕ). verifier c.args.name.now password) c.as_bytes.ensures.value in
    subst (λ (v : List ℕ). IfOk c.new_verifier.result (λ changes. changes ≡ new_verifier (lent c.args.case.now) c.args.name.now v)) made c.new_verifier.ensures
