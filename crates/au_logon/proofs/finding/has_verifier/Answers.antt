use Rattle.std.proofs.Common.{◌∙◌, ap, sym}
use Rattle.au_logon.proofs.Found.{none_past, stands_at}
use Rattle.au_logon.specs.Admitting.{is_with}
use Rattle.au_logon.proofs.finding.has_verifier.Goals as goal

pub returns-then-place-users : goal.returns-then-place-users
returns-then-place-users c =
    c.is_with.ensures ∙ ap (is_with c.args.name.now c.args.verifier.now) c.index-users-place.is
    ∙ sym (stands_at c.args.name.now c.args.verifier.now c.args.users.now _ c.index-users-place.result c.requires.order c.name_place-place.ensures.place c.if-place-users.true)

pub returns : goal.returns
returns c = sym (none_past c.args.name.now c.args.verifier.now c.args.users.now _ c.name_place-place.ensures.place c.if-place-users.false)
