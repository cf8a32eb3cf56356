use Rattle.std.proofs.Common.{◌∙◌, ◌++◌, ℕ, List, ap, map, not}
use Rattle.std.specs.List.{filter}
use Rattle.au_entries.specs.Enabling.{is_among}
use Rattle.au_audit.proofs.Once.{with_once}
use Rattle.au_audit.proofs.enabling.with_users.Goals as goal

pub returns : goal.returns
returns c =
    let once = c.in_ok-once.once.keys in
    let there = c.in_ok-there.there.keys in
    let wider = c.in_ok-all.all.items in
    with_once c.args.users.now once there c.args.outcomes c.args.listed.now wider c.push_new.new.all.items c.in_ok-once.ensures c.in_ok-there.ensures c.in_ok-all.ensures
    (c.in_ok-push_new.ensures ∙ ap (λ (users : List (List ℕ)). wider ++ map (λ user. (user, c.args.outcomes)) (filter (λ user. not (is_among there user)) users)) c.as_slice.ensures.keys)
