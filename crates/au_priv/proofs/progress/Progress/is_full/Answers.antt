use Rattle.std.proofs.Common.{◌≡◌, ◌<◌, ◌+◌, false, true, subst, arith}
use Rattle.au_grants.specs.Changing.{applied_all}
use Rattle.au_grants.specs.Rights.{Grants, grant_count}
use Rattle.au_priv.proofs.Limits.{count_after}
use Rattle.au_priv.proofs.progress.Progress.is_full.Goals as goal

pub returns-then-len-room-clause-full : goal.returns-then-len-room-clause-full
returns-then-len-room-clause-full c =
    let same : c.args.self.now.after ≡ applied_all c.self.inside.changes c.self.inside.before.now = cc in
    let most = count_after c.changes_add_one_grant_at_most.ensures.new c.self.inside.changes c.self.inside.before.now in (
      λ never. absurd (let e : false ≡ true = never in cc),
      λ over. absurd (let here : 100000 < grant_count (applied_all c.self.inside.changes c.self.inside.before.now) + c.args.more = subst (λ (g : Grants). 100000 < grant_count g + c.args.more) same over in
          omega (arith, most, here, c.if-len-room.true, c.if-more-room.true, c.len.ensures, c.count-room.ensures.count)),
    )
