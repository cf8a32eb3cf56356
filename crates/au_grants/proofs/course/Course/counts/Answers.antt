use Rattle.std.proofs.Common.{length, ap, arith}
use Rattle.au_grants.specs.Order.{object_before, role_before, system_before}
use Rattle.au_grants.specs.Rights.{Grants}
use Rattle.au_grants.proofs.Growths.{merged_length}
use Rattle.au_grants.proofs.course.Course.counts.Goals as goal

pub returns : goal.returns
returns c =
    let lists = c.self.inside.lists in
    let system = merged_length system_before lists.fresh.system.items lists.kept.system.items in
    let role = merged_length role_before lists.fresh.role.items lists.kept.role.items in
    let object = merged_length object_before lists.fresh.object.items lists.kept.object.items in
    let seen_system = ap (λ (g : Grants). length g.system) c.self.view_is in
    let seen_role = ap (λ (g : Grants). length g.role) c.self.view_is in
    let seen_object = ap (λ (g : Grants). length g.object) c.self.view_is in
    let a = c.len.ensures in
    let b = c.len-2.ensures in
    let d = c.len-3.ensures in
    let e = c.len-4.ensures in
    let f = c.len-5.ensures in
    let h = c.len-6.ensures in
    let sa = lists.kept.system.ok.0 in
    let sb = lists.fresh.system.ok.0 in
    let ra = lists.kept.role.ok.0 in
    let rb = lists.fresh.role.ok.0 in
    let oa = lists.kept.object.ok.0 in
    let ob = lists.fresh.object.ok.0 in
    (omega (arith, system, seen_system, a, b, sa, sb), omega (arith, role, seen_role, d, e, ra, rb), omega (arith, object, seen_object, f, h, oa, ob))
