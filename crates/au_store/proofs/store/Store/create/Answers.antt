use Rattle.std.proofs.Common.{◌≡◌}
use Rattle.rec_codec.specs.Frames.{framed, spelled}
use Rattle.au_image.specs.Image.{image_of}
use Rattle.au_opening.specs.Opening.{opening}
use Rattle.au_store.proofs.Begun.{no_time}
use Rattle.au_store.proofs.Frames.{is_framed}
use Rattle.au_store.proofs.Opening.{create_leaves, made_new, opening_begins}
use Rattle.au_store.proofs.store.Store.create.Goals as goal

pub format-requires-clause-framed : goal.format-requires-clause-framed
format-requires-clause-framed g c = λ _ _.
    let f = image_of (opening c.args.sys_password.now) in
    let is : c.deref.result.now ≡ framed f = cc (c.in-Ok.ensures.bytes) in
    (spelled f, is_framed c.deref.result.now f is)

pub returns-in-Done-clause-done : goal.returns-in-Done-clause-done
returns-in-Done-clause-done g c = λ told done all image.
    let f = image_of (opening c.args.sys_password.now) in
    let begins = opening_begins c.args.sys_password.now c.in-Ok.ensures.spellable (c.images_come_back.ensures.opening c.args.sys_password.now) in
    let is : c.deref.result.now ≡ framed f = cc (c.in-Ok.ensures.bytes) in
    made_new c.args.limit c.args.sys_password.now begins all (c.format.ensures.done told (spelled f) (is_framed c.deref.result.now f is) c.in-Done.is all image)

pub returns-in-Done-clause-any_moment : goal.returns-in-Done-clause-any_moment
returns-in-Done-clause-any_moment g c = λ told others.
    let f = image_of (opening c.args.sys_password.now) in
    let begins = opening_begins c.args.sys_password.now c.in-Ok.ensures.spellable (c.images_come_back.ensures.opening c.args.sys_password.now) in
    let is : c.deref.result.now ≡ framed f = cc (c.in-Ok.ensures.bytes) in
    create_leaves c.args.limit c.args.sys_password.now begins (g.D.Disk.meaning c.args.disk.now) (g.D.Disk.meaning c.format.new.disk)
    (c.format.ensures.any_moment told (spelled f) (is_framed c.deref.result.now f is) others)

pub returns-clause-any_moment : goal.returns-clause-any_moment
returns-clause-any_moment g c = λ told others.
    let f = image_of (opening c.args.sys_password.now) in
    let begins = opening_begins c.args.sys_password.now c.in-Ok.ensures.spellable (c.images_come_back.ensures.opening c.args.sys_password.now) in
    let is : c.deref.result.now ≡ framed f = cc (c.in-Ok.ensures.bytes) in
    create_leaves c.args.limit c.args.sys_password.now begins (g.D.Disk.meaning c.args.disk.now) (g.D.Disk.meaning c.format.new.disk)
    (c.format.ensures.any_moment told (spelled f) (is_framed c.deref.result.now f is) others)

pub returns-in-Err-clause-time : goal.returns-in-Err-clause-time
returns-in-Err-clause-time g c =
    let laws = g.met.D.Disk g.world.𝓛 g.world.𝓜 g.world.𝓡 ((λ s x. x), (λ x. x), (λ x. x), λ x. x) in
    no_time (g.D.Disk.meaning c.args.disk.now) (laws.counts_now c.args.disk.now) (laws.only_now c.args.disk.now)
