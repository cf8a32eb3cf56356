use Rattle.std.proofs.Common.{refl}
use Rattle.std.specs.Str.{IsUtf8, is_utf8}
use Rattle.std.proofs.lemmas.Str.{IsUtf8-from_is_utf8, is_utf8-from_IsUtf8}
use Rattle.rec_parts.proofs.Names.{fails}
use Rattle.rec_parts.proofs.parts.text_of.Goals as goal

pub returns-in-Some : goal.returns-in-Some
returns-in-Some c =
    let made = rw c.in-Some.is at c.in_ok-text.ensures in
    let yes = is_utf8-from_IsUtf8 c.args.bytes.now made.0 in
    rw (yes, made.1) refl

pub returns-in-None : goal.returns-in-None
returns-in-None c =
    let none = rw c.in-None.is at c.in_ok-text.ensures in
    let no = fails (IsUtf8 c.args.bytes.now) (is_utf8 c.args.bytes.now) (IsUtf8-from_is_utf8 c.args.bytes.now) none in
    rw no refl
