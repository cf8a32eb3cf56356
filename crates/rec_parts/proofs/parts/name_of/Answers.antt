use Rattle.std.proofs.Common.{refl}
use Rattle.au_base.specs.Naming.{IsName}
use Rattle.rec_parts.specs.descent.Parts.{is_name}
use Rattle.rec_parts.proofs.Names.{IsName-from_is_name, is_name-from_IsName, fails}
use Rattle.rec_parts.proofs.parts.name_of.Goals as goal

pub returns-in-Some : goal.returns-in-Some
returns-in-Some c =
    let made = rw c.in-Some.is at c.in_ok-name.ensures in
    let yes = is_name-from_IsName c.args.bytes.now made.0 in
    rw (yes, made.1) refl

pub returns-in-None : goal.returns-in-None
returns-in-None c =
    let none = rw c.in-None.is at c.in_ok-name.ensures in
    let no = fails (IsName c.args.bytes.now) (is_name c.args.bytes.now) (IsName-from_is_name c.args.bytes.now) none in
    rw no refl
