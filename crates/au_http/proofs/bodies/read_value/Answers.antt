use Rattle.std.proofs.Common.{◌≡◌, List, ℕ, Bool, true, false, Option, None, if◌then◌else◌, IsUtf8, refl, sym}
use Rattle.std.specs.Str.{is_utf8}
use Rattle.std.proofs.lemmas.Str.{IsUtf8-from_is_utf8, is_utf8-from_IsUtf8}
use Rattle.serde_json.specs.Read.{read}
use Rattle.au_http.proofs.bodies.read_value.Goals as goal

-- nothing is read, since the text isn't UTF-8 or has no value
none : {A : Type 0} (body : List ℕ) (o : Option A) (t : Bool) → is_utf8 body ≡ t → (IsUtf8 body → o ≡ None) → None ≡ (if t then o else None)
none body o true e f = sym (f (IsUtf8-from_is_utf8 body e))
none body o false e f = refl

pub returns-in-Ok : goal.returns-in-Ok
returns-in-Ok c = rw (is_utf8-from_IsUtf8 c.args.body.now c.in-Ok.ensures.ok.0) (sym c.in-Ok.ensures.ok.1)

pub returns-in-Err-2 : goal.returns-in-Err-2
returns-in-Err-2 c =
    let here = λ (u : IsUtf8 c.args.body.now). c.in-Err.ensures.err (λ m. let t = rw c.if-is_memory.false at (c.is_memory.ensures.1 m) in absurd (cc)) u in
    none c.args.body.now (read c.args.body.now) (is_utf8 c.args.body.now) refl here
