-- Bytes that are the spelling of one value, and no spelling that begins another.
use Rattle.std.proofs.Common.{◌≡◌, ℕ, cond, eqb, List, [], ◌++◌, length, Some, None, sym, ap, subst, ◌∙◌, refl}
use Rattle.std.proofs.lemmas.Bool.{eqb-true}
use Rattle.std.proofs.lemmas.List.{append-nil, nil_from_length}
use Rattle.rec_parts.specs.Spelling.{Spelling}
use Rattle.rec_parts.specs.PartsExact.{ArePartsExact}
use Rattle.rec_parts.specs.Exactness.{IsBytes, IsExact}
use Rattle.rec_parts.specs.ExactLaws.{bind_some, passed, some_is}
use Rattle.rec_parts.specs.descent.Reading.{Front, whole}
use Rattle.rec_codec.specs.declared.frame.Frame.{Frame}
use Rattle.rec_codec.specs.Frames.{IsFrame, IsSpellable, frame, spelled}
use Rattle.rec_codec.specs.descent.Frames.{frame_first}
use Rattle.rec_codec.proofs.Table.{frame_exact}

whole_is : {X : Type 0} (s : Spelling X) (first : Front X) (exact : IsExact s first) (bytes : List ℕ) (x : X) → IsBytes bytes → whole first bytes ≡ Some x → s.IsSpellable x × (bytes ≡ s.spelled x)
whole_is {X} s first exact bytes x fits e =
    let a = bind_some (first bytes) (λ (y : X × List ℕ). cond (eqb (length y.1) 0) (Some y.0) None) x e in
    let g = passed (eqb (length a.0.1) 0) a.0.0 x a.2 in
    let t = exact.takes bytes a.0 fits a.1 in
    let nothing : a.0.1 ≡ [] = nil_from_length a.0.1 (eqb-true _ _ g.0) in
    let all : bytes ≡ s.spelled a.0.0 = t.parts ∙ ap (λ (r : List ℕ). s.spelled a.0.0 ++ r) nothing ∙ append-nil (s.spelled a.0.0) in
    subst (λ (y : X). s.IsSpellable y × (bytes ≡ s.spelled y)) g.1 (t.spellable, all)

whole_again : {X : Type 0} (s : Spelling X) (first : Front X) (exact : IsExact s first) (x : X) → s.IsSpellable x → whole first (s.spelled x) ≡ Some x
whole_again s first exact x h =
    let read : first (s.spelled x) ≡ Some (x, []) = ap first (sym (append-nil (s.spelled x))) ∙ exact.again x [] h in
    rw read refl

pub frame_found : (laws : ArePartsExact) (bytes : List ℕ) (f : Frame) → IsBytes bytes → whole frame_first bytes ≡ Some f → IsFrame bytes f
unfolding frame
frame_found laws bytes f fits e =
    let found = whole_is frame frame_first (frame_exact laws) bytes f fits e in
    record { spellable = found.0; bytes_are = found.1 }

pub frame_again : (laws : ArePartsExact) (bytes : List ℕ) (f : Frame) → IsFrame bytes f → whole frame_first bytes ≡ Some f
unfolding frame
frame_again laws bytes f is = ap (whole frame_first) is.bytes_are ∙ whole_again frame frame_first (frame_exact laws) f is.spellable

pub frame_absent : (laws : ArePartsExact) (bytes : List ℕ) → whole frame_first bytes ≡ None → (f : Frame) → IsFrame bytes f → ⊥
frame_absent laws bytes e f is = let both : None ≡ Some f = sym e ∙ frame_again laws bytes f is in absurd cc

pub frame_front : (laws : ArePartsExact) (a b : Frame) (x y : List ℕ) → IsSpellable a → IsSpellable b → spelled a ++ x ≡ spelled b ++ y → (a ≡ b) × (x ≡ y)
unfolding frame
frame_front laws a b x y fa fb e =
    let same : (a, x) ≡ (b, y) = some_is (a, x) (b, y) (sym ((frame_exact laws).again a x fa) ∙ ap frame_first e ∙ (frame_exact laws).again b y fb) in
    (ap (λ (p : Frame × List ℕ). p.0) same, ap (λ (p : Frame × List ℕ). p.1) same)

pub frame_one : (laws : ArePartsExact) (bytes : List ℕ) (a b : Frame) → IsFrame bytes a → IsFrame bytes b → a ≡ b
frame_one laws bytes a b fa fb = some_is a b (sym (frame_again laws bytes a fa) ∙ frame_again laws bytes b fb)
