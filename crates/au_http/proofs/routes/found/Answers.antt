use Rattle.std.proofs.Common.{◌≡◌, ◌∙◌, ℕ, List, Bool, true, false, Some, None, if◌then◌else◌, refl, ap, option_map, sym}
use Rattle.std.specs.Str.{bytes_eq}
use Rattle.std.specs.Prelude.{codes}
use Rattle.matchit.specs.Seek.{first}
use Rattle.au_http.specs.Routes.{route_of, table}
use Rattle.au_http.proofs.PlainRoutes.{at_path, first_plain, table_plain}
use Rattle.au_http.proofs.routes.found.Goals as goal

-- two tables whose values are the same, row by row
same : {A B C : Type 0} (f : A → C) (g : B → C) (p q r : Bool) (a b c : A) (x y z : B) → f a ≡ g x → f b ≡ g y → f c ≡ g z
    → option_map f (if p then Some a else (if q then Some b else (if r then Some c else None)))
    ≡ option_map g (if p then Some x else (if q then Some y else (if r then Some z else None)))
same f g true q r a b c x y z h i j = ap Some h
same f g false true r a b c x y z h i j = ap Some i
same f g false false true a b c x y z h i j = ap Some j
same f g false false false a b c x y z h i j = refl

at_target : (path : List ℕ) → option_map (λ m. m.value) (at_path path table) ≡ route_of path
unfolding route_of
at_target path =
    same (λ m. m.value) (λ t. t.1)
    (bytes_eq (codes "/logoff") path) (bytes_eq (codes "/logon") path) (bytes_eq (codes "/sql") path)
    _ _ _ _ _ _ refl refl refl

pub returns-in-Ok : goal.returns-in-Ok
returns-in-Ok c =
    ap (option_map (λ m. m.value)) (sym c.in-Ok.ensures.found ∙ ap (λ r. first r c.args.target.now) c.requires ∙ first_plain c.args.target.now table table_plain) ∙ at_target c.args.target.now

pub returns-in-Err : goal.returns-in-Err
returns-in-Err c =
    ap (option_map (λ m. m.value)) (sym c.in-Err.ensures.missing ∙ ap (λ r. first r c.args.target.now) c.requires ∙ first_plain c.args.target.now table table_plain) ∙ at_target c.args.target.now
