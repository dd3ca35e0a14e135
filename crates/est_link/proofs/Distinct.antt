-- Signals of an interface in which no name is declared twice.
use Rattle.std.proofs.Common.{◌≡◌, ℕ, zero, suc, ◌<◌, List, [], ◌∷◌, ◌++◌, length, map, take, get_or, Bool, true, false}
use Rattle.std.proofs.Common.{◌||◌, if◌then◌else◌, Option, Some, None, refl, ap, sym, ◌∙◌, arith}
use Rattle.std.proofs.lemmas.Option.{none-some}
use Rattle.std.proofs.lemmas.List.{append_assoc, append-nil, take-map, get_or-map, length-map}
use Rattle.std.specs.List.{list_any}
use Rattle.std.specs.Str.{bytes_eq}
use Rattle.std.proofs.lemmas.Bool.{or_parts}
use Rattle.est_kernel.specs.Interfaces.{is_named}
use Rattle.est_link.specs.MainModule.{declaration_of}
use Rattle.est_checks.specs.Duplicates.{redeclared}
use Rattle.est_modules.specs.Visible.{stands_in}
use Rattle.est_modules.specs.Visible.{is_tick}
use Rattle.est_modules.specs.declared.interface.Declared.{Declared}

pub kept_name : (b : Bool) (n : List ℕ) (o : Option (List ℕ)) → (if b then Some n else o) ≡ None
    → (b ≡ false) × (o ≡ None)
kept_name true n o h = absurd (none-some n (sym h))
kept_name false n o h = (refl, h)

-- no name stands before itself
pub new_names : (seen ns : List (List ℕ)) → redeclared seen ns ≡ None → (i : ℕ) → i < length ns
    → stands_in (seen ++ take i ns) (get_or ns i []) ≡ false
new_names seen [] h i lt = absurd (omega (arith, lt))
new_names seen (n ∷ ns) h zero lt =
    let parts = kept_name (is_tick n || stands_in seen n) n (redeclared (seen ++ n ∷ []) ns) h in
    ap (λ xs. stands_in xs n) (append-nil seen) ∙ (or_parts (is_tick n) (stands_in seen n) parts.0).1
new_names seen (n ∷ ns) h (suc i) lt =
    let parts = kept_name (is_tick n || stands_in seen n) n (redeclared (seen ++ n ∷ []) ns) h in
    ap (λ xs. stands_in xs (get_or ns i [])) (sym (append_assoc seen (n ∷ []) (take i ns)))
    ∙ new_names (seen ++ n ∷ []) ns parts.1 i (omega (arith, lt))

-- the names of declarations
named_any : (ds : List Declared) (n : List ℕ) → list_any (is_named n) (map declaration_of ds)
    ≡ stands_in (map (λ (d : Declared). d.name) ds) n
named_any [] n = refl
named_any (d ∷ ds) n = ap (λ b. bytes_eq d.name n || b) (named_any ds n)

-- the next signal of an interface has a new name
pub new_signal : (ds : List Declared) (i : ℕ) (d : Declared) → redeclared [] (map (λ (d : Declared). d.name) ds) ≡ None
    → i < length ds → d ≡ get_or ds i d → list_any (is_named d.name) (map declaration_of (take i ds)) ≡ false
new_signal ds i d distinct lt at_i =
    let names = map (λ (d : Declared). d.name) ds in
    let same : get_or names i [] ≡ d.name = get_or-map (λ (d : Declared). d.name) ds i d [] lt
    ∙ ap (λ (d : Declared). d.name) (sym at_i) in
    named_any (take i ds) d.name
    ∙ ap (λ ns. stands_in ns d.name) (sym (take-map (λ (d : Declared). d.name) i ds))
    ∙ ap (stands_in (take i names)) (sym same)
    ∙ new_names [] names distinct i (omega (arith, lt, length-map ds (λ (d : Declared). d.name)))
