-- Tables of signals by their names.
use Rattle.std.proofs.Common.{◌≡◌, ℕ, suc, ◌<◌, List, [], ◌∷◌, ◌++◌, length, map, take, get_or, Bool}
use Rattle.std.proofs.Common.{false, cond, if◌then◌else◌, Option, Some, option_map, Bor}
use Rattle.std.proofs.Common.{◌+◌, unwrap_or, refl, ap, sym, subst, ◌∙◌, arith}
use Rattle.std.proofs.lemmas.List.{length-append, length-map, length-take-le}
use Rattle.std.proofs.Math.Seq.{take-suc}
use Rattle.std.specs.Cmp.Lexicographic.{nat_list_eq_equiv}
use Rattle.std.specs.List.{list_any, position}
use Rattle.std.specs.Str.{bytes_eq}
use Rattle.std.specs.Map.{keys_of, values_of}
use Rattle.std.proofs.lemmas.Bool.{or_parts}
use Rattle.indexmap.specs.IndexMap.{insert_entry}
use Rattle.est_kernel.specs.Interfaces.{is_named, IsInterface}
use Rattle.est_kernel.specs.declared.interface.Declaration.{Declaration}
use Rattle.est_reduce.proofs.Interfaces.{new_before}
use Rattle.est_link.specs.Inner.SignalTables.{HasNamesAsKeys, IsTableOfSignals}
use Rattle.est_link.specs.MainModule.{member_place}
use Rattle.est_modules.proofs.Positions.{position_cons}
use Rattle.est_checks.proofs.Noting.{turned}

abbrev Entry : Type 0
Entry = Bor (List ℕ) × Declaration

abbrev pub same_key : Bor (List ℕ) → Bor (List ℕ) → Bool
same_key a b = bytes_eq a.now b.now

abbrev library_module : List ℕ → List (List ℕ) → List ℕ
library_module d [] = d
library_module d (x ∷ xs) = x

abbrev tail_of : List (List ℕ) → List (List ℕ)
tail_of [] = []
tail_of (x ∷ xs) = xs

first_named : (e : Entry) (es : List Entry) → HasNamesAsKeys (e ∷ es) → e.0.now ≡ e.1.name
first_named e es named = ap (library_module e.1.name) named

later_named : (e : Entry) (es : List Entry) → HasNamesAsKeys (e ∷ es) → HasNamesAsKeys es
later_named e es named = ap tail_of named

-- a name that no signal of a table has goes last
pub added_last : (es : List Entry) (k : Bor (List ℕ)) (d : Declaration) → HasNamesAsKeys es
    → list_any (is_named k.now) (values_of es) ≡ false → insert_entry same_key es k d ≡ es ++ (k, d) ∷ []
added_last [] k d named none = refl
added_last (e ∷ es) k d named none =
    let parts = or_parts (bytes_eq e.1.name k.now) (list_any (is_named k.now) (values_of es)) none in
    let other : bytes_eq k.now e.0.now ≡ false = ap (bytes_eq k.now) (first_named e es named)
    ∙ turned k.now e.1.name ∙ parts.0 in
    ap (λ b. if b then (e.0, d) ∷ es else e ∷ insert_entry same_key es k d) other
    ∙ ap (λ xs. e ∷ xs) (added_last es k d (later_named e es named) parts.1)

-- a name stands among the keys where it stands among the signals
pub same_places : (es : List Entry) (n : List ℕ) → HasNamesAsKeys es
    → position (λ (k : Bor (List ℕ)). bytes_eq n k.now) (keys_of es) ≡ position (is_named n) (values_of es)
same_places [] n named = refl
same_places (e ∷ es) n named =
    let later = later_named e es named in
    let here : bytes_eq n e.0.now ≡ bytes_eq e.1.name n = ap (bytes_eq n) (first_named e es named)
    ∙ turned n e.1.name in
    position_cons (λ (k : Bor (List ℕ)). bytes_eq n k.now) e.0 (keys_of es)
    ∙ ap (λ b. cond b (Some 0) (option_map (λ i. i + 1)
    (position (λ (k : Bor (List ℕ)). bytes_eq n k.now) (keys_of es)))) here
    ∙ ap (λ (o : Option ℕ). cond (bytes_eq e.1.name n) (Some 0) (option_map (λ i. i + 1) o)) (same_places es n later)
    ∙ sym (position_cons (is_named n) e.1 (values_of es))

-- the place that a table tells
pub place_told : (es : List Entry) (n : List ℕ) (o : Option ℕ) → HasNamesAsKeys es
    → o ≡ position (λ (k : Bor (List ℕ)). bytes_eq n k.now) (keys_of es) → unwrap_or o 0 ≡ member_place (values_of es) n
place_told es n o named is = ap (λ (p : Option ℕ). unwrap_or p 0) (is ∙ same_places es n named)

-- a table without signals
pub no_signals : (es : List Entry) → es ≡ [] → (values_of es ≡ []) × IsTableOfSignals es
no_signals es e = (
  ap (λ (xs : List Entry). values_of xs) e,
  subst IsTableOfSignals (sym e) (record { named = refl; bound = omega arith }),
)

names_pushed : (es : List Entry) (k : Bor (List ℕ)) (x : Declaration) → HasNamesAsKeys es → k.now ≡ x.name
    → HasNamesAsKeys (es ++ (k, x) ∷ [])
names_pushed [] k x named e = ap (λ n. n ∷ []) e
names_pushed (e ∷ es) k x named same =
    ap (λ n. n ∷ map (λ (k : Bor (List ℕ)). k.now) (keys_of (es ++ (k, x) ∷ []))) (first_named e es named)
    ∙ ap (λ ns. e.1.name ∷ ns) (names_pushed es k x (later_named e es named) same)

values_pushed : (es : List Entry) (e : Entry) → values_of (es ++ e ∷ []) ≡ values_of es ++ e.1 ∷ []
values_pushed [] e = refl
values_pushed (x ∷ es) e = ap (λ ds. x.1 ∷ ds) (values_pushed es e)

-- a table with one more of the signals of an interface
pub one_more : (ds : List Declaration) (i : ℕ) (d : Declaration) (es new : List Entry) (k : Bor (List ℕ))
    → IsInterface ds → i < length ds → d ≡ get_or ds i d → values_of es ≡ take i ds → IsTableOfSignals es
    → k.now ≡ d.name → new ≡ insert_entry same_key es k d
    → (values_of new ≡ take (i + 1) ds) × IsTableOfSignals new
one_more ds i d es new k interface within at_i values table same added =
    let named : k.now ≡ (get_or ds i d).name = same ∙ ap (λ (x : Declaration). x.name) at_i in
    let unseen : list_any (is_named k.now) (values_of es) ≡ false =
    ap (λ (n : List ℕ). list_any (is_named n) (values_of es)) named
    ∙ ap (list_any (is_named (get_or ds i d).name)) values ∙ new_before ds i d interface.1 within in
    let last : new ≡ es ++ (k, d) ∷ [] = added ∙ added_last es k d table.named unseen in
    let next : suc i ≡ i + 1 = omega arith in
    let shown : values_of new ≡ take (i + 1) ds =
    ap (λ (xs : List Entry). values_of xs) last ∙ values_pushed es (k, d)
    ∙ ap (λ (ys : List Declaration). ys ++ d ∷ []) values
    ∙ ap (λ (x : Declaration). take i ds ++ x ∷ []) at_i
    ∙ sym (take-suc ds i d within) ∙ ap (λ n. take n ds) next in
    let count : length es ≡ i = sym (length-map es (λ (e : Entry). e.1)) ∙ ap length values
    ∙ length-take-le i ds (omega (arith, within)) in (
      shown,
      record {
        named = subst HasNamesAsKeys (sym last) (names_pushed es k d table.named same);
        bound = omega (arith, ap length last ∙ length-append es ((k, d) ∷ []), count, within, interface.0);
      },
    )
