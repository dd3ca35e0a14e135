-- Members and texts of a value.
use Rattle.std.proofs.Common.{◌≡◌, ◌∙◌, ◌<◌, ℕ, zero, suc, eqb, Option, Some, None, Bor, Vec, Global, String}
use Rattle.std.proofs.Common.{List, [], ◌∷◌, length, get_or, map, ap, sym, refl, arith}
use Rattle.std.proofs.lemmas.Bool.Decides.{Decides-eqb}
use Rattle.std.specs.Prelude.{IsTrue, MatchOption}
use Rattle.serde_json.specs.Data.{Data, string, array}
use Rattle.serde_json.specs.Find.{as_str, get}
use Rattle.serde_json.specs.View.{items_of, items_view, members_view, view}
use Rattle.serde_json.specs.declared.value.Value.{Value}
use Rattle.lab_lines.specs.Requests.{HasTexts, member_count}

-- as many members as entries
pub members_are_entries : (ms : List (String Global × Value)) → member_count (members_view ms) ≡ length ms
members_are_entries [] = refl
members_are_entries (m ∷ ms) = let e = members_are_entries ms in omega arith

-- a number of which it is known what it is
pub counted : (o : Option ℕ) (n l count : ℕ) → o ≡ Some n → l ≡ n
    → (IsTrue (eqb l count) → o ≡ Some count) × (o ≡ Some count → IsTrue (eqb l count))
counted o n l count e f =
    let d = Decides-eqb l count in
    (λ t. e ∙ ap Some (sym f ∙ d.0 t), λ h. d.1 (f ∙ (let same : n ≡ count = cc in same)))

-- two lists of values are one if they are one as items
pub one_list : (ds es : List Data) → items_of ds ≡ items_of es → ds ≡ es
one_list [] [] e = refl
one_list [] (y ∷ es) e = cc
one_list (x ∷ ds) [] e = cc
one_list (x ∷ ds) (y ∷ es) e =
    let head : x ≡ y = cc in
    let later : items_of ds ≡ items_of es = cc in
    let tail : ds ≡ es = one_list ds es later in cc

-- a list with a value that is no text is no list of texts
pub no_texts : (vs : List Value) (i : ℕ) (v : Value) → i < length vs → v ≡ get_or vs i v → as_str (view v) ≡ None
    → (texts : List (List ℕ)) → map view vs ≡ map string texts → ⊥
no_texts [] i v within at none texts e = absurd (omega arith)
no_texts (x ∷ vs) i v within at none [] e = cc
no_texts (x ∷ vs) zero v within at none (t ∷ texts) e =
    let first : view x ≡ string t = cc in
    let text : as_str (view v) ≡ Some t = ap (λ (w : Value). as_str (view w)) at ∙ ap as_str first in
    cc
no_texts (x ∷ vs) (suc i) v within at none (t ∷ texts) e =
    let later : map view vs ≡ map string texts = cc in
    no_texts vs i v (omega arith) at none texts later

-- what is said of the values of a list is said of the texts under a key that has it
pub texts_there : (d : Data) (key : List ℕ) (vs ws : List Value) → get key d ≡ Some (array (items_view vs)) → ws ≡ vs
    → (o : Option (Vec (Bor (List ℕ)) Global))
    → MatchOption o ((texts : List (List ℕ)) → map view ws ≡ map string texts → ⊥)
    (λ texts. map view ws ≡ map string (map (λ t. t.now) texts.items))
    → MatchOption o ((texts : List (List ℕ)) → HasTexts d key texts → ⊥)
    (λ texts. HasTexts d key (map (λ t. t.now) texts.items))
texts_there d key vs ws got is None none =
    λ texts has. none texts
    (ap (map view) is
    ∙ one_list (map view vs) (map string texts)
    (let same : items_of (map view vs) ≡ items_of (map string texts) = cc in same))
texts_there d key vs ws got is (Some texts) all =
    got ∙ ap (λ (ds : List Data). Some (array (items_of ds))) (sym (ap (map view) is) ∙ all)
