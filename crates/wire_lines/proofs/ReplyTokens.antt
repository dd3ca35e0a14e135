-- The tokens of a reply are those of its JSON.
use Rattle.std.proofs.Common.{◌≡◌, ◌∙◌, ℕ, List, [], ◌∷◌, ◌++◌, map, Result, Ok, Err, OnOk, ap, append_assoc, refl}
use Rattle.json.specs.Token.{Token, begin_object, end_object, begin_array, end_array, key}
use Rattle.json.specs.Print.{print}
use Rattle.json.specs.Tree.{json_tokens, items_tokens, members_tokens}
use Rattle.serde_json.specs.Data.{Data, array, object, Members, member, no_members}
use Rattle.serde_json.specs.View.{items_of}
use Rattle.serde_json.specs.Written.{outline, items_outline, members_outline, compact_text}
use Rattle.serde_json.proofs.Texts.{print-outline}
use Rattle.wire_lines.specs.Inner.ReplyTokens.{value_tokens, member_tokens, item_tokens}

-- the items of a list, and the bracket after them
pub items_are : {A : Type 0} (value : A → Data) (items : List A)
    → item_tokens value items ++ end_array ∷ [] ≡ items_tokens (items_outline (items_of (map value items)))
items_are value [] = refl
items_are value (item ∷ items) =
    let first = json_tokens (outline (value item)) in
    append_assoc first (item_tokens value items) (end_array ∷ [])
    ∙ ap (λ (l : List Token). first ++ l) (items_are value items)

-- a list under its key, written piece by piece
pub list_is : {A E : Type 0} (value : A → Data) (items : List A) (name : List ℕ) (t0 t1 t2 t3 t4 : List Token)
    (result : Result (Unit {0}) E) → t1 ≡ t0 ++ key name ∷ [] → t2 ≡ t1 ++ begin_array ∷ []
    → t3 ≡ t2 ++ item_tokens value items → OnOk result (t4 ≡ t3 ++ end_array ∷ [])
    → OnOk result (t4 ≡ t0 ++ value_tokens name (array (items_of (map value items))))
list_is value items name t0 t1 t2 t3 t4 (Err e) h1 h2 h3 h4 = tt
list_is value items name t0 t1 t2 t3 t4 (Ok u) h1 h2 h3 h4 =
    let whole : t4 ≡ t0 ++ key name ∷ begin_array ∷ (item_tokens value items ++ end_array ∷ []) =
    rw (h4, h3, h2, h1) (simp append_assoc) in
    whole ∙ ap (λ (l : List Token). t0 ++ key name ∷ begin_array ∷ l) (items_are value items)

-- members, and the brace after them
members_are : (members : Members) → member_tokens members ++ end_object ∷ [] ≡ members_tokens (members_outline members)
members_are no_members = refl
members_are (member name value others) =
    let first = json_tokens (outline value) in
    ap (λ (l : List Token). key name ∷ l)
    (append_assoc first (member_tokens others) (end_object ∷ [])
    ∙ ap (λ (l : List Token). first ++ l) (members_are others))

-- the line of an object with these members
pub line_is : (members : Members)
    → print ((begin_object ∷ member_tokens members) ++ end_object ∷ []) ++ 10 ∷ []
    ≡ compact_text (object members) ++ 10 ∷ []
line_is members =
    ap (λ (text : List ℕ). text ++ 10 ∷ [])
    (ap (λ (l : List Token). print (begin_object ∷ l)) (members_are members) ∙ print-outline (object members))

-- what is written after something that was written
pub next : (t0 t1 t2 a b : List Token) → t1 ≡ t0 ++ a → t2 ≡ t1 ++ b → t2 ≡ t0 ++ (a ++ b)
next t0 t1 t2 a b h k = k ∙ ap (λ (l : List Token). l ++ b) h ∙ append_assoc t0 a b

-- what is written last, if it is written
pub last : {E : Type 0} (result : Result (Unit {0}) E) (t0 t1 t2 a b : List Token) → t1 ≡ t0 ++ a
    → OnOk result (t2 ≡ t1 ++ b) → OnOk result (t2 ≡ t0 ++ (a ++ b))
last (Ok u) t0 t1 t2 a b h k = next t0 t1 t2 a b h k
last (Err e) t0 t1 t2 a b h k = tt
