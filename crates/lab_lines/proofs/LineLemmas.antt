-- Pieces of a line, one after another.
use Rattle.std.proofs.Common.{◌≡◌, ◌∙◌, ℕ, ◌+◌, ◌<◌, ◌≤◌, List, [], ◌∷◌, ◌++◌, length, get_or, drop, map}
use Rattle.std.proofs.Common.{Result, Ok, Err, OnOk, true, false, ap, sym, refl, append_assoc, append-nil, subst}
use Rattle.std.proofs.lemmas.List.{drop_all, map-id}
use Rattle.json.specs.Token.{Token, begin_object, end_object}
use Rattle.json.specs.Token as token
use Rattle.json.specs.Tree.{json_tokens, members_tokens}
use Rattle.serde_json.specs.Data.{Data, array, object, string, Members, member, no_members}
use Rattle.serde_json.specs.View.{items_of}
use Rattle.serde_json.specs.Written.{outline, members_outline}
use Rattle.est_kernel.specs.Bits.{bits}
use Rattle.est_kernel.specs.declared.interface.Declaration.{Declaration}
use Rattle.wire_lines.specs.Inner.ReplyTokens.{value_tokens, member_tokens, item_tokens}
use Rattle.lab_lines.specs.Inner.LineParts.{names_left}
use Rattle.lab_lines.specs.FoundJson.{names_from}
use Rattle.lab_lines.proofs.NameLemmas.{names_there, names_later}

-- the tokens of an object after its first brace
object_ends : (members : Members)
    → members_tokens (members_outline members) ≡ member_tokens members ++ end_object ∷ []
object_ends no_members = refl
object_ends (member name value others) =
    let first = json_tokens (outline value) in
    ap (λ (l : List Token). token.key name ∷ (first ++ l)) (object_ends others)
    ∙ ap (λ (l : List Token). token.key name ∷ l) (sym (append_assoc first (member_tokens others) (end_object ∷ [])))

-- an object as an item of a list, written piece by piece
pub object_is : {A E : Type 0} (value : A → Data) (item : A) (members : Members) (t0 t1 t2 t3 : List Token)
    (result : Result (Unit {0}) E) → value item ≡ object members → t1 ≡ t0 ++ begin_object ∷ []
    → t2 ≡ t1 ++ member_tokens members → OnOk result (t3 ≡ t2 ++ end_object ∷ [])
    → OnOk result (t3 ≡ t0 ++ item_tokens value (item ∷ []))
object_is value item parts t0 t1 t2 t3 (Err e) is h1 h2 h3 = tt
object_is value item parts t0 t1 t2 t3 (Ok u) is h1 h2 h3 =
    let whole : t3 ≡ t0 ++ begin_object ∷ (member_tokens parts ++ end_object ∷ []) =
    rw (h3, h2, h1) (simp append_assoc) in
    let tokens : json_tokens (outline (value item)) ≡ begin_object ∷ (member_tokens parts ++ end_object ∷ []) =
    ap (λ (d : Data). json_tokens (outline d)) is
    ∙ ap (λ (l : List Token). begin_object ∷ l) (object_ends parts) in
    whole
    ∙ ap (λ (l : List Token). t0 ++ l) (sym tokens ∙ sym (append-nil (json_tokens (outline (value item)))))

-- two members and three, of which the last may fail
pub two_members : {E : Type 0} (result : Result (Unit {0}) E) (t0 t1 t2 a b : List Token) → t1 ≡ t0 ++ a
    → OnOk result (t2 ≡ t1 ++ b) → OnOk result (t2 ≡ t0 ++ (a ++ (b ++ [])))
two_members (Err e) t0 t1 t2 a b h1 h2 = tt
two_members (Ok u) t0 t1 t2 a b h1 h2 = rw (h2, h1) (simp (append_assoc, append-nil))

pub three_members : {E : Type 0} (result : Result (Unit {0}) E) (t0 t1 t2 t3 a b c : List Token) → t1 ≡ t0 ++ a
    → t2 ≡ t1 ++ b → OnOk result (t3 ≡ t2 ++ c) → OnOk result (t3 ≡ t0 ++ (a ++ (b ++ (c ++ []))))
three_members (Err e) t0 t1 t2 t3 a b c h1 h2 h3 = tt
three_members (Ok u) t0 t1 t2 t3 a b c h1 h2 h3 = rw (h3, h2, h1) (simp (append_assoc, append-nil))

-- two pieces and six
pub two_pieces : (t0 t1 t2 a b : List Token) → t1 ≡ t0 ++ a → t2 ≡ t1 ++ b → t2 ≡ t0 ++ (a ++ (b ++ []))
two_pieces t0 t1 t2 a b h1 h2 = rw (h2, h1) (simp (append_assoc, append-nil))

pub six_pieces : (t0 t1 t2 t3 t4 t5 t6 a b c d e f : List Token) → t1 ≡ t0 ++ a → t2 ≡ t1 ++ b → t3 ≡ t2 ++ c
    → t4 ≡ t3 ++ d → t5 ≡ t4 ++ e → t6 ≡ t5 ++ f → t6 ≡ t0 ++ (a ++ (b ++ (c ++ (d ++ (e ++ (f ++ []))))))
six_pieces t0 t1 t2 t3 t4 t5 t6 a b c d e f h1 h2 h3 h4 h5 h6 =
    rw (h6, h5, h4, h3, h2, h1) (simp (append_assoc, append-nil))

-- a list of values as they are
pub values_are : {E : Type 0} (result : Result (Unit {0}) E) (values : List Data) (name : List ℕ) (t0 t1 : List Token)
    → OnOk result (t1 ≡ t0 ++ value_tokens name (array (items_of (map (λ value. value) values))))
    → OnOk result (t1 ≡ t0 ++ value_tokens name (array (items_of values)))
values_are (Err e) values name t0 t1 h = tt
values_are (Ok u) values name t0 t1 h =
    h ∙ ap (λ (ds : List Data). t0 ++ value_tokens name (array (items_of ds))) (map-id values)

-- ---- names

-- the name of a signal that is in the set
pub name_there : {E : Type 0} (result : Result (Unit {0}) E) (ds : List Declaration) (place signals : ℕ)
    (d : Declaration) (t0 t1 : List Token) → place < length ds → bits signals place ≡ true
    → OnOk result (t1 ≡ t0 ++ token.string (get_or ds place d).name ∷ [])
    → OnOk result (t1 ++ names_left ds signals (place + 1) ≡ t0 ++ names_left ds signals place)
name_there (Err e) ds place signals d t0 t1 within on h = tt
name_there (Ok u) ds place signals d t0 t1 within on h =
    let left = names_there ds place d signals within on in
    ap (λ (l : List Token). l ++ names_left ds signals (place + 1)) h
    ∙ (append_assoc t0 (token.string (get_or ds place d).name ∷ []) (names_left ds signals (place + 1))
    ∙ ap (λ (l : List Data). t0 ++ item_tokens (λ value. value) l) (sym left))

-- one that is not is passed over
pub name_later : (ds : List Declaration) (place signals : ℕ) (d : Declaration) (t0 : List Token) → place < length ds
    → bits signals place ≡ false
    → t0 ++ names_left ds signals (place + 1) ≡ t0 ++ names_left ds signals place
name_later ds place signals d t0 within off =
    ap (λ (l : List Data). t0 ++ item_tokens (λ value. value) l) (sym (names_later ds place d signals within off))

-- none is left after the last declaration
pub no_name_left : (ds : List Declaration) (place signals : ℕ) (t0 t1 : List Token) → length ds ≤ place
    → t1 ++ names_left ds signals place ≡ t0 ++ names_left ds signals 0
    → t1 ≡ t0 ++ item_tokens (λ value. value) (names_from 0 ds signals)
no_name_left ds place signals t0 t1 past h =
    let none : names_left ds signals place ≡ [] =
    ap (λ (l : List Declaration). item_tokens (λ value. value) (names_from place l signals)) (drop_all place ds past) in
    sym (append-nil t1) ∙ (ap (λ (l : List Token). t1 ++ l) (sym none) ∙ h)
