-- What is taken of the tokens stands at their front.
use Rattle.std.proofs.Common.{◌≡◌, ◌≤◌, ◌^◌, ◌∙◌, ◌&&◌, ◌==◌, ℕ, ℤ, Float, List, [], ◌∷◌, ◌++◌, length, drop}
use Rattle.std.proofs.Common.{slice_index, map, codes, Bool, true, false, cond, Option, Some, None, option_map}
use Rattle.std.proofs.Common.{option_and_then, bytes_eq, IsTrue, nat_le, nat_lt, refl, sym, ap, subst, arith}
use Rattle.std.proofs.lemmas.Bool.{leb-true, le-leb, ltb-true, and_parts}
use Rattle.std.proofs.lemmas.Option.{same_Some}
use Rattle.std.proofs.lemmas.Slice.Eq.{bytes_eq-Decides}
use Rattle.std.specs.List.{AllByRecursion}
use Rattle.json.specs.Token as token
use Rattle.json.specs.Token.{Token}
use Rattle.json.specs.Json as json
use Rattle.json.specs.Tree.{json_tokens, items_tokens, depth, items_depth}
use Rattle.std.specs.Float.{binary64, float_is_finite}
use Rattle.fast_float.specs.Text.{Parts, scan, minus, digits_of, nearest, with_sign}
use Rattle.serde_json.specs.Data.{Data, Num, unsigned, negative, float, number, string, array, item}
use Rattle.serde_json.specs.Find.{as_u64}
use Rattle.serde_json.specs.Read.{number_of, number_from, is_integer, of_json, of_items}
use Rattle.serde_json.specs.View.{items_of}
use Rattle.serde_json.specs.Written.{items_outline}
use Rattle.serde_json.proofs.Numbers.{number_of-decimal}
use Rattle.std.specs.Prelude.{decimal}
use Rattle.rbac_policy.specs.declared.names.TheConstants.{LISTED_ROLES}
use Rattle.rbac_policy.specs.Names.{is_name}
use Rattle.rbac_policy.specs.Texts.{operation_text, operation_of, object_text, object_of, IsObject}
use Rattle.rbac_policy.specs.declared.objects.Operation.{Operation}
use Rattle.rbac_policy.specs.declared.objects.Object.{Object}
use Rattle.rbac_policy.proofs.OfNames.ObjectTexts.{operation_of-exact, object_of-exact, passed, chained}
use Rattle.wire_lines.specs.Requests.{IsName, IsNumber, AreListed}
use Rattle.wire_lines.specs.Inner.Members.{whole_of, after_key, front_text, front_number, begins_array, begins_object}
use Rattle.wire_lines.specs.Inner.Members.{text_after, number_after, parsed_after, list_after, names_in}
use Rattle.wire_lines.specs.Inner.Members.{roles_after, no_more, ends, last}

-- ---- tools

pub mapped : {A B : Type 0} (f : A → B) (o : Option A) (y : B) → option_map f o ≡ Some y → (x : A) × (o ≡ Some x)
    × (f x ≡ y)
mapped f None y h = cc
mapped f (Some x) y h = (x, refl, same_Some _ _ h)

pub same_text : (a b : List ℕ) → bytes_eq a b ≡ true → a ≡ b
same_text a b h = (bytes_eq-Decides a b).0 h

-- ---- the first tokens

key_is : (name : List ℕ) (ts left : List Token) → after_key name ts ≡ Some left → ts ≡ token.key name ∷ left
unfolding after_key
key_is name (token.key found ∷ rest) left h =
    let g = passed (bytes_eq found name) (Some rest) left h in
    ap (λ (s : List ℕ). token.key s ∷ rest) (same_text found name g.0)
    ∙ ap (λ (l : List Token). token.key name ∷ l) (same_Some _ _ g.1)
key_is name _ left h = cc

string_is : (ts : List Token) (found : List ℕ × List Token) → front_text ts ≡ Some found
    → ts ≡ token.string found.0 ∷ found.1
string_is (token.string text ∷ rest) found h =
    ap (λ (p : List ℕ × List Token). token.string p.0 ∷ p.1) (same_Some _ _ h)
string_is _ found h = cc

number_is : (ts : List Token) (found : List ℕ × List Token) → front_number ts ≡ Some found
    → ts ≡ token.number found.0 ∷ found.1
number_is (token.number text ∷ rest) found h =
    ap (λ (p : List ℕ × List Token). token.number p.0 ∷ p.1) (same_Some _ _ h)
number_is _ found h = cc

bracket_is : (ts left : List Token) → begins_array ts ≡ Some left → ts ≡ token.begin_array ∷ left
bracket_is (token.begin_array ∷ rest) left h = ap (λ (l : List Token). token.begin_array ∷ l) (same_Some _ _ h)
bracket_is _ left h = cc

-- a key, and the bracket after it
list_is : (name : List ℕ) (ts left : List Token) → list_after name ts ≡ Some left
    → ts ≡ token.key name ∷ token.begin_array ∷ left
unfolding list_after
list_is name ts left h =
    let p = chained _ _ left h in
    key_is name ts p.0 p.1 ∙ ap (λ (l : List Token). token.key name ∷ l) (bracket_is p.0 left p.2)

pub brace_is : (ts left : List Token) → begins_object ts ≡ Some left → ts ≡ token.begin_object ∷ left
brace_is (token.begin_object ∷ rest) left h = ap (λ (l : List Token). token.begin_object ∷ l) (same_Some _ _ h)
brace_is _ left h = cc

nothing_left : (ts : List Token) (u : Unit {0}) → no_more ts ≡ Some u → ts ≡ []
nothing_left [] u h = refl
nothing_left (t ∷ ts) u h = cc

pub end_is : (ts : List Token) (u : Unit {0}) → ends ts ≡ Some u → ts ≡ token.end_object ∷ []
unfolding ends
end_is (token.end_object ∷ rest) u h = ap (λ (l : List Token). token.end_object ∷ l) (nothing_left rest u h)
end_is _ u h = cc

pub last_is : {A : Type 0} (found : Option (A × List Token)) (x : A) → last found ≡ Some x
    → found ≡ Some (x, token.end_object ∷ [])
last_is {A} found x h =
    let p = chained _ _ x h in
    let m = mapped _ _ x p.2 in
    p.1 ∙ ap (λ (y : A). Some (y, p.0.1)) m.2 ∙ ap (λ (l : List Token). Some (x, l)) (end_is p.0.1 m.0 m.1)

-- ---- a member

-- a member of this key comes first, whose value is this one, and then what is left
pub record IsMember (name : List ℕ) (ts : List Token) (d : Data) (left : List Token) : Type 0 where
  pub json : json.Json
  pub next : ts ≡ token.key name ∷ (json_tokens json ++ left)
  pub reads : of_json json ≡ Some d
  pub shallow : depth json ≤ 1

-- a value with no values in it
low : 0 ≤ 1
low = omega arith

pub text_is : (name : List ℕ) (ts : List Token) (found : List ℕ × List Token) → text_after name ts ≡ Some found
    → ts ≡ token.key name ∷ token.string found.0 ∷ found.1
unfolding text_after
text_is name ts found h =
    let p = chained _ _ found h in
    key_is name ts p.0 p.1 ∙ ap (λ (l : List Token). token.key name ∷ l) (string_is p.0 found p.2)

pub text_member_is : (name : List ℕ) (ts : List Token) (text : List ℕ) (left : List Token)
    → text_after name ts ≡ Some (text, left) → IsMember name ts (string text) left
text_member_is name ts text left h = record {
  json = json.string text;
  next = text_is name ts (text, left) h;
  reads =
      refl;
  shallow = low;
}

parsed_is : {A : Type 0} (parse : List ℕ → Option A) (name : List ℕ) (ts : List Token) (x : A) (left : List Token)
    → parsed_after parse name ts ≡ Some (x, left)
    → (text : List ℕ) × (ts ≡ token.key name ∷ token.string text ∷ left) × (parse text ≡ Some x)
unfolding parsed_after
parsed_is {A} parse name ts x left h =
    let p = chained _ _ (x, left) h in
    let m = mapped _ _ (x, left) p.2 in (
      p.0.0,
      text_is name ts p.0 p.1 ∙ ap (λ (q : A × List Token). token.key name ∷ token.string p.0.0 ∷ q.1) m.2,
      m.1 ∙ ap (λ (q : A × List Token). Some q.0) m.2,
    )

-- a text that passes a test
pub tested_is : (test : List ℕ → Bool) (name : List ℕ) (ts : List Token) (x : List ℕ) (left : List Token)
    → parsed_after (λ text. cond (test text) (Some text) None) name ts ≡ Some (x, left)
    → IsMember name ts (string x) left × IsTrue (test x)
tested_is test name ts x left h =
    let p = parsed_is (λ (text : List ℕ). cond (test text) (Some text) None) name ts x left h in
    let g = passed (test p.0) (Some p.0) x p.2 in
    let e : p.0 ≡ x = same_Some _ _ g.1 in (
      record {
        json = json.string x;
        next = p.1 ∙ ap (λ (s : List ℕ). token.key name ∷ token.string s ∷ left) e;
        reads =
            refl;
        shallow = low;
      },
      subst (λ (s : List ℕ). test s ≡ true) e g.0,
    )

pub object_is : (name : List ℕ) (ts : List Token) (on : Object) (left : List Token)
    → parsed_after object_of name ts ≡ Some (on, left) → IsMember name ts (string (object_text on)) left × IsObject on
object_is name ts on left h =
    let p = parsed_is object_of name ts on left h in
    let o = (object_of-exact p.0 on).0 p.2 in (
      record {
        json = json.string (object_text on);
        next = p.1
            ∙ ap (λ (s : List ℕ). token.key name ∷ token.string s ∷ left) o.1;
        reads = refl;
        shallow = low;
      },
      o.0,
    )

pub operation_is : (name : List ℕ) (ts : List Token) (operation : Operation) (left : List Token)
    → parsed_after operation_of name ts ≡ Some (operation, left)
    → IsMember name ts (string (operation_text operation)) left
operation_is name ts operation left h =
    let p = parsed_is operation_of name ts operation left h in
    record {
      json = json.string (operation_text operation);
      next =
          p.1 ∙ ap (λ (s : List ℕ). token.key name ∷ token.string s ∷ left)
          ((operation_of-exact p.0 operation).0 p.2);
      reads = refl;
      shallow = low;
    }

-- ---- numbers

as_u64_is : (m : Num) (n : ℕ) → as_u64 m ≡ Some n → m ≡ unsigned n
as_u64_is (unsigned t) n h = ap unsigned (same_Some _ _ h)
as_u64_is _ n h = cc

digits_fit : (b : Bool) (m n : ℕ) (c : Bool) (y : Float)
    → cond b (Some (unsigned m)) (cond c (Some (float y)) None) ≡ Some (unsigned n) → (b ≡ true) × (m ≡ n)
digits_fit true m n c y h = (refl, cc)
digits_fit false m n true y h = cc
digits_fit false m n false y h = cc

not_negative : (b : Bool) (z : ℤ) (n : ℕ) (c : Bool) (y : Float)
    → cond b (Some (negative z)) (cond c (Some (float y)) None) ≡ Some (unsigned n) → ⊥
not_negative true z n c y h = cc
not_negative false z n true y h = cc
not_negative false z n false y h = cc

plain_fits : (p : Parts) (n : ℕ) → number_from false p ≡ Some (unsigned n) → IsNumber n
plain_fits p n h =
    let f = nearest binary64 false p in
    let d = digits_fit (is_integer p && nat_lt (digits_of p) (2 ^ 64)) (digits_of p) n (float_is_finite f) f h in
    subst IsNumber d.1 (ltb-true (digits_of p) (2 ^ 64)
    (and_parts (is_integer p) (nat_lt (digits_of p) (2 ^ 64)) d.0).1)

signed_fits : (p : Parts) (n : ℕ) → number_from true p ≡ Some (unsigned n) → IsNumber n
signed_fits p n h =
    let f = nearest binary64 true p in
    absurd (not_negative (is_integer p && nat_lt 0 (digits_of p) && nat_le (digits_of p) (2 ^ 63))
    (with_sign true (digits_of p)) n (float_is_finite f) f h)

either_fits : (b : Bool) (p q : Parts) (n : ℕ) → cond b (number_from true p) (number_from false q) ≡ Some (unsigned n)
    → IsNumber n
either_fits true p q n h = signed_fits p n h
either_fits false p q n h = plain_fits q n h

number_fits : (text : List ℕ) (n : ℕ) → number_of text ≡ Some (unsigned n) → IsNumber n
unfolding number_of
number_fits text n h = either_fits (slice_index text 0 == minus) (scan (drop 1 text)) (scan text) n h

pub number_member_is : (name : List ℕ) (ts : List Token) (n : ℕ) (left : List Token)
    → number_after name ts ≡ Some (n, left) → IsMember name ts (number (unsigned n)) left × IsNumber n
unfolding number_after whole_of
number_member_is name ts n left h =
    let p = chained _ _ (n, left) h in
    let q = chained _ _ p.0 p.1 in
    let m = mapped _ _ (n, left) p.2 in
    let w = chained _ _ m.0 m.1 in
    let value : number_of p.0.0 ≡ Some (unsigned n) = w.1 ∙ ap Some (as_u64_is w.0 m.0 w.2)
    ∙ ap (λ (x : ℕ × List Token). Some (unsigned x.0)) m.2 in (
      record {
        json = json.number p.0.0;
        next = key_is name ts q.0 q.1 ∙ ap (λ (l : List Token). token.key name ∷ l)
            (number_is q.0 p.0 q.2 ∙ ap (λ (x : ℕ × List Token). token.number p.0.0 ∷ x.1) m.2);
        reads = ap (option_map number) value;
        shallow = low;
      },
      number_fits p.0.0 n value,
    )

pub number_back : (n : ℕ) → IsNumber n → whole_of (decimal n) ≡ Some n
unfolding whole_of
number_back n h = ap (option_and_then as_u64) (number_of-decimal n h)

-- ---- lists of texts

-- the tokens of texts up to the bracket after them, and what is left
abbrev pub texts_before : List Token → List (List ℕ) → List Token
texts_before left [] = token.end_array ∷ left
texts_before left (text ∷ texts) = token.string text ∷ texts_before left texts

-- the items of a list of texts
abbrev text_items : List (List ℕ) → json.Items
text_items [] = json.no_items
text_items (text ∷ texts) = json.item (json.string text) (text_items texts)

items_before : (texts : List (List ℕ)) (left : List Token)
    → items_tokens (text_items texts) ++ left ≡ texts_before left texts
items_before [] left = refl
items_before (text ∷ texts) left = ap (λ (l : List Token). token.string text ∷ l) (items_before texts left)

items_read : (texts : List (List ℕ)) → of_items (text_items texts) ≡ Some (items_of (map string texts))
items_read [] = refl
items_read (text ∷ texts) = ap (option_map (item (string text))) (items_read texts)

items_flat : (texts : List (List ℕ)) → items_depth (text_items texts) ≤ 0
items_flat [] = omega arith
items_flat (text ∷ texts) = omega (arith, items_flat texts)

pub texts_member_is : (name : List ℕ) (ts mid : List Token) (texts : List (List ℕ)) (left : List Token)
    → list_after name ts ≡ Some mid → mid ≡ texts_before left texts
    → IsMember name ts (array (items_of (map string texts))) left
texts_member_is name ts mid texts left h e =
    record {
      json = json.array (text_items texts);
      next = list_is name ts mid h
          ∙ ap (λ (l : List Token). token.key name ∷ token.begin_array ∷ l) (e ∙ sym (items_before texts left));
      reads = ap (option_map array) (items_read texts);
      shallow = omega (arith, items_flat texts);
    }

-- ---- lists of roles

abbrev pub AreNames : List (List ℕ) → Type 0
AreNames names = AllByRecursion (λ name. IsName name) names

names_are : (ts : List Token) (found : List (List ℕ) × List Token) → names_in ts ≡ Some found
    → (ts ≡ texts_before found.1 found.0) × AreNames found.0
unfolding names_in
names_are (token.end_array ∷ rest) found h =
    subst (λ (q : List (List ℕ) × List Token). (token.end_array ∷ rest ≡ texts_before q.1 q.0) × AreNames q.0)
    (same_Some _ _ h) (refl, tt)
names_are (token.string text ∷ rest) found h =
    let p = chained _ _ found h in
    let g = passed (is_name text) _ p.0 p.1 in
    let e : text ≡ p.0 = same_Some _ _ g.1 in
    let m = mapped _ _ found p.2 in
    let r = names_are rest m.0 m.1 in
    subst (λ (q : List (List ℕ) × List Token). (token.string text ∷ rest ≡ texts_before q.1 q.0) × AreNames q.0) m.2 (
      ap (λ (s : List ℕ). token.string s ∷ rest) e ∙ ap (λ (l : List Token). token.string p.0 ∷ l) r.0,
      (subst (λ (s : List ℕ). is_name s ≡ true) e g.0, r.1),
    )
names_are _ found h = cc

pub roles_are : (ts : List Token) (roles : List (List ℕ)) (left : List Token) → roles_after ts ≡ Some (roles, left)
    → IsMember (codes "roles") ts (array (items_of (map string roles))) left × AreListed roles
unfolding roles_after
roles_are ts roles left h =
    let p = chained _ _ (roles, left) h in
    let g = passed (nat_le (length p.0.0) LISTED_ROLES) (Some p.0) (roles, left) p.2 in
    let e : p.0 ≡ (roles, left) = same_Some _ _ g.1 in
    let q = chained _ _ p.0 p.1 in
    let n = names_are q.0 (roles, left) (q.2 ∙ ap Some e) in (
      texts_member_is (codes "roles") ts q.0 roles left q.1 n.0,
      (
        leb-true (length roles) LISTED_ROLES (subst
            (λ (x : List (List ℕ) × List Token). nat_le (length x.0) LISTED_ROLES ≡ true) e g.0),
        n.1,
      ),
    )

-- the tokens that are written for names
names_back : (names : List (List ℕ)) (left : List Token) → AreNames names
    → names_in (items_tokens (items_outline (items_of (map string names))) ++ left) ≡ Some (names, left)
unfolding names_in
names_back [] left h = refl
names_back (name ∷ names) left h = rw (h.0, names_back names left h.1) refl

pub roles_back : (roles : List (List ℕ)) (left : List Token) → AreListed roles
    → roles_after (token.key (codes "roles") ∷ token.begin_array ∷
    (items_tokens (items_outline (items_of (map string roles))) ++ left)) ≡ Some (roles, left)
unfolding roles_after list_after after_key
roles_back roles left h = rw (names_back roles left h.1, le-leb _ _ h.0) refl
