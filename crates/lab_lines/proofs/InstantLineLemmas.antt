-- A line whose tokens are a word and inputs reads as the value that asks for them.
use Rattle.std.proofs.Common.{◌≡◌, ◌∙◌, ℕ, List, [], ◌∷◌, codes, map, Some, refl, ap, Bor, Vec, Global}
use Rattle.std.proofs.lemmas.Option.{option_and_then_some, same_Some}
use Rattle.json.specs.Token as token
use Rattle.json.specs.Token.{Token}
use Rattle.json.specs.Lex.{tokens}
use Rattle.serde_json.specs.Data.{Data, string, array, object, member, no_members}
use Rattle.serde_json.specs.Read.{read}
use Rattle.serde_json.specs.View.{items_of}
use Rattle.wire_lines.specs.Requests.{command_member}
use Rattle.wire_lines.specs.Inner.Members.{begins_object, list_after, text_after, word_at}
use Rattle.wire_lines.proofs.CommandLemmas.{one_member, whole_read}
use Rattle.wire_lines.proofs.MemberLemmas.{brace_is, last_is, mapped, text_is, texts_before, texts_member_is}
use Rattle.wire_lines.proofs.MemberLemmas.{IsMember}
use Rattle.lab_lines.specs.Requests.{Asks}
use Rattle.lab_lines.specs.Inner.InstantLines.{texts_in, inputs_at}
use Rattle.lab_lines.specs.declared.request.Request.TheVariants.{Instant, Try}

-- the value that asks for these inputs by this word
abbrev asking : (word : List ℕ) → List (List ℕ) → Data
asking word names =
    object (command_member word (member (codes "inputs") (array (items_of (map string names))) no_members))

texts_are : (ts : List Token) (found : List (List ℕ) × List Token) → texts_in ts ≡ Some found
    → ts ≡ texts_before found.1 found.0
unfolding texts_in
texts_are (token.end_array ∷ rest) found h =
    ap (λ (q : List (List ℕ) × List Token). texts_before q.1 q.0) (same_Some _ _ h)
texts_are (token.string text ∷ rest) found h =
    let m = mapped _ _ found h in
    ap (λ (l : List Token). token.string text ∷ l) (texts_are rest m.0 m.1)
    ∙ ap (λ (q : List (List ℕ) × List Token). texts_before q.1 q.0) m.2
texts_are _ found h = cc

inputs_are : (ts : List Token) (names : List (List ℕ)) → inputs_at ts ≡ Some names
    → IsMember (codes "inputs") ts (array (items_of (map string names))) (token.end_object ∷ [])
unfolding inputs_at
inputs_are ts names h =
    option_and_then_some texts_in (list_after (codes "inputs") ts) (names, token.end_object ∷ []) (last_is _ names h)
    (λ mid list texts. texts_member_is (codes "inputs") ts mid names (token.end_object ∷ []) list
    (texts_are mid _ texts))

-- the text is read as that value
asked_is : (text word : List ℕ) (later : List Token) (names : List (List ℕ))
    → word_at (tokens text) ≡ Some (word, later) → inputs_at later ≡ Some names
    → read text ≡ Some (asking word names)
unfolding word_at
asked_is text word later names begins inputs =
    option_and_then_some (text_after (codes "cmd")) (begins_object (tokens text)) (word, later) begins
    (λ left brace first. whole_read text word later _
    (brace_is (tokens text) left brace ∙ ap (λ (l : List Token). token.begin_object ∷ l)
    (text_is (codes "cmd") left (word, later) first))
    (one_member word (codes "inputs") later _ (λ w d. refl) (inputs_are later names inputs)))

pub asks_instant : (text : List ℕ) (later : List Token) (names : Vec (Bor (List ℕ)) Global)
    → word_at (tokens text) ≡ Some (codes "instant", later)
    → inputs_at later ≡ Some (map (λ t. t.now) names.items) → Asks text (Instant names)
asks_instant text later names begins inputs =
    record {
      value = asking (codes "instant") (map (λ t. t.now) names.items);
      reads = asked_is text (codes "instant") later _ begins inputs;
      says = record { word = refl; only = refl; parts = refl };
    }

pub asks_try : (text : List ℕ) (later : List Token) (names : Vec (Bor (List ℕ)) Global)
    → word_at (tokens text) ≡ Some (codes "try", later)
    → inputs_at later ≡ Some (map (λ t. t.now) names.items) → Asks text (Try names)
asks_try text later names begins inputs =
    record {
      value = asking (codes "try") (map (λ t. t.now) names.items);
      reads = asked_is text (codes "try") later _ begins inputs;
      says = record { word = refl; only = refl; parts = refl };
    }
