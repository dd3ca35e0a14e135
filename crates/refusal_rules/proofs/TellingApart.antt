-- A table that can be read backwards tells its refusals apart.
use Rattle.std.proofs.Common.{◌≡◌, ◌∙◌, ℕ, List, [], ◌∷◌, sym, ap}
use Rattle.std.specs.Prelude.{Option, Some}
use Rattle.refusal_rules.specs.Rows.{Row, Field, Fields, Number, Text, Texts, TellsApart}

-- the number of a field; zero where it is none
abbrev pub number_in : Field → ℕ
number_in (Number n) = n
number_in (Text text) = 0
number_in (Texts texts) = 0

-- the text of a field; empty where it is none
abbrev pub text_in : Field → List ℕ
text_in (Number n) = []
text_in (Text text) = text
text_in (Texts texts) = []

-- the texts of a field; empty where it has none
abbrev pub texts_in : Field → List (List ℕ)
texts_in (Number n) = []
texts_in (Text text) = []
texts_in (Texts texts) = texts

-- the first field; an empty text where there is none
abbrev pub first : Fields → Field
first [] = Text []
first (field ∷ others) = field.1

-- the second field; an empty text where there is none
abbrev pub second : Fields → Field
second [] = Text []
second (field ∷ others) = first others

same_refusal : {R : Type 0} (one other : R) → Some one ≡ Some other → one ≡ other
same_refusal one other e = cc

-- where both rows read back as their refusals, the table tells these apart
pub read_back : {R : Type 0} (row : R → Row) (back : ℕ → Fields → Option R) (one other : R)
    → back (row one).code (row one).fields ≡ Some one → back (row other).code (row other).fields ≡ Some other
    → TellsApart row one other
read_back row back one other here there code fields =
    same_refusal one other
    (sym here
    ∙ (ap (λ (c : ℕ). back c (row one).fields) code ∙ (ap (λ (fs : Fields). back (row other).code fs) fields ∙ there)))
