-- Rows of a table of refusals (this project's own form).
use Rattle.std.specs.Prelude.{◌≡◌, ℕ, List}

-- what a refusal names under a key
pub data Field : Type 0 where
  Number : ℕ → Field
  Text : List ℕ → Field
  Texts : List (List ℕ) → Field

-- what a refusal names: each key with its field, in the order of the keys
abbrev pub Fields : Type 0
Fields = List (List ℕ × Field)

-- a refusal's number, its name, and what it names
pub record Row : Type 0 where
  pub code : ℕ
  pub name : List ℕ
  pub fields : Fields

-- the row of a refusal that tells this
abbrev pub tells : (code : ℕ) → (name : List ℕ) → Fields → Row
tells code name fields = record { code = code; name = name; fields = fields }

-- a table tells two refusals apart: equal numbers and equal fields are of equal refusals
abbrev pub TellsApart : {R : Type 0} → (R → Row) → (one other : R) → Type 0
TellsApart row one other =
    (row one).code ≡ (row other).code → (row one).fields ≡ (row other).fields → one ≡ other
