-- What a JSON value asks for (this project's own form).
use Rattle.std.specs.Prelude.{◌≡◌, ◌+◌, ℕ, Some, List, codes, map, option_map}
use Rattle.serde_json.specs.Data.{Data, number, unsigned, string, array, Members, member, no_members}
use Rattle.serde_json.specs.Find.{as_object, get}
use Rattle.serde_json.specs.Read.{read}
use Rattle.serde_json.specs.View.{items_of}
use Rattle.lab_lines.specs.declared.request.Request.{Request}
use Rattle.lab_lines.specs.declared.request.Request.TheVariants.{Load, Kernel, Explore, Same, Table}
use Rattle.lab_lines.specs.declared.request.Request.TheVariants.{Instant, Try, Back}
use Rattle.lab_lines.specs.declared.request.SearchScope.{SearchScope}

-- how many members
abbrev pub member_count : Members → ℕ
member_count no_members = 0
member_count (member key value later) = member_count later + 1

-- the value is an object with so many members
abbrev pub HasMembers : Data → ℕ → Type 0
HasMembers d count = option_map member_count (as_object d) ≡ Some count

-- the value has this text under the key
abbrev pub HasText : Data → (key text : List ℕ) → Type 0
HasText d key text = get key d ≡ Some (string text)

-- the value has these texts under the key
abbrev pub HasTexts : Data → (key : List ℕ) → List (List ℕ) → Type 0
HasTexts d key texts = get key d ≡ Some (array (items_of (map string texts)))

-- the value has this whole number under the key
abbrev pub HasNumber : Data → (key : List ℕ) → ℕ → Type 0
HasNumber d key n = get key d ≡ Some (number (unsigned n))

-- the value says that this is looked at
pub record HasScope (d : Data) (scope : SearchScope) : Type 0 where
  pub inputs : HasTexts d (codes "inputs") (map (λ t. t.now) scope.inputs.items)
  pub most : HasNumber d (codes "most") scope.most

-- the word of a request
abbrev pub word_of : Request → List ℕ
word_of (Load main text) = codes "load"
word_of Kernel = codes "kernel"
word_of (Explore claims scope) = codes "explore"
word_of (Same main text scope) = codes "same"
word_of (Table scope) = codes "table"
word_of (Instant names) = codes "instant"
word_of (Try names) = codes "try"
word_of (Back to) = codes "back"

-- how many members a request has, its word included
abbrev pub count_of : Request → ℕ
count_of (Load main text) = 3
count_of Kernel = 1
count_of (Explore claims scope) = 4
count_of (Same main text scope) = 5
count_of (Table scope) = 3
count_of (Instant names) = 2
count_of (Try names) = 2
count_of (Back to) = 2

-- the value has what the request has besides its word
abbrev pub HasParts : Data → Request → Type 0
HasParts d (Load main text) = HasText d (codes "main") main.now × HasText d (codes "text") text.now
HasParts d Kernel = Unit {0}
HasParts d (Explore claims scope) = HasTexts d (codes "claims") (map (λ t. t.now) claims.items) × HasScope d scope
HasParts d (Same main text scope) =
    HasText d (codes "main") main.now × HasText d (codes "text") text.now × HasScope d scope
HasParts d (Table scope) = HasScope d scope
HasParts d (Instant names) = HasTexts d (codes "inputs") (map (λ t. t.now) names.items)
HasParts d (Try names) = HasTexts d (codes "inputs") (map (λ t. t.now) names.items)
HasParts d (Back to) = HasNumber d (codes "to") to

-- the value asks for this: it is an object with the request's word and parts, and nothing else
pub record Says (d : Data) (r : Request) : Type 0 where
  pub word : HasText d (codes "cmd") (word_of r)
  pub only : HasMembers d (count_of r)
  pub parts : HasParts d r

-- the value asks for nothing
abbrev pub SaysNothing : Data → Type 0
SaysNothing d = (r : Request) → Says d r → ⊥

-- the text reads as a value that asks for this
pub record Asks (text : List ℕ) (r : Request) : Type 0 where
  pub value : Data
  pub reads : read text ≡ Some value
  pub says : Says value r
