-- What a lab answers to a line (this project's own form).
use Rattle.std.specs.Prelude.{◌≡◌, ◌⊎◌, ◌++◌, ◌∷◌, [], ℕ, List, Option, Some, Result, Ok, Err}
use Rattle.serde_json.specs.Data.{Data}
use Rattle.serde_json.specs.Read.{read}
use Rattle.serde_json.specs.View.{view}
use Rattle.serde_json.specs.Written.{IsInOrder}
use Rattle.serde_json.specs.declared.value.Value.{Value}
use Rattle.access_core.specs.declared.refusal.Refusal.{Refusal}
use Rattle.access_core.specs.declared.refusal.Refusal.TheVariants as refusal
use Rattle.access_core.specs.declared.reply.Reply.TheVariants as reply
use Rattle.wire_lines.specs.Replies.{line_of}
use Rattle.wire_lines.specs.Requests.{IsValue}
use Rattle.lab_lines.specs.Requests.{Says as SaysRequest, SaysNothing}
use Rattle.lab_lines.specs.declared.request.Request.{Request}
use Rattle.lab_run.specs.Answers.{Obeys}
use Rattle.lab_run.specs.Walking.{SteppedState}
use Rattle.lab_run.specs.declared.lab.LabReply.{LabReply}
use Rattle.lab_run.specs.declared.lab.LabReply.TheVariants.{Refused, Json, Line}

-- the line of a value: its members and items, each once and in order, and the LF
pub record IsLineOf (d : Data) (text : List ℕ) : Type 0 where
  pub compact : List ℕ
  pub order : IsInOrder compact d
  pub ends : text ≡ compact ++ 10 ∷ []

-- the line of what is told: a refusal's is the server's
abbrev pub IsTextOf : LabReply → (text : List ℕ) → Type 0
IsTextOf (Refused given) text = text ≡ line_of (reply.Refused given)
IsTextOf (Json v) text = IsLineOf (view v) text
IsTextOf (Line line) text = text ≡ line.items

-- the line is no JSON value
abbrev pub HasNoValue : (line : List ℕ) → Type 0
HasNoValue line = (value : Data) → IsValue line value → ⊥

-- what a line is read as: its value; NotJson where it has none; Memory where memory was refused
abbrev pub IsReadAs : (line : List ℕ) → Result Value Refusal → Type 0
IsReadAs line (Ok v) = IsValue line (view v)
IsReadAs line (Err refusal.NotJson) = HasNoValue line
IsReadAs line (Err refusal.Memory) = Unit {0}
IsReadAs line (Err _) = ⊥

-- the value asks for something, and that is done
pub record IsDone (before : Option SteppedState) (value : Data) (told : LabReply)
    (after : Option SteppedState) : Type 0 where
  pub request : Request
  pub says : SaysRequest value request
  pub obeyed : Obeys before request told after

-- it is told this, and what was loaded stays
abbrev pub IsLeft : (before : Option SteppedState) → (given : Refusal) → LabReply → (after : Option SteppedState)
    → Type 0
IsLeft before given told after = (told ≡ Refused given) × (after ≡ before)

-- the value asks for nothing, and is refused as no request
pub record IsNoRequest (before : Option SteppedState) (value : Data) (told : LabReply)
    (after : Option SteppedState) : Type
    0 where
  pub right : SaysNothing value
  pub left : IsLeft before refusal.NotARequest told after

-- what a value is told: what it asks for is done, or it asks for nothing
abbrev pub IsValueTold : (before : Option SteppedState) → (value : Data) → LabReply → (after : Option SteppedState)
    → Type 0
IsValueTold before value told after =
    IsDone before value told after ⊎ IsNoRequest before value told after

-- the text reads as a value that asks for something, and that is done
pub record IsAsked (before : Option SteppedState) (text : List ℕ) (told : LabReply)
    (after : Option SteppedState) : Type 0 where
  pub value : Data
  pub reads : read text ≡ Some value
  pub done : IsDone before value told after

-- the line has a value, and what that is told
pub record IsToldOfValue (before : Option SteppedState) (line : List ℕ) (told : LabReply)
    (after : Option SteppedState) : Type 0 where
  pub value : Data
  pub is : IsValue line value
  pub right : IsValueTold before value told after

-- the line has no value
pub record IsNoJson (before : Option SteppedState) (line : List ℕ) (told : LabReply)
    (after : Option SteppedState) : Type 0
  where
    pub right : HasNoValue line
    pub left : IsLeft before refusal.NotJson told after

-- what a line is told: what its value is, or that it has none, or that memory was refused
abbrev pub IsTold : (before : Option SteppedState) → (line : List ℕ) → LabReply → (after : Option SteppedState) → Type 0
IsTold before line told after = IsToldOfValue before line told after
    ⊎ (IsNoJson before line told after ⊎ IsLeft before refusal.Memory told after)

-- the text is that of what a line is told
pub record IsAnswer (before : Option SteppedState) (line text : List ℕ) (after : Option SteppedState) : Type 0 where
  pub told : LabReply
  pub right : IsTold before line told after
  pub written : IsTextOf told text

-- a line is told something, and memory was refused for its text
pub record HasNoText (before : Option SteppedState) (line : List ℕ) (after : Option SteppedState) : Type 0 where
  pub told : LabReply
  pub right : IsTold before line told after
