-- What may come next, token by token (this project's own form).
use Rattle.std.specs.Prelude.{◌≡◌, ℕ, suc, List, [], ◌∷◌, ◌++◌, Bool, true, false, if◌then◌else◌, nat_le}
use Rattle.est_text.specs.declared.token.Token.{Token}
use Rattle.est_text.specs.declared.token.Token.TheVariants.{Keyword, Identifier, Symbol}
use Rattle.est_text.specs.declared.keyword.Keyword.TheVariants as keyword
use Rattle.est_text.specs.declared.token.Symbol.TheVariants as symbol
use Rattle.est_text.specs.contracts.keyword.Keyword.{the_type as keyword_type}
use Rattle.est_text.specs.contracts.token.Symbol.{the_type as symbol_type}
use denote.Enum.Bare.{sameb}

-- whether both are the same keyword or the same symbol; never so of identifiers
abbrev pub same : Token → Token → Bool
same (Keyword k) (Keyword l) = sameb keyword_type k l
same (Keyword k) _ = false
same (Symbol k) (Symbol l) = sameb symbol_type k l
same (Symbol k) _ = false
same (Identifier n) _ = false

-- what is still wanted
pub data Want : Type 0 where
  one : Token → Want
  may : Token → Want
  name : Want
  later_names : Want
  later_members : Want
  relation : Want
  relation_tail : Want
  later_relations : Want
  declarations : Want
  renamings : Want
  later_renamings : Want
  test : Want
  expression : Want
  expression_tail : Want
  conjunction : Want
  conjunction_tail : Want
  literal : Want
  unit : Want
  sequence : Want
  sequence_tail : Want
  after_semicolon : Want
  statement : Want
  statement_tail : Want
  branches : Want
  after_then : Want
  loop_tail : Want
  -- `end` and the keyword, both or none
  may_end : Token → Want
  -- `end` was read, and the keyword may make the pair
  ended : Token → Want
  -- the end of a `weak abort`
  may_end_weak : Want
  ended_weak : Want
  -- a unit that is open
  leave : Want
  modules : Want
  library : Want

-- what a token leads to: nothing, other wants, or other wants with one more unit open
pub data Step : Type 0 where
  refused : Step
  to : List Want → Step
  opens : List Want → Step

-- the keyword `end`
abbrev pub kw_end : Token
kw_end = Keyword keyword.End

-- what a literal goes on with after this token
abbrev pub literal_start : Token → Step
literal_start (Identifier n) = to []
literal_start (Keyword keyword.Not) = opens (literal ∷ leave ∷ [])
literal_start (Symbol symbol.OpenParenthesis) = opens (expression ∷ one (Symbol symbol.CloseParenthesis) ∷ leave ∷ [])
literal_start _ = refused

-- what a unit goes on with after this token
abbrev pub unit_start : Token → Step
unit_start (Keyword keyword.Nothing) = to []
unit_start (Keyword keyword.Pause) = to []
unit_start (Keyword keyword.Halt) = to []
unit_start (Keyword keyword.Emit) = to (name ∷ [])
unit_start (Keyword keyword.Sustain) = to (name ∷ [])
unit_start (Keyword keyword.Exit) = to (name ∷ [])
unit_start (Keyword keyword.Await) = to (may (Keyword keyword.Immediate) ∷ test ∷ [])
unit_start (Keyword keyword.Run) = to (name ∷ renamings ∷ [])
unit_start (Keyword keyword.Present) = opens (test ∷ branches ∷ leave ∷ [])
unit_start (Keyword keyword.Suspend) =
    opens (statement ∷ one (Keyword keyword.When) ∷ may (Keyword keyword.Immediate) ∷ test
    ∷ may_end (Keyword keyword.Suspend) ∷ leave ∷ [])
unit_start (Keyword keyword.Abort) =
    opens (statement ∷ one (Keyword keyword.When) ∷ may (Keyword keyword.Immediate) ∷ test
    ∷ may_end (Keyword keyword.Abort) ∷ leave ∷ [])
unit_start (Keyword keyword.Weak) =
    opens (one (Keyword keyword.Abort) ∷ statement ∷ one (Keyword keyword.When) ∷ may (Keyword keyword.Immediate)
    ∷ test ∷ may_end_weak ∷ leave ∷ [])
unit_start (Keyword keyword.Loop) = opens (statement ∷ loop_tail ∷ leave ∷ [])
unit_start (Keyword keyword.Every) =
    opens (may (Keyword keyword.Immediate) ∷ test ∷ one (Keyword keyword.Do) ∷ statement ∷ one kw_end
    ∷ may (Keyword keyword.Every) ∷ leave ∷ [])
unit_start (Keyword keyword.Trap) =
    opens (name ∷ one (Keyword keyword.In) ∷ statement ∷ one kw_end ∷ may (Keyword keyword.Trap) ∷ leave ∷ [])
unit_start (Keyword keyword.Signal) =
    opens (name ∷ later_names ∷ one (Keyword keyword.In) ∷ statement ∷ one kw_end ∷ may (Keyword keyword.Signal) ∷ leave
    ∷ [])
unit_start (Symbol symbol.OpenBracket) = opens (statement ∷ one (Symbol symbol.CloseBracket) ∷ leave ∷ [])
unit_start _ = refused

-- goes on so, and then with what was wanted before
abbrev pub followed : Step → List Want → Step
followed refused s = refused
followed (to ws) s = to (ws ++ s)
followed (opens ws) s = opens (ws ++ s)

-- a unit, or else what follows
abbrev pub unit_or : Step → List Want → Step → Step
unit_or refused s other = other
unit_or (to ws) s other = to (ws ++ sequence_tail ∷ s)
unit_or (opens ws) s other = opens (ws ++ sequence_tail ∷ s)

-- a module, after its first word, and then more modules
abbrev pub module_wants : List Want → List Want
module_wants s =
    name ∷ one (Symbol symbol.Colon) ∷ declarations ∷ statement ∷ one kw_end ∷ one (Keyword keyword.Module) ∷ modules
    ∷ s

abbrev mutual
  -- what a token leads to where this is wanted
  pub step : List Want → Token → Step
  step [] b = refused
  step (one t ∷ s) b = if same t b then to s else refused
  step (may t ∷ s) b = if same t b then to s else step s b
  step (name ∷ s) (Identifier n) = to s
  step (name ∷ s) _ = refused
  step (later_names ∷ s) b = if same (Symbol symbol.Comma) b then to (name ∷ later_names ∷ s) else step s b
  step (later_members ∷ s) b = if same (Symbol symbol.Hash) b then to (name ∷ later_members ∷ s) else step s b
  step (relation ∷ s) (Identifier n) = to (relation_tail ∷ s)
  step (relation ∷ s) _ = refused
  step (relation_tail ∷ s) (Symbol symbol.Hash) = to (name ∷ later_members ∷ s)
  step (relation_tail ∷ s) (Symbol symbol.Implies) = to (name ∷ s)
  step (relation_tail ∷ s) _ = refused
  step (later_relations ∷ s) b = if same (Symbol symbol.Comma) b then to (relation ∷ later_relations ∷ s) else step s b
  step (declarations ∷ s) (Keyword keyword.Input) =
      to (name ∷ later_names ∷ one (Symbol symbol.Semicolon) ∷ declarations ∷ s)
  step (declarations ∷ s) (Keyword keyword.Output) =
      to (name ∷ later_names ∷ one (Symbol symbol.Semicolon) ∷ declarations ∷ s)
  step (declarations ∷ s) (Keyword keyword.Inputoutput) =
      to (name ∷ later_names ∷ one (Symbol symbol.Semicolon) ∷ declarations ∷ s)
  step (declarations ∷ s) (Keyword keyword.Relation) =
      to (relation ∷ later_relations ∷ one (Symbol symbol.Semicolon) ∷ declarations ∷ s)
  step (declarations ∷ s) b = step s b
  step (renamings ∷ s) b =
      if same (Symbol symbol.OpenBracket) b then to
      (one (Keyword keyword.Signal) ∷ name ∷ one (Symbol symbol.Slash) ∷ name ∷ later_renamings
      ∷ one (Symbol symbol.CloseBracket) ∷ s) else step s b
  step (later_renamings ∷ s) b =
      if same (Symbol symbol.Comma) b then to (name ∷ one (Symbol symbol.Slash) ∷ name ∷ later_renamings ∷ s) else step
      s b
  step (test ∷ s) b = if same (Symbol symbol.OpenBracket) b then to (expression ∷ one (Symbol symbol.CloseBracket) ∷ s)
      else followed (literal_start b) (conjunction_tail ∷ expression_tail ∷ s)
  step (expression ∷ s) b = followed (literal_start b) (conjunction_tail ∷ expression_tail ∷ s)
  step (expression_tail ∷ s) b = if same (Keyword keyword.Or) b then to
      (conjunction ∷ expression_tail ∷ s) else step s b
  step (conjunction ∷ s) b = followed (literal_start b) (conjunction_tail ∷ s)
  step (conjunction_tail ∷ s) b = if same (Keyword keyword.And) b then to (literal ∷ conjunction_tail ∷ s) else step s b
  step (literal ∷ s) b = followed (literal_start b) s
  step (unit ∷ s) b = followed (unit_start b) s
  step (sequence ∷ s) b = followed (unit_start b) (sequence_tail ∷ s)
  step (sequence_tail ∷ s) b = if same (Symbol symbol.Semicolon) b then to (after_semicolon ∷ s) else step s b
  step (after_semicolon ∷ s) b = unit_or (unit_start b) s (step s b)
  step (statement ∷ s) b = followed (unit_start b) (sequence_tail ∷ statement_tail ∷ s)
  step (statement_tail ∷ s) b = if same (Symbol symbol.Parallel) b then to (sequence ∷ statement_tail ∷ s) else step s b
  step (branches ∷ s) (Keyword keyword.Then) = to (statement ∷ after_then ∷ s)
  step (branches ∷ s) (Keyword keyword.Else) = to (statement ∷ one kw_end ∷ may (Keyword keyword.Present) ∷ s)
  step (branches ∷ s) _ = refused
  step (after_then ∷ s) (Keyword keyword.Else) = to (statement ∷ one kw_end ∷ may (Keyword keyword.Present) ∷ s)
  step (after_then ∷ s) (Keyword keyword.End) = to (may (Keyword keyword.Present) ∷ s)
  step (after_then ∷ s) _ = refused
  step (loop_tail ∷ s) (Keyword keyword.Each) = to (test ∷ s)
  step (loop_tail ∷ s) (Keyword keyword.End) = to (may (Keyword keyword.Loop) ∷ s)
  step (loop_tail ∷ s) _ = refused
  step (may_end t ∷ s) b = if same kw_end b then to (ended t ∷ s) else step s b
  step (ended t ∷ s) b = if same t b then to s else step_after_end s b
  step (may_end_weak ∷ s) b = if same kw_end b then to (ended_weak ∷ s) else step s b
  step (ended_weak ∷ s) b = if same (Keyword keyword.Abort) b then to s else
      (if same (Keyword keyword.Weak) b then to (one (Keyword keyword.Abort) ∷ s) else step_after_end s b)
  step (leave ∷ s) b = step s b
  step (modules ∷ s) b = if same (Keyword keyword.Module) b then to (module_wants s) else step s b
  step (library ∷ s) b = if same (Keyword keyword.Module) b then to (module_wants s) else refused

  -- what the token leads to where `end` was read just before it
  pub step_after_end : List Want → Token → Step
  step_after_end [] b = refused
  step_after_end (one t ∷ s) b = if same t kw_end then step s b else refused
  step_after_end (may t ∷ s) b = if same t kw_end then step s b else step_after_end s b
  step_after_end (later_names ∷ s) b = step_after_end s b
  step_after_end (later_members ∷ s) b = step_after_end s b
  step_after_end (later_relations ∷ s) b = step_after_end s b
  step_after_end (renamings ∷ s) b = step_after_end s b
  step_after_end (later_renamings ∷ s) b = step_after_end s b
  step_after_end (declarations ∷ s) b = step_after_end s b
  step_after_end (sequence_tail ∷ s) b = step_after_end s b
  step_after_end (after_semicolon ∷ s) b = step_after_end s b
  step_after_end (statement_tail ∷ s) b = step_after_end s b
  step_after_end (after_then ∷ s) b = if same (Keyword keyword.Present) b then to s else step s b
  step_after_end (loop_tail ∷ s) b = if same (Keyword keyword.Loop) b then to s else step s b
  step_after_end (leave ∷ s) b = step_after_end s b
  step_after_end (modules ∷ s) b = step_after_end s b
  step_after_end (_ ∷ s) b = refused

-- `end` can come next, and what comes after it is known
abbrev pub Ends : List Want → Type 0
Ends s = (t : List Want) × (step s kw_end ≡ to t) × ((b : Token) → step_after_end s b ≡ step t b)

-- `end` cannot come next
abbrev pub EndsNot : List Want → Type 0
EndsNot s = (b : Token) → step_after_end s b ≡ refused

-- nothing more is wanted
abbrev pub is_done : List Want → Bool
is_done [] = true
is_done (may t ∷ s) = is_done s
is_done (later_names ∷ s) = is_done s
is_done (later_members ∷ s) = is_done s
is_done (later_relations ∷ s) = is_done s
is_done (renamings ∷ s) = is_done s
is_done (later_renamings ∷ s) = is_done s
is_done (declarations ∷ s) = is_done s
is_done (expression_tail ∷ s) = is_done s
is_done (conjunction_tail ∷ s) = is_done s
is_done (sequence_tail ∷ s) = is_done s
is_done (after_semicolon ∷ s) = is_done s
is_done (statement_tail ∷ s) = is_done s
is_done (may_end t ∷ s) = is_done s
is_done (may_end_weak ∷ s) = is_done s
is_done (leave ∷ s) = is_done s
is_done (modules ∷ s) = is_done s
is_done (_ ∷ s) = false

-- how many units are open
abbrev pub open_count : List Want → ℕ
open_count [] = 0
open_count (leave ∷ s) = suc (open_count s)
open_count (_ ∷ s) = open_count s

-- how a run ends: all is right, a token cannot stand there, or one opens a unit too many; with the tokens from there
pub data Outcome : Type 0 where
  right : Outcome
  wrong : List Token → Outcome
  deep : List Token → Outcome

-- goes on with what the token led to, unless too many units are open then
abbrev pub go_on : ℕ → Step → List Token → (List Want → Outcome) → Outcome
go_on limit refused here f = wrong here
go_on limit (to s) here f = f s
go_on limit (opens s) here f = if nat_le (open_count s) limit then f s else deep here

-- takes the tokens one after another
abbrev pub run : ℕ → List Want → List Token → Outcome
run limit s [] = if is_done s then right else wrong []
run limit s (b ∷ bs) = go_on limit (step s b) (b ∷ bs) (λ t. run limit t bs)

-- the token does not stand first
abbrev pub Skips : Token → List Token → Type 0
Skips t [] = Unit {0}
Skips t (b ∷ bs) = same t b ≡ false
