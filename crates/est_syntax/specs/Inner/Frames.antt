-- What stands around the statement of a unit (this project's own form).
use Rattle.std.specs.Prelude.{◌≡◌, ℕ, ◌≤◌, suc, max, length, List, [], ◌∷◌, ◌++◌, Bool, true, false, Option, Some, None}
use Rattle.est_text.specs.declared.token.Token.{Token}
use Rattle.est_text.specs.declared.token.Token.TheVariants.{Keyword, Identifier, Symbol}
use Rattle.est_text.specs.declared.keyword.Keyword.TheVariants as keyword
use Rattle.est_text.specs.declared.token.Symbol.TheVariants as symbol
use Rattle.est_syntax.specs.Tree.{StatementTree}
use Rattle.est_syntax.specs.Grammar.{unit_onto, unit_depth, statement_onto, statement_depth, delay_onto, delay_depth}
use Rattle.est_syntax.specs.Grammar.{names_onto}
use Rattle.est_syntax.specs.Views.{unit_view, delay_view, names_view}
use Rattle.est_syntax.specs.declared.tree.Unit.{Unit as UnitValue}
use Rattle.est_syntax.specs.declared.units.Frame.{Frame}
use Rattle.est_syntax.specs.declared.units.Frame.TheVariants as frame
use Rattle.est_syntax.specs.declared.units.Opener.{Opener}
use Rattle.est_syntax.specs.declared.units.Opener.TheVariants as opener
use Rattle.est_syntax.specs.declared.units.Head.{Head}
use Rattle.est_syntax.specs.declared.units.Head.TheVariants as head
use Rattle.est_syntax.specs.Inner.Machine.{Want, Step, refused, to, opens, run, unit_start, one, may, name, later_names}
use Rattle.est_syntax.specs.Inner.Machine.{test, statement, loop_tail, branches, may_end, may_end_weak, leave, kw_end}
use Rattle.est_syntax.specs.Inner.Machine.{unit as unit_want}
use Rattle.est_syntax.specs.Inner.Parsing.{IsPart, Round}
use Rattle.est_syntax.specs.declared.parse.TheConstants.{MOST_OPEN_UNITS}

-- a token that leads to this step begins no unit without a body
abbrev pub NotPlain : Step → Type 0
NotPlain refused = Unit {0}
NotPlain (to ws) = ⊥
NotPlain (opens ws) = Unit {0}

-- a unit without a body, or none begins there
abbrev pub IsPlain : (room : ℕ) → Token → Option UnitValue → List Token → List Token → Type 0
IsPlain room t None old new = (new ≡ old) × NotPlain (unit_start t)
IsPlain room t (Some u) old new =
    IsPart room None (unit_want ∷ []) (unit_onto (unit_view u) new) (unit_depth (unit_view u)) (t ∷ old) new

-- the token that begins a frame
abbrev pub frame_token : Frame → Token
frame_token frame.Suspend = Keyword keyword.Suspend
frame_token frame.Abort = Keyword keyword.Abort
frame_token frame.WeakAbort = Keyword keyword.Weak
frame_token frame.Loop = Keyword keyword.Loop
frame_token frame.Every = Keyword keyword.Every
frame_token frame.Trap = Keyword keyword.Trap
frame_token frame.Signal = Keyword keyword.Signal
frame_token frame.Group = Symbol symbol.OpenBracket

-- the token that begins a unit with a body
abbrev pub opener_token : Opener → Token
opener_token opener.Test = Keyword keyword.Present
opener_token (opener.Frame f) = frame_token f

-- the opener that a token is; any other token begins a unit without a body, or no unit
abbrev pub IsOpener : Token → Option Opener → Type 0
IsOpener t (Some o) = t ≡ opener_token o
IsOpener t None = NotPlain (unit_start t) → unit_start t ≡ refused

-- what is wanted after the body
abbrev pub watched_wants : Want → List Want
watched_wants w = one (Keyword keyword.When) ∷ may (Keyword keyword.Immediate) ∷ test ∷ w ∷ leave ∷ []

-- `end`, and the keyword that may stand again
abbrev pub again_wants : Token → List Want
again_wants t = one kw_end ∷ may t ∷ leave ∷ []

-- the same after the body of each frame
abbrev pub head_wants : Head → List Want
head_wants head.Suspend = watched_wants (may_end (Keyword keyword.Suspend))
head_wants head.Abort = watched_wants (may_end (Keyword keyword.Abort))
head_wants head.WeakAbort = watched_wants may_end_weak
head_wants head.Loop = loop_tail ∷ leave ∷ []
head_wants (head.Every d) = again_wants (Keyword keyword.Every)
head_wants (head.Trap n) = again_wants (Keyword keyword.Trap)
head_wants (head.Signal ns) = again_wants (Keyword keyword.Signal)
head_wants head.Group = one (Symbol symbol.CloseBracket) ∷ leave ∷ []

-- what is wanted after the first token
abbrev pub frame_wants : Frame → List Want
frame_wants frame.Suspend = statement ∷ watched_wants (may_end (Keyword keyword.Suspend))
frame_wants frame.Abort = statement ∷ watched_wants (may_end (Keyword keyword.Abort))
frame_wants frame.WeakAbort = one (Keyword keyword.Abort) ∷ statement ∷ watched_wants may_end_weak
frame_wants frame.Loop = statement ∷ loop_tail ∷ leave ∷ []
frame_wants frame.Every =
    may (Keyword keyword.Immediate) ∷ test ∷ one (Keyword keyword.Do) ∷ statement ∷ again_wants (Keyword keyword.Every)
frame_wants frame.Trap = name ∷ one (Keyword keyword.In) ∷ statement ∷ again_wants (Keyword keyword.Trap)
frame_wants frame.Signal = name ∷ later_names ∷ one (Keyword keyword.In) ∷ statement
    ∷ again_wants (Keyword keyword.Signal)
frame_wants frame.Group = statement ∷ one (Symbol symbol.CloseBracket) ∷ leave ∷ []

-- the same for any unit with a body
abbrev pub opener_wants : Opener → List Want
opener_wants opener.Test = test ∷ branches ∷ leave ∷ []
opener_wants (opener.Frame f) = frame_wants f

-- the tokens up to the body
abbrev pub head_onto : Head → List Token → List Token
head_onto head.Suspend rest = Keyword keyword.Suspend ∷ rest
head_onto head.Abort rest = Keyword keyword.Abort ∷ rest
head_onto head.WeakAbort rest = Keyword keyword.Weak ∷ Keyword keyword.Abort ∷ rest
head_onto head.Loop rest = Keyword keyword.Loop ∷ rest
head_onto (head.Every d) rest = Keyword keyword.Every ∷ delay_onto (delay_view d) (Keyword keyword.Do ∷ rest)
head_onto (head.Trap n) rest = Keyword keyword.Trap ∷ Identifier n ∷ Keyword keyword.In ∷ rest
head_onto (head.Signal ns) rest = Keyword keyword.Signal ∷ names_onto (names_view ns) (Keyword keyword.In ∷ rest)
head_onto head.Group rest = Symbol symbol.OpenBracket ∷ rest

-- how deep what stands before the body is
abbrev pub head_depth : Head → ℕ
head_depth (head.Every d) = delay_depth (delay_view d)
head_depth _ = 0

-- whether `end` may stand after the body
abbrev pub body_end : Head → Bool
body_end head.Suspend = false
body_end head.Abort = false
body_end head.WeakAbort = false
body_end head.Loop = true
body_end (head.Every d) = true
body_end (head.Trap n) = true
body_end (head.Signal ns) = true
body_end head.Group = false

-- what stands before a body was read; `room` units may be open there
pub record IsHead (room : ℕ) (f : Frame) (h : Head) (old new : List Token) : Type 0 where
  pub spelt : frame_token f ∷ old ≡ head_onto h new
  pub fits : head_depth h ≤ room
  pub passes : (s : List Want) → Round (suc room) None s
      → run MOST_OPEN_UNITS (frame_wants f ++ s) old ≡ run MOST_OPEN_UNITS
      (statement ∷ head_wants h ++ s) new
  pub shorter : length new ≤ length old

-- what stands after a body was read; `room` units may be open there
pub record IsTail (room : ℕ) (ends : Option Bool) (h : Head) (body : StatementTree) (u : UnitValue)
    (old new : List Token) : Type 0 where
  pub spelt : head_onto h (statement_onto body old) ≡ unit_onto (unit_view u) new
  pub fits : head_depth h ≤ room → statement_depth body ≤ room → unit_depth (unit_view u) ≤ suc room
  pub passes : (s : List Want) → Round (suc room) ends s
      → run MOST_OPEN_UNITS (head_wants h ++ s) old ≡ run MOST_OPEN_UNITS s new
  pub shorter : length new ≤ length old

-- the same where what is around it does not count
pub record IsTailAlways (h : Head) (body : StatementTree) (u : UnitValue) (old new : List Token) : Type 0 where
  pub spelt : head_onto h (statement_onto body old) ≡ unit_onto (unit_view u) new
  pub depth : unit_depth (unit_view u) ≡ suc (max (head_depth h) (statement_depth body))
  pub passes : (s : List Want) → run MOST_OPEN_UNITS (head_wants h ++ s) old ≡ run MOST_OPEN_UNITS s new
  pub shorter : length new ≤ length old

-- a unit with a body was read, after its first token; `room` units may be open in it
pub record IsOpened (room : ℕ) (ends : Option Bool) (o : Opener) (u : UnitValue) (old new : List Token) : Type 0 where
  pub spelt : opener_token o ∷ old ≡ unit_onto (unit_view u) new
  pub fits : unit_depth (unit_view u) ≤ suc room
  pub passes : (s : List Want) → Round (suc room) ends s
      → run MOST_OPEN_UNITS (opener_wants o ++ s) old ≡ run MOST_OPEN_UNITS s new
  pub shorter : length new ≤ length old
