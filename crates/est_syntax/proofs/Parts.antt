-- A part of a tree from its parts: what the functions of the parser answer.
use Rattle.std.proofs.Common.{◌≡◌, ◌∙◌, ℕ, suc, ◌+◌, ◌≤◌, List, [], ◌∷◌, ◌++◌, Bool, true, false, length, refl, sym, ap}
use Rattle.std.proofs.Common.{subst, rules, arith}
use Rattle.std.specs.Prelude.{Option, Some, None}
use Rattle.est_text.specs.declared.token.Token.{Token}
use Rattle.est_text.specs.declared.token.Token.TheVariants.{Keyword, Symbol}
use Rattle.est_text.specs.declared.keyword.Keyword.TheVariants as keyword
use Rattle.est_text.specs.declared.token.Symbol.TheVariants as symbol
use Rattle.est_syntax.specs.declared.fault.ParserStop.{ParserStop}
use Rattle.est_syntax.specs.declared.units.Opener.{Opener}
use Rattle.est_syntax.specs.declared.units.Opener.TheVariants as opener
use Rattle.est_syntax.specs.declared.units.Frame.{Frame}
use Rattle.est_syntax.specs.declared.units.Head.{Head}
use Rattle.est_syntax.specs.declared.tree.Test.{Test as TestValue}
use Rattle.est_syntax.specs.declared.tree.Unit.{Unit as UnitValue}
use Rattle.est_syntax.specs.declared.tree.Unit.TheVariants as unit_value
use Rattle.est_syntax.specs.declared.tree.Branches.{Branches}
use Rattle.est_syntax.specs.declared.tree.Branches.TheVariants as branches_value
use Rattle.est_syntax.specs.declared.tree.Branches.TheFolds.{the_lemmas}
use Rattle.est_syntax.specs.declared.tree.Statement.{Statement}
use Rattle.est_syntax.specs.Tree.{UnitTree, UnitsTree, SequenceTree, SequencesTree, StatementTree, BranchesTree}
use Rattle.est_syntax.specs.Tree.{sequence, statement, then_only, else_only, both}
use Rattle.est_syntax.specs.Grammar as g
use Rattle.est_syntax.specs.Views.{test_view, unit_view, branches_view, statement_view, units_of, sequences_of}
use Rattle.est_syntax.specs.Inner.Machine as m
use Rattle.est_syntax.specs.Inner.Machine.{Want, run, Skips, open_count, wrong, deep, refused, followed, go_on}
use Rattle.est_syntax.specs.Inner.Machine.{unit_start}
use Rattle.est_syntax.specs.Inner.Frames.{frame_wants, opener_token, opener_wants, head_wants, head_onto, body_end}
use Rattle.est_syntax.specs.Inner.Frames.{IsHead, IsTail, IsOpened, IsPlain}
use Rattle.est_syntax.specs.Inner.Parsing.{Fails, Round, FailsIn, Reads, IsPart, IsUnitStart}
use Rattle.est_syntax.specs.Inner.Parts.{IsTest}
use Rattle.est_syntax.specs.declared.parse.TheConstants.{MOST_OPEN_UNITS}
use Rattle.est_syntax.proofs.TestRuns.{leave_over}
use Rattle.est_syntax.proofs.Runs.{sequence_is, statement_is, sequence_over, statement_over}
use Rattle.est_syntax.proofs.Reading.{units_push, sequences_push}
use Rattle.est_syntax.proofs.Folding.{present_is}
use Rattle.est_syntax.proofs.Opening.{in_leaf, in_in, round_any, round_tail, round_side, round_then, round_end}
use Rattle.est_syntax.proofs.Opening.{round_body, round_open, round_branches, opener_opens, opener_deep, units_deeper}
use Rattle.est_syntax.proofs.Opening.{sequences_deeper, branches_are, after_then_is}

-- ---- a unit

-- a token with which no unit begins
pub unit_refused : (t : Token) (s : List Want) (bs : List Token) → unit_start t ≡ refused
    → run MOST_OPEN_UNITS (m.unit ∷ s) (t ∷ bs) ≡ wrong (t ∷ bs)
unit_refused t s bs e = ap (λ o. go_on MOST_OPEN_UNITS (followed o s) (t ∷ bs) (λ u. run MOST_OPEN_UNITS u bs)) e

-- a unit with a body, from its first token on
pub opened_part : (room less : ℕ) (ends : Bool) (inner : Option Bool) (o : Opener) (t : Token) (u : UnitValue)
    (old mid new : List Token) → room ≡ suc less → old ≡ t ∷ mid → t ≡ opener_token o
    → ((s : List Want) → Round room (Some ends) s → Round room inner s) → IsOpened less inner o u mid new
    → IsPart room (Some ends) (m.unit ∷ []) (g.unit_onto (unit_view u) new) (g.unit_depth (unit_view u)) old new
opened_part room less ends inner o t u old mid new e f k q h =
    let start : old ≡ opener_token o ∷ mid = f ∙ ap (λ (x : Token). x ∷ mid) k in
    record {
      spelt = start ∙ h.spelt;
      fits = subst (λ (n : ℕ). g.unit_depth (unit_view u) ≤ n) (sym e) h.fits;
      passes = λ s r. ap (run MOST_OPEN_UNITS (m.unit ∷ s)) start
          ∙ opener_opens o less s mid (ap (λ (n : ℕ). open_count s + n) (sym e) ∙ r.fits)
          ∙ h.passes s (subst (λ (n : ℕ). Round n inner s) e (q s r));
      shorter = omega (arith, h.shorter, ap (length {A = Token}) start);
    }

pub opened_fails : (room less : ℕ) (ends : Bool) (inner : Option Bool) (o : Opener) (t : Token)
    (old mid : List Token) (x : ParserStop) → room ≡ suc less → old ≡ t ∷ mid → t ≡ opener_token o
    → ((s : List Want) → Round room (Some ends) s → Round room inner s)
    → FailsIn (suc less) inner (opener_wants o) mid x → FailsIn room (Some ends) (m.unit ∷ []) old x
opened_fails room less ends inner o t old mid x e f k q h =
    let start : old ≡ opener_token o ∷ mid = f ∙ ap (λ (x : Token). x ∷ mid) k in
    in_in room (suc less) (Some ends) inner (m.unit ∷ []) (opener_wants o) (λ s. s) old mid x
    (λ s r. subst (λ (n : ℕ). Round n inner s) e (q s r))
    (λ s r. ap (run MOST_OPEN_UNITS (m.unit ∷ s)) start
    ∙ opener_opens o less s mid (ap (λ (n : ℕ). open_count s + n) (sym e) ∙ r.fits)) h

-- there is no room for it
pub opens_too_deep : (room : ℕ) (ends : Bool) (o : Opener) (t : Token) (s : List Want) (old mid : List Token)
    → room ≡ 0 → old ≡ t ∷ mid → t ≡ opener_token o → Round room (Some ends) s
    → run MOST_OPEN_UNITS (m.unit ∷ s) old ≡ deep old
opens_too_deep room ends o t s old mid e f k r =
    let start : old ≡ opener_token o ∷ mid = f ∙ ap (λ (x : Token). x ∷ mid) k in
    ap (run MOST_OPEN_UNITS (m.unit ∷ s)) start
    ∙ opener_deep o s mid (ap (λ (n : ℕ). open_count s + n) (sym e) ∙ r.fits) ∙ ap deep (sym start)

-- a unit without a body, from its first token on
pub plain_part : (room : ℕ) (ends : Bool) (t : Token) (u : UnitValue) (old mid new : List Token) → old ≡ t ∷ mid
    → IsPlain room t (Some u) mid new → IsPart room (Some ends) (m.unit ∷ []) (g.unit_onto (unit_view u) new)
    (g.unit_depth (unit_view u)) old new
plain_part room ends t u old mid new f h = record {
  spelt = f ∙ h.spelt;
  fits = h.fits;
  passes = λ s r. ap (run MOST_OPEN_UNITS (m.unit ∷ s)) f ∙ h.passes s (round_any room (Some ends) s r);
  shorter = omega (arith, h.shorter, ap (length {A = Token}) f);
}

-- ---- a test

pub tested_part : (room : ℕ) (n : TestValue) (b : Branches) (old mid new : List Token) → IsTest room n old mid
    → IsPart room None (m.branches ∷ []) (g.branches_onto (branches_view b) new)
    (g.branches_depth (branches_view b)) mid new → IsOpened room None opener.Test (unit_value.Present n b) old new
tested_part room n b old mid new e h = record {
  spelt = ap (λ (l : List Token). Keyword keyword.Present ∷ l)
      (e.spelt ∙ ap (λ (l : List Token). g.test_onto (test_view n) l) h.spelt)
      ∙ ap (λ (u : UnitTree). g.unit_onto u new) (sym (present_is n b));
  fits = subst (λ (u : UnitTree). g.unit_depth u ≤ suc room) (sym (present_is n b)) (omega (arith, e.fits, h.fits));
  passes = λ s r. e.passes (m.branches ∷ m.leave ∷ s) (round_open room m.branches None s r refl)
      ∙ h.passes (m.leave ∷ s) (round_branches room None s r) ∙ leave_over MOST_OPEN_UNITS s new;
  shorter = omega (arith, h.shorter, e.shorter);
}

-- ---- a frame

pub framed_part : (room : ℕ) (ends : Bool) (f : Frame) (h : Head) (inner : Bool) (t : StatementTree) (u : UnitValue)
    (old mid behind new : List Token) → IsHead room f h old mid → inner ≡ body_end h
    → IsPart room (Some inner) (m.statement ∷ []) (g.statement_onto t behind) (g.statement_depth t) mid behind
    → IsTail room (Some ends) h t u behind new → IsOpened room (Some ends) (opener.Frame f) u old new
framed_part room ends f h inner t u old mid behind new a i b d = record {
  spelt = a.spelt ∙ ap (head_onto h) b.spelt ∙ d.spelt;
  fits = d.fits a.fits b.fits;
  passes = λ s r. a.passes s (round_any (suc room) (Some ends) s r) ∙ b.passes (head_wants h ++ s)
      (subst (λ (x : Bool). Round room (Some x) (head_wants h ++ s)) (sym i) (round_body room (Some ends) h s r))
      ∙ d.passes s r;
  shorter = omega (arith, a.shorter, b.shorter, d.shorter);
}

pub framed_body_fails : (room : ℕ) (ends : Bool) (f : Frame) (h : Head) (inner : Bool) (old mid : List Token)
    (x : ParserStop) → IsHead room f h old mid → inner ≡ body_end h → FailsIn room (Some inner) (m.statement ∷ []) mid x
    → FailsIn (suc room) (Some ends) (frame_wants f) old x
framed_body_fails room ends f h inner old mid x a i b =
    in_in (suc room) room (Some ends) (Some inner) (frame_wants f) (m.statement ∷ [])
    (λ s. head_wants h ++ s) old mid x
    (λ s r. subst (λ (y : Bool). Round room (Some y) (head_wants h ++ s)) (sym i)
    (round_body room (Some ends) h s r)) (λ s r. a.passes s (round_any (suc room) (Some ends) s r)) b

pub framed_tail_fails : (room : ℕ) (ends : Bool) (f : Frame) (h : Head) (inner : Bool) (t : StatementTree)
    (old mid behind : List Token) (x : ParserStop) → IsHead room f h old mid → inner ≡ body_end h
    → IsPart room (Some inner) (m.statement ∷ []) (g.statement_onto t behind) (g.statement_depth t) mid behind
    → FailsIn (suc room) (Some ends) (head_wants h) behind x → FailsIn (suc room) (Some ends) (frame_wants f) old x
framed_tail_fails room ends f h inner t old mid behind x a i b d =
    in_in (suc room) (suc room) (Some ends) (Some ends) (frame_wants f) (head_wants h) (λ s. s) old behind x (λ s r. r)
    (λ s r. a.passes s (round_any (suc room) (Some ends) s r) ∙ b.passes (head_wants h ++ s)
    (subst (λ (y : Bool). Round room (Some y) (head_wants h ++ s)) (sym i) (round_body room (Some ends) h s r))) d

-- ---- units one after another

-- after a `;` no unit begins
pub no_unit_over : (s : List Want) (bs : List Token) → IsUnitStart false bs
    → run MOST_OPEN_UNITS (m.after_semicolon ∷ s) bs ≡ run MOST_OPEN_UNITS s bs
no_unit_over s [] h = refl
no_unit_over s (b ∷ bs) h =
    ap (λ o. go_on MOST_OPEN_UNITS (m.unit_or o s (m.step s b)) (b ∷ bs) (λ u. run MOST_OPEN_UNITS u bs)) h

-- after a `;` a unit begins
one_unit : (o : m.Step) (s : List Want) (b : Token) (bs : List Token) → ¬ (o ≡ refused)
    → go_on MOST_OPEN_UNITS (m.unit_or o s (m.step s b)) (b ∷ bs) (λ u. run MOST_OPEN_UNITS u bs)
    ≡ go_on MOST_OPEN_UNITS (followed o (m.sequence_tail ∷ s)) (b ∷ bs) (λ u. run MOST_OPEN_UNITS u bs)
one_unit refused s b bs h = absurd (h refl)
one_unit (m.to ws) s b bs h = refl
one_unit (m.opens ws) s b bs h = refl

pub unit_goes : (s : List Want) (bs : List Token) → IsUnitStart true bs
    → run MOST_OPEN_UNITS (m.after_semicolon ∷ s) bs ≡ run MOST_OPEN_UNITS (m.unit ∷ m.sequence_tail ∷ s) bs
unit_goes s [] h = absurd h
unit_goes s (b ∷ bs) h = one_unit (unit_start b) s b bs h

-- what the loop over the further units keeps
pub record UnitsSoFar (room : ℕ) (ends : Bool) (us : UnitsTree) (old new : List Token) : Type 0 where
  pub spelt : old ≡ g.units_onto us new
  pub fits : g.units_depth us ≤ room
  pub passes : (s : List Want) → Round room (Some ends) s
      → run MOST_OPEN_UNITS (m.sequence_tail ∷ s) old ≡ run MOST_OPEN_UNITS (m.sequence_tail ∷ s) new
  pub shorter : length new ≤ length old

pub no_units_yet : (room : ℕ) (ends : Bool) (us : List UnitTree) (old : List Token) → us ≡ []
    → UnitsSoFar room ends (units_of us) old old
no_units_yet room ends us old e = subst (λ (vs : List UnitTree). UnitsSoFar room ends (units_of vs) old old) (sym e)
    (record { spelt = refl; fits = omega arith; passes = λ s r. refl; shorter = omega arith })

pub one_more_unit : (room : ℕ) (ends : Bool) (us : List UnitTree) (u : UnitTree) (old left mid new : List Token)
    → UnitsSoFar room ends (units_of us) old left → left ≡ Symbol symbol.Semicolon ∷ mid → IsUnitStart true mid
    → IsPart room (Some ends) (m.unit ∷ []) (g.unit_onto u new) (g.unit_depth u) mid new
    → UnitsSoFar room ends (units_of (us ++ u ∷ [])) old new
one_more_unit room ends us u old left mid new h e k p = record {
  spelt = h.spelt ∙ ap (g.units_onto (units_of us))
      (e ∙ ap (λ (l : List Token). Symbol symbol.Semicolon ∷ l) p.spelt) ∙ sym (units_push us u new);
  fits = units_deeper us u room h.fits p.fits;
  passes = λ s r. h.passes s r ∙ ap (run MOST_OPEN_UNITS (m.sequence_tail ∷ s)) e ∙ unit_goes s mid k
      ∙ p.passes (m.sequence_tail ∷ s) (round_tail room ends s r);
  shorter = omega (arith, h.shorter, ap (length {A = Token}) e, p.shorter);
}

pub more_units_fail : (room : ℕ) (ends : Bool) (us : UnitsTree) (old left mid : List Token) (x : ParserStop)
    → UnitsSoFar room ends us old left → left ≡ Symbol symbol.Semicolon ∷ mid → IsUnitStart true mid
    → FailsIn room (Some ends) (m.unit ∷ []) mid x → FailsIn room (Some ends) (m.sequence_tail ∷ []) old x
more_units_fail room ends us old left mid x h e k p =
    in_in room room (Some ends) (Some ends) (m.sequence_tail ∷ []) (m.unit ∷ []) (λ s. m.sequence_tail ∷ s) old mid x
    (λ s r. round_tail room ends s r) (λ s r. h.passes s r ∙ ap (run MOST_OPEN_UNITS (m.sequence_tail ∷ s)) e
    ∙ unit_goes s mid k) p

pub units_closed : (room : ℕ) (ends : Bool) (us : UnitsTree) (old left new : List Token)
    → UnitsSoFar room ends us old left → left ≡ Symbol symbol.Semicolon ∷ new → IsUnitStart false new
    → IsPart room (Some ends) (m.sequence_tail ∷ []) (g.units_onto us (Symbol symbol.Semicolon ∷ new))
    (g.units_depth us) old new
units_closed room ends us old left new h e k = record {
  spelt = h.spelt ∙ ap (g.units_onto us) e;
  fits = h.fits;
  passes = λ s r. h.passes s r ∙ ap (run MOST_OPEN_UNITS (m.sequence_tail ∷ s)) e ∙ no_unit_over s new k;
  shorter = omega (arith, h.shorter, ap (length {A = Token}) e);
}

pub units_over : (room : ℕ) (ends : Bool) (us : UnitsTree) (old left new : List Token)
    → UnitsSoFar room ends us old left → new ≡ left → Skips (Symbol symbol.Semicolon) left
    → IsPart room (Some ends) (m.sequence_tail ∷ []) (g.units_onto us new) (g.units_depth us) old new
units_over room ends us old left new h e k = record {
  spelt = h.spelt ∙ ap (g.units_onto us) (sym e);
  fits = h.fits;
  passes = λ s r. h.passes s r ∙ sequence_over MOST_OPEN_UNITS s left k ∙ ap (run MOST_OPEN_UNITS s) (sym e);
  shorter = omega (arith, h.shorter, ap (length {A = Token}) e);
}

pub sequence_part : (room : ℕ) (ends : Bool) (u : UnitTree) (us : UnitsTree) (c : Bool) (old mid new : List Token)
    → IsPart room (Some ends) (m.unit ∷ []) (g.unit_onto u mid) (g.unit_depth u) old mid
    → IsPart room (Some ends) (m.sequence_tail ∷ []) (g.units_onto us (g.token_if c (Symbol symbol.Semicolon) new))
    (g.units_depth us) mid new → IsPart room (Some ends) (m.sequence ∷ []) (g.sequence_onto (sequence u us c) new)
    (g.sequence_depth (sequence u us c)) old new
sequence_part room ends u us c old mid new h k = record {
  spelt = h.spelt ∙ ap (g.unit_onto u) k.spelt;
  fits = omega (arith, h.fits, k.fits);
  passes = λ s r. sequence_is MOST_OPEN_UNITS s old ∙ h.passes (m.sequence_tail ∷ s) (round_tail room ends s r)
      ∙ k.passes s r;
  shorter = omega (arith, h.shorter, k.shorter);
}

-- ---- sequences side by side

pub record SequencesSoFar (room : ℕ) (ends : Bool) (qs : SequencesTree) (old new : List Token) : Type 0 where
  pub spelt : old ≡ g.sequences_onto qs new
  pub fits : g.sequences_depth qs ≤ room
  pub passes : (s : List Want) → Round room (Some ends) s
      → run MOST_OPEN_UNITS (m.statement_tail ∷ s) old ≡ run MOST_OPEN_UNITS (m.statement_tail ∷ s) new
  pub shorter : length new ≤ length old

pub no_sequences_yet : (room : ℕ) (ends : Bool) (qs : List SequenceTree) (old : List Token) → qs ≡ []
    → SequencesSoFar room ends (sequences_of qs) old old
no_sequences_yet room ends qs old e =
    subst (λ (ps : List SequenceTree). SequencesSoFar room ends (sequences_of ps) old old) (sym e)
    (record { spelt = refl; fits = omega arith; passes = λ s r. refl; shorter = omega arith })

pub one_more_sequence : (room : ℕ) (ends : Bool) (qs : List SequenceTree) (q : SequenceTree)
    (old left mid new : List Token) → SequencesSoFar room ends (sequences_of qs) old left
    → left ≡ Symbol symbol.Parallel ∷ mid
    → IsPart room (Some ends) (m.sequence ∷ []) (g.sequence_onto q new) (g.sequence_depth q) mid new
    → SequencesSoFar room ends (sequences_of (qs ++ q ∷ [])) old new
one_more_sequence room ends qs q old left mid new h e p = record {
  spelt = h.spelt ∙ ap (g.sequences_onto (sequences_of qs))
      (e ∙ ap (λ (l : List Token). Symbol symbol.Parallel ∷ l) p.spelt) ∙ sym (sequences_push qs q new);
  fits = sequences_deeper qs q room h.fits p.fits;
  passes = λ s r. h.passes s r ∙ ap (run MOST_OPEN_UNITS (m.statement_tail ∷ s)) e
      ∙ p.passes (m.statement_tail ∷ s) (round_side room ends s r);
  shorter = omega (arith, h.shorter, ap (length {A = Token}) e, p.shorter);
}

pub more_sequences_fail : (room : ℕ) (ends : Bool) (qs : SequencesTree) (old left mid : List Token) (x : ParserStop)
    → SequencesSoFar room ends qs old left → left ≡ Symbol symbol.Parallel ∷ mid
    → FailsIn room (Some ends) (m.sequence ∷ []) mid x → FailsIn room (Some ends) (m.statement_tail ∷ []) old x
more_sequences_fail room ends qs old left mid x h e p =
    in_in room room (Some ends) (Some ends) (m.statement_tail ∷ []) (m.sequence ∷ [])
    (λ s. m.statement_tail ∷ s) old mid x (λ s r. round_side room ends s r)
    (λ s r. h.passes s r ∙ ap (run MOST_OPEN_UNITS (m.statement_tail ∷ s)) e) p

pub sequences_over : (room : ℕ) (ends : Bool) (qs : SequencesTree) (old left new : List Token)
    → SequencesSoFar room ends qs old left → new ≡ left → Skips (Symbol symbol.Parallel) left
    → IsPart room (Some ends) (m.statement_tail ∷ []) (g.sequences_onto qs new) (g.sequences_depth qs) old new
sequences_over room ends qs old left new h e k = record {
  spelt = h.spelt ∙ ap (g.sequences_onto qs) (sym e);
  fits = h.fits;
  passes = λ s r. h.passes s r ∙ statement_over MOST_OPEN_UNITS s left k ∙ ap (run MOST_OPEN_UNITS s) (sym e);
  shorter = omega (arith, h.shorter, ap (length {A = Token}) e);
}

pub statement_part : (room : ℕ) (ends : Bool) (q : SequenceTree) (qs : SequencesTree) (old mid new : List Token)
    → IsPart room (Some ends) (m.sequence ∷ []) (g.sequence_onto q mid) (g.sequence_depth q) old mid
    → IsPart room (Some ends) (m.statement_tail ∷ []) (g.sequences_onto qs new) (g.sequences_depth qs) mid new
    → IsPart room (Some ends) (m.statement ∷ []) (g.statement_onto (statement q qs) new)
    (g.statement_depth (statement q qs)) old new
statement_part room ends q qs old mid new h k = record {
  spelt = h.spelt ∙ ap (g.sequence_onto q) k.spelt;
  fits = omega (arith, h.fits, k.fits);
  passes = λ s r. statement_is MOST_OPEN_UNITS s old ∙ h.passes (m.statement_tail ∷ s) (round_side room ends s r)
      ∙ k.passes s r;
  shorter = omega (arith, h.shorter, k.shorter);
}

-- ---- branches

abbrev end_wants : List Want → List Want
end_wants s = m.one m.kw_end ∷ m.may (Keyword keyword.Present) ∷ s

pub then_is : (t : Statement) (c : Bool) → branches_view (branches_value.Then t c) ≡ then_only (statement_view t) c
then_is t c = search (rules, the_lemmas)

pub else_is : (t : Statement) (c : Bool) → branches_view (branches_value.Else t c) ≡ else_only (statement_view t) c
else_is t c = search (rules, the_lemmas)

pub both_is : (t e : Statement) (c : Bool)
    → branches_view (branches_value.Both t e c) ≡ both (statement_view t) (statement_view e) c
both_is t e c = search (rules, the_lemmas)

-- a statement, and then the end of a `present`
abbrev pub Body : ℕ → Statement → List Token → List Token → Type 0
Body room t old new = IsPart room (Some true) (m.statement ∷ []) (g.statement_onto (statement_view t) new)
    (g.statement_depth (statement_view t)) old new

pub record End (c : Bool) (old new : List Token) : Type 0 where
  pub spelt : old ≡ m.kw_end ∷ g.token_if c (Keyword keyword.Present) new
  pub reads : Reads (m.one m.kw_end ∷ m.may (Keyword keyword.Present) ∷ []) old new

abbrev pub Branched : ℕ → Branches → List Token → List Token → Type 0
Branched room b old new =
    IsPart room None (m.branches ∷ []) (g.branches_onto (branches_view b) new)
    (g.branches_depth (branches_view b)) old new

abbrev pub BranchesFail : ℕ → List Token → ParserStop → Type 0
BranchesFail room old x = FailsIn room None (m.branches ∷ []) old x

branched : (room : ℕ) (b : Branches) (v : BranchesTree) (old new : List Token) → branches_view b ≡ v
    → IsPart room None (m.branches ∷ []) (g.branches_onto v new) (g.branches_depth v) old new → Branched room b old new
branched room b v old new e h =
    subst (λ (w : BranchesTree). IsPart room None (m.branches ∷ []) (g.branches_onto w new)
    (g.branches_depth w) old new) (sym e) h

-- `else` alone
pub else_missing : (room : ℕ) (old same : List Token) (x : ParserStop) → same ≡ old → Skips (Keyword keyword.Then) old
    → Fails (m.one (Keyword keyword.Else) ∷ []) same x → BranchesFail room old x
else_missing room old same x e k h =
    in_leaf room None (m.branches ∷ []) (m.one (Keyword keyword.Else) ∷ [])
    (λ s. m.statement ∷ end_wants s) old same x
    (λ s r. branches_are s old k ∙ ap (run MOST_OPEN_UNITS (m.one (Keyword keyword.Else) ∷ m.statement ∷ end_wants s))
    (sym e)) h

pub else_body_fails : (room : ℕ) (old mid : List Token) (x : ParserStop) → old ≡ Keyword keyword.Else ∷ mid
    → FailsIn room (Some true) (m.statement ∷ []) mid x → BranchesFail room old x
else_body_fails room old mid x e h =
    in_in room room None (Some true) (m.branches ∷ []) (m.statement ∷ []) end_wants old mid x
    (λ s r. round_end room (Keyword keyword.Present) s r) (λ s r. ap (run MOST_OPEN_UNITS (m.branches ∷ s)) e) h

pub else_end_fails : (room : ℕ) (t : Statement) (old mid behind : List Token) (x : ParserStop)
    → old ≡ Keyword keyword.Else ∷ mid → Body room t mid behind
    → Fails (m.one m.kw_end ∷ m.may (Keyword keyword.Present) ∷ []) behind x → BranchesFail room old x
else_end_fails room t old mid behind x e b h =
    in_leaf room None (m.branches ∷ []) (m.one m.kw_end ∷ m.may (Keyword keyword.Present) ∷ []) (λ s. s) old behind x
    (λ s r. ap (run MOST_OPEN_UNITS (m.branches ∷ s)) e ∙ b.passes (end_wants s)
    (round_end room (Keyword keyword.Present) s r)) h

pub else_part : (room : ℕ) (t : Statement) (c : Bool) (old mid behind new : List Token)
    → old ≡ Keyword keyword.Else ∷ mid → Body room t mid behind → End c behind new
    → Branched room (branches_value.Else t c) old new
else_part room t c old mid behind new e b h =
    branched room (branches_value.Else t c) (else_only (statement_view t) c) old new (else_is t c) (record {
      spelt = e ∙ ap (λ (l : List Token). Keyword keyword.Else ∷ l)
          (b.spelt ∙ ap (g.statement_onto (statement_view t)) h.spelt);
      fits = b.fits;
      passes = λ s r. ap (run MOST_OPEN_UNITS (m.branches ∷ s)) e
          ∙ b.passes (end_wants s) (round_end room (Keyword keyword.Present) s r) ∙ h.reads.passes s;
      shorter = omega (arith, b.shorter, h.reads.shorter, ap (length {A = Token}) e);
    })

-- `then` alone
pub then_body_fails : (room : ℕ) (old mid : List Token) (x : ParserStop) → old ≡ Keyword keyword.Then ∷ mid
    → FailsIn room (Some true) (m.statement ∷ []) mid x → BranchesFail room old x
then_body_fails room old mid x e h =
    in_in room room None (Some true) (m.branches ∷ []) (m.statement ∷ []) (λ s. m.after_then ∷ s) old mid x
    (λ s r. round_then room s r) (λ s r. ap (run MOST_OPEN_UNITS (m.branches ∷ s)) e) h

-- after the first branch
then_goes : (room : ℕ) (t : Statement) (old mid behind : List Token) (s : List Want) → Round room None s
    → old ≡ Keyword keyword.Then ∷ mid → Body room t mid behind
    → run MOST_OPEN_UNITS (m.branches ∷ s) old ≡ run MOST_OPEN_UNITS (m.after_then ∷ s) behind
then_goes room t old mid behind s r e b =
    ap (run MOST_OPEN_UNITS (m.branches ∷ s)) e ∙ b.passes (m.after_then ∷ s) (round_then room s r)

no_else : (s : List Want) (behind same : List Token) → same ≡ behind → Skips (Keyword keyword.Else) behind
    → run MOST_OPEN_UNITS (m.after_then ∷ s) behind ≡ run MOST_OPEN_UNITS (end_wants s) same
no_else s behind same e k = after_then_is s behind k ∙ ap (run MOST_OPEN_UNITS (end_wants s)) (sym e)

pub then_end_fails : (room : ℕ) (t : Statement) (old mid behind same : List Token) (x : ParserStop)
    → old ≡ Keyword keyword.Then ∷ mid → Body room t mid behind → same ≡ behind → Skips (Keyword keyword.Else) behind
    → Fails (m.one m.kw_end ∷ m.may (Keyword keyword.Present) ∷ []) same x → BranchesFail room old x
then_end_fails room t old mid behind same x e b f k h =
    in_leaf room None (m.branches ∷ []) (m.one m.kw_end ∷ m.may (Keyword keyword.Present) ∷ []) (λ s. s) old same x
    (λ s r. then_goes room t old mid behind s r e b ∙ no_else s behind same f k) h

pub then_part : (room : ℕ) (t : Statement) (c : Bool) (old mid behind same new : List Token)
    → old ≡ Keyword keyword.Then ∷ mid → Body room t mid behind → same ≡ behind → Skips (Keyword keyword.Else) behind
    → End c same new → Branched room (branches_value.Then t c) old new
then_part room t c old mid behind same new e b f k h =
    branched room (branches_value.Then t c) (then_only (statement_view t) c) old new (then_is t c) (record {
      spelt = e ∙ ap (λ (l : List Token). Keyword keyword.Then ∷ l)
          (b.spelt ∙ ap (g.statement_onto (statement_view t)) (sym f ∙ h.spelt));
      fits = b.fits;
      passes = λ s r. then_goes room t old mid behind s r e b ∙ no_else s behind same f k ∙ h.reads.passes s;
      shorter = omega (arith, b.shorter, h.reads.shorter, ap (length {A = Token}) e, ap (length {A = Token}) f);
    })

-- both branches
pub both_body_fails : (room : ℕ) (t : Statement) (old mid behind next : List Token) (x : ParserStop)
    → old ≡ Keyword keyword.Then ∷ mid → Body room t mid behind → behind ≡ Keyword keyword.Else ∷ next
    → FailsIn room (Some true) (m.statement ∷ []) next x → BranchesFail room old x
both_body_fails room t old mid behind next x e b f h =
    in_in room room None (Some true) (m.branches ∷ []) (m.statement ∷ []) end_wants old next x
    (λ s r. round_end room (Keyword keyword.Present) s r)
    (λ s r. then_goes room t old mid behind s r e b ∙ ap (run MOST_OPEN_UNITS (m.after_then ∷ s)) f) h

pub both_end_fails : (room : ℕ) (t u : Statement) (old mid behind next last : List Token) (x : ParserStop)
    → old ≡ Keyword keyword.Then ∷ mid → Body room t mid behind → behind ≡ Keyword keyword.Else ∷ next
    → Body room u next last → Fails (m.one m.kw_end ∷ m.may (Keyword keyword.Present) ∷ []) last x
    → BranchesFail room old x
both_end_fails room t u old mid behind next last x e b f d h =
    in_leaf room None (m.branches ∷ []) (m.one m.kw_end ∷ m.may (Keyword keyword.Present) ∷ []) (λ s. s) old last x
    (λ s r. then_goes room t old mid behind s r e b ∙ ap (run MOST_OPEN_UNITS (m.after_then ∷ s)) f
    ∙ d.passes (end_wants s) (round_end room (Keyword keyword.Present) s r)) h

pub both_part : (room : ℕ) (t u : Statement) (c : Bool) (old mid behind next last new : List Token)
    → old ≡ Keyword keyword.Then ∷ mid → Body room t mid behind → behind ≡ Keyword keyword.Else ∷ next
    → Body room u next last → End c last new → Branched room (branches_value.Both t u c) old new
both_part room t u c old mid behind next last new e b f d h =
    branched room (branches_value.Both t u c) (both (statement_view t) (statement_view u) c) old new (both_is t u c)
    (record {
      spelt = e ∙ ap (λ (l : List Token). Keyword keyword.Then ∷ l)
          (b.spelt ∙ ap (g.statement_onto (statement_view t))
          (f ∙ ap (λ (l : List Token). Keyword keyword.Else ∷ l)
          (d.spelt ∙ ap (g.statement_onto (statement_view u)) h.spelt)));
      fits = omega (arith, b.fits, d.fits);
      passes = λ s r. then_goes room t old mid behind s r e b ∙ ap (run MOST_OPEN_UNITS (m.after_then ∷ s)) f
          ∙ d.passes (end_wants s) (round_end room (Keyword keyword.Present) s r) ∙ h.reads.passes s;
      shorter =
          omega (arith, b.shorter, d.shorter, h.reads.shorter, ap (length {A = Token}) e, ap (length {A = Token}) f);
    })
