-- Units that open others, and what is read around them.
use Rattle.std.proofs.Common.{◌≡◌, ◌∙◌, ℕ, suc, ◌+◌, ◌≤◌, ◌<◌, List, [], ◌∷◌, ◌++◌, Bool, true, false, if◌then◌else◌}
use Rattle.std.proofs.Common.{nat_le, refl, ap, arith}
use Rattle.std.specs.Prelude.{Option, Some, None}
use Rattle.est_text.specs.declared.token.Token.{Token}
use Rattle.est_text.specs.declared.token.Token.TheVariants.{Keyword}
use Rattle.est_text.specs.declared.keyword.Keyword.TheVariants as keyword
use Rattle.est_syntax.specs.declared.fault.ParserStop.{ParserStop}
use Rattle.est_syntax.specs.declared.fault.ParserStop.TheVariants.{Syntax, TooDeep, Memory}
use Rattle.est_syntax.specs.declared.units.Opener.{Opener}
use Rattle.est_syntax.specs.declared.units.Opener.TheVariants as opener
use Rattle.est_syntax.specs.declared.units.Frame.TheVariants as frame
use Rattle.est_syntax.specs.declared.units.Head.{Head}
use Rattle.est_syntax.specs.declared.units.Head.TheVariants as head
use Rattle.est_syntax.specs.Tree.{UnitTree, SequenceTree}
use Rattle.est_syntax.specs.Grammar as g
use Rattle.est_syntax.specs.Views.{units_of, sequences_of}
use Rattle.est_syntax.specs.Inner.Machine as m
use Rattle.est_syntax.specs.Inner.Machine.{Want, run, Skips, open_count, opens, deep, go_on}
use Rattle.est_syntax.specs.Inner.Frames.{opener_token, opener_wants, head_wants, body_end}
use Rattle.est_syntax.specs.Inner.Parsing.{Fails, EndsSo, FailsBefore, Round, FailsIn}
use Rattle.est_syntax.specs.declared.parse.TheConstants.{MOST_OPEN_UNITS}
use Rattle.est_syntax.proofs.TestRuns.{open_part}

-- what is wanted leads to something else that fails, for the wants that count there
pub in_leaf : (room : ℕ) (ends : Option Bool) (ws vs : List Want) (f : List Want → List Want) (bs after : List Token)
    (e : ParserStop) → ((s : List Want) → Round room ends s
    → run MOST_OPEN_UNITS (ws ++ s) bs ≡ run MOST_OPEN_UNITS (vs ++ f s) after) → Fails vs after e
    → FailsIn room ends ws bs e
in_leaf room ends ws vs f bs after (Syntax n) h k = (k.0, k.1, λ s r. h s r ∙ k.2 (f s))
in_leaf room ends ws vs f bs after (TooDeep n) h k = (k.0, k.1, λ s r. h s r ∙ k.2 (f s))
in_leaf room ends ws vs f bs after Memory h k = tt

pub in_before : (room : ℕ) (ends : Option Bool) (inner : Bool) (ws vs : List Want) (f : List Want → List Want)
    (bs after : List Token) (e : ParserStop) → ((s : List Want) → Round room ends s → EndsSo inner (f s))
    → ((s : List Want) → Round room ends s
    → run MOST_OPEN_UNITS (ws ++ s) bs ≡ run MOST_OPEN_UNITS (vs ++ f s) after) → FailsBefore inner vs after e
    → FailsIn room ends ws bs e
in_before room ends inner ws vs f bs after (Syntax n) q h k = (k.0, k.1, λ s r. h s r ∙ k.2 (f s) (q s r))
in_before room ends inner ws vs f bs after (TooDeep n) q h k = (k.0, k.1, λ s r. h s r ∙ k.2 (f s) (q s r))
in_before room ends inner ws vs f bs after Memory q h k = tt

pub in_in : (room less : ℕ) (ends inner : Option Bool) (ws vs : List Want) (f : List Want → List Want)
    (bs after : List Token) (e : ParserStop) → ((s : List Want) → Round room ends s → Round less inner (f s))
    → ((s : List Want) → Round room ends s
    → run MOST_OPEN_UNITS (ws ++ s) bs ≡ run MOST_OPEN_UNITS (vs ++ f s) after) → FailsIn less inner vs after e
    → FailsIn room ends ws bs e
in_in room less ends inner ws vs f bs after (Syntax n) q h k = (k.0, k.1, λ s r. h s r ∙ k.2 (f s) (q s r))
in_in room less ends inner ws vs f bs after (TooDeep n) q h k = (k.0, k.1, λ s r. h s r ∙ k.2 (f s) (q s r))
in_in room less ends inner ws vs f bs after Memory q h k = tt

-- ---- the wants around a part

pub round_tail : (room : ℕ) (ends : Bool) (s : List Want) → Round room (Some ends) s
    → Round room (Some ends) (m.sequence_tail ∷ s)
round_tail room true s r = record { fits = r.fits; closing = r.closing }
round_tail room false s r = record { fits = r.fits; closing = r.closing }

pub round_side : (room : ℕ) (ends : Bool) (s : List Want) → Round room (Some ends) s
    → Round room (Some ends) (m.statement_tail ∷ s)
round_side room true s r = record { fits = r.fits; closing = r.closing }
round_side room false s r = record { fits = r.fits; closing = r.closing }

pub round_any : (room : ℕ) (ends : Option Bool) (s : List Want) → Round room ends s → Round room None s
round_any room ends s r = record { fits = r.fits; closing = tt }

pub round_then : (room : ℕ) (s : List Want) → Round room None s → Round room (Some true) (m.after_then ∷ s)
round_then room s r = record { fits = r.fits; closing = (m.may (Keyword keyword.Present) ∷ s, refl, λ b. refl) }

pub round_end : (room : ℕ) (t : Token) (s : List Want) → Round room None s
    → Round room (Some true) (m.one m.kw_end ∷ m.may t ∷ s)
round_end room t s r = record { fits = r.fits; closing = (m.may t ∷ s, refl, λ b. refl) }

-- the wants around a test
pub round_open : (room : ℕ) (w : Want) (ends : Option Bool) (s : List Want) → Round (suc room) ends s
    → open_count (w ∷ m.leave ∷ s) ≡ suc (open_count s) → Round room None (w ∷ m.leave ∷ s)
round_open room w ends s r e = record { fits = omega (arith, r.fits, e); closing = tt }

pub round_branches : (room : ℕ) (ends : Option Bool) (s : List Want) → Round (suc room) ends s
    → Round room None (m.leave ∷ s)
round_branches room ends s r = record { fits = omega (arith, r.fits); closing = tt }

-- the body of a frame
pub round_body : (room : ℕ) (ends : Option Bool) (h : Head) (s : List Want) → Round (suc room) ends s
    → Round room (Some (body_end h)) (head_wants h ++ s)
round_body room ends head.Suspend s r = record { fits = omega (arith, r.fits); closing = λ b. refl }
round_body room ends head.Abort s r = record { fits = omega (arith, r.fits); closing = λ b. refl }
round_body room ends head.WeakAbort s r = record { fits = omega (arith, r.fits); closing = λ b. refl }
round_body room ends head.Loop s r =
    record { fits = omega (arith, r.fits); closing = (m.may (Keyword keyword.Loop) ∷ m.leave ∷ s, refl, λ b. refl) }
round_body room ends (head.Every d) s r =
    record { fits = omega (arith, r.fits); closing = (m.may (Keyword keyword.Every) ∷ m.leave ∷ s, refl, λ b. refl) }
round_body room ends (head.Trap n) s r =
    record { fits = omega (arith, r.fits); closing = (m.may (Keyword keyword.Trap) ∷ m.leave ∷ s, refl, λ b. refl) }
round_body room ends (head.Signal ns) s r =
    record { fits = omega (arith, r.fits); closing = (m.may (Keyword keyword.Signal) ∷ m.leave ∷ s, refl, λ b. refl) }
round_body room ends head.Group s r = record { fits = omega (arith, r.fits); closing = λ b. refl }

-- ---- a unit opens

pub opener_opens : (o : Opener) (room : ℕ) (s : List Want) (bs : List Token)
    → open_count s + suc room ≡ MOST_OPEN_UNITS
    → run MOST_OPEN_UNITS (m.unit ∷ s) (opener_token o ∷ bs) ≡ run MOST_OPEN_UNITS (opener_wants o ++ s) bs
opener_opens opener.Test room s bs r =
    open_part MOST_OPEN_UNITS (opener_wants opener.Test ++ s) (opener_token opener.Test) bs (omega (arith, r))
opener_opens (opener.Frame frame.Suspend) room s bs r = open_part MOST_OPEN_UNITS
    (opener_wants (opener.Frame frame.Suspend) ++ s) (opener_token (opener.Frame frame.Suspend)) bs (omega (arith, r))
opener_opens (opener.Frame frame.Abort) room s bs r = open_part MOST_OPEN_UNITS
    (opener_wants (opener.Frame frame.Abort) ++ s) (opener_token (opener.Frame frame.Abort)) bs (omega (arith, r))
opener_opens (opener.Frame frame.WeakAbort) room s bs r = open_part MOST_OPEN_UNITS
    (opener_wants (opener.Frame frame.WeakAbort) ++ s) (opener_token (opener.Frame frame.WeakAbort)) bs
    (omega (arith, r))
opener_opens (opener.Frame frame.Loop) room s bs r = open_part MOST_OPEN_UNITS
    (opener_wants (opener.Frame frame.Loop) ++ s) (opener_token (opener.Frame frame.Loop)) bs (omega (arith, r))
opener_opens (opener.Frame frame.Every) room s bs r = open_part MOST_OPEN_UNITS
    (opener_wants (opener.Frame frame.Every) ++ s) (opener_token (opener.Frame frame.Every)) bs (omega (arith, r))
opener_opens (opener.Frame frame.Trap) room s bs r = open_part MOST_OPEN_UNITS
    (opener_wants (opener.Frame frame.Trap) ++ s) (opener_token (opener.Frame frame.Trap)) bs (omega (arith, r))
opener_opens (opener.Frame frame.Signal) room s bs r = open_part MOST_OPEN_UNITS
    (opener_wants (opener.Frame frame.Signal) ++ s) (opener_token (opener.Frame frame.Signal)) bs (omega (arith, r))
opener_opens (opener.Frame frame.Group) room s bs r = open_part MOST_OPEN_UNITS
    (opener_wants (opener.Frame frame.Group) ++ s) (opener_token (opener.Frame frame.Group)) bs (omega (arith, r))

over : (a b : ℕ) → b < a → nat_le a b ≡ false
over a b h = grind arith

pub deep_part : (s : List Want) (b : Token) (bs : List Token) → MOST_OPEN_UNITS < open_count s
    → go_on MOST_OPEN_UNITS (opens s) (b ∷ bs) (λ t. run MOST_OPEN_UNITS t bs) ≡ deep (b ∷ bs)
deep_part s b bs h =
    ap (λ (x : Bool). if x then run MOST_OPEN_UNITS s bs else deep (b ∷ bs)) (over (open_count s) MOST_OPEN_UNITS h)

pub opener_deep : (o : Opener) (s : List Want) (bs : List Token) → open_count s + 0 ≡ MOST_OPEN_UNITS
    → run MOST_OPEN_UNITS (m.unit ∷ s) (opener_token o ∷ bs) ≡ deep (opener_token o ∷ bs)
opener_deep opener.Test s bs r = deep_part (opener_wants opener.Test ++ s) (opener_token opener.Test) bs
    (omega (arith, r))
opener_deep (opener.Frame frame.Suspend) s bs r = deep_part (opener_wants (opener.Frame frame.Suspend) ++ s)
    (opener_token (opener.Frame frame.Suspend)) bs (omega (arith, r))
opener_deep (opener.Frame frame.Abort) s bs r =
    deep_part (opener_wants (opener.Frame frame.Abort) ++ s) (opener_token (opener.Frame frame.Abort)) bs
    (omega (arith, r))
opener_deep (opener.Frame frame.WeakAbort) s bs r = deep_part (opener_wants (opener.Frame frame.WeakAbort) ++ s)
    (opener_token (opener.Frame frame.WeakAbort)) bs (omega (arith, r))
opener_deep (opener.Frame frame.Loop) s bs r =
    deep_part (opener_wants (opener.Frame frame.Loop) ++ s) (opener_token (opener.Frame frame.Loop)) bs
    (omega (arith, r))
opener_deep (opener.Frame frame.Every) s bs r =
    deep_part (opener_wants (opener.Frame frame.Every) ++ s) (opener_token (opener.Frame frame.Every)) bs
    (omega (arith, r))
opener_deep (opener.Frame frame.Trap) s bs r =
    deep_part (opener_wants (opener.Frame frame.Trap) ++ s) (opener_token (opener.Frame frame.Trap)) bs
    (omega (arith, r))
opener_deep (opener.Frame frame.Signal) s bs r =
    deep_part (opener_wants (opener.Frame frame.Signal) ++ s) (opener_token (opener.Frame frame.Signal)) bs
    (omega (arith, r))
opener_deep (opener.Frame frame.Group) s bs r =
    deep_part (opener_wants (opener.Frame frame.Group) ++ s) (opener_token (opener.Frame frame.Group)) bs
    (omega (arith, r))

-- ---- the depth of one more part

pub units_deeper : (us : List UnitTree) (u : UnitTree) (room : ℕ) → g.units_depth (units_of us) ≤ room
    → g.unit_depth u ≤ room → g.units_depth (units_of (us ++ u ∷ [])) ≤ room
units_deeper [] u room h k = omega (arith, h, k)
units_deeper (v ∷ us) u room h k = let d = units_deeper us u room (omega (arith, h)) k in omega (arith, d, h)

pub sequences_deeper : (qs : List SequenceTree) (q : SequenceTree) (room : ℕ)
    → g.sequences_depth (sequences_of qs) ≤ room → g.sequence_depth q ≤ room
    → g.sequences_depth (sequences_of (qs ++ q ∷ [])) ≤ room
sequences_deeper [] q room h k = omega (arith, h, k)
sequences_deeper (v ∷ qs) q room h k = let d = sequences_deeper qs q room (omega (arith, h)) k in omega (arith, d, h)

-- ---- a want that stands for another

pub branches_are : (s : List Want) (bs : List Token) → Skips (Keyword keyword.Then) bs
    → run MOST_OPEN_UNITS (m.branches ∷ s) bs ≡ run MOST_OPEN_UNITS
    (m.one (Keyword keyword.Else) ∷ m.statement ∷ m.one m.kw_end ∷ m.may (Keyword keyword.Present) ∷ s) bs
branches_are s [] h = refl
branches_are s (Keyword keyword.Then ∷ bs) h = cc
branches_are s (_ ∷ bs) h = refl

pub after_then_is : (s : List Want) (bs : List Token) → Skips (Keyword keyword.Else) bs
    → run MOST_OPEN_UNITS (m.after_then ∷ s) bs ≡ run MOST_OPEN_UNITS
    (m.one m.kw_end ∷ m.may (Keyword keyword.Present) ∷ s) bs
after_then_is s [] h = refl
after_then_is s (Keyword keyword.Else ∷ bs) h = cc
after_then_is s (_ ∷ bs) h = refl
