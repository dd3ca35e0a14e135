-- The machine takes what a tree spells.
use Rattle.std.proofs.Common.{◌≡◌, ◌∙◌, ℕ, ◌+◌, ◌≤◌, List, [], ◌∷◌, Bool, true, false, if◌then◌else◌, refl, sym, ap}
use Rattle.std.proofs.Common.{arith}
use Rattle.est_text.specs.declared.token.Token.{Token}
use Rattle.est_text.specs.declared.token.Token.TheVariants.{Keyword, Identifier, Symbol}
use Rattle.est_text.specs.declared.keyword.Keyword.TheVariants as keyword
use Rattle.est_text.specs.declared.token.Symbol.TheVariants as symbol
use Rattle.est_syntax.specs.Tree.{RenamingTree, WeakEndTree, left_out, end_abort, end_weak_abort, UnitTree, nothing}
use Rattle.est_syntax.specs.Tree.{pause, halt, emit, sustain, exit, await, present, suspend, abort, weak_abort, repeat}
use Rattle.est_syntax.specs.Tree.{repeat_each, every, trap, signal, run, group, BranchesTree, then_only, else_only}
use Rattle.est_syntax.specs.Tree.{both, SequenceTree, sequence, UnitsTree, no_units, units, StatementTree, statement}
use Rattle.est_syntax.specs.Tree.{SequencesTree, no_sequences, sequences, RelationTree, excludes, implies}
use Rattle.est_syntax.specs.Tree.{DeclarationTree, input, output, inputoutput, relations, ModuleTree, LibraryTree}
use Rattle.est_syntax.specs.Grammar as g
use Rattle.est_syntax.specs.Inner.Machine as m
use Rattle.est_syntax.specs.Inner.Machine.{Want, to, right, same, step, step_after_end, go_on, open_count, kw_end, Ends}
use Rattle.est_syntax.specs.Inner.Machine.{Skips}
use Rattle.est_syntax.proofs.TestRuns.{either, may_over, leave_over, open_part, run_test, run_delay}

-- ---- what may follow

-- after an `end` that closes something around it there is no keyword that makes a pair with it
abbrev pub NoPair : List Token → Type 0
NoPair [] = ⊥
NoPair (b ∷ bs) = (same (Keyword keyword.Suspend) b ≡ false) × (same (Keyword keyword.Abort) b ≡ false)
    × (same (Keyword keyword.Weak) b ≡ false)

-- an `end` closes what is wanted next
abbrev pub Closes : List Want → List Token → Type 0
Closes s bs = NoPair bs × Ends s

abbrev pub AfterStatement : List Want → List Token → Type 0
AfterStatement s (Keyword keyword.End ∷ bs) = Closes s bs
AfterStatement s (Keyword keyword.Else ∷ bs) = Unit {0}
AfterStatement s (Keyword keyword.When ∷ bs) = Unit {0}
AfterStatement s (Keyword keyword.Each ∷ bs) = Unit {0}
AfterStatement s (Symbol symbol.CloseBracket ∷ bs) = Unit {0}
AfterStatement s _ = ⊥

abbrev pub AfterSequence : List Want → List Token → Type 0
AfterSequence s (Keyword keyword.End ∷ bs) = Closes s bs
AfterSequence s (Keyword keyword.Else ∷ bs) = Unit {0}
AfterSequence s (Keyword keyword.When ∷ bs) = Unit {0}
AfterSequence s (Keyword keyword.Each ∷ bs) = Unit {0}
AfterSequence s (Symbol symbol.CloseBracket ∷ bs) = Unit {0}
AfterSequence s (Symbol symbol.Parallel ∷ bs) = Unit {0}
AfterSequence s _ = ⊥

abbrev pub AfterUnit : List Want → List Token → Type 0
AfterUnit s (Keyword keyword.End ∷ bs) = Closes s bs
AfterUnit s (Keyword keyword.Else ∷ bs) = Unit {0}
AfterUnit s (Keyword keyword.When ∷ bs) = Unit {0}
AfterUnit s (Keyword keyword.Each ∷ bs) = Unit {0}
AfterUnit s (Symbol symbol.CloseBracket ∷ bs) = Unit {0}
AfterUnit s (Symbol symbol.Parallel ∷ bs) = Unit {0}
AfterUnit s (Symbol symbol.Semicolon ∷ bs) = Unit {0}
AfterUnit s _ = ⊥

sequence_from_statement : (s : List Want) (bs : List Token) → AfterStatement s bs
    → AfterSequence (m.statement_tail ∷ s) bs
sequence_from_statement s [] h = absurd h
sequence_from_statement s (Keyword keyword.End ∷ bs) h = h
sequence_from_statement s (Keyword keyword.Else ∷ bs) h = tt
sequence_from_statement s (Keyword keyword.When ∷ bs) h = tt
sequence_from_statement s (Keyword keyword.Each ∷ bs) h = tt
sequence_from_statement s (Symbol symbol.CloseBracket ∷ bs) h = tt
sequence_from_statement s (_ ∷ bs) h = absurd h

unit_from_sequence : (s : List Want) (bs : List Token) → AfterSequence s bs → AfterUnit (m.sequence_tail ∷ s) bs
unit_from_sequence s [] h = absurd h
unit_from_sequence s (Keyword keyword.End ∷ bs) h = h
unit_from_sequence s (Keyword keyword.Else ∷ bs) h = tt
unit_from_sequence s (Keyword keyword.When ∷ bs) h = tt
unit_from_sequence s (Keyword keyword.Each ∷ bs) h = tt
unit_from_sequence s (Symbol symbol.CloseBracket ∷ bs) h = tt
unit_from_sequence s (Symbol symbol.Parallel ∷ bs) h = tt
unit_from_sequence s (_ ∷ bs) h = absurd h

-- a token that is none of those that may stand after a unit
pub record NeverAfter (t : Token) : Type 0 where
  pub no_end : same t kw_end ≡ false
  pub no_else : same t (Keyword keyword.Else) ≡ false
  pub no_when : same t (Keyword keyword.When) ≡ false
  pub no_each : same t (Keyword keyword.Each) ≡ false
  pub no_close : same t (Symbol symbol.CloseBracket) ≡ false
  pub no_parallel : same t (Symbol symbol.Parallel) ≡ false
  pub no_semicolon : same t (Symbol symbol.Semicolon) ≡ false

pub after_skips : (t : Token) → NeverAfter t → (s : List Want) (bs : List Token) → AfterUnit s bs → Skips t bs
after_skips t e s [] h = tt
after_skips t e s (Keyword keyword.End ∷ bs) h = e.no_end
after_skips t e s (Keyword keyword.Else ∷ bs) h = e.no_else
after_skips t e s (Keyword keyword.When ∷ bs) h = e.no_when
after_skips t e s (Keyword keyword.Each ∷ bs) h = e.no_each
after_skips t e s (Symbol symbol.CloseBracket ∷ bs) h = e.no_close
after_skips t e s (Symbol symbol.Parallel ∷ bs) h = e.no_parallel
after_skips t e s (Symbol symbol.Semicolon ∷ bs) h = e.no_semicolon
after_skips t e s (_ ∷ bs) h = absurd h

pub sequence_skips : (s : List Want) (bs : List Token) → AfterSequence s bs → Skips (Symbol symbol.Semicolon) bs
sequence_skips s [] h = absurd h
sequence_skips s (Keyword keyword.End ∷ bs) h = refl
sequence_skips s (Keyword keyword.Else ∷ bs) h = refl
sequence_skips s (Keyword keyword.When ∷ bs) h = refl
sequence_skips s (Keyword keyword.Each ∷ bs) h = refl
sequence_skips s (Symbol symbol.CloseBracket ∷ bs) h = refl
sequence_skips s (Symbol symbol.Parallel ∷ bs) h = refl
sequence_skips s (_ ∷ bs) h = absurd h

pub statement_skips : (s : List Want) (bs : List Token) → AfterStatement s bs → Skips (Symbol symbol.Parallel) bs
statement_skips s [] h = absurd h
statement_skips s (Keyword keyword.End ∷ bs) h = refl
statement_skips s (Keyword keyword.Else ∷ bs) h = refl
statement_skips s (Keyword keyword.When ∷ bs) h = refl
statement_skips s (Keyword keyword.Each ∷ bs) h = refl
statement_skips s (Symbol symbol.CloseBracket ∷ bs) h = refl
statement_skips s (_ ∷ bs) h = absurd h

-- ---- what may be left out, and is

pub names_over : (limit : ℕ) (s : List Want) (bs : List Token) → Skips (Symbol symbol.Comma) bs
    → m.run limit (m.later_names ∷ s) bs ≡ m.run limit s bs
names_over limit s [] h = refl
names_over limit s (b ∷ bs) h = ap (either limit b bs (to (m.name ∷ m.later_names ∷ s)) (step s b)) h

pub members_over : (limit : ℕ) (s : List Want) (bs : List Token) → Skips (Symbol symbol.Hash) bs
    → m.run limit (m.later_members ∷ s) bs ≡ m.run limit s bs
members_over limit s [] h = refl
members_over limit s (b ∷ bs) h = ap (either limit b bs (to (m.name ∷ m.later_members ∷ s)) (step s b)) h

pub relations_over : (limit : ℕ) (s : List Want) (bs : List Token) → Skips (Symbol symbol.Comma) bs
    → m.run limit (m.later_relations ∷ s) bs ≡ m.run limit s bs
relations_over limit s [] h = refl
relations_over limit s (b ∷ bs) h = ap (either limit b bs (to (m.relation ∷ m.later_relations ∷ s)) (step s b)) h

pub renamings_over : (limit : ℕ) (s : List Want) (bs : List Token) → Skips (Symbol symbol.OpenBracket) bs
    → m.run limit (m.renamings ∷ s) bs ≡ m.run limit s bs
renamings_over limit s [] h = refl
renamings_over limit s (b ∷ bs) h =
    ap (either limit b bs (to (m.one (Keyword keyword.Signal) ∷ m.name ∷ m.one (Symbol symbol.Slash) ∷ m.name
    ∷ m.later_renamings ∷ m.one (Symbol symbol.CloseBracket) ∷ s)) (step s b)) h

pub sequence_over : (limit : ℕ) (s : List Want) (bs : List Token) → Skips (Symbol symbol.Semicolon) bs
    → m.run limit (m.sequence_tail ∷ s) bs ≡ m.run limit s bs
sequence_over limit s [] h = refl
sequence_over limit s (b ∷ bs) h = ap (either limit b bs (to (m.after_semicolon ∷ s)) (step s b)) h

pub statement_over : (limit : ℕ) (s : List Want) (bs : List Token) → Skips (Symbol symbol.Parallel) bs
    → m.run limit (m.statement_tail ∷ s) bs ≡ m.run limit s bs
statement_over limit s [] h = refl
statement_over limit s (b ∷ bs) h = ap (either limit b bs (to (m.sequence ∷ m.statement_tail ∷ s)) (step s b)) h

pub end_over : (limit : ℕ) (t : Token) (s : List Want) (bs : List Token) → Skips kw_end bs
    → m.run limit (m.may_end t ∷ s) bs ≡ m.run limit s bs
end_over limit t s [] h = refl
end_over limit t s (b ∷ bs) h = ap (either limit b bs (to (m.ended t ∷ s)) (step s b)) h

pub weak_end_over : (limit : ℕ) (s : List Want) (bs : List Token) → Skips kw_end bs
    → m.run limit (m.may_end_weak ∷ s) bs ≡ m.run limit s bs
weak_end_over limit s [] h = refl
weak_end_over limit s (b ∷ bs) h = ap (either limit b bs (to (m.ended_weak ∷ s)) (step s b)) h

-- after a sequence that a `;` closes no unit begins
semicolon_over : (limit : ℕ) (s : List Want) (bs : List Token) → AfterSequence s bs
    → m.run limit (m.after_semicolon ∷ s) bs ≡ m.run limit s bs
semicolon_over limit s [] h = absurd h
semicolon_over limit s (Keyword keyword.End ∷ bs) h = refl
semicolon_over limit s (Keyword keyword.Else ∷ bs) h = refl
semicolon_over limit s (Keyword keyword.When ∷ bs) h = refl
semicolon_over limit s (Keyword keyword.Each ∷ bs) h = refl
semicolon_over limit s (Symbol symbol.CloseBracket ∷ bs) h = refl
semicolon_over limit s (Symbol symbol.Parallel ∷ bs) h = refl
semicolon_over limit s (_ ∷ bs) h = absurd h

-- ---- `end` that closes what is around a unit

-- a pair that is not there leaves the `end` to what follows
pub end_left : (limit : ℕ) (t : Token) (s : List Want) (b : Token) (bs : List Token) → same t b ≡ false → Ends s
    → m.run limit (m.may_end t ∷ s) (kw_end ∷ b ∷ bs) ≡ m.run limit s (kw_end ∷ b ∷ bs)
end_left limit t s b bs e h =
    ap (either limit b bs (to s) (step_after_end s b)) e
    ∙ ap (λ o. go_on limit o (b ∷ bs) (λ u. m.run limit u bs)) (h.2 b)
    ∙ ap (λ o. go_on limit o (kw_end ∷ b ∷ bs) (λ u. m.run limit u (b ∷ bs))) (sym h.1)

pub weak_end_left : (limit : ℕ) (s : List Want) (b : Token) (bs : List Token)
    → same (Keyword keyword.Abort) b ≡ false → same (Keyword keyword.Weak) b ≡ false → Ends s
    → m.run limit (m.may_end_weak ∷ s) (kw_end ∷ b ∷ bs) ≡ m.run limit s (kw_end ∷ b ∷ bs)
weak_end_left limit s b bs e f h =
    ap (either limit b bs (to s) (if same (Keyword keyword.Weak) b then to
    (m.one (Keyword keyword.Abort) ∷ s) else step_after_end s b)) e
    ∙ ap (either limit b bs (to (m.one (Keyword keyword.Abort) ∷ s)) (step_after_end s b)) f
    ∙ ap (λ o. go_on limit o (b ∷ bs) (λ u. m.run limit u bs)) (h.2 b)
    ∙ ap (λ o. go_on limit o (kw_end ∷ b ∷ bs) (λ u. m.run limit u (b ∷ bs))) (sym h.1)

pub open_skips : (s : List Want) (bs : List Token) → AfterUnit s bs → (P : List Token → Type 0)
    → ((bs : List Token) → Skips kw_end bs → P bs)
    → ((b : Token) (bs : List Token) → NoPair (b ∷ bs) → Ends s → P (kw_end ∷ b ∷ bs)) → P bs
open_skips s [] h P f g = f [] tt
open_skips s (Keyword keyword.End ∷ []) h P f g = absurd h.0
open_skips s (Keyword keyword.End ∷ b ∷ bs) h P f g = g b bs h.0 h.1
open_skips s (Keyword keyword.Else ∷ bs) h P f g = f (Keyword keyword.Else ∷ bs) refl
open_skips s (Keyword keyword.When ∷ bs) h P f g = f (Keyword keyword.When ∷ bs) refl
open_skips s (Keyword keyword.Each ∷ bs) h P f g = f (Keyword keyword.Each ∷ bs) refl
open_skips s (Symbol symbol.CloseBracket ∷ bs) h P f g = f (Symbol symbol.CloseBracket ∷ bs) refl
open_skips s (Symbol symbol.Parallel ∷ bs) h P f g = f (Symbol symbol.Parallel ∷ bs) refl
open_skips s (Symbol symbol.Semicolon ∷ bs) h P f g = f (Symbol symbol.Semicolon ∷ bs) refl
open_skips s (_ ∷ bs) h P f g = absurd h

-- ---- each part of a tree

pub run_names : (limit : ℕ) (ns : List (List ℕ)) (s : List Want) (bs : List Token) → Skips (Symbol symbol.Comma) bs
    → m.run limit (m.later_names ∷ s) (g.later_names_onto ns bs) ≡ m.run limit s bs
run_names limit [] s bs h = names_over limit s bs h
run_names limit (n ∷ ns) s bs h = run_names limit ns s bs h

pub later_renamings_over : (limit : ℕ) (s : List Want) (bs : List Token) → Skips (Symbol symbol.Comma) bs
    → m.run limit (m.later_renamings ∷ s) bs ≡ m.run limit s bs
later_renamings_over limit s [] h = refl
later_renamings_over limit s (b ∷ bs) h =
    ap (either limit b bs (to (m.name ∷ m.one (Symbol symbol.Slash) ∷ m.name ∷ m.later_renamings ∷ s)) (step s b)) h

later_renamings : (limit : ℕ) (rs : List RenamingTree) (s : List Want) (bs : List Token)
    → m.run limit (m.later_renamings ∷ m.one (Symbol symbol.CloseBracket) ∷ s)
    (g.later_renamings_onto rs (Symbol symbol.CloseBracket ∷ bs)) ≡ m.run limit s bs
later_renamings limit [] s bs =
    later_renamings_over limit (m.one (Symbol symbol.CloseBracket) ∷ s) (Symbol symbol.CloseBracket ∷ bs) refl
later_renamings limit (r ∷ rs) s bs = later_renamings limit rs s bs

run_renamings : (limit : ℕ) (rs : List RenamingTree) (s : List Want) (bs : List Token)
    → Skips (Symbol symbol.OpenBracket) bs → m.run limit (m.renamings ∷ s) (g.renamings_onto rs bs) ≡ m.run limit s bs
run_renamings limit [] s bs h = renamings_over limit s bs h
run_renamings limit (r ∷ rs) s bs h = later_renamings limit rs s bs

run_token_if : (limit : ℕ) (t : Token) (c : Bool) (s : List Want) (bs : List Token) → same t t ≡ true → Skips t bs
    → m.run limit (m.may t ∷ s) (g.token_if c t bs) ≡ m.run limit s bs
run_token_if limit t true s bs e h = ap (either limit t bs (to s) (step s t)) e
run_token_if limit t false s bs e h = may_over limit t s bs h

run_end_if : (limit : ℕ) (t : Token) (c : Bool) (s : List Want) (bs : List Token) → same t t ≡ true
    → ((b : Token) (bs : List Token) → NoPair (b ∷ bs) → same t b ≡ false) → AfterUnit s bs
    → m.run limit (m.may_end t ∷ s) (g.end_if c t bs) ≡ m.run limit s bs
run_end_if limit t true s bs e f h = ap (either limit t bs (to s) (step_after_end s t)) e
run_end_if limit t false s bs e f h =
    open_skips s bs h (λ cs. m.run limit (m.may_end t ∷ s) cs ≡ m.run limit s cs) (λ cs k. end_over limit t s cs k)
    (λ b cs p k. end_left limit t s b cs (f b cs p) k)

run_weak_end : (limit : ℕ) (c : WeakEndTree) (s : List Want) (bs : List Token) → AfterUnit s bs
    → m.run limit (m.may_end_weak ∷ s) (g.weak_end_onto c bs) ≡ m.run limit s bs
run_weak_end limit end_abort s bs h = refl
run_weak_end limit end_weak_abort s bs h = refl
run_weak_end limit left_out s bs h =
    open_skips s bs h (λ cs. m.run limit (m.may_end_weak ∷ s) cs ≡ m.run limit s cs)
    (λ cs k. weak_end_over limit s cs k) (λ b cs p k. weak_end_left limit s b cs p.1 p.2 k)

leave_after : (s : List Want) (bs : List Token) → AfterUnit s bs → AfterUnit (m.leave ∷ s) bs
leave_after s [] h = absurd h
leave_after s (Keyword keyword.End ∷ bs) h = h
leave_after s (Keyword keyword.Else ∷ bs) h = tt
leave_after s (Keyword keyword.When ∷ bs) h = tt
leave_after s (Keyword keyword.Each ∷ bs) h = tt
leave_after s (Symbol symbol.CloseBracket ∷ bs) h = tt
leave_after s (Symbol symbol.Parallel ∷ bs) h = tt
leave_after s (Symbol symbol.Semicolon ∷ bs) h = tt
leave_after s (_ ∷ bs) h = absurd h

after_no_pair : (s : List Want) (bs : List Token) → AfterUnit s bs → NoPair bs
after_no_pair s [] h = absurd h
after_no_pair s (Keyword keyword.End ∷ bs) h = (refl, refl, refl)
after_no_pair s (Keyword keyword.Else ∷ bs) h = (refl, refl, refl)
after_no_pair s (Keyword keyword.When ∷ bs) h = (refl, refl, refl)
after_no_pair s (Keyword keyword.Each ∷ bs) h = (refl, refl, refl)
after_no_pair s (Symbol symbol.CloseBracket ∷ bs) h = (refl, refl, refl)
after_no_pair s (Symbol symbol.Parallel ∷ bs) h = (refl, refl, refl)
after_no_pair s (Symbol symbol.Semicolon ∷ bs) h = (refl, refl, refl)
after_no_pair s (_ ∷ bs) h = absurd h

pub no_pair_if : (t : Token) (c : Bool) (s : List Want) (bs : List Token) → NoPair (t ∷ bs) → AfterUnit s bs
    → NoPair (g.token_if c t bs)
no_pair_if t true s bs p h = p
no_pair_if t false s bs p h = after_no_pair s bs h

pub behind_units : (us : UnitsTree) (c : Bool) (s : List Want) (bs : List Token) → AfterSequence s bs
    → AfterUnit (m.sequence_tail ∷ s) (g.units_onto us (g.token_if c (Symbol symbol.Semicolon) bs))
behind_units no_units true s bs h = tt
behind_units no_units false s bs h = unit_from_sequence s bs h
behind_units (units u us) c s bs h = tt

pub behind_sequences : (qs : SequencesTree) (s : List Want) (bs : List Token) → AfterStatement s bs
    → AfterSequence (m.statement_tail ∷ s) (g.sequences_onto qs bs)
behind_sequences no_sequences s bs h = sequence_from_statement s bs h
behind_sequences (sequences q qs) s bs h = tt

pub sequence_is : (limit : ℕ) (s : List Want) (bs : List Token)
    → m.run limit (m.sequence ∷ s) bs ≡ m.run limit (m.unit ∷ m.sequence_tail ∷ s) bs
sequence_is limit s [] = refl
sequence_is limit s (b ∷ bs) = refl

pub statement_is : (limit : ℕ) (s : List Want) (bs : List Token)
    → m.run limit (m.statement ∷ s) bs ≡ m.run limit (m.sequence ∷ m.statement_tail ∷ s) bs
statement_is limit s [] = refl
statement_is limit s (b ∷ bs) = refl

unit_behind : (limit : ℕ) (u : UnitTree) (s : List Want) (bs : List Token)
    → m.run limit (m.after_semicolon ∷ s) (g.unit_onto u bs)
    ≡ m.run limit (m.unit ∷ m.sequence_tail ∷ s) (g.unit_onto u bs)
unit_behind limit nothing s bs = refl
unit_behind limit pause s bs = refl
unit_behind limit halt s bs = refl
unit_behind limit (emit n) s bs = refl
unit_behind limit (sustain n) s bs = refl
unit_behind limit (exit n) s bs = refl
unit_behind limit (await d) s bs = refl
unit_behind limit (present n b) s bs = refl
unit_behind limit (suspend t d c) s bs = refl
unit_behind limit (abort t d c) s bs = refl
unit_behind limit (weak_abort t d c) s bs = refl
unit_behind limit (repeat t c) s bs = refl
unit_behind limit (repeat_each t n) s bs = refl
unit_behind limit (every d t c) s bs = refl
unit_behind limit (trap n t c) s bs = refl
unit_behind limit (signal ns t c) s bs = refl
unit_behind limit (run n rs) s bs = refl
unit_behind limit (group t) s bs = refl

no_declaration : (limit : ℕ) (u : UnitTree) (s : List Want) (bs : List Token)
    → m.run limit (m.declarations ∷ m.statement ∷ s) (g.unit_onto u bs)
    ≡ m.run limit (m.statement ∷ s) (g.unit_onto u bs)
no_declaration limit nothing s bs = refl
no_declaration limit pause s bs = refl
no_declaration limit halt s bs = refl
no_declaration limit (emit n) s bs = refl
no_declaration limit (sustain n) s bs = refl
no_declaration limit (exit n) s bs = refl
no_declaration limit (await d) s bs = refl
no_declaration limit (present n b) s bs = refl
no_declaration limit (suspend t d c) s bs = refl
no_declaration limit (abort t d c) s bs = refl
no_declaration limit (weak_abort t d c) s bs = refl
no_declaration limit (repeat t c) s bs = refl
no_declaration limit (repeat_each t n) s bs = refl
no_declaration limit (every d t c) s bs = refl
no_declaration limit (trap n t c) s bs = refl
no_declaration limit (signal ns t c) s bs = refl
no_declaration limit (run n rs) s bs = refl
no_declaration limit (group t) s bs = refl

-- what may stand after a unit goes on with no test
never_and : NeverAfter (Keyword keyword.And)
never_and = record {
  no_end = refl;
  no_else = refl;
  no_when = refl;
  no_each = refl;
  no_close = refl;
  no_parallel = refl;
  no_semicolon = refl;
}

never_or : NeverAfter (Keyword keyword.Or)
never_or = record {
  no_end = refl;
  no_else = refl;
  no_when = refl;
  no_each = refl;
  no_close = refl;
  no_parallel = refl;
  no_semicolon = refl;
}

pub unit_and : (s : List Want) (bs : List Token) → AfterUnit s bs → Skips (Keyword keyword.And) bs
unit_and s bs h = after_skips (Keyword keyword.And) never_and s bs h

pub unit_or : (s : List Want) (bs : List Token) → AfterUnit s bs → Skips (Keyword keyword.Or) bs
unit_or s bs h = after_skips (Keyword keyword.Or) never_or s bs h

pub end_if_skips : (w t : Token) (c : Bool) (s : List Want) (bs : List Token) → NeverAfter w → AfterUnit s bs
    → Skips w (g.end_if c t bs)
end_if_skips w t true s bs e h = e.no_end
end_if_skips w t false s bs e h = after_skips w e s bs h

pub end_and : (t : Token) (c : Bool) (s : List Want) (bs : List Token) → AfterUnit s bs
    → Skips (Keyword keyword.And) (g.end_if c t bs)
end_and t c s bs h = end_if_skips (Keyword keyword.And) t c s bs never_and h

pub end_or : (t : Token) (c : Bool) (s : List Want) (bs : List Token) → AfterUnit s bs
    → Skips (Keyword keyword.Or) (g.end_if c t bs)
end_or t c s bs h = end_if_skips (Keyword keyword.Or) t c s bs never_or h

weak_skips : (w : Token) (c : WeakEndTree) (s : List Want) (bs : List Token) → NeverAfter w → AfterUnit s bs
    → Skips w (g.weak_end_onto c bs)
weak_skips w left_out s bs e h = after_skips w e s bs h
weak_skips w end_abort s bs e h = e.no_end
weak_skips w end_weak_abort s bs e h = e.no_end

pub weak_and : (c : WeakEndTree) (s : List Want) (bs : List Token) → AfterUnit s bs
    → Skips (Keyword keyword.And) (g.weak_end_onto c bs)
weak_and c s bs h = weak_skips (Keyword keyword.And) c s bs never_and h

pub weak_or : (c : WeakEndTree) (s : List Want) (bs : List Token) → AfterUnit s bs
    → Skips (Keyword keyword.Or) (g.weak_end_onto c bs)
weak_or c s bs h = weak_skips (Keyword keyword.Or) c s bs never_or h

pub branches_and : (b : BranchesTree) (bs : List Token) → Skips (Keyword keyword.And) (g.branches_onto b bs)
branches_and (then_only t c) bs = refl
branches_and (else_only t c) bs = refl
branches_and (both t e c) bs = refl

pub branches_or : (b : BranchesTree) (bs : List Token) → Skips (Keyword keyword.Or) (g.branches_onto b bs)
branches_or (then_only t c) bs = refl
branches_or (else_only t c) bs = refl
branches_or (both t e c) bs = refl

-- what is wanted after the body of a unit
abbrev delayed : Want → List Want → List Want
delayed w s = m.one (Keyword keyword.When) ∷ m.may (Keyword keyword.Immediate) ∷ m.test ∷ w ∷ m.leave ∷ s

abbrev framed : Token → List Want → List Want
framed t s = m.one kw_end ∷ m.may t ∷ m.leave ∷ s

mutual
  pub run_unit : (limit : ℕ) (u : UnitTree) (s : List Want) (bs : List Token) → AfterUnit s bs
      → g.unit_depth u + open_count s ≤ limit → m.run limit (m.unit ∷ s) (g.unit_onto u bs) ≡ m.run limit s bs
  run_unit limit nothing s bs h r = refl
  run_unit limit pause s bs h r = refl
  run_unit limit halt s bs h r = refl
  run_unit limit (emit n) s bs h r = refl
  run_unit limit (sustain n) s bs h r = refl
  run_unit limit (exit n) s bs h r = refl
  run_unit limit (await d) s bs h r = run_delay limit d s bs (unit_and s bs h) (unit_or s bs h) r
  run_unit limit (run n rs) s bs h r =
      run_renamings limit rs s bs (after_skips (Symbol symbol.OpenBracket)
      (record {
        no_end = refl;
        no_else = refl;
        no_when = refl;
        no_each = refl;
        no_close = refl;
        no_parallel = refl;
        no_semicolon = refl;
      }) s bs h)
  run_unit limit (present n b) s bs h r =
      open_part limit (m.test ∷ m.branches ∷ m.leave ∷ s) (Keyword keyword.Present)
      (g.test_onto n (g.branches_onto b bs)) (omega (arith, r))
      ∙ run_test limit n (m.branches ∷ m.leave ∷ s) (g.branches_onto b bs) (branches_and b bs) (branches_or b bs)
      (omega (arith, r))
      ∙ run_branches limit b (m.leave ∷ s) bs (leave_after s bs h) (omega (arith, r)) ∙ leave_over limit s bs
  run_unit limit (suspend t d c) s bs h r =
      open_part limit (m.statement ∷ delayed (m.may_end (Keyword keyword.Suspend)) s) (Keyword keyword.Suspend)
      (g.statement_onto t (Keyword keyword.When ∷ g.delay_onto d (g.end_if c (Keyword keyword.Suspend) bs)))
      (omega (arith, r))
      ∙ run_statement limit t (delayed (m.may_end (Keyword keyword.Suspend)) s)
      (Keyword keyword.When ∷ g.delay_onto d (g.end_if c (Keyword keyword.Suspend) bs)) tt (omega (arith, r))
      ∙ run_delay limit d (m.may_end (Keyword keyword.Suspend) ∷ m.leave ∷ s) (g.end_if c (Keyword keyword.Suspend) bs)
      (end_and (Keyword keyword.Suspend) c s bs h) (end_or (Keyword keyword.Suspend) c s bs h) (omega (arith, r))
      ∙ run_end_if limit (Keyword keyword.Suspend) c (m.leave ∷ s) bs refl (λ b cs p. p.0) (leave_after s bs h)
      ∙ leave_over limit s bs
  run_unit limit (abort t d c) s bs h r =
      open_part limit (m.statement ∷ delayed (m.may_end (Keyword keyword.Abort)) s) (Keyword keyword.Abort)
      (g.statement_onto t (Keyword keyword.When ∷ g.delay_onto d (g.end_if c (Keyword keyword.Abort) bs)))
      (omega (arith, r))
      ∙ run_statement limit t (delayed (m.may_end (Keyword keyword.Abort)) s)
      (Keyword keyword.When ∷ g.delay_onto d (g.end_if c (Keyword keyword.Abort) bs)) tt (omega (arith, r))
      ∙ run_delay limit d (m.may_end (Keyword keyword.Abort) ∷ m.leave ∷ s) (g.end_if c (Keyword keyword.Abort) bs)
      (end_and (Keyword keyword.Abort) c s bs h) (end_or (Keyword keyword.Abort) c s bs h) (omega (arith, r))
      ∙ run_end_if limit (Keyword keyword.Abort) c (m.leave ∷ s) bs refl (λ b cs p. p.1) (leave_after s bs h)
      ∙ leave_over limit s bs
  run_unit limit (weak_abort t d c) s bs h r =
      open_part limit (m.one (Keyword keyword.Abort) ∷ m.statement ∷ delayed m.may_end_weak s) (Keyword keyword.Weak)
      (Keyword keyword.Abort ∷ g.statement_onto t (Keyword keyword.When ∷ g.delay_onto d (g.weak_end_onto c bs)))
      (omega (arith, r))
      ∙ run_statement limit t (delayed m.may_end_weak s)
      (Keyword keyword.When ∷ g.delay_onto d (g.weak_end_onto c bs)) tt (omega (arith, r))
      ∙ run_delay limit d (m.may_end_weak ∷ m.leave ∷ s) (g.weak_end_onto c bs) (weak_and c s bs h) (weak_or c s bs h)
      (omega (arith, r))
      ∙ run_weak_end limit c (m.leave ∷ s) bs (leave_after s bs h) ∙ leave_over limit s bs
  run_unit limit (repeat t c) s bs h r =
      open_part limit (m.statement ∷ m.loop_tail ∷ m.leave ∷ s) (Keyword keyword.Loop)
      (g.statement_onto t (kw_end ∷ g.token_if c (Keyword keyword.Loop) bs)) (omega (arith, r))
      ∙ run_statement limit t (m.loop_tail ∷ m.leave ∷ s) (kw_end ∷ g.token_if c (Keyword keyword.Loop) bs) (
        no_pair_if (Keyword keyword.Loop) c s bs (refl, refl, refl) h,
        (m.may (Keyword keyword.Loop) ∷ m.leave ∷ s, refl, λ b. refl),
      ) (omega (arith, r))
      ∙ run_token_if limit (Keyword keyword.Loop) c (m.leave ∷ s) bs refl
      (after_skips (Keyword keyword.Loop)
      (record {
        no_end = refl;
        no_else = refl;
        no_when = refl;
        no_each = refl;
        no_close = refl;
        no_parallel = refl;
        no_semicolon = refl;
      }) s bs h) ∙ leave_over limit s bs
  run_unit limit (repeat_each t n) s bs h r =
      open_part limit (m.statement ∷ m.loop_tail ∷ m.leave ∷ s) (Keyword keyword.Loop)
      (g.statement_onto t (Keyword keyword.Each ∷ g.test_onto n bs)) (omega (arith, r))
      ∙ run_statement limit t (m.loop_tail ∷ m.leave ∷ s) (Keyword keyword.Each ∷ g.test_onto n bs) tt
      (omega (arith, r))
      ∙ run_test limit n (m.leave ∷ s) bs (unit_and s bs h) (unit_or s bs h) (omega (arith, r)) ∙ leave_over limit s bs
  run_unit limit (every d t c) s bs h r =
      open_part limit (m.may (Keyword keyword.Immediate) ∷ m.test ∷ m.one (Keyword keyword.Do) ∷ m.statement
      ∷ framed (Keyword keyword.Every) s) (Keyword keyword.Every)
      (g.delay_onto d (Keyword keyword.Do ∷ (g.statement_onto t (kw_end ∷ g.token_if c (Keyword keyword.Every) bs))))
      (omega (arith, r))
      ∙ run_delay limit d (m.one (Keyword keyword.Do) ∷ m.statement ∷ framed (Keyword keyword.Every) s)
      (Keyword keyword.Do ∷ (g.statement_onto t (kw_end ∷ g.token_if c (Keyword keyword.Every) bs))) refl refl
      (omega (arith, r))
      ∙ run_statement limit t (framed (Keyword keyword.Every) s) (kw_end ∷ g.token_if c (Keyword keyword.Every) bs) (
        no_pair_if (Keyword keyword.Every) c s bs (refl, refl, refl) h,
        (m.may (Keyword keyword.Every) ∷ m.leave ∷ s, refl, λ b. refl),
      ) (omega (arith, r))
      ∙ run_token_if limit (Keyword keyword.Every) c (m.leave ∷ s) bs refl
      (after_skips (Keyword keyword.Every)
      (record {
        no_end = refl;
        no_else = refl;
        no_when = refl;
        no_each = refl;
        no_close = refl;
        no_parallel = refl;
        no_semicolon = refl;
      }) s bs h) ∙ leave_over limit s bs
  run_unit limit (trap n t c) s bs h r =
      open_part limit (m.name ∷ m.one (Keyword keyword.In) ∷ m.statement ∷ framed (Keyword keyword.Trap) s)
      (Keyword keyword.Trap) (Identifier n ∷ Keyword keyword.In
      ∷ (g.statement_onto t (kw_end ∷ g.token_if c (Keyword keyword.Trap) bs))) (omega (arith, r))
      ∙ run_statement limit t (framed (Keyword keyword.Trap) s) (kw_end ∷ g.token_if c (Keyword keyword.Trap) bs) (
        no_pair_if (Keyword keyword.Trap) c s bs (refl, refl, refl) h,
        (m.may (Keyword keyword.Trap) ∷ m.leave ∷ s, refl, λ b. refl),
      ) (omega (arith, r))
      ∙ run_token_if limit (Keyword keyword.Trap) c (m.leave ∷ s) bs refl
      (after_skips (Keyword keyword.Trap)
      (record {
        no_end = refl;
        no_else = refl;
        no_when = refl;
        no_each = refl;
        no_close = refl;
        no_parallel = refl;
        no_semicolon = refl;
      }) s bs h) ∙ leave_over limit s bs
  run_unit limit (signal ns t c) s bs h r =
      open_part limit (m.name ∷ m.later_names ∷ m.one (Keyword keyword.In) ∷ m.statement
      ∷ framed (Keyword keyword.Signal) s) (Keyword keyword.Signal)
      (g.names_onto ns (Keyword keyword.In
      ∷ (g.statement_onto t (kw_end ∷ g.token_if c (Keyword keyword.Signal) bs)))) (omega (arith, r))
      ∙ run_names limit ns.later (m.one (Keyword keyword.In) ∷ m.statement ∷ framed (Keyword keyword.Signal) s)
      (Keyword keyword.In ∷ (g.statement_onto t (kw_end ∷ g.token_if c (Keyword keyword.Signal) bs))) refl
      ∙ run_statement limit t (framed (Keyword keyword.Signal) s) (kw_end ∷ g.token_if c (Keyword keyword.Signal) bs) (
        no_pair_if (Keyword keyword.Signal) c s bs (refl, refl, refl) h,
        (m.may (Keyword keyword.Signal) ∷ m.leave ∷ s, refl, λ b. refl),
      ) (omega (arith, r))
      ∙ run_token_if limit (Keyword keyword.Signal) c (m.leave ∷ s) bs refl
      (after_skips (Keyword keyword.Signal)
      (record {
        no_end = refl;
        no_else = refl;
        no_when = refl;
        no_each = refl;
        no_close = refl;
        no_parallel = refl;
        no_semicolon = refl;
      }) s bs h) ∙ leave_over limit s bs
  run_unit limit (group t) s bs h r =
      open_part limit (m.statement ∷ m.one (Symbol symbol.CloseBracket) ∷ m.leave ∷ s) (Symbol symbol.OpenBracket)
      (g.statement_onto t (Symbol symbol.CloseBracket ∷ bs)) (omega (arith, r))
      ∙ run_statement limit t (m.one (Symbol symbol.CloseBracket) ∷ m.leave ∷ s) (Symbol symbol.CloseBracket ∷ bs) tt
      (omega (arith, r)) ∙ leave_over limit s bs

  run_branches : (limit : ℕ) (b : BranchesTree) (s : List Want) (bs : List Token) → AfterUnit s bs
      → g.branches_depth b + open_count s ≤ limit → m.run limit (m.branches ∷ s) (g.branches_onto b bs)
      ≡ m.run limit s bs
  run_branches limit (then_only t c) s bs h r =
      run_statement limit t (m.after_then ∷ s) (kw_end ∷ g.token_if c (Keyword keyword.Present) bs) (
        no_pair_if (Keyword keyword.Present) c s bs (refl, refl, refl) h,
        (m.may (Keyword keyword.Present) ∷ s, refl, λ b. refl),
      ) r
      ∙ run_token_if limit (Keyword keyword.Present) c s bs refl
      (after_skips (Keyword keyword.Present)
      (record {
        no_end = refl;
        no_else = refl;
        no_when = refl;
        no_each = refl;
        no_close = refl;
        no_parallel = refl;
        no_semicolon = refl;
      }) s bs h)
  run_branches limit (else_only t c) s bs h r =
      run_statement limit t (m.one kw_end ∷ m.may (Keyword keyword.Present) ∷ s)
      (kw_end ∷ g.token_if c (Keyword keyword.Present) bs) (
        no_pair_if (Keyword keyword.Present) c s bs (refl, refl, refl) h,
        (m.may (Keyword keyword.Present) ∷ s, refl, λ b. refl),
      ) r
      ∙ run_token_if limit (Keyword keyword.Present) c s bs refl
      (after_skips (Keyword keyword.Present)
      (record {
        no_end = refl;
        no_else = refl;
        no_when = refl;
        no_each = refl;
        no_close = refl;
        no_parallel = refl;
        no_semicolon = refl;
      }) s bs h)
  run_branches limit (both t e c) s bs h r =
      run_statement limit t (m.after_then ∷ s)
      (Keyword keyword.Else ∷ g.statement_onto e (kw_end ∷ g.token_if c (Keyword keyword.Present) bs)) tt
      (omega (arith, r))
      ∙ run_statement limit e (m.one kw_end ∷ m.may (Keyword keyword.Present) ∷ s)
      (kw_end ∷ g.token_if c (Keyword keyword.Present) bs) (
        no_pair_if (Keyword keyword.Present) c s bs (refl, refl, refl) h,
        (m.may (Keyword keyword.Present) ∷ s, refl, λ b. refl),
      ) (omega (arith, r))
      ∙ run_token_if limit (Keyword keyword.Present) c s bs refl
      (after_skips (Keyword keyword.Present)
      (record {
        no_end = refl;
        no_else = refl;
        no_when = refl;
        no_each = refl;
        no_close = refl;
        no_parallel = refl;
        no_semicolon = refl;
      }) s bs h)

  run_sequence : (limit : ℕ) (q : SequenceTree) (s : List Want) (bs : List Token) → AfterSequence s bs
      → g.sequence_depth q + open_count s ≤ limit → m.run limit (m.sequence ∷ s) (g.sequence_onto q bs)
      ≡ m.run limit s bs
  run_sequence limit (sequence u us c) s bs h r =
      sequence_is limit s (g.unit_onto u (g.units_onto us (g.token_if c (Symbol symbol.Semicolon) bs)))
      ∙ run_unit limit u (m.sequence_tail ∷ s) (g.units_onto us (g.token_if c (Symbol symbol.Semicolon) bs))
      (behind_units us c s bs h) (omega (arith, r))
      ∙ run_units limit us c s bs h (omega (arith, r))

  run_units : (limit : ℕ) (us : UnitsTree) (c : Bool) (s : List Want) (bs : List Token) → AfterSequence s bs
      → g.units_depth us + open_count s ≤ limit
      → m.run limit (m.sequence_tail ∷ s) (g.units_onto us (g.token_if c (Symbol symbol.Semicolon) bs))
      ≡ m.run limit s bs
  run_units limit no_units true s bs h r = semicolon_over limit s bs h
  run_units limit no_units false s bs h r = sequence_over limit s bs (sequence_skips s bs h)
  run_units limit (units u us) c s bs h r =
      unit_behind limit u s (g.units_onto us (g.token_if c (Symbol symbol.Semicolon) bs))
      ∙ run_unit limit u (m.sequence_tail ∷ s) (g.units_onto us (g.token_if c (Symbol symbol.Semicolon) bs))
      (behind_units us c s bs h) (omega (arith, r))
      ∙ run_units limit us c s bs h (omega (arith, r))

  pub run_statement : (limit : ℕ) (t : StatementTree) (s : List Want) (bs : List Token) → AfterStatement s bs
      → g.statement_depth t + open_count s ≤ limit → m.run limit (m.statement ∷ s) (g.statement_onto t bs)
      ≡ m.run limit s bs
  run_statement limit (statement q qs) s bs h r =
      statement_is limit s (g.sequence_onto q (g.sequences_onto qs bs))
      ∙ run_sequence limit q (m.statement_tail ∷ s) (g.sequences_onto qs bs) (behind_sequences qs s bs h)
      (omega (arith, r))
      ∙ run_sequences limit qs s bs h (omega (arith, r))

  run_sequences : (limit : ℕ) (qs : SequencesTree) (s : List Want) (bs : List Token) → AfterStatement s bs
      → g.sequences_depth qs + open_count s ≤ limit
      → m.run limit (m.statement_tail ∷ s) (g.sequences_onto qs bs) ≡ m.run limit s bs
  run_sequences limit no_sequences s bs h r = statement_over limit s bs (statement_skips s bs h)
  run_sequences limit (sequences q qs) s bs h r =
      run_sequence limit q (m.statement_tail ∷ s) (g.sequences_onto qs bs) (behind_sequences qs s bs h)
      (omega (arith, r))
      ∙ run_sequences limit qs s bs h (omega (arith, r))

-- ---- modules

run_members : (limit : ℕ) (ns : List (List ℕ)) (s : List Want) (bs : List Token) → Skips (Symbol symbol.Hash) bs
    → m.run limit (m.later_members ∷ s) (g.later_members_onto ns bs) ≡ m.run limit s bs
run_members limit [] s bs h = members_over limit s bs h
run_members limit (n ∷ ns) s bs h = run_members limit ns s bs h

run_relation : (limit : ℕ) (r : RelationTree) (s : List Want) (bs : List Token) → Skips (Symbol symbol.Hash) bs
    → m.run limit (m.relation ∷ s) (g.relation_onto r bs) ≡ m.run limit s bs
run_relation limit (excludes a b ns) s bs h = run_members limit ns s bs h
run_relation limit (implies a b) s bs h = refl

behind_relations : (rs : List RelationTree) (bs : List Token)
    → Skips (Symbol symbol.Hash) (g.later_relations_onto rs (Symbol symbol.Semicolon ∷ bs))
behind_relations [] bs = refl
behind_relations (r ∷ rs) bs = refl

run_relations : (limit : ℕ) (rs : List RelationTree) (s : List Want) (bs : List Token)
    → m.run limit (m.later_relations ∷ s) (g.later_relations_onto rs (Symbol symbol.Semicolon ∷ bs)) ≡ m.run limit s
    (Symbol symbol.Semicolon ∷ bs)
run_relations limit [] s bs = relations_over limit s (Symbol symbol.Semicolon ∷ bs) refl
run_relations limit (r ∷ rs) s bs =
    run_relation limit r (m.later_relations ∷ s) (g.later_relations_onto rs (Symbol symbol.Semicolon ∷ bs))
    (behind_relations rs bs) ∙ run_relations limit rs s bs

run_declaration : (limit : ℕ) (d : DeclarationTree) (s : List Want) (bs : List Token)
    → m.run limit (m.declarations ∷ s) (g.declaration_onto d bs) ≡ m.run limit (m.declarations ∷ s) bs
run_declaration limit (input ns) s bs =
    run_names limit ns.later (m.one (Symbol symbol.Semicolon) ∷ m.declarations ∷ s) (Symbol symbol.Semicolon ∷ bs) refl
run_declaration limit (output ns) s bs =
    run_names limit ns.later (m.one (Symbol symbol.Semicolon) ∷ m.declarations ∷ s) (Symbol symbol.Semicolon ∷ bs) refl
run_declaration limit (inputoutput ns) s bs =
    run_names limit ns.later (m.one (Symbol symbol.Semicolon) ∷ m.declarations ∷ s) (Symbol symbol.Semicolon ∷ bs) refl
run_declaration limit (relations r rs) s bs =
    run_relation limit r (m.later_relations ∷ m.one (Symbol symbol.Semicolon) ∷ m.declarations ∷ s)
    (g.later_relations_onto rs (Symbol symbol.Semicolon ∷ bs)) (behind_relations rs bs)
    ∙ run_relations limit rs (m.one (Symbol symbol.Semicolon) ∷ m.declarations ∷ s) bs

no_more_declarations : (limit : ℕ) (t : StatementTree) (s : List Want) (bs : List Token)
    → m.run limit (m.declarations ∷ m.statement ∷ s) (g.statement_onto t bs) ≡ m.run limit (m.statement ∷ s)
    (g.statement_onto t bs)
no_more_declarations limit (statement (sequence u us c) qs) s bs =
    no_declaration limit u s (g.units_onto us (g.token_if c (Symbol symbol.Semicolon) (g.sequences_onto qs bs)))

run_declarations : (limit : ℕ) (ds : List DeclarationTree) (t : StatementTree) (s : List Want) (bs : List Token)
    → m.run limit (m.declarations ∷ m.statement ∷ s) (g.declarations_onto ds (g.statement_onto t bs)) ≡ m.run limit
    (m.statement ∷ s) (g.statement_onto t bs)
run_declarations limit [] t s bs = no_more_declarations limit t s bs
run_declarations limit (d ∷ ds) t s bs = run_declaration limit d (m.statement ∷ s)
    (g.declarations_onto ds (g.statement_onto t bs)) ∙ run_declarations limit ds t s bs

run_module : (limit : ℕ) (p : ModuleTree) (s : List Want) (bs : List Token)
    → g.statement_depth p.body + open_count s ≤ limit
    → m.run limit (m.modules ∷ s) (g.module_onto p bs) ≡ m.run limit (m.modules ∷ s) bs
run_module limit p s bs r =
    run_declarations limit p.declarations p.body (m.one kw_end ∷ m.one (Keyword keyword.Module) ∷ m.modules ∷ s)
    (kw_end ∷ Keyword keyword.Module ∷ bs)
    ∙ run_statement limit p.body (m.one kw_end ∷ m.one (Keyword keyword.Module) ∷ m.modules ∷ s)
    (kw_end ∷ Keyword keyword.Module ∷ bs) (
      (refl, refl, refl),
      (m.one (Keyword keyword.Module) ∷ m.modules ∷ s, refl, λ b. refl),
    ) r

run_modules : (limit : ℕ) (ps : List ModuleTree) → g.modules_depth ps ≤ limit
    → m.run limit (m.modules ∷ []) (g.modules_onto ps []) ≡ right
run_modules limit [] r = refl
run_modules limit (p ∷ ps) r =
    run_module limit p [] (g.modules_onto ps []) (omega (arith, r)) ∙ run_modules limit ps (omega (arith, r))

-- each library's spelling is taken whole, where there is room for it
pub run_library : (limit : ℕ) (l : LibraryTree) → g.library_depth l ≤ limit
    → m.run limit (m.library ∷ []) (g.spelling l) ≡ right
run_library limit l r =
    run_module limit l.first [] (g.modules_onto l.later []) (omega (arith, r))
    ∙ run_modules limit l.later (omega (arith, r))
