-- How a unit of which a part has been taken can go on.
use Rattle.std.proofs.Common.{◌≡◌, ◌∙◌, ℕ, ◌+◌, ◌≤◌, suc, List, [], ◌∷◌, ◌++◌, Bool, true, false, refl, sym, ap, subst}
use Rattle.std.proofs.Common.{◌⊎◌, inl, inr, arith}
use denote.Enum.Bare.{same_true}
use Rattle.est_text.specs.contracts.keyword.Keyword.{the_type as keyword_type}
use Rattle.est_text.specs.contracts.token.Symbol.{the_type as symbol_type}
use Rattle.est_text.specs.declared.token.Token.{Token}
use Rattle.est_text.specs.declared.token.Token.TheVariants.{Keyword, Identifier, Symbol}
use Rattle.est_text.specs.declared.keyword.Keyword.TheVariants as keyword
use Rattle.est_text.specs.declared.token.Symbol.TheVariants as symbol
use Rattle.est_syntax.specs.Tree.{LiteralTree, named, negated, enclosed, ConjunctionTree, conjunction, LiteralsTree}
use Rattle.est_syntax.specs.Tree.{no_literals, ExpressionTree, expression, ConjunctionsTree, no_conjunctions, TestTree}
use Rattle.est_syntax.specs.Tree.{bare, DelayTree, RenamingTree, WeakEndTree, left_out, UnitTree, nothing, pause, halt}
use Rattle.est_syntax.specs.Tree.{emit, sustain, exit, await, present, suspend, abort, weak_abort, repeat, repeat_each}
use Rattle.est_syntax.specs.Tree.{every, trap, signal, run, group, BranchesTree, then_only, SequenceTree, sequence}
use Rattle.est_syntax.specs.Tree.{UnitsTree, no_units, StatementTree, statement, SequencesTree, no_sequences}
use Rattle.est_syntax.specs.Tree.{RelationTree, implies, DeclarationTree, ModuleTree}
use Rattle.est_syntax.specs.Grammar as g
use Rattle.est_syntax.specs.Inner.Machine as m
use Rattle.est_syntax.specs.Inner.Machine.{Want, Step, refused, to, opens, same, step, literal_start, unit_start}
use Rattle.est_syntax.specs.Inner.Machine.{open_count, kw_end}

-- the text is what is wanted, and then the rest, with k units open around it
abbrev pub Spells : ℕ → ℕ → Want → List Token → List Token → Type 0
Spells limit k (m.one t) bs rest = bs ≡ t ∷ rest
Spells limit k (m.may t) bs rest = (c : Bool) × (bs ≡ g.token_if c t rest)
Spells limit k m.name bs rest = (n : List ℕ) × (bs ≡ Identifier n ∷ rest)
Spells limit k m.later_names bs rest = (ns : List (List ℕ)) × (bs ≡ g.later_names_onto ns rest)
Spells limit k m.later_members bs rest = (ns : List (List ℕ)) × (bs ≡ g.later_members_onto ns rest)
Spells limit k m.relation bs rest = (r : RelationTree) × (bs ≡ g.relation_onto r rest)
Spells limit k m.relation_tail bs rest =
    (((n : List ℕ) × (ns : List (List ℕ)) × (bs ≡ Symbol symbol.Hash ∷ Identifier n ∷ g.later_members_onto ns rest))
    ⊎ ((n : List ℕ) × (bs ≡ Symbol symbol.Implies ∷ Identifier n ∷ rest)))
Spells limit k m.later_relations bs rest = (rs : List RelationTree) × (bs ≡ g.later_relations_onto rs rest)
Spells limit k m.declarations bs rest = (ds : List DeclarationTree) × (bs ≡ g.declarations_onto ds rest)
Spells limit k m.renamings bs rest = (rs : List RenamingTree) × (bs ≡ g.renamings_onto rs rest)
Spells limit k m.later_renamings bs rest = (rs : List RenamingTree) × (bs ≡ g.later_renamings_onto rs rest)
Spells limit k m.test bs rest = (t : TestTree) × (g.test_depth t + k ≤ limit) × (bs ≡ g.test_onto t rest)
Spells limit k m.expression bs rest =
    (e : ExpressionTree) × (g.expression_depth e + k ≤ limit) × (bs ≡ g.expression_onto e rest)
Spells limit k m.expression_tail bs rest =
    (cs : ConjunctionsTree) × (g.conjunctions_depth cs + k ≤ limit) × (bs ≡ g.conjunctions_onto cs rest)
Spells limit k m.conjunction bs rest =
    (c : ConjunctionTree) × (g.conjunction_depth c + k ≤ limit) × (bs ≡ g.conjunction_onto c rest)
Spells limit k m.conjunction_tail bs rest =
    (ls : LiteralsTree) × (g.literals_depth ls + k ≤ limit) × (bs ≡ g.literals_onto ls rest)
Spells limit k m.literal bs rest = (l : LiteralTree) × (g.literal_depth l + k ≤ limit) × (bs ≡ g.literal_onto l rest)
Spells limit k m.unit bs rest = (u : UnitTree) × (g.unit_depth u + k ≤ limit) × (bs ≡ g.unit_onto u rest)
Spells limit k m.sequence bs rest = (q : SequenceTree) × (g.sequence_depth q + k ≤ limit)
    × (bs ≡ g.sequence_onto q rest)
Spells limit k m.sequence_tail bs rest = (us : UnitsTree) × (c : Bool) × (g.units_depth us + k ≤ limit)
    × (bs ≡ g.units_onto us (g.token_if c (Symbol symbol.Semicolon) rest))
Spells limit k m.after_semicolon bs rest =
    ((bs ≡ rest) ⊎ ((q : SequenceTree) × (g.sequence_depth q + k ≤ limit) × (bs ≡ g.sequence_onto q rest)))
Spells limit k m.statement bs rest = (t : StatementTree) × (g.statement_depth t + k ≤ limit)
    × (bs ≡ g.statement_onto t rest)
Spells limit k m.statement_tail bs rest =
    (qs : SequencesTree) × (g.sequences_depth qs + k ≤ limit) × (bs ≡ g.sequences_onto qs rest)
Spells limit k m.branches bs rest = (b : BranchesTree) × (g.branches_depth b + k ≤ limit)
    × (bs ≡ g.branches_onto b rest)
Spells limit k m.after_then bs rest =
    (((c : Bool) × (bs ≡ kw_end ∷ g.token_if c (Keyword keyword.Present) rest))
    ⊎ ((e : StatementTree) × (c : Bool) × (g.statement_depth e + k ≤ limit)
    × (bs ≡ Keyword keyword.Else ∷ g.statement_onto e (kw_end ∷ g.token_if c (Keyword keyword.Present) rest))))
Spells limit k m.loop_tail bs rest =
    (((c : Bool) × (bs ≡ kw_end ∷ g.token_if c (Keyword keyword.Loop) rest))
    ⊎ ((t : TestTree) × (g.test_depth t + k ≤ limit) × (bs ≡ Keyword keyword.Each ∷ g.test_onto t rest)))
Spells limit k (m.may_end t) bs rest = (c : Bool) × (bs ≡ g.end_if c t rest)
Spells limit k (m.ended t) bs rest = ((bs ≡ t ∷ rest) ⊎ (rest ≡ kw_end ∷ bs))
Spells limit k m.may_end_weak bs rest = (c : WeakEndTree) × (bs ≡ g.weak_end_onto c rest)
Spells limit k m.ended_weak bs rest =
    (((c : Bool) × (bs ≡ g.token_if c (Keyword keyword.Weak) (Keyword keyword.Abort ∷ rest))) ⊎ (rest ≡ kw_end ∷ bs))
Spells limit k m.leave bs rest = bs ≡ rest
Spells limit k m.modules bs rest = (ps : List ModuleTree) × (g.modules_depth ps + k ≤ limit)
    × (bs ≡ g.modules_onto ps rest)
Spells limit k m.library bs rest = (p : ModuleTree) × (ps : List ModuleTree) × (g.statement_depth p.body + k ≤ limit)
    × (g.modules_depth ps + k ≤ limit) × (bs ≡ g.module_onto p (g.modules_onto ps rest))

-- all that is wanted, one after another
abbrev pub All : ℕ → List Want → List Token → Type 0
All limit [] bs = bs ≡ []
All limit (w ∷ s) bs = (rest : List Token) × Spells limit (open_count s) w bs rest × All limit s rest

-- ---- something can always follow

a_conjunction : ConjunctionTree
a_conjunction = conjunction (named []) no_literals

an_expression : ExpressionTree
an_expression = expression (conjunction (named []) no_literals) no_conjunctions

a_statement : StatementTree
a_statement = statement (sequence pause no_units false) no_sequences

a_module : ModuleTree
a_module = record { name = []; declarations = []; body = a_statement }

finish_one : (limit k : ℕ) → k ≤ limit → (w : Want) (rest : List Token) → (bs : List Token) × Spells limit k w bs rest
unfolding a_conjunction an_expression a_statement a_module
finish_one limit k h (m.one t) rest = (t ∷ rest, refl)
finish_one limit k h (m.may t) rest = (rest, (false, refl))
finish_one limit k h m.name rest = (Identifier [] ∷ rest, ([], refl))
finish_one limit k h m.later_names rest = (rest, ([], refl))
finish_one limit k h m.later_members rest = (rest, ([], refl))
finish_one limit k h m.relation rest = (g.relation_onto (implies [] []) rest, (implies [] [], refl))
finish_one limit k h m.relation_tail rest = (Symbol symbol.Implies ∷ Identifier [] ∷ rest, inr ([], refl))
finish_one limit k h m.later_relations rest = (rest, ([], refl))
finish_one limit k h m.declarations rest = (rest, ([], refl))
finish_one limit k h m.renamings rest = (rest, ([], refl))
finish_one limit k h m.later_renamings rest = (rest, ([], refl))
finish_one limit k h m.test rest = (Identifier [] ∷ rest, (bare an_expression, omega (arith, h), refl))
finish_one limit k h m.expression rest = (Identifier [] ∷ rest, (an_expression, omega (arith, h), refl))
finish_one limit k h m.expression_tail rest = (rest, (no_conjunctions, omega (arith, h), refl))
finish_one limit k h m.conjunction rest = (Identifier [] ∷ rest, (a_conjunction, omega (arith, h), refl))
finish_one limit k h m.conjunction_tail rest = (rest, (no_literals, omega (arith, h), refl))
finish_one limit k h m.literal rest = (Identifier [] ∷ rest, (named [], omega (arith, h), refl))
finish_one limit k h m.unit rest = (Keyword keyword.Pause ∷ rest, (pause, omega (arith, h), refl))
finish_one limit k h m.sequence rest =
    (Keyword keyword.Pause ∷ rest, (sequence pause no_units false, omega (arith, h), refl))
finish_one limit k h m.sequence_tail rest = (rest, (no_units, false, omega (arith, h), refl))
finish_one limit k h m.after_semicolon rest = (rest, inl refl)
finish_one limit k h m.statement rest = (g.statement_onto a_statement rest, (a_statement, omega (arith, h), refl))
finish_one limit k h m.statement_tail rest = (rest, (no_sequences, omega (arith, h), refl))
finish_one limit k h m.branches rest =
    (g.branches_onto (then_only a_statement false) rest, (then_only a_statement false, omega (arith, h), refl))
finish_one limit k h m.after_then rest = (kw_end ∷ rest, inl (false, refl))
finish_one limit k h m.loop_tail rest = (kw_end ∷ rest, inl (false, refl))
finish_one limit k h (m.may_end t) rest = (rest, (false, refl))
finish_one limit k h (m.ended t) rest = (t ∷ rest, inl refl)
finish_one limit k h m.may_end_weak rest = (rest, (left_out, refl))
finish_one limit k h m.ended_weak rest = (Keyword keyword.Abort ∷ rest, inl (false, refl))
finish_one limit k h m.leave rest = (rest, refl)
finish_one limit k h m.modules rest = (rest, ([], omega (arith, h), refl))
finish_one limit k h m.library rest =
    (g.module_onto a_module rest, (a_module, [], omega (arith, h), omega (arith, h), refl))

pub fewer : (w : Want) (s : List Want) → open_count s ≤ open_count (w ∷ s)
fewer (m.one t) s = omega arith
fewer (m.may t) s = omega arith
fewer m.name s = omega arith
fewer m.later_names s = omega arith
fewer m.later_members s = omega arith
fewer m.relation s = omega arith
fewer m.relation_tail s = omega arith
fewer m.later_relations s = omega arith
fewer m.declarations s = omega arith
fewer m.renamings s = omega arith
fewer m.later_renamings s = omega arith
fewer m.test s = omega arith
fewer m.expression s = omega arith
fewer m.expression_tail s = omega arith
fewer m.conjunction s = omega arith
fewer m.conjunction_tail s = omega arith
fewer m.literal s = omega arith
fewer m.unit s = omega arith
fewer m.sequence s = omega arith
fewer m.sequence_tail s = omega arith
fewer m.after_semicolon s = omega arith
fewer m.statement s = omega arith
fewer m.statement_tail s = omega arith
fewer m.branches s = omega arith
fewer m.after_then s = omega arith
fewer m.loop_tail s = omega arith
fewer (m.may_end t) s = omega arith
fewer (m.ended t) s = omega arith
fewer m.may_end_weak s = omega arith
fewer m.ended_weak s = omega arith
fewer m.leave s = omega arith
fewer m.modules s = omega arith
fewer m.library s = omega arith

pub finish : (limit : ℕ) (s : List Want) → open_count s ≤ limit → (bs : List Token) × All limit s bs
finish limit [] h = ([], refl)
finish limit (w ∷ s) h =
    let r : open_count s ≤ limit = omega (arith, h, fewer w s) in
    let f = finish limit s r in
    let e = finish_one limit (open_count s) r w f.0 in
    (e.0, (f.0, e.1, f.1))

-- ---- a step back

pub same_is : (t b : Token) → same t b ≡ true → b ≡ t
same_is (Keyword k) (Keyword l) e = ap Keyword (sym (same_true keyword_type tt k l e))
same_is (Keyword k) (Identifier n) e = cc
same_is (Keyword k) (Symbol l) e = cc
same_is (Symbol k) (Symbol l) e = ap Symbol (sym (same_true symbol_type tt k l e))
same_is (Symbol k) (Identifier n) e = cc
same_is (Symbol k) (Keyword l) e = cc
same_is (Identifier n) b e = cc

-- a literal stands first
pub record LiteralFirst (limit : ℕ) (s : List Want) (bs : List Token) : Type 0 where
  pub tree : LiteralTree
  pub rest : List Token
  pub fits : g.literal_depth tree + open_count s ≤ limit
  pub text : bs ≡ g.literal_onto tree rest
  pub later : All limit s rest

-- what is wanted after a literal's first token makes a literal with it
abbrev pub LiteralBack : ℕ → Token → Step → Type 0
LiteralBack limit b refused = Unit {0}
LiteralBack limit b (to ws) = ((s : List Want) → open_count (ws ++ s) ≤ open_count s)
    × ((s : List Want) (bs : List Token) → open_count s ≤ limit → All limit (ws ++ s) bs
    → LiteralFirst limit s (b ∷ bs))
LiteralBack limit b (opens ws) =
    (s : List Want) (bs : List Token) → open_count s ≤ limit → All limit (ws ++ s) bs → LiteralFirst limit s (b ∷ bs)

pub literal_back : (limit : ℕ) (b : Token) → LiteralBack limit b (literal_start b)
literal_back limit (Identifier n) = (
  (λ s. omega arith),
  λ s bs r h. record { tree = named n; rest = bs; fits = omega (arith, r); text = refl; later = h },
)
literal_back limit (Keyword keyword.Not) = λ s bs r h.
    let a = h.2 in
    record {
      tree = negated h.1.0;
      rest = a.0;
      fits = omega (arith, h.1.1);
      text = ap (λ (l : List Token). Keyword keyword.Not ∷ l)
          (h.1.2 ∙ ap (λ (l : List Token). g.literal_onto h.1.0 l) a.1);
      later = a.2;
    }
literal_back limit (Symbol symbol.OpenParenthesis) = λ s bs r h.
    let a = h.2 in
    let b = a.2 in
    record {
      tree = enclosed h.1.0;
      rest = b.0;
      fits = omega (arith, h.1.1);
      text = ap (λ (l : List Token). Symbol symbol.OpenParenthesis ∷ l)
          (h.1.2 ∙ ap (λ (l : List Token). g.expression_onto h.1.0 l)
          (a.1 ∙ ap (λ (l : List Token). Symbol symbol.CloseParenthesis ∷ l) b.1));
      later = b.2;
    }
literal_back limit _ = tt

-- `immediate`? test
delay_from : (bs r1 r2 : List Token) (c : Bool) (t : TestTree) → bs ≡ g.token_if c (Keyword keyword.Immediate) r1
    → r1 ≡ g.test_onto t r2 → bs ≡ g.delay_onto (record { immediate = c; test = t }) r2
delay_from bs r1 r2 c t e f = e ∙ ap (λ (l : List Token). g.token_if c (Keyword keyword.Immediate) l) f

-- the test after the body of a unit, with its end
pub record Delayed (limit k : ℕ) (w : Want) (s : List Want) (bs : List Token) : Type 0 where
  pub delay : DelayTree
  pub inner : List Token
  pub rest : List Token
  pub fits : g.delay_depth delay + k ≤ limit
  pub text : bs ≡ Keyword keyword.When ∷ g.delay_onto delay inner
  pub end : Spells limit k w inner rest
  pub later : All limit s rest

delayed : (limit : ℕ) (w : Want) (s : List Want) (bs : List Token)
    → All limit (m.one (Keyword keyword.When) ∷ m.may (Keyword keyword.Immediate) ∷ m.test ∷ w ∷ m.leave ∷ s) bs
    → Delayed limit (suc (open_count s)) w s bs
delayed limit w s bs h =
    let a = h.2 in
    let b = a.2 in
    let d = b.2 in
    let e = d.2 in
    record {
      delay = record { immediate = a.1.0; test = b.1.0 };
      inner = b.0;
      rest = e.0;
      fits = omega (arith, b.1.1, fewer w (m.leave ∷ s));
      text = h.1 ∙ ap (λ (l : List Token). Keyword keyword.When ∷ l) (delay_from h.0 a.0 b.0 a.1.0 b.1.0 a.1.1 b.1.2);
      end = subst (Spells limit (suc (open_count s)) w b.0) e.1 d.1;
      later = e.2;
    }

-- the body of a unit with its own end
pub record Framed (limit k : ℕ) (word : Token) (s : List Want) (bs : List Token) : Type 0 where
  pub body : StatementTree
  pub again : Bool
  pub rest : List Token
  pub fits : g.statement_depth body + suc k ≤ limit
  pub text : bs ≡ g.statement_onto body (kw_end ∷ g.token_if again word rest)
  pub later : All limit s rest

framed : (limit : ℕ) (word : Token) (s : List Want) (bs : List Token)
    → All limit (m.statement ∷ m.one kw_end ∷ m.may word ∷ m.leave ∷ s) bs → Framed limit (open_count s) word s bs
framed limit word s bs h =
    let a = h.2 in
    let b = a.2 in
    let d = b.2 in
    record {
      body = h.1.0;
      again = b.1.0;
      rest = d.0;
      fits = h.1.1;
      text = h.1.2 ∙ ap (λ (l : List Token). g.statement_onto h.1.0 l)
          (a.1 ∙ ap (λ (l : List Token). kw_end ∷ l) (b.1.1 ∙ ap (λ (l : List Token). g.token_if b.1.0 word l) d.1));
      later = d.2;
    }

-- a unit stands first
pub record UnitFirst (limit : ℕ) (s : List Want) (bs : List Token) : Type 0 where
  pub tree : UnitTree
  pub rest : List Token
  pub fits : g.unit_depth tree + open_count s ≤ limit
  pub text : bs ≡ g.unit_onto tree rest
  pub later : All limit s rest

-- what is wanted after a unit's first token makes a unit with it
abbrev pub UnitBack : ℕ → Token → Step → Type 0
UnitBack limit b refused = Unit {0}
UnitBack limit b (to ws) = ((s : List Want) → open_count (ws ++ s) ≤ open_count s)
    × ((s : List Want) (bs : List Token) → open_count s ≤ limit → All limit (ws ++ s) bs → UnitFirst limit s (b ∷ bs))
UnitBack limit b (opens ws) =
    (s : List Want) (bs : List Token) → open_count s ≤ limit → All limit (ws ++ s) bs → UnitFirst limit s (b ∷ bs)

loop_end : (limit : ℕ) (s : List Want) (t : StatementTree) (bs r1 r2 r3 : List Token)
    → g.statement_depth t + suc (open_count s) ≤ limit → bs ≡ g.statement_onto t r1
    → Spells limit (suc (open_count s)) m.loop_tail r1 r2 → r2 ≡ r3 → All limit s r3
    → UnitFirst limit s (Keyword keyword.Loop ∷ bs)
loop_end limit s t bs r1 r2 r3 d e (inl p) f h = record {
  tree = repeat t p.0;
  rest = r3;
  fits = omega (arith, d);
  text = ap (λ (l : List Token). Keyword keyword.Loop ∷ l)
      (e ∙ ap (λ (l : List Token). g.statement_onto t l)
      (p.1 ∙ ap (λ (l : List Token). kw_end ∷ g.token_if p.0 (Keyword keyword.Loop) l) f));
  later = h;
}
loop_end limit s t bs r1 r2 r3 d e (inr p) f h = record {
  tree = repeat_each t p.0;
  rest = r3;
  fits = omega (arith, d, p.1);
  text = ap (λ (l : List Token). Keyword keyword.Loop ∷ l)
      (e ∙ ap (λ (l : List Token). g.statement_onto t l)
      (p.2 ∙ ap (λ (l : List Token). Keyword keyword.Each ∷ g.test_onto p.0 l) f));
  later = h;
}

loop_back : (limit : ℕ) (s : List Want) (bs : List Token) → All limit (m.statement ∷ m.loop_tail ∷ m.leave ∷ s) bs
    → UnitFirst limit s (Keyword keyword.Loop ∷ bs)
loop_back limit s bs h =
    let a = h.2 in
    let b = a.2 in
    loop_end limit s h.1.0 bs h.0 a.0 b.0 h.1.1 h.1.2 a.1 b.1 b.2

pub unit_back : (limit : ℕ) (b : Token) → UnitBack limit b (unit_start b)
unit_back limit (Keyword keyword.Nothing) = (
  (λ s. omega arith),
  λ s bs r h. record { tree = nothing; rest = bs; fits = omega (arith, r); text = refl; later = h },
)
unit_back limit (Keyword keyword.Pause) = (
  (λ s. omega arith),
  λ s bs r h. record { tree = pause; rest = bs; fits = omega (arith, r); text = refl; later = h },
)
unit_back limit (Keyword keyword.Halt) =
    ((λ s. omega arith), λ s bs r h. record { tree = halt; rest = bs; fits = omega (arith, r); text = refl; later = h })
unit_back limit (Keyword keyword.Emit) = (
  (λ s. omega arith),
  λ s bs r h. record {
    tree = emit h.1.0;
    rest = h.0;
    fits = omega (arith, r);
    text = ap (λ (l : List Token). Keyword keyword.Emit ∷ l) h.1.1;
    later = h.2;
  },
)
unit_back limit (Keyword keyword.Sustain) = (
  (λ s. omega arith),
  λ s bs r h. record {
    tree = sustain h.1.0;
    rest = h.0;
    fits = omega (arith, r);
    text = ap (λ (l : List Token). Keyword keyword.Sustain ∷ l) h.1.1;
    later = h.2;
  },
)
unit_back limit (Keyword keyword.Exit) = (
  (λ s. omega arith),
  λ s bs r h. record {
    tree = exit h.1.0;
    rest = h.0;
    fits = omega (arith, r);
    text = ap (λ (l : List Token). Keyword keyword.Exit ∷ l) h.1.1;
    later = h.2;
  },
)
unit_back limit (Keyword keyword.Await) = (
  (λ s. omega arith),
  λ s bs r h.
      let a = h.2 in
      record {
        tree = await (record { immediate = h.1.0; test = a.1.0 });
        rest = a.0;
        fits = omega (arith, a.1.1);
        text = ap (λ (l : List Token). Keyword keyword.Await ∷ l) (delay_from bs h.0 a.0 h.1.0 a.1.0 h.1.1 a.1.2);
        later = a.2;
      },
)
unit_back limit (Keyword keyword.Run) = (
  (λ s. omega arith),
  λ s bs r h.
      let a = h.2 in
      record {
        tree = run h.1.0 a.1.0;
        rest = a.0;
        fits = omega (arith, r);
        text = ap (λ (l : List Token). Keyword keyword.Run ∷ l)
            (h.1.1 ∙ ap (λ (l : List Token). Identifier h.1.0 ∷ l) a.1.1);
        later = a.2;
      },
)
unit_back limit (Keyword keyword.Present) = λ s bs r h.
    let a = h.2 in
    let b = a.2 in
    record {
      tree = present h.1.0 a.1.0;
      rest = b.0;
      fits = omega (arith, h.1.1, a.1.1);
      text = ap (λ (l : List Token). Keyword keyword.Present ∷ l)
          (h.1.2 ∙ ap (λ (l : List Token). g.test_onto h.1.0 l)
          (a.1.2 ∙ ap (λ (l : List Token). g.branches_onto a.1.0 l) b.1));
      later = b.2;
    }
unit_back limit (Keyword keyword.Suspend) = λ s bs r h.
    let d = delayed limit (m.may_end (Keyword keyword.Suspend)) s h.0 h.2 in
    record {
      tree = suspend h.1.0 d.delay d.end.0;
      rest = d.rest;
      fits = omega (arith, h.1.1, d.fits);
      text = ap (λ (l : List Token). Keyword keyword.Suspend ∷ l)
          (h.1.2 ∙ ap (λ (l : List Token). g.statement_onto h.1.0 l)
          (d.text ∙ ap (λ (l : List Token). Keyword keyword.When ∷ g.delay_onto d.delay l) d.end.1));
      later = d.later;
    }
unit_back limit (Keyword keyword.Abort) = λ s bs r h.
    let d = delayed limit (m.may_end (Keyword keyword.Abort)) s h.0 h.2 in
    record {
      tree = abort h.1.0 d.delay d.end.0;
      rest = d.rest;
      fits = omega (arith, h.1.1, d.fits);
      text = ap (λ (l : List Token). Keyword keyword.Abort ∷ l)
          (h.1.2 ∙ ap (λ (l : List Token). g.statement_onto h.1.0 l)
          (d.text ∙ ap (λ (l : List Token). Keyword keyword.When ∷ g.delay_onto d.delay l) d.end.1));
      later = d.later;
    }
unit_back limit (Keyword keyword.Weak) = λ s bs r h.
    let a = h.2 in
    let d = delayed limit m.may_end_weak s a.0 a.2 in
    record {
      tree = weak_abort a.1.0 d.delay d.end.0;
      rest = d.rest;
      fits = omega (arith, a.1.1, d.fits);
      text = ap (λ (l : List Token). Keyword keyword.Weak ∷ l)
          (h.1 ∙ ap (λ (l : List Token). Keyword keyword.Abort ∷ l)
          (a.1.2 ∙ ap (λ (l : List Token). g.statement_onto a.1.0 l)
          (d.text ∙ ap (λ (l : List Token). Keyword keyword.When ∷ g.delay_onto d.delay l) d.end.1)));
      later = d.later;
    }
unit_back limit (Keyword keyword.Loop) = λ s bs r h. loop_back limit s bs h
unit_back limit (Keyword keyword.Every) = λ s bs r h.
    let a = h.2 in
    let b = a.2 in
    let f = framed limit (Keyword keyword.Every) s b.0 b.2 in
    record {
      tree = every (record { immediate = h.1.0; test = a.1.0 }) f.body f.again;
      rest = f.rest;
      fits = omega (arith, a.1.1, f.fits);
      text = ap (λ (l : List Token). Keyword keyword.Every ∷ l)
          (delay_from bs h.0 a.0 h.1.0 a.1.0 h.1.1 a.1.2
          ∙ ap (λ (l : List Token). g.delay_onto (record { immediate = h.1.0; test = a.1.0 }) l)
          (b.1 ∙ ap (λ (l : List Token). Keyword keyword.Do ∷ l) f.text));
      later = f.later;
    }
unit_back limit (Keyword keyword.Trap) = λ s bs r h.
    let a = h.2 in
    let f = framed limit (Keyword keyword.Trap) s a.0 a.2 in
    record {
      tree = trap h.1.0 f.body f.again;
      rest = f.rest;
      fits = omega (arith, f.fits);
      text = ap (λ (l : List Token). Keyword keyword.Trap ∷ l)
          (h.1.1 ∙ ap (λ (l : List Token). Identifier h.1.0 ∷ l)
          (a.1 ∙ ap (λ (l : List Token). Keyword keyword.In ∷ l) f.text));
      later = f.later;
    }
unit_back limit (Keyword keyword.Signal) = λ s bs r h.
    let a = h.2 in
    let b = a.2 in
    let f = framed limit (Keyword keyword.Signal) s b.0 b.2 in
    record {
      tree = signal (record { first = h.1.0; later = a.1.0 }) f.body f.again;
      rest = f.rest;
      fits = omega (arith, f.fits);
      text = ap (λ (l : List Token). Keyword keyword.Signal ∷ l)
          (h.1.1 ∙ ap (λ (l : List Token). Identifier h.1.0 ∷ l)
          (a.1.1 ∙ ap (λ (l : List Token). g.later_names_onto a.1.0 l)
          (b.1 ∙ ap (λ (l : List Token). Keyword keyword.In ∷ l) f.text)));
      later = f.later;
    }
unit_back limit (Symbol symbol.OpenBracket) = λ s bs r h.
    let a = h.2 in
    let b = a.2 in
    record {
      tree = group h.1.0;
      rest = b.0;
      fits = omega (arith, h.1.1);
      text = ap (λ (l : List Token). Symbol symbol.OpenBracket ∷ l)
          (h.1.2 ∙ ap (λ (l : List Token). g.statement_onto h.1.0 l)
          (a.1 ∙ ap (λ (l : List Token). Symbol symbol.CloseBracket ∷ l) b.1));
      later = b.2;
    }
unit_back limit _ = tt
