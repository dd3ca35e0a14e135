-- What the machine has taken so far begins a library.
use Rattle.std.proofs.Common.{◌≡◌, ◌∙◌, ℕ, ◌+◌, ◌≤◌, List, [], ◌∷◌, ◌++◌, Bool, true, false, if◌then◌else◌, refl, sym}
use Rattle.std.proofs.Common.{ap, subst, inl, inr, arith}
use Rattle.est_text.specs.declared.token.Token.{Token}
use Rattle.est_text.specs.declared.token.Token.TheVariants.{Keyword, Identifier, Symbol}
use Rattle.est_text.specs.declared.keyword.Keyword.TheVariants as keyword
use Rattle.est_text.specs.declared.token.Symbol.TheVariants as symbol
use Rattle.est_syntax.specs.Tree.{conjunction, no_literals, literals, expression, no_conjunctions, conjunctions, bare}
use Rattle.est_syntax.specs.Tree.{bracketed, WeakEndTree, left_out, end_abort, end_weak_abort, then_only, else_only}
use Rattle.est_syntax.specs.Tree.{both, SequenceTree, sequence, no_units, units, StatementTree, statement, no_sequences}
use Rattle.est_syntax.specs.Tree.{sequences, excludes, implies, input, output, inputoutput, relations, ModuleTree}
use Rattle.est_syntax.specs.Grammar as g
use Rattle.est_syntax.specs.Inner.Machine as m
use Rattle.est_syntax.specs.Inner.Machine.{Want, Step, refused, to, opens, same, step, step_after_end, literal_start}
use Rattle.est_syntax.specs.Inner.Machine.{unit_start, followed, unit_or, open_count, kw_end, module_wants}
use Rattle.est_syntax.proofs.UnitPrefixes.{Spells, All, fewer, same_is, LiteralFirst, LiteralBack, literal_back}
use Rattle.est_syntax.proofs.UnitPrefixes.{UnitFirst, UnitBack, unit_back}

-- what is wanted after the token is, with the tokens before it, what was wanted before them
abbrev pub Back : ℕ → List Want → List Token → Step → Type 0
Back limit s pre refused = Unit {0}
Back limit s pre (to t) =
    (open_count t ≤ open_count s) × ((bs : List Token) → open_count s ≤ limit → All limit t bs
    → All limit s (pre ++ bs))
Back limit s pre (opens t) = (bs : List Token) → open_count s ≤ limit → All limit t bs → All limit s (pre ++ bs)

back_if : (limit : ℕ) (s : List Want) (pre : List Token) (x : Bool) (o p : Step) → (x ≡ true → Back limit s pre o)
    → Back limit s pre p → Back limit s pre (if x then o else p)
back_if limit s pre true o p h k = h refl
back_if limit s pre false o p h k = k

-- a want that is spelt by the tokens read so far, and then by those that are read for what is wanted after it
along : (limit : ℕ) (w : Want) (s : List Want) (all pre : List Token) (o : Step)
    → ((bs : List Token) → Spells limit (open_count s) w (all ++ bs) (pre ++ bs)) → Back limit s pre o
    → Back limit (w ∷ s) all o
along limit w s all pre refused f k = tt
along limit w s all pre (to t) f k =
    (omega (arith, k.0, fewer w s), λ bs r h. (pre ++ bs, f bs, k.1 bs (omega (arith, r, fewer w s)) h))
along limit w s all pre (opens t) f k = λ bs r h. (pre ++ bs, f bs, k bs (omega (arith, r, fewer w s)) h)

-- the same where the first token alone is read
first_is : (t b : Token) (bs : List Token) → same t b ≡ true → b ∷ bs ≡ t ∷ bs
first_is t b bs e = ap (λ (x : Token). x ∷ bs) (same_is t b e)

end_is : (t b : Token) (bs : List Token) → same t b ≡ true → kw_end ∷ b ∷ bs ≡ kw_end ∷ t ∷ bs
end_is t b bs e = ap (λ (x : Token). kw_end ∷ x ∷ bs) (same_is t b e)

is_end : (t b : Token) (bs : List Token) → same t kw_end ≡ true → kw_end ∷ b ∷ bs ≡ t ∷ b ∷ bs
is_end t b bs e = ap (λ (x : Token). x ∷ b ∷ bs) (same_is t kw_end e)

literal_step : (limit : ℕ) (b : Token) (s : List Want) (o : Step) → LiteralBack limit b o
    → Back limit (m.literal ∷ s) (b ∷ []) (followed o s)
literal_step limit b s refused k = tt
literal_step limit b s (to ws) k =
    (k.0 s, λ bs r h. let u = k.1 s bs r h in (u.rest, (u.tree, u.fits, u.text), u.later))
literal_step limit b s (opens ws) k = λ bs r h. let u = k s bs r h in (u.rest, (u.tree, u.fits, u.text), u.later)

conjunction_with : (limit : ℕ) (s : List Want) (bs : List Token) → LiteralFirst limit (m.conjunction_tail ∷ s) bs
    → All limit (m.conjunction ∷ s) bs
conjunction_with limit s bs u =
    let v = u.later in (
      v.0,
      (
        conjunction u.tree v.1.0,
        omega (arith, u.fits, v.1.1),
        u.text ∙ ap (λ (l : List Token). g.literal_onto u.tree l) v.1.2,
      ),
      v.2,
    )

conjunction_step : (limit : ℕ) (b : Token) (s : List Want) (o : Step) → LiteralBack limit b o
    → Back limit (m.conjunction ∷ s) (b ∷ []) (followed o (m.conjunction_tail ∷ s))
conjunction_step limit b s refused k = tt
conjunction_step limit b s (to ws) k = (
  k.0 (m.conjunction_tail ∷ s),
  λ bs r h. conjunction_with limit s (b ∷ bs) (k.1 (m.conjunction_tail ∷ s) bs r h),
)
conjunction_step limit b s (opens ws) k =
    λ bs r h. conjunction_with limit s (b ∷ bs) (k (m.conjunction_tail ∷ s) bs r h)

expression_with : (limit : ℕ) (s : List Want) (bs : List Token) → All limit (m.conjunction ∷ m.expression_tail ∷ s) bs
    → All limit (m.expression ∷ s) bs
expression_with limit s bs h =
    let v = h.2 in (
      v.0,
      (
        expression h.1.0 v.1.0,
        omega (arith, h.1.1, v.1.1),
        h.1.2 ∙ ap (λ (l : List Token). g.conjunction_onto h.1.0 l) v.1.2,
      ),
      v.2,
    )

expression_step : (limit : ℕ) (b : Token) (s : List Want) (o : Step) → LiteralBack limit b o
    → Back limit (m.expression ∷ s) (b ∷ []) (followed o (m.conjunction_tail ∷ m.expression_tail ∷ s))
expression_step limit b s refused k = tt
expression_step limit b s (to ws) k = (
  k.0 (m.conjunction_tail ∷ m.expression_tail ∷ s),
  λ bs r h. expression_with limit s (b ∷ bs) (conjunction_with limit (m.expression_tail ∷ s) (b ∷ bs)
      (k.1 (m.conjunction_tail ∷ m.expression_tail ∷ s) bs r h)),
)
expression_step limit b s (opens ws) k = λ bs r h. expression_with limit s (b ∷ bs)
    (conjunction_with limit (m.expression_tail ∷ s) (b ∷ bs) (k (m.conjunction_tail ∷ m.expression_tail ∷ s) bs r h))

-- a test without brackets
bare_with : (limit : ℕ) (s : List Want) (pre : List Token) (o : Step) → Back limit (m.expression ∷ s) pre o
    → Back limit (m.test ∷ s) pre o
bare_with limit s pre refused k = tt
bare_with limit s pre (to t) k =
    (k.0, λ bs r h. let a = k.1 bs r h in (a.0, (bare a.1.0, a.1.1, a.1.2), a.2))
bare_with limit s pre (opens t) k = λ bs r h. let a = k bs r h in (a.0, (bare a.1.0, a.1.1, a.1.2), a.2)

unit_step : (limit : ℕ) (b : Token) (s : List Want) (o : Step) → UnitBack limit b o
    → Back limit (m.unit ∷ s) (b ∷ []) (followed o s)
unit_step limit b s refused k = tt
unit_step limit b s (to ws) k = (k.0 s, λ bs r h. let u = k.1 s bs r h in (u.rest, (u.tree, u.fits, u.text), u.later))
unit_step limit b s (opens ws) k = λ bs r h. let u = k s bs r h in (u.rest, (u.tree, u.fits, u.text), u.later)

sequence_with : (limit : ℕ) (s : List Want) (bs : List Token) → UnitFirst limit (m.sequence_tail ∷ s) bs
    → All limit (m.sequence ∷ s) bs
sequence_with limit s bs u =
    let v = u.later in (
      v.0,
      (
        sequence u.tree v.1.0 v.1.1,
        omega (arith, u.fits, v.1.2),
        u.text ∙ ap (λ (l : List Token). g.unit_onto u.tree l) v.1.3,
      ),
      v.2,
    )

sequence_step : (limit : ℕ) (b : Token) (s : List Want) (o : Step) → UnitBack limit b o
    → Back limit (m.sequence ∷ s) (b ∷ []) (followed o (m.sequence_tail ∷ s))
sequence_step limit b s refused k = tt
sequence_step limit b s (to ws) k =
    (k.0 (m.sequence_tail ∷ s), λ bs r h. sequence_with limit s (b ∷ bs) (k.1 (m.sequence_tail ∷ s) bs r h))
sequence_step limit b s (opens ws) k = λ bs r h. sequence_with limit s (b ∷ bs) (k (m.sequence_tail ∷ s) bs r h)

statement_with : (limit : ℕ) (s : List Want) (bs : List Token) → All limit (m.sequence ∷ m.statement_tail ∷ s) bs
    → All limit (m.statement ∷ s) bs
statement_with limit s bs h =
    let v = h.2 in (
      v.0,
      (
        statement h.1.0 v.1.0,
        omega (arith, h.1.1, v.1.1),
        h.1.2 ∙ ap (λ (l : List Token). g.sequence_onto h.1.0 l) v.1.2,
      ),
      v.2,
    )

statement_step : (limit : ℕ) (b : Token) (s : List Want) (o : Step) → UnitBack limit b o
    → Back limit (m.statement ∷ s) (b ∷ []) (followed o (m.sequence_tail ∷ m.statement_tail ∷ s))
statement_step limit b s refused k = tt
statement_step limit b s (to ws) k = (
  k.0 (m.sequence_tail ∷ m.statement_tail ∷ s),
  λ bs r h. statement_with limit s (b ∷ bs)
      (sequence_with limit (m.statement_tail ∷ s) (b ∷ bs) (k.1 (m.sequence_tail ∷ m.statement_tail ∷ s) bs r h)),
)
statement_step limit b s (opens ws) k = λ bs r h. statement_with limit s (b ∷ bs)
    (sequence_with limit (m.statement_tail ∷ s) (b ∷ bs) (k (m.sequence_tail ∷ m.statement_tail ∷ s) bs r h))

behind_semicolon : (limit : ℕ) (s : List Want) (bs : List Token) → All limit (m.sequence ∷ s) bs
    → All limit (m.after_semicolon ∷ s) bs
behind_semicolon limit s bs h = (h.0, inr h.1, h.2)

semicolon_step : (limit : ℕ) (b : Token) (s : List Want) (o p : Step) → UnitBack limit b o → Back limit s (b ∷ []) p
    → Back limit (m.after_semicolon ∷ s) (b ∷ []) (unit_or o s p)
semicolon_step limit b s refused p k j = along limit m.after_semicolon s (b ∷ []) (b ∷ []) p (λ bs. inl refl) j
semicolon_step limit b s (to ws) p k j = (
  k.0 (m.sequence_tail ∷ s),
  λ bs r h. behind_semicolon limit s (b ∷ bs) (sequence_with limit s (b ∷ bs) (k.1 (m.sequence_tail ∷ s) bs r h)),
)
semicolon_step limit b s (opens ws) p k j =
    λ bs r h. behind_semicolon limit s (b ∷ bs) (sequence_with limit s (b ∷ bs) (k (m.sequence_tail ∷ s) bs r h))

one_more_unit : (limit k : ℕ) (q : SequenceTree) (bs rest : List Token) → g.sequence_depth q + k ≤ limit
    → bs ≡ g.sequence_onto q rest → Spells limit k m.sequence_tail (Symbol symbol.Semicolon ∷ bs) rest
one_more_unit limit k (sequence u us c) bs rest d e =
    (units u us, c, d, ap (λ (l : List Token). Symbol symbol.Semicolon ∷ l) e)

after_tail : (limit k : ℕ) (bs rest : List Token) → k ≤ limit → Spells limit k m.after_semicolon bs rest
    → Spells limit k m.sequence_tail (Symbol symbol.Semicolon ∷ bs) rest
after_tail limit k bs rest r (inl e) =
    (no_units, true, omega (arith, r), ap (λ (l : List Token). Symbol symbol.Semicolon ∷ l) e)
after_tail limit k bs rest r (inr p) = one_more_unit limit k p.0 bs rest p.1 p.2

then_back : (limit k : ℕ) (t : StatementTree) (bs r1 r2 : List Token) → g.statement_depth t + k ≤ limit
    → bs ≡ g.statement_onto t r1 → Spells limit k m.after_then r1 r2
    → Spells limit k m.branches (Keyword keyword.Then ∷ bs) r2
then_back limit k t bs r1 r2 d e (inl p) = (
  then_only t p.0,
  d,
  ap (λ (l : List Token). Keyword keyword.Then ∷ l) (e ∙ ap (λ (l : List Token). g.statement_onto t l) p.1),
)
then_back limit k t bs r1 r2 d e (inr p) = (
  both t p.0 p.1,
  omega (arith, d, p.2),
  ap (λ (l : List Token). Keyword keyword.Then ∷ l) (e ∙ ap (λ (l : List Token). g.statement_onto t l) p.3),
)

relation_back : (limit k : ℕ) (n : List ℕ) (bs rest : List Token) → Spells limit k m.relation_tail bs rest
    → Spells limit k m.relation (Identifier n ∷ bs) rest
relation_back limit k n bs rest (inl p) = (excludes n p.0 p.1, ap (λ (l : List Token). Identifier n ∷ l) p.2)
relation_back limit k n bs rest (inr p) = (implies n p.0, ap (λ (l : List Token). Identifier n ∷ l) p.1)

ended_back : (limit : ℕ) (t b : Token) (s : List Want) (bs : List Token) → b ∷ bs ≡ kw_end ∷ bs
    → All limit (m.ended t ∷ s) bs → All limit (m.may_end t ∷ s) (b ∷ bs)
ended_back limit t b s bs e h = ended_cases limit t b s bs h.0 e h.1 h.2
  where
    ended_cases : (limit : ℕ) (t b : Token) (s : List Want) (bs rest : List Token) → b ∷ bs ≡ kw_end ∷ bs
        → Spells limit (open_count s) (m.ended t) bs rest → All limit s rest → All limit (m.may_end t ∷ s) (b ∷ bs)
    ended_cases limit t b s bs rest e (inl f) h = (rest, (true, e ∙ ap (λ (l : List Token). kw_end ∷ l) f), h)
    ended_cases limit t b s bs rest e (inr f) h = (rest, (false, e ∙ sym f), h)

weak_text : (c : Bool) (b : Token) (bs rest : List Token) → b ∷ bs ≡ kw_end ∷ bs
    → bs ≡ g.token_if c (Keyword keyword.Weak) (Keyword keyword.Abort ∷ rest) → (w : WeakEndTree)
    × (b ∷ bs ≡ g.weak_end_onto w rest)
weak_text true b bs rest e f = (end_weak_abort, e ∙ ap (λ (l : List Token). kw_end ∷ l) f)
weak_text false b bs rest e f = (end_abort, e ∙ ap (λ (l : List Token). kw_end ∷ l) f)

ended_weak_back : (limit : ℕ) (b : Token) (s : List Want) (bs : List Token) → b ∷ bs ≡ kw_end ∷ bs
    → All limit (m.ended_weak ∷ s) bs → All limit (m.may_end_weak ∷ s) (b ∷ bs)
ended_weak_back limit b s bs e h = weak_cases limit b s bs h.0 e h.1 h.2
  where
    weak_cases : (limit : ℕ) (b : Token) (s : List Want) (bs rest : List Token) → b ∷ bs ≡ kw_end ∷ bs
        → Spells limit (open_count s) m.ended_weak bs rest → All limit s rest → All limit (m.may_end_weak ∷ s) (b ∷ bs)
    weak_cases limit b s bs rest e (inl f) h = (rest, weak_text f.0 b bs rest e f.1, h)
    weak_cases limit b s bs rest e (inr f) h = (rest, (left_out, e ∙ sym f), h)

-- a module, after its first word
pub record ModuleFirst (limit : ℕ) (s : List Want) (bs : List Token) : Type 0 where
  pub first : ModuleTree
  pub later : List ModuleTree
  pub rest : List Token
  pub fits : g.statement_depth first.body + open_count s ≤ limit
  pub fit : g.modules_depth later + open_count s ≤ limit
  pub text : Keyword keyword.Module ∷ bs ≡ g.module_onto first (g.modules_onto later rest)
  pub behind : All limit s rest

module_back : (limit : ℕ) (s : List Want) (bs : List Token) → All limit (module_wants s) bs → ModuleFirst limit s bs
module_back limit s bs h =
    let a = h.2 in
    let b = a.2 in
    let d = b.2 in
    let e = d.2 in
    let f = e.2 in
    let i = f.2 in
    record {
      first = record { name = h.1.0; declarations = b.1.0; body = d.1.0 };
      later = i.1.0;
      rest = i.0;
      fits = d.1.1;
      fit = i.1.1;
      text = ap (λ (l : List Token). Keyword keyword.Module ∷ l)
          (h.1.1 ∙ ap (λ (l : List Token). Identifier h.1.0 ∷ l)
          (a.1 ∙ ap (λ (l : List Token). Symbol symbol.Colon ∷ l)
          (b.1.1 ∙ ap (λ (l : List Token). g.declarations_onto b.1.0 l)
          (d.1.2 ∙ ap (λ (l : List Token). g.statement_onto d.1.0 l)
          (e.1 ∙ ap (λ (l : List Token). kw_end ∷ l)
          (f.1 ∙ ap (λ (l : List Token). Keyword keyword.Module ∷ l) i.1.2))))));
      behind = i.2;
    }

-- the same where what is wanted takes room that is there
roomy : (limit : ℕ) (w : Want) (s : List Want) (pre : List Token) (o : Step)
    → ((bs : List Token) → open_count s ≤ limit → Spells limit (open_count s) w bs bs) → Back limit s pre o
    → Back limit (w ∷ s) pre o
roomy limit w s pre refused f k = tt
roomy limit w s pre (to t) f k = (
  omega (arith, k.0, fewer w s),
  λ bs r h. let q : open_count s ≤ limit = omega (arith, r, fewer w s) in (pre ++ bs, f (pre ++ bs) q, k.1 bs q h),
)
roomy limit w s pre (opens t) f k = λ bs r h. let q : open_count s ≤ limit = omega (arith, r, fewer w s) in
    (pre ++ bs, f (pre ++ bs) q, k bs q h)

tail_skip : (limit : ℕ) (s : List Want) (b : Token) (o : Step) → Back limit s (b ∷ []) o
    → Back limit (m.sequence_tail ∷ s) (b ∷ []) o
tail_skip limit s b o k = roomy limit m.sequence_tail s (b ∷ []) o (λ bs r. (no_units, false, omega (arith, r), refl)) k

tail_skip_end : (limit : ℕ) (s : List Want) (b : Token) (o : Step) → Back limit s (kw_end ∷ b ∷ []) o
    → Back limit (m.sequence_tail ∷ s) (kw_end ∷ b ∷ []) o
tail_skip_end limit s b o k =
    roomy limit m.sequence_tail s (kw_end ∷ b ∷ []) o (λ bs r. (no_units, false, omega (arith, r), refl)) k

and_skip : (limit : ℕ) (s : List Want) (b : Token) (o : Step) → Back limit s (b ∷ []) o
    → Back limit (m.conjunction_tail ∷ s) (b ∷ []) o
and_skip limit s b o k = roomy limit m.conjunction_tail s (b ∷ []) o (λ bs r. (no_literals, omega (arith, r), refl)) k

or_skip : (limit : ℕ) (s : List Want) (b : Token) (o : Step) → Back limit s (b ∷ []) o
    → Back limit (m.expression_tail ∷ s) (b ∷ []) o
or_skip limit s b o k = roomy limit m.expression_tail s (b ∷ []) o (λ bs r. (no_conjunctions, omega (arith, r), refl)) k

side_skip : (limit : ℕ) (s : List Want) (b : Token) (o : Step) → Back limit s (b ∷ []) o
    → Back limit (m.statement_tail ∷ s) (b ∷ []) o
side_skip limit s b o k = roomy limit m.statement_tail s (b ∷ []) o (λ bs r. (no_sequences, omega (arith, r), refl)) k

side_skip_end : (limit : ℕ) (s : List Want) (b : Token) (o : Step) → Back limit s (kw_end ∷ b ∷ []) o
    → Back limit (m.statement_tail ∷ s) (kw_end ∷ b ∷ []) o
side_skip_end limit s b o k =
    roomy limit m.statement_tail s (kw_end ∷ b ∷ []) o (λ bs r. (no_sequences, omega (arith, r), refl)) k

modules_skip : (limit : ℕ) (s : List Want) (b : Token) (o : Step) → Back limit s (b ∷ []) o
    → Back limit (m.modules ∷ s) (b ∷ []) o
modules_skip limit s b o k = roomy limit m.modules s (b ∷ []) o (λ bs r. ([], omega (arith, r), refl)) k

modules_skip_end : (limit : ℕ) (s : List Want) (b : Token) (o : Step) → Back limit s (kw_end ∷ b ∷ []) o
    → Back limit (m.modules ∷ s) (kw_end ∷ b ∷ []) o
modules_skip_end limit s b o k = roomy limit m.modules s (kw_end ∷ b ∷ []) o (λ bs r. ([], omega (arith, r), refl)) k

mutual
  pub back : (limit : ℕ) (s : List Want) (b : Token) → Back limit s (b ∷ []) (step s b)
  back limit [] b = tt
  back limit (m.one t ∷ s) b = back_if limit (m.one t ∷ s) (b ∷ []) (same t b) (to s) refused
      (λ e. (omega arith, λ bs r h. (bs, first_is t b bs e, h))) tt
  back limit (m.may t ∷ s) b =
      back_if limit (m.may t ∷ s) (b ∷ []) (same t b) (to s) (step s b)
      (λ e. (omega arith, λ bs r h. (bs, (true, first_is t b bs e), h)))
      (along limit (m.may t) s (b ∷ []) (b ∷ []) (step s b) (λ bs. (false, refl)) (back limit s b))
  back limit (m.name ∷ s) (Identifier n) = (omega arith, λ bs r h. (bs, (n, refl), h))
  back limit (m.name ∷ s) _ = tt
  back limit (m.later_names ∷ s) b =
      back_if limit (m.later_names ∷ s) (b ∷ []) (same (Symbol symbol.Comma) b) (to (m.name ∷ m.later_names ∷ s))
      (step s b) (λ e. (
        omega arith,
        λ bs r h. let a = h.2 in (
          a.0,
          (
            h.1.0 ∷ a.1.0,
            first_is (Symbol symbol.Comma) b bs e
                ∙ ap (λ (l : List Token). Symbol symbol.Comma ∷ l)
                (h.1.1 ∙ ap (λ (l : List Token). Identifier h.1.0 ∷ l) a.1.1),
          ),
          a.2,
        ),
      )) (along limit m.later_names s (b ∷ []) (b ∷ []) (step s b) (λ bs. ([], refl)) (back limit s b))
  back limit (m.later_members ∷ s) b =
      back_if limit (m.later_members ∷ s) (b ∷ []) (same (Symbol symbol.Hash) b) (to (m.name ∷ m.later_members ∷ s))
      (step s b) (λ e. (
        omega arith,
        λ bs r h. let a = h.2 in (
          a.0,
          (
            h.1.0 ∷ a.1.0,
            first_is (Symbol symbol.Hash) b bs e
                ∙ ap (λ (l : List Token). Symbol symbol.Hash ∷ l)
                (h.1.1 ∙ ap (λ (l : List Token). Identifier h.1.0 ∷ l) a.1.1),
          ),
          a.2,
        ),
      )) (along limit m.later_members s (b ∷ []) (b ∷ []) (step s b) (λ bs. ([], refl)) (back limit s b))
  back limit (m.relation ∷ s) (Identifier n) =
      (omega arith, λ bs r h. (h.0, relation_back limit (open_count s) n bs h.0 h.1, h.2))
  back limit (m.relation ∷ s) _ = tt
  back limit (m.relation_tail ∷ s) (Symbol symbol.Hash) = (
    omega arith,
    λ bs r h. let a = h.2 in (
      a.0,
      inl (
        h.1.0,
        a.1.0,
        ap (λ (l : List Token). Symbol symbol.Hash ∷ l) (h.1.1 ∙ ap (λ (l : List Token). Identifier h.1.0 ∷ l) a.1.1),
      ),
      a.2,
    ),
  )
  back limit (m.relation_tail ∷ s) (Symbol symbol.Implies) =
      (omega arith, λ bs r h. (h.0, inr (h.1.0, ap (λ (l : List Token). Symbol symbol.Implies ∷ l) h.1.1), h.2))
  back limit (m.relation_tail ∷ s) _ = tt
  back limit (m.later_relations ∷ s) b =
      back_if limit (m.later_relations ∷ s) (b ∷ []) (same (Symbol symbol.Comma) b)
      (to (m.relation ∷ m.later_relations ∷ s)) (step s b)
      (λ e. (
        omega arith,
        λ bs r h. let a = h.2 in (
          a.0,
          (
            h.1.0 ∷ a.1.0,
            first_is (Symbol symbol.Comma) b bs e
                ∙ ap (λ (l : List Token). Symbol symbol.Comma ∷ l)
                (h.1.1 ∙ ap (λ (l : List Token). g.relation_onto h.1.0 l) a.1.1),
          ),
          a.2,
        ),
      )) (along limit m.later_relations s (b ∷ []) (b ∷ []) (step s b) (λ bs. ([], refl)) (back limit s b))
  back limit (m.declarations ∷ s) (Keyword keyword.Input) = (
    omega arith,
    λ bs r h. let a = h.2 in let b = a.2 in let d = b.2 in (
      d.0,
      (
        input (record { first = h.1.0; later = a.1.0 }) ∷ d.1.0,
        ap (λ (l : List Token). Keyword keyword.Input ∷ l)
            (h.1.1 ∙ ap (λ (l : List Token). Identifier h.1.0 ∷ l)
            (a.1.1 ∙ ap (λ (l : List Token). g.later_names_onto a.1.0 l)
            (b.1 ∙ ap (λ (l : List Token). Symbol symbol.Semicolon ∷ l) d.1.1))),
      ),
      d.2,
    ),
  )
  back limit (m.declarations ∷ s) (Keyword keyword.Output) = (
    omega arith,
    λ bs r h. let a = h.2 in let b = a.2 in let d = b.2 in (
      d.0,
      (
        output (record { first = h.1.0; later = a.1.0 }) ∷ d.1.0,
        ap (λ (l : List Token). Keyword keyword.Output ∷ l)
            (h.1.1 ∙ ap (λ (l : List Token). Identifier h.1.0 ∷ l)
            (a.1.1 ∙ ap (λ (l : List Token). g.later_names_onto a.1.0 l)
            (b.1 ∙ ap (λ (l : List Token). Symbol symbol.Semicolon ∷ l) d.1.1))),
      ),
      d.2,
    ),
  )
  back limit (m.declarations ∷ s) (Keyword keyword.Inputoutput) = (
    omega arith,
    λ bs r h. let a = h.2 in let b = a.2 in let d = b.2 in (
      d.0,
      (
        inputoutput (record { first = h.1.0; later = a.1.0 }) ∷ d.1.0,
        ap (λ (l : List Token). Keyword keyword.Inputoutput ∷ l)
            (h.1.1 ∙ ap (λ (l : List Token). Identifier h.1.0 ∷ l)
            (a.1.1 ∙ ap (λ (l : List Token). g.later_names_onto a.1.0 l)
            (b.1 ∙ ap (λ (l : List Token). Symbol symbol.Semicolon ∷ l) d.1.1))),
      ),
      d.2,
    ),
  )
  back limit (m.declarations ∷ s) (Keyword keyword.Relation) = (
    omega arith,
    λ bs r h. let a = h.2 in let b = a.2 in let d = b.2 in (
      d.0,
      (
        relations h.1.0 a.1.0 ∷ d.1.0,
        ap (λ (l : List Token). Keyword keyword.Relation ∷ l)
            (h.1.1 ∙ ap (λ (l : List Token). g.relation_onto h.1.0 l)
            (a.1.1 ∙ ap (λ (l : List Token). g.later_relations_onto a.1.0 l)
            (b.1 ∙ ap (λ (l : List Token). Symbol symbol.Semicolon ∷ l) d.1.1))),
      ),
      d.2,
    ),
  )
  back limit (m.declarations ∷ s) b =
      along limit m.declarations s (b ∷ []) (b ∷ []) (step s b) (λ bs. ([], refl)) (back limit s b)
  back limit (m.renamings ∷ s) b =
      back_if limit (m.renamings ∷ s) (b ∷ []) (same (Symbol symbol.OpenBracket) b)
      (to (m.one (Keyword keyword.Signal) ∷ m.name ∷ m.one (Symbol symbol.Slash) ∷ m.name ∷ m.later_renamings
      ∷ m.one (Symbol symbol.CloseBracket)
      ∷ s)) (step s b) (λ e. (
        omega arith,
        λ bs r h. let a = h.2 in let n = a.2 in let d = n.2 in let f = d.2
            in let i = f.2 in (
              i.0,
              (
                record { outer = a.1.0; inner = d.1.0 } ∷ f.1.0,
                first_is (Symbol symbol.OpenBracket) b bs e
                    ∙ ap (λ (l : List Token). Symbol symbol.OpenBracket ∷ l)
                    (h.1 ∙ ap (λ (l : List Token). Keyword keyword.Signal ∷ l)
                    (a.1.1 ∙ ap (λ (l : List Token). Identifier a.1.0 ∷ l)
                    (n.1 ∙ ap (λ (l : List Token). Symbol symbol.Slash ∷ l)
                    (d.1.1 ∙ ap (λ (l : List Token). Identifier d.1.0 ∷ l)
                    (f.1.1 ∙ ap (λ (l : List Token). g.later_renamings_onto f.1.0 l) i.1))))),
              ),
              i.2,
            ),
      )) (along limit m.renamings s (b ∷ []) (b ∷ []) (step s b) (λ bs. ([], refl)) (back limit s b))
  back limit (m.later_renamings ∷ s) b =
      back_if limit (m.later_renamings ∷ s) (b ∷ []) (same (Symbol symbol.Comma) b)
      (to (m.name ∷ m.one (Symbol symbol.Slash) ∷ m.name ∷ m.later_renamings ∷ s)) (step s b)
      (λ e. (
        omega arith,
        λ bs r h. let n = h.2 in let d = n.2 in let f = d.2 in (
          f.0,
          (
            record { outer = h.1.0; inner = d.1.0 } ∷ f.1.0,
            first_is (Symbol symbol.Comma) b bs e
                ∙ ap (λ (l : List Token). Symbol symbol.Comma ∷ l)
                (h.1.1 ∙ ap (λ (l : List Token). Identifier h.1.0 ∷ l)
                (n.1 ∙ ap (λ (l : List Token). Symbol symbol.Slash ∷ l)
                (d.1.1 ∙ ap (λ (l : List Token). Identifier d.1.0 ∷ l) f.1.1))),
          ),
          f.2,
        ),
      )) (along limit m.later_renamings s (b ∷ []) (b ∷ []) (step s b) (λ bs. ([], refl)) (back limit s b))
  back limit (m.test ∷ s) b =
      back_if limit (m.test ∷ s) (b ∷ []) (same (Symbol symbol.OpenBracket) b)
      (to (m.expression ∷ m.one (Symbol symbol.CloseBracket) ∷ s))
      (followed (literal_start b) (m.conjunction_tail ∷ m.expression_tail ∷ s))
      (λ e. (
        omega arith,
        λ bs r h. let v = h.2 in (
          v.0,
          (
            bracketed h.1.0,
            h.1.1,
            first_is (Symbol symbol.OpenBracket) b bs e
                ∙ ap (λ (l : List Token). Symbol symbol.OpenBracket ∷ l)
                (h.1.2 ∙ ap (λ (l : List Token). g.expression_onto h.1.0 l) v.1),
          ),
          v.2,
        ),
      )) (bare_with limit s (b ∷ []) (followed (literal_start b) (m.conjunction_tail ∷ m.expression_tail ∷ s))
      (expression_step limit b s (literal_start b) (literal_back limit b)))
  back limit (m.expression ∷ s) b = expression_step limit b s (literal_start b) (literal_back limit b)
  back limit (m.expression_tail ∷ s) b =
      back_if limit (m.expression_tail ∷ s) (b ∷ []) (same (Keyword keyword.Or) b)
      (to (m.conjunction ∷ m.expression_tail ∷ s)) (step s b)
      (λ e. (
        omega arith,
        λ bs r h. let v = h.2 in (
          v.0,
          (
            conjunctions h.1.0 v.1.0,
            omega (arith, h.1.1, v.1.1),
            first_is (Keyword keyword.Or) b bs e
                ∙ ap (λ (l : List Token). Keyword keyword.Or ∷ l)
                (h.1.2 ∙ ap (λ (l : List Token). g.conjunction_onto h.1.0 l) v.1.2),
          ),
          v.2,
        ),
      )) (or_skip limit s b (step s b) (back limit s b))
  back limit (m.conjunction ∷ s) b = conjunction_step limit b s (literal_start b) (literal_back limit b)
  back limit (m.conjunction_tail ∷ s) b =
      back_if limit (m.conjunction_tail ∷ s) (b ∷ []) (same (Keyword keyword.And) b)
      (to (m.literal ∷ m.conjunction_tail ∷ s)) (step s b)
      (λ e. (
        omega arith,
        λ bs r h. let v = h.2 in (
          v.0,
          (
            literals h.1.0 v.1.0,
            omega (arith, h.1.1, v.1.1),
            first_is (Keyword keyword.And) b bs e
                ∙ ap (λ (l : List Token). Keyword keyword.And ∷ l)
                (h.1.2 ∙ ap (λ (l : List Token). g.literal_onto h.1.0 l) v.1.2),
          ),
          v.2,
        ),
      )) (and_skip limit s b (step s b) (back limit s b))
  back limit (m.literal ∷ s) b = literal_step limit b s (literal_start b) (literal_back limit b)
  back limit (m.unit ∷ s) b = unit_step limit b s (unit_start b) (unit_back limit b)
  back limit (m.sequence ∷ s) b = sequence_step limit b s (unit_start b) (unit_back limit b)
  back limit (m.sequence_tail ∷ s) b =
      back_if limit (m.sequence_tail ∷ s) (b ∷ []) (same (Symbol symbol.Semicolon) b) (to (m.after_semicolon ∷ s))
      (step s b) (λ e. (
        omega arith,
        λ bs r h. (
          h.0,
          subst (λ (l : List Token). Spells limit (open_count s) m.sequence_tail l h.0)
              (sym (first_is (Symbol symbol.Semicolon) b bs e)) (after_tail limit (open_count s) bs h.0 r h.1),
          h.2,
        ),
      )) (tail_skip limit s b (step s b) (back limit s b))
  back limit (m.after_semicolon ∷ s) b = semicolon_step limit b s (unit_start b) (step s b) (unit_back limit b)
      (back limit s b)
  back limit (m.statement ∷ s) b = statement_step limit b s (unit_start b) (unit_back limit b)
  back limit (m.statement_tail ∷ s) b =
      back_if limit (m.statement_tail ∷ s) (b ∷ []) (same (Symbol symbol.Parallel) b)
      (to (m.sequence ∷ m.statement_tail ∷ s)) (step s b)
      (λ e. (
        omega arith,
        λ bs r h. let v = h.2 in (
          v.0,
          (
            sequences h.1.0 v.1.0,
            omega (arith, h.1.1, v.1.1),
            first_is (Symbol symbol.Parallel) b bs e
                ∙ ap (λ (l : List Token). Symbol symbol.Parallel ∷ l)
                (h.1.2 ∙ ap (λ (l : List Token). g.sequence_onto h.1.0 l) v.1.2),
          ),
          v.2,
        ),
      )) (side_skip limit s b (step s b) (back limit s b))
  back limit (m.branches ∷ s) (Keyword keyword.Then) = (
    omega arith,
    λ bs r h. let v = h.2 in
        (v.0, then_back limit (open_count s) h.1.0 bs h.0 v.0 h.1.1 h.1.2 v.1, v.2),
  )
  back limit (m.branches ∷ s) (Keyword keyword.Else) = (
    omega arith,
    λ bs r h. let v = h.2 in let w = v.2 in (
      w.0,
      (
        else_only h.1.0 w.1.0,
        h.1.1,
        ap (λ (l : List Token). Keyword keyword.Else ∷ l)
            (h.1.2 ∙ ap (λ (l : List Token). g.statement_onto h.1.0 l)
            (v.1 ∙ ap (λ (l : List Token). kw_end ∷ l) w.1.1)),
      ),
      w.2,
    ),
  )
  back limit (m.branches ∷ s) _ = tt
  back limit (m.after_then ∷ s) (Keyword keyword.Else) = (
    omega arith,
    λ bs r h. let v = h.2 in let w = v.2 in (
      w.0,
      inr (
        h.1.0,
        w.1.0,
        h.1.1,
        ap (λ (l : List Token). Keyword keyword.Else ∷ l)
            (h.1.2 ∙ ap (λ (l : List Token). g.statement_onto h.1.0 l)
            (v.1 ∙ ap (λ (l : List Token). kw_end ∷ l) w.1.1)),
      ),
      w.2,
    ),
  )
  back limit (m.after_then ∷ s) (Keyword keyword.End) =
      (omega arith, λ bs r h. (h.0, inl (h.1.0, ap (λ (l : List Token). kw_end ∷ l) h.1.1), h.2))
  back limit (m.after_then ∷ s) _ = tt
  back limit (m.loop_tail ∷ s) (Keyword keyword.Each) =
      (omega arith, λ bs r h. (h.0, inr (h.1.0, h.1.1, ap (λ (l : List Token). Keyword keyword.Each ∷ l) h.1.2), h.2))
  back limit (m.loop_tail ∷ s) (Keyword keyword.End) =
      (omega arith, λ bs r h. (h.0, inl (h.1.0, ap (λ (l : List Token). kw_end ∷ l) h.1.1), h.2))
  back limit (m.loop_tail ∷ s) _ = tt
  back limit (m.may_end t ∷ s) b =
      back_if limit (m.may_end t ∷ s) (b ∷ []) (same kw_end b) (to (m.ended t ∷ s)) (step s b)
      (λ e. (omega arith, λ bs r h. ended_back limit t b s bs (first_is kw_end b bs e) h))
      (along limit (m.may_end t) s (b ∷ []) (b ∷ []) (step s b) (λ bs. (false, refl)) (back limit s b))
  back limit (m.ended t ∷ s) b =
      back_if limit (m.ended t ∷ s) (b ∷ []) (same t b) (to s) (step_after_end s b)
      (λ e. (omega arith, λ bs r h. (bs, inl (first_is t b bs e), h)))
      (along limit (m.ended t) s (b ∷ []) (kw_end ∷ b ∷ []) (step_after_end s b) (λ bs. inr refl)
      (after_back limit s b))
  back limit (m.may_end_weak ∷ s) b =
      back_if limit (m.may_end_weak ∷ s) (b ∷ []) (same kw_end b) (to (m.ended_weak ∷ s)) (step s b)
      (λ e. (omega arith, λ bs r h. ended_weak_back limit b s bs (first_is kw_end b bs e) h))
      (along limit m.may_end_weak s (b ∷ []) (b ∷ []) (step s b) (λ bs. (left_out, refl)) (back limit s b))
  back limit (m.ended_weak ∷ s) b =
      back_if limit (m.ended_weak ∷ s) (b ∷ []) (same (Keyword keyword.Abort) b) (to s)
      (if same (Keyword keyword.Weak) b then to (m.one (Keyword keyword.Abort) ∷ s) else step_after_end s b)
      (λ e. (omega arith, λ bs r h. (bs, inl (false, first_is (Keyword keyword.Abort) b bs e), h)))
      (back_if limit (m.ended_weak ∷ s) (b ∷ []) (same (Keyword keyword.Weak) b)
      (to (m.one (Keyword keyword.Abort) ∷ s)) (step_after_end s b)
      (λ e. (
        omega arith,
        λ bs r h. (
          h.0,
          inl (true, first_is (Keyword keyword.Weak) b bs e ∙ ap (λ (l : List Token). Keyword keyword.Weak ∷ l) h.1),
          h.2,
        ),
      )) (along limit m.ended_weak s (b ∷ []) (kw_end ∷ b ∷ []) (step_after_end s b) (λ bs. inr refl)
      (after_back limit s b)))
  back limit (m.leave ∷ s) b = along limit m.leave s (b ∷ []) (b ∷ []) (step s b) (λ bs. refl) (back limit s b)
  back limit (m.modules ∷ s) b =
      back_if limit (m.modules ∷ s) (b ∷ []) (same (Keyword keyword.Module) b) (to (module_wants s)) (step s b)
      (λ e. (
        omega arith,
        λ bs r h. let p = module_back limit s bs h in (
          p.rest,
          (p.first ∷ p.later, omega (arith, p.fits, p.fit), first_is (Keyword keyword.Module) b bs e ∙ p.text),
          p.behind,
        ),
      )) (modules_skip limit s b (step s b) (back limit s b))
  back limit (m.library ∷ s) b =
      back_if limit (m.library ∷ s) (b ∷ []) (same (Keyword keyword.Module) b) (to (module_wants s)) refused
      (λ e. (
        omega arith,
        λ bs r h. let p = module_back limit s bs h in
            (p.rest, (p.first, p.later, p.fits, p.fit, first_is (Keyword keyword.Module) b bs e ∙ p.text), p.behind),
      )) tt

  after_back : (limit : ℕ) (s : List Want) (b : Token) → Back limit s (kw_end ∷ b ∷ []) (step_after_end s b)
  after_back limit [] b = tt
  after_back limit (m.one t ∷ s) b = back_if limit (m.one t ∷ s) (kw_end ∷ b ∷ []) (same t kw_end) (step s b) refused
      (λ e. along limit (m.one t) s (kw_end ∷ b ∷ []) (b ∷ []) (step s b) (λ bs. is_end t b bs e) (back limit s b)) tt
  after_back limit (m.may t ∷ s) b =
      back_if limit (m.may t ∷ s) (kw_end ∷ b ∷ []) (same t kw_end) (step s b) (step_after_end s b)
      (λ e. along limit (m.may t) s (kw_end ∷ b ∷ []) (b ∷ []) (step s b) (λ bs. (true, is_end t b bs e))
      (back limit s b)) (along limit (m.may t) s (kw_end ∷ b ∷ []) (kw_end ∷ b ∷ []) (step_after_end s b)
      (λ bs. (false, refl)) (after_back limit s b))
  after_back limit (m.later_names ∷ s) b = along limit m.later_names s (kw_end ∷ b ∷ []) (kw_end ∷ b ∷ [])
      (step_after_end s b) (λ bs. ([], refl)) (after_back limit s b)
  after_back limit (m.later_members ∷ s) b = along limit m.later_members s (kw_end ∷ b ∷ []) (kw_end ∷ b ∷ [])
      (step_after_end s b) (λ bs. ([], refl)) (after_back limit s b)
  after_back limit (m.later_relations ∷ s) b = along limit m.later_relations s (kw_end ∷ b ∷ []) (kw_end ∷ b ∷ [])
      (step_after_end s b) (λ bs. ([], refl)) (after_back limit s b)
  after_back limit (m.renamings ∷ s) b = along limit m.renamings s (kw_end ∷ b ∷ []) (kw_end ∷ b ∷ [])
      (step_after_end s b) (λ bs. ([], refl)) (after_back limit s b)
  after_back limit (m.later_renamings ∷ s) b = along limit m.later_renamings s (kw_end ∷ b ∷ []) (kw_end ∷ b ∷ [])
      (step_after_end s b) (λ bs. ([], refl)) (after_back limit s b)
  after_back limit (m.declarations ∷ s) b = along limit m.declarations s (kw_end ∷ b ∷ []) (kw_end ∷ b ∷ [])
      (step_after_end s b) (λ bs. ([], refl)) (after_back limit s b)
  after_back limit (m.sequence_tail ∷ s) b = tail_skip_end limit s b (step_after_end s b) (after_back limit s b)
  after_back limit (m.after_semicolon ∷ s) b = along limit m.after_semicolon s (kw_end ∷ b ∷ []) (kw_end ∷ b ∷ [])
      (step_after_end s b) (λ bs. inl refl) (after_back limit s b)
  after_back limit (m.statement_tail ∷ s) b = side_skip_end limit s b (step_after_end s b) (after_back limit s b)
  after_back limit (m.after_then ∷ s) b =
      back_if limit (m.after_then ∷ s) (kw_end ∷ b ∷ []) (same (Keyword keyword.Present) b) (to s) (step s b)
      (λ e. (omega arith, λ bs r h. (bs, inl (true, end_is (Keyword keyword.Present) b bs e), h)))
      (along limit m.after_then s (kw_end ∷ b ∷ []) (b ∷ []) (step s b) (λ bs. inl (false, refl)) (back limit s b))
  after_back limit (m.loop_tail ∷ s) b =
      back_if limit (m.loop_tail ∷ s) (kw_end ∷ b ∷ []) (same (Keyword keyword.Loop) b) (to s) (step s b)
      (λ e. (omega arith, λ bs r h. (bs, inl (true, end_is (Keyword keyword.Loop) b bs e), h)))
      (along limit m.loop_tail s (kw_end ∷ b ∷ []) (b ∷ []) (step s b) (λ bs. inl (false, refl)) (back limit s b))
  after_back limit (m.leave ∷ s) b =
      along limit m.leave s (kw_end ∷ b ∷ []) (kw_end ∷ b ∷ []) (step_after_end s b) (λ bs. refl) (after_back limit s b)
  after_back limit (m.modules ∷ s) b = modules_skip_end limit s b (step_after_end s b) (after_back limit s b)
  after_back limit (m.name ∷ s) b = tt
  after_back limit (m.relation ∷ s) b = tt
  after_back limit (m.relation_tail ∷ s) b = tt
  after_back limit (m.test ∷ s) b = tt
  after_back limit (m.expression ∷ s) b = tt
  after_back limit (m.expression_tail ∷ s) b = tt
  after_back limit (m.conjunction ∷ s) b = tt
  after_back limit (m.conjunction_tail ∷ s) b = tt
  after_back limit (m.literal ∷ s) b = tt
  after_back limit (m.unit ∷ s) b = tt
  after_back limit (m.sequence ∷ s) b = tt
  after_back limit (m.statement ∷ s) b = tt
  after_back limit (m.branches ∷ s) b = tt
  after_back limit (m.may_end t ∷ s) b = tt
  after_back limit (m.ended t ∷ s) b = tt
  after_back limit (m.may_end_weak ∷ s) b = tt
  after_back limit (m.ended_weak ∷ s) b = tt
  after_back limit (m.library ∷ s) b = tt
