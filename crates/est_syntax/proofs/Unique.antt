-- Tokens are spelt from one tree alone: a reading of them gives it back.
use Rattle.std.proofs.Common.{◌≡◌, ◌∙◌, ℕ, zero, suc, ◌+◌, ◌≤◌, length, List, [], ◌∷◌, Bool, true, false, if◌then◌else◌}
use Rattle.std.proofs.Common.{Some, None, refl, sym, ap, arith}
use Rattle.est_text.specs.declared.token.Token.{Token}
use Rattle.est_text.specs.declared.token.Token.TheVariants.{Keyword, Identifier, Symbol}
use Rattle.est_text.specs.declared.keyword.Keyword.TheVariants as keyword
use Rattle.est_text.specs.declared.token.Symbol.TheVariants as symbol
use Rattle.est_syntax.specs.Tree.{DelayTree, RenamingTree, WeakEndTree, left_out, end_abort, end_weak_abort, UnitTree}
use Rattle.est_syntax.specs.Tree.{nothing, pause, halt, emit, sustain, exit, await, present, suspend, abort, weak_abort}
use Rattle.est_syntax.specs.Tree.{repeat, repeat_each, every, trap, signal, run, group, BranchesTree, then_only}
use Rattle.est_syntax.specs.Tree.{else_only, both, SequenceTree, sequence, UnitsTree, no_units, units, StatementTree}
use Rattle.est_syntax.specs.Tree.{statement, SequencesTree, no_sequences, sequences, RelationTree, excludes, implies}
use Rattle.est_syntax.specs.Tree.{DeclarationTree, input, output, inputoutput, relations, ModuleTree, LibraryTree}
use Rattle.est_syntax.specs.Grammar as g
use Rattle.est_syntax.specs.Inner.Machine.{Step, Want, refused, to, opens, same, kw_end, Skips, unit_start}
use Rattle.est_syntax.specs.Inner.Machine as m
use Rattle.est_syntax.proofs.UniqueTests.{Answer, expect, maybe, test, delay, test_size, no_room, if_true, if_false}
use Rattle.est_syntax.proofs.UniqueTests.{maybe_not, maybe_is, test_is, delay_is}
use Rattle.est_syntax.proofs.Runs.{unit_and, unit_or, end_and, end_or, weak_and, weak_or, branches_and, branches_or}
use Rattle.est_syntax.proofs.Runs.{open_skips, NoPair, AfterStatement, AfterSequence, AfterUnit, after_skips}
use Rattle.est_syntax.proofs.Runs.{NeverAfter, sequence_skips, statement_skips, behind_units, behind_sequences}
use Rattle.est_syntax.proofs.Runs.{no_pair_if}

-- ---- the reading, each part with what is done with it and the rest

abbrev name : List Token → (List ℕ → List Token → Answer) → Answer
name (Identifier n ∷ bs) k = k n bs
name _ k = None

abbrev pair : Token → List Token → (Bool → List Token → Answer) → Answer
pair t [] k = k false []
pair t (b ∷ []) k = k false (b ∷ [])
pair t (b ∷ c ∷ bs) k = if same kw_end b then (if same t c then k true bs else k false (b ∷ c ∷ bs)) else k false
    (b ∷ c ∷ bs)

abbrev weak_pair : List Token → (WeakEndTree → List Token → Answer) → Answer
weak_pair [] k = k left_out []
weak_pair (b ∷ []) k = k left_out (b ∷ [])
weak_pair (b ∷ c ∷ bs) k =
    if same kw_end b then (if same (Keyword keyword.Abort) c then k end_abort bs
    else (if same (Keyword keyword.Weak) c then expect (Keyword keyword.Abort) bs
    (λ r. k end_weak_abort r) else k left_out (b ∷ c ∷ bs))) else k left_out (b ∷ c ∷ bs)

abbrev later_names : ℕ → List Token → (List (List ℕ) → List Token → Answer) → Answer
later_names zero bs k = None
later_names (suc n) bs k =
    maybe (Symbol symbol.Comma) bs (λ x r. if x then name r (λ m q. later_names n q (λ ms p. k (m ∷ ms) p)) else k [] r)

abbrev later_members : ℕ → List Token → (List (List ℕ) → List Token → Answer) → Answer
later_members zero bs k = None
later_members (suc n) bs k =
    maybe (Symbol symbol.Hash) bs
    (λ x r. if x then name r (λ m q. later_members n q (λ ms p. k (m ∷ ms) p)) else k [] r)

abbrev renaming : List Token → (RenamingTree → List Token → Answer) → Answer
renaming bs k =
    name bs (λ m r. expect (Symbol symbol.Slash) r (λ q. name q (λ n p. k (record { outer = m; inner = n }) p)))

abbrev later_renamings : ℕ → List Token → (List RenamingTree → List Token → Answer) → Answer
later_renamings zero bs k = None
later_renamings (suc n) bs k = maybe (Symbol symbol.Comma) bs
    (λ x r. if x then renaming r (λ m q. later_renamings n q (λ ms p. k (m ∷ ms) p)) else k [] r)

abbrev renamings : ℕ → List Token → (List RenamingTree → List Token → Answer) → Answer
renamings n bs k = maybe (Symbol symbol.OpenBracket) bs
    (λ x r. if x then expect (Keyword keyword.Signal) r
    (λ q. renaming q (λ m p. later_renamings n p
    (λ ms o. expect (Symbol symbol.CloseBracket) o (λ i. k (m ∷ ms) i)))) else k [] r)

abbrev again : Token → List Token → (Bool → List Token → Answer) → Answer
again t bs k = expect kw_end bs (λ r. maybe t r k)

abbrev watched : ℕ → List Token → (DelayTree → List Token → Answer) → Answer
watched n bs k = expect (Keyword keyword.When) bs (λ r. delay n r k)

abbrev begins : Step → Bool
begins refused = false
begins (to ws) = true
begins (opens ws) = true

-- whether a unit begins there
abbrev starts : List Token → Bool
starts [] = false
starts (b ∷ bs) = begins (unit_start b)

abbrev mutual
  unit : ℕ → List Token → (UnitTree → List Token → Answer) → Answer
  unit zero bs k = None
  unit (suc n) (Keyword keyword.Nothing ∷ bs) k = k nothing bs
  unit (suc n) (Keyword keyword.Pause ∷ bs) k = k pause bs
  unit (suc n) (Keyword keyword.Halt ∷ bs) k = k halt bs
  unit (suc n) (Keyword keyword.Emit ∷ bs) k = name bs (λ m r. k (emit m) r)
  unit (suc n) (Keyword keyword.Sustain ∷ bs) k = name bs (λ m r. k (sustain m) r)
  unit (suc n) (Keyword keyword.Exit ∷ bs) k = name bs (λ m r. k (exit m) r)
  unit (suc n) (Keyword keyword.Await ∷ bs) k = delay n bs (λ d r. k (await d) r)
  unit (suc n) (Keyword keyword.Run ∷ bs) k = name bs (λ m r. renamings n r (λ ms q. k (run m ms) q))
  unit (suc n) (Keyword keyword.Present ∷ bs) k = test n bs (λ m r. branches n r (λ b q. k (present m b) q))
  unit (suc n) (Keyword keyword.Suspend ∷ bs) k =
      stmt n bs (λ t r. watched n r (λ d q. pair (Keyword keyword.Suspend) q (λ c p. k (suspend t d c) p)))
  unit (suc n) (Keyword keyword.Abort ∷ bs) k =
      stmt n bs (λ t r. watched n r (λ d q. pair (Keyword keyword.Abort) q (λ c p. k (abort t d c) p)))
  unit (suc n) (Keyword keyword.Weak ∷ bs) k = expect (Keyword keyword.Abort) bs
      (λ o. stmt n o (λ t r. watched n r (λ d q. weak_pair q (λ c p. k (weak_abort t d c) p))))
  unit (suc n) (Keyword keyword.Loop ∷ bs) k =
      stmt n bs (λ t r. maybe (Keyword keyword.Each) r
      (λ x q. if x then test n q (λ m p. k (repeat_each t m) p) else again (Keyword keyword.Loop) q
      (λ c p. k (repeat t c) p)))
  unit (suc n) (Keyword keyword.Every ∷ bs) k =
      delay n bs (λ d o. expect (Keyword keyword.Do) o
      (λ i. stmt n i (λ t r. again (Keyword keyword.Every) r (λ c q. k (every d t c) q))))
  unit (suc n) (Keyword keyword.Trap ∷ bs) k = name bs
      (λ m o. expect (Keyword keyword.In) o
      (λ i. stmt n i (λ t r. again (Keyword keyword.Trap) r (λ c q. k (trap m t c) q))))
  unit (suc n) (Keyword keyword.Signal ∷ bs) k =
      name bs (λ m o. later_names n o (λ ms j. expect (Keyword keyword.In) j
      (λ i. stmt n i
      (λ t r. again (Keyword keyword.Signal) r (λ c q. k (signal (record { first = m; later = ms }) t c) q)))))
  unit (suc n) (Symbol symbol.OpenBracket ∷ bs) k = stmt n bs
      (λ t r. expect (Symbol symbol.CloseBracket) r (λ q. k (group t) q))
  unit (suc n) _ k = None

  branches : ℕ → List Token → (BranchesTree → List Token → Answer) → Answer
  branches zero bs k = None
  branches (suc n) bs k = maybe (Keyword keyword.Then) bs (λ x r. if x
      then stmt n r (λ t q. maybe (Keyword keyword.Else) q (λ y p. if y
      then stmt n p (λ e o. again (Keyword keyword.Present) o (λ c i. k (both t e c) i))
      else again (Keyword keyword.Present) p (λ c i. k (then_only t c) i)))
      else expect (Keyword keyword.Else) r
      (λ q. stmt n q (λ e p. again (Keyword keyword.Present) p (λ c i. k (else_only e c) i))))

  seq : ℕ → List Token → (SequenceTree → List Token → Answer) → Answer
  seq zero bs k = None
  seq (suc n) bs k = unit n bs (λ u r. tail n r (λ us c q. k (sequence u us c) q))

  tail : ℕ → List Token → (UnitsTree → Bool → List Token → Answer) → Answer
  tail zero bs k = None
  tail (suc n) bs k = maybe (Symbol symbol.Semicolon) bs
      (λ x r. if x then (if starts r then unit n r (λ u q. tail n q (λ us c p. k (units u us) c p))
      else k no_units true r) else k no_units false r)

  stmt : ℕ → List Token → (StatementTree → List Token → Answer) → Answer
  stmt zero bs k = None
  stmt (suc n) bs k = seq n bs (λ q r. side n r (λ qs p. k (statement q qs) p))

  side : ℕ → List Token → (SequencesTree → List Token → Answer) → Answer
  side zero bs k = None
  side (suc n) bs k = maybe (Symbol symbol.Parallel) bs
      (λ x r. if x then seq n r (λ q p. side n p (λ qs o. k (sequences q qs) o)) else k no_sequences r)

abbrev relation : ℕ → List Token → (RelationTree → List Token → Answer) → Answer
relation n bs k = name bs (λ a r. maybe (Symbol symbol.Implies) r
    (λ x q. if x then name q (λ b p. k (implies a b) p) else expect (Symbol symbol.Hash) q
    (λ p. name p (λ b o. later_members n o (λ ns i. k (excludes a b ns) i)))))

abbrev later_relations : ℕ → List Token → (List RelationTree → List Token → Answer) → Answer
later_relations zero bs k = None
later_relations (suc n) bs k = maybe (Symbol symbol.Comma) bs
    (λ x r. if x then relation n r (λ a q. later_relations n q (λ zs p. k (a ∷ zs) p)) else k [] r)

abbrev declarations : ℕ → List Token → (List DeclarationTree → List Token → Answer) → Answer
declarations zero bs k = None
declarations (suc n) bs k =
    maybe (Keyword keyword.Input) bs (λ x r. if x then name r
    (λ a q. later_names n q (λ zs p. expect (Symbol symbol.Semicolon) p
    (λ o. declarations n o (λ ds i. k (input (record { first = a; later = zs }) ∷ ds) i))))
    else maybe (Keyword keyword.Output) r
    (λ y q. if y then name q (λ a p. later_names n p
    (λ zs o. expect (Symbol symbol.Semicolon) o
    (λ i. declarations n i (λ ds j. k (output (record { first = a; later = zs }) ∷ ds) j))))
    else maybe (Keyword keyword.Inputoutput) q
    (λ w p. if w then name p (λ a o. later_names n o
    (λ zs i. expect (Symbol symbol.Semicolon) i
    (λ j. declarations n j (λ ds l. k (inputoutput (record { first = a; later = zs }) ∷ ds) l))))
    else maybe (Keyword keyword.Relation) p
    (λ z o. if z then relation n o (λ a i. later_relations n i
    (λ zs j. expect (Symbol symbol.Semicolon) j (λ l. declarations n l (λ ds f. k (relations a zs ∷ ds) f)))) else k []
    o))))

abbrev module_from : ℕ → List Token → (ModuleTree → List Token → Answer) → Answer
module_from n bs k =
    name bs (λ a r. expect (Symbol symbol.Colon) r
    (λ q. declarations n q (λ ds p. stmt n p
    (λ t o. expect kw_end o (λ i. expect (Keyword keyword.Module) i
    (λ j. k (record { name = a; declarations = ds; body = t }) j))))))

abbrev modules : ℕ → List Token → (List ModuleTree → List Token → Answer) → Answer
modules zero bs k = None
modules (suc n) bs k = maybe (Keyword keyword.Module) bs
    (λ x r. if x then module_from n r (λ p q. modules n q (λ ps o. k (p ∷ ps) o)) else k [] r)

abbrev finished : List ModuleTree → List Token → Answer
finished (p ∷ ps) [] = Some (record { first = p; later = ps })
finished _ _ = None

abbrev library_of : ℕ → List Token → Answer
library_of n bs = modules n bs finished

-- ---- how much a tree takes

abbrev mutual
  inner_size : UnitTree → ℕ
  inner_size (run n rs) = suc (length rs)
  inner_size (await d) = test_size d.test
  inner_size (present n b) = test_size n + branches_size b
  inner_size (suspend t d c) = stmt_size t + test_size d.test
  inner_size (abort t d c) = stmt_size t + test_size d.test
  inner_size (weak_abort t d c) = stmt_size t + test_size d.test
  inner_size (repeat t c) = stmt_size t
  inner_size (repeat_each t n) = stmt_size t + test_size n
  inner_size (every d t c) = test_size d.test + stmt_size t
  inner_size (trap n t c) = stmt_size t
  inner_size (signal ns t c) = suc (length ns.later) + stmt_size t
  inner_size (group t) = stmt_size t
  inner_size _ = 0

  branches_size : BranchesTree → ℕ
  branches_size (then_only t c) = suc (stmt_size t)
  branches_size (else_only t c) = suc (stmt_size t)
  branches_size (both t e c) = suc (stmt_size t + stmt_size e)

  seq_size : SequenceTree → ℕ
  seq_size (sequence u us c) = suc (suc (inner_size u) + units_size us)

  units_size : UnitsTree → ℕ
  units_size no_units = 1
  units_size (units u us) = suc (suc (inner_size u) + units_size us)

  stmt_size : StatementTree → ℕ
  stmt_size (statement q qs) = suc (seq_size q + sides_size qs)

  sides_size : SequencesTree → ℕ
  sides_size no_sequences = 1
  sides_size (sequences q qs) = suc (seq_size q + sides_size qs)

-- ---- each reading gives back what was written

pair_not : (t : Token) (bs : List Token) (k : Bool → List Token → Answer) → Skips kw_end bs → pair t bs k ≡ k false bs
pair_not t [] k h = refl
pair_not t (b ∷ []) k h = refl
pair_not t (b ∷ c ∷ bs) k h = if_false (same kw_end b) _ (k false (b ∷ c ∷ bs)) h

pair_is : (t : Token) (c : Bool) (s : List Want) (bs : List Token) (k : Bool → List Token → Answer) → same t t ≡ true
    → ((b : Token) (bs : List Token) → NoPair (b ∷ bs) → same t b ≡ false) → AfterUnit s bs
    → pair t (g.end_if c t bs) k ≡ k c bs
pair_is t true s bs k e f a = if_true (same t t) (k true bs) (k false (kw_end ∷ t ∷ bs)) e
pair_is t false s bs k e f a = open_skips s bs a (λ cs. pair t cs k ≡ k false cs) (λ cs h. pair_not t cs k h)
    (λ b cs p h. if_false (same t b) (k true cs) (k false (kw_end ∷ b ∷ cs)) (f b cs p))

weak_not : (bs : List Token) (k : WeakEndTree → List Token → Answer) → Skips kw_end bs → weak_pair bs k ≡ k left_out bs
weak_not [] k h = refl
weak_not (b ∷ []) k h = refl
weak_not (b ∷ c ∷ bs) k h = if_false (same kw_end b) _ (k left_out (b ∷ c ∷ bs)) h

weak_is : (c : WeakEndTree) (s : List Want) (bs : List Token) (k : WeakEndTree → List Token → Answer)
    → AfterUnit s bs → weak_pair (g.weak_end_onto c bs) k ≡ k c bs
weak_is end_abort s bs k a = refl
weak_is end_weak_abort s bs k a = refl
weak_is left_out s bs k a = open_skips s bs a (λ cs. weak_pair cs k ≡ k left_out cs) (λ cs h. weak_not cs k h)
    (λ b cs p h. if_false (same (Keyword keyword.Abort) b) _ _ p.1 ∙ if_false (same (Keyword keyword.Weak) b) _ _ p.2)

names_are : (ns : List (List ℕ)) (n : ℕ) (bs : List Token) (k : List (List ℕ) → List Token → Answer)
    → suc (length ns) ≤ n → Skips (Symbol symbol.Comma) bs → later_names n (g.later_names_onto ns bs) k ≡ k ns bs
names_are ns zero bs k h a = absurd (no_room (length ns) h)
names_are [] (suc n) bs k h a = maybe_not (Symbol symbol.Comma) bs _ a
names_are (x ∷ ns) (suc n) bs k h a = names_are ns n bs (λ ms p. k (x ∷ ms) p) (omega (arith, h)) a

members_are : (ns : List (List ℕ)) (n : ℕ) (bs : List Token) (k : List (List ℕ) → List Token → Answer)
    → suc (length ns) ≤ n → Skips (Symbol symbol.Hash) bs → later_members n (g.later_members_onto ns bs) k ≡ k ns bs
members_are ns zero bs k h a = absurd (no_room (length ns) h)
members_are [] (suc n) bs k h a = maybe_not (Symbol symbol.Hash) bs _ a
members_are (x ∷ ns) (suc n) bs k h a = members_are ns n bs (λ ms p. k (x ∷ ms) p) (omega (arith, h)) a

later_renamings_are : (rs : List RenamingTree) (n : ℕ) (bs : List Token)
    (k : List RenamingTree → List Token → Answer) → suc (length rs) ≤ n → Skips (Symbol symbol.Comma) bs
    → later_renamings n (g.later_renamings_onto rs bs) k ≡ k rs bs
later_renamings_are rs zero bs k h a = absurd (no_room (length rs) h)
later_renamings_are [] (suc n) bs k h a = maybe_not (Symbol symbol.Comma) bs _ a
later_renamings_are (x ∷ rs) (suc n) bs k h a = later_renamings_are rs n bs (λ ms p. k (x ∷ ms) p) (omega (arith, h)) a

renamings_are : (rs : List RenamingTree) (n : ℕ) (bs : List Token) (k : List RenamingTree → List Token → Answer)
    → suc (length rs) ≤ n → Skips (Symbol symbol.OpenBracket) bs → renamings n (g.renamings_onto rs bs) k ≡ k rs bs
renamings_are [] n bs k h a = maybe_not (Symbol symbol.OpenBracket) bs _ a
renamings_are (x ∷ rs) n bs k h a = later_renamings_are rs n (Symbol symbol.CloseBracket ∷ bs)
    (λ ms o. expect (Symbol symbol.CloseBracket) o (λ i. k (x ∷ ms) i)) (omega (arith, h)) refl

starts_unit : (u : UnitTree) (bs : List Token) → starts (g.unit_onto u bs) ≡ true
starts_unit nothing bs = refl
starts_unit pause bs = refl
starts_unit halt bs = refl
starts_unit (emit n) bs = refl
starts_unit (sustain n) bs = refl
starts_unit (exit n) bs = refl
starts_unit (await d) bs = refl
starts_unit (present n b) bs = refl
starts_unit (suspend t d c) bs = refl
starts_unit (abort t d c) bs = refl
starts_unit (weak_abort t d c) bs = refl
starts_unit (repeat t c) bs = refl
starts_unit (repeat_each t n) bs = refl
starts_unit (every d t c) bs = refl
starts_unit (trap n t c) bs = refl
starts_unit (signal ns t c) bs = refl
starts_unit (run n rs) bs = refl
starts_unit (group t) bs = refl

no_start : (s : List Want) (bs : List Token) → AfterSequence s bs → starts bs ≡ false
no_start s [] h = absurd h
no_start s (Keyword keyword.End ∷ bs) h = refl
no_start s (Keyword keyword.Else ∷ bs) h = refl
no_start s (Keyword keyword.When ∷ bs) h = refl
no_start s (Keyword keyword.Each ∷ bs) h = refl
no_start s (Symbol symbol.CloseBracket ∷ bs) h = refl
no_start s (Symbol symbol.Parallel ∷ bs) h = refl
no_start s (_ ∷ bs) h = absurd h

-- wants that go on with `end`
abbrev round : List Want
round = m.one kw_end ∷ []

closes : (t : Token) (c : Bool) (s : List Want) (bs : List Token) → NoPair (t ∷ bs) → AfterUnit s bs
    → AfterStatement round (kw_end ∷ g.token_if c t bs)
closes t c s bs p a = (no_pair_if t c s bs p a, ([], refl, λ b. refl))

again_is : (t : Token) → NeverAfter t → same t t ≡ true
    → (c : Bool) (s : List Want) (bs : List Token) (k : Bool → List Token → Answer) → AfterUnit s bs
    → again t (kw_end ∷ g.token_if c t bs) k ≡ k c bs
again_is t e f c s bs k a = maybe_is t c bs k f (after_skips t e s bs a)

mutual
  unit_is : (u : UnitTree) (n : ℕ) (s : List Want) (bs : List Token) (k : UnitTree → List Token → Answer)
      → suc (inner_size u) ≤ n → AfterUnit s bs → unit n (g.unit_onto u bs) k ≡ k u bs
  unit_is u zero s bs k h a = absurd (no_room (inner_size u) h)
  unit_is nothing (suc n) s bs k h a = refl
  unit_is pause (suc n) s bs k h a = refl
  unit_is halt (suc n) s bs k h a = refl
  unit_is (emit x) (suc n) s bs k h a = refl
  unit_is (sustain x) (suc n) s bs k h a = refl
  unit_is (exit x) (suc n) s bs k h a = refl
  unit_is (await d) (suc n) s bs k h a =
      delay_is d n bs (λ d r. k (await d) r) (omega (arith, h)) (unit_and s bs a) (unit_or s bs a)
  unit_is (run x rs) (suc n) s bs k h a =
      renamings_are rs n bs (λ ms q. k (run x ms) q) (omega (arith, h))
      (after_skips (Symbol symbol.OpenBracket)
      (record {
        no_end = refl;
        no_else = refl;
        no_when = refl;
        no_each = refl;
        no_close = refl;
        no_parallel = refl;
        no_semicolon = refl;
      }) s bs a)
  unit_is (present x b) (suc n) s bs k h a =
      test_is x n (g.branches_onto b bs) (λ m r. branches n r (λ b q. k (present m b) q)) (omega (arith, h))
      (branches_and b bs) (branches_or b bs) ∙ branches_is b n s bs (λ b q. k (present x b) q) (omega (arith, h)) a
  unit_is (suspend t d c) (suc n) s bs k h a =
      stmt_is t n round (Keyword keyword.When ∷ g.delay_onto d (g.end_if c (Keyword keyword.Suspend) bs))
      (λ t r. watched n r (λ d q. pair (Keyword keyword.Suspend) q (λ c p. k (suspend t d c) p))) (omega (arith, h)) tt
      ∙ delay_is d n (g.end_if c (Keyword keyword.Suspend) bs)
      (λ d q. pair (Keyword keyword.Suspend) q (λ c p. k (suspend t d c) p)) (omega (arith, h))
      (end_and (Keyword keyword.Suspend) c s bs a) (end_or (Keyword keyword.Suspend) c s bs a)
      ∙ pair_is (Keyword keyword.Suspend) c s bs (λ c p. k (suspend t d c) p) refl (λ b cs p. p.0) a
  unit_is (abort t d c) (suc n) s bs k h a =
      stmt_is t n round (Keyword keyword.When ∷ g.delay_onto d (g.end_if c (Keyword keyword.Abort) bs))
      (λ t r. watched n r (λ d q. pair (Keyword keyword.Abort) q (λ c p. k (abort t d c) p))) (omega (arith, h)) tt
      ∙ delay_is d n (g.end_if c (Keyword keyword.Abort) bs)
      (λ d q. pair (Keyword keyword.Abort) q (λ c p. k (abort t d c) p)) (omega (arith, h))
      (end_and (Keyword keyword.Abort) c s bs a) (end_or (Keyword keyword.Abort) c s bs a)
      ∙ pair_is (Keyword keyword.Abort) c s bs (λ c p. k (abort t d c) p) refl (λ b cs p. p.1) a
  unit_is (weak_abort t d c) (suc n) s bs k h a =
      stmt_is t n round (Keyword keyword.When ∷ g.delay_onto d (g.weak_end_onto c bs))
      (λ t r. watched n r (λ d q. weak_pair q (λ c p. k (weak_abort t d c) p))) (omega (arith, h)) tt
      ∙ delay_is d n (g.weak_end_onto c bs) (λ d q. weak_pair q (λ c p. k (weak_abort t d c) p)) (omega (arith, h))
      (weak_and c s bs a) (weak_or c s bs a)
      ∙ weak_is c s bs (λ c p. k (weak_abort t d c) p) a
  unit_is (repeat t c) (suc n) s bs k h a =
      stmt_is t n round (kw_end ∷ g.token_if c (Keyword keyword.Loop) bs)
      (λ t r. maybe (Keyword keyword.Each) r
      (λ x q. if x then test n q (λ m p. k (repeat_each t m) p)
      else again (Keyword keyword.Loop) q (λ c p. k (repeat t c) p))) (omega (arith, h))
      (closes (Keyword keyword.Loop) c s bs (refl, refl, refl) a)
      ∙ again_is (Keyword keyword.Loop)
      (record {
        no_end = refl;
        no_else = refl;
        no_when = refl;
        no_each = refl;
        no_close = refl;
        no_parallel = refl;
        no_semicolon = refl;
      }) refl c s bs (λ c p. k (repeat t c) p) a
  unit_is (repeat_each t x) (suc n) s bs k h a =
      stmt_is t n round (Keyword keyword.Each ∷ g.test_onto x bs)
      (λ t r. maybe (Keyword keyword.Each) r
      (λ x q. if x then test n q (λ m p. k (repeat_each t m) p) else again (Keyword keyword.Loop) q
      (λ c p. k (repeat t c) p))) (omega (arith, h)) tt
      ∙ test_is x n bs (λ m p. k (repeat_each t m) p) (omega (arith, h)) (unit_and s bs a) (unit_or s bs a)
  unit_is (every d t c) (suc n) s bs k h a =
      delay_is d n (Keyword keyword.Do ∷ (g.statement_onto t (kw_end ∷ g.token_if c (Keyword keyword.Every) bs)))
      (λ d o. expect (Keyword keyword.Do) o
      (λ i. stmt n i (λ t r. again (Keyword keyword.Every) r (λ c q. k (every d t c) q)))) (omega (arith, h)) refl refl
      ∙ stmt_is t n round (kw_end ∷ g.token_if c (Keyword keyword.Every) bs)
      (λ t r. again (Keyword keyword.Every) r (λ c q. k (every d t c) q)) (omega (arith, h))
      (closes (Keyword keyword.Every) c s bs (refl, refl, refl) a)
      ∙ again_is (Keyword keyword.Every)
      (record {
        no_end = refl;
        no_else = refl;
        no_when = refl;
        no_each = refl;
        no_close = refl;
        no_parallel = refl;
        no_semicolon = refl;
      }) refl c s bs (λ c q. k (every d t c) q) a
  unit_is (trap x t c) (suc n) s bs k h a =
      stmt_is t n round (kw_end ∷ g.token_if c (Keyword keyword.Trap) bs)
      (λ t r. again (Keyword keyword.Trap) r (λ c q. k (trap x t c) q)) (omega (arith, h))
      (closes (Keyword keyword.Trap) c s bs (refl, refl, refl) a)
      ∙ again_is (Keyword keyword.Trap)
      (record {
        no_end = refl;
        no_else = refl;
        no_when = refl;
        no_each = refl;
        no_close = refl;
        no_parallel = refl;
        no_semicolon = refl;
      }) refl c s bs (λ c q. k (trap x t c) q) a
  unit_is (signal ns t c) (suc n) s bs k h a =
      names_are ns.later n (Keyword keyword.In
      ∷ (g.statement_onto t (kw_end ∷ g.token_if c (Keyword keyword.Signal) bs)))
      (λ ms j. expect (Keyword keyword.In) j
      (λ i. stmt n i (λ t r. again (Keyword keyword.Signal) r
      (λ c q. k (signal (record { first = ns.first; later = ms }) t c) q)))) (omega (arith, h)) refl
      ∙ stmt_is t n round (kw_end ∷ g.token_if c (Keyword keyword.Signal) bs)
      (λ t r. again (Keyword keyword.Signal) r (λ c q. k (signal ns t c) q)) (omega (arith, h))
      (closes (Keyword keyword.Signal) c s bs (refl, refl, refl) a)
      ∙ again_is (Keyword keyword.Signal)
      (record {
        no_end = refl;
        no_else = refl;
        no_when = refl;
        no_each = refl;
        no_close = refl;
        no_parallel = refl;
        no_semicolon = refl;
      }) refl c s bs (λ c q. k (signal ns t c) q) a
  unit_is (group t) (suc n) s bs k h a = stmt_is t n round (Symbol symbol.CloseBracket ∷ bs)
      (λ t r. expect (Symbol symbol.CloseBracket) r (λ q. k (group t) q)) (omega (arith, h)) tt

  branches_is : (b : BranchesTree) (n : ℕ) (s : List Want) (bs : List Token) (k : BranchesTree → List Token → Answer)
      → branches_size b ≤ n → AfterUnit s bs → branches n (g.branches_onto b bs) k ≡ k b bs
  branches_is (then_only t c) zero s bs k h a = absurd (no_room (stmt_size t) h)
  branches_is (else_only t c) zero s bs k h a = absurd (no_room (stmt_size t) h)
  branches_is (both t e c) zero s bs k h a = absurd (no_room (stmt_size t + stmt_size e) h)
  branches_is (then_only t c) (suc n) s bs k h a =
      stmt_is t n round (kw_end ∷ g.token_if c (Keyword keyword.Present) bs)
      (λ t q. maybe (Keyword keyword.Else) q
      (λ y p. if y then stmt n p (λ e o. again (Keyword keyword.Present) o (λ c i. k (both t e c) i))
      else again (Keyword keyword.Present) p (λ c i. k (then_only t c) i))) (omega (arith, h))
      (closes (Keyword keyword.Present) c s bs (refl, refl, refl) a)
      ∙ again_is (Keyword keyword.Present)
      (record {
        no_end = refl;
        no_else = refl;
        no_when = refl;
        no_each = refl;
        no_close = refl;
        no_parallel = refl;
        no_semicolon = refl;
      }) refl c s bs (λ c i. k (then_only t c) i) a
  branches_is (else_only e c) (suc n) s bs k h a =
      stmt_is e n round (kw_end ∷ g.token_if c (Keyword keyword.Present) bs)
      (λ e p. again (Keyword keyword.Present) p (λ c i. k (else_only e c) i)) (omega (arith, h))
      (closes (Keyword keyword.Present) c s bs (refl, refl, refl) a)
      ∙ again_is (Keyword keyword.Present)
      (record {
        no_end = refl;
        no_else = refl;
        no_when = refl;
        no_each = refl;
        no_close = refl;
        no_parallel = refl;
        no_semicolon = refl;
      }) refl c s bs (λ c i. k (else_only e c) i) a
  branches_is (both t e c) (suc n) s bs k h a =
      stmt_is t n round (Keyword keyword.Else
      ∷ g.statement_onto e (kw_end ∷ g.token_if c (Keyword keyword.Present) bs))
      (λ t q. maybe (Keyword keyword.Else) q
      (λ y p. if y then stmt n p (λ e o. again (Keyword keyword.Present) o (λ c i. k (both t e c) i)) else again
      (Keyword keyword.Present) p (λ c i. k (then_only t c) i))) (omega (arith, h)) tt
      ∙ stmt_is e n round (kw_end ∷ g.token_if c (Keyword keyword.Present) bs)
      (λ e o. again (Keyword keyword.Present) o (λ c i. k (both t e c) i)) (omega (arith, h))
      (closes (Keyword keyword.Present) c s bs (refl, refl, refl) a)
      ∙ again_is (Keyword keyword.Present)
      (record {
        no_end = refl;
        no_else = refl;
        no_when = refl;
        no_each = refl;
        no_close = refl;
        no_parallel = refl;
        no_semicolon = refl;
      }) refl c s bs (λ c i. k (both t e c) i) a

  seq_is : (q : SequenceTree) (n : ℕ) (s : List Want) (bs : List Token) (k : SequenceTree → List Token → Answer)
      → seq_size q ≤ n → AfterSequence s bs → seq n (g.sequence_onto q bs) k ≡ k q bs
  seq_is (sequence u us c) zero s bs k h a = absurd (no_room (suc (inner_size u) + units_size us) h)
  seq_is (sequence u us c) (suc n) s bs k h a =
      unit_is u n (m.sequence_tail ∷ s) (g.units_onto us (g.token_if c (Symbol symbol.Semicolon) bs))
      (λ u r. tail n r (λ us c q. k (sequence u us c) q)) (omega (arith, h)) (behind_units us c s bs a)
      ∙ tail_is us c n s bs (λ us c q. k (sequence u us c) q) (omega (arith, h)) a

  tail_is : (us : UnitsTree) (c : Bool) (n : ℕ) (s : List Want) (bs : List Token)
      (k : UnitsTree → Bool → List Token → Answer) → units_size us ≤ n → AfterSequence s bs
      → tail n (g.units_onto us (g.token_if c (Symbol symbol.Semicolon) bs)) k ≡ k us c bs
  tail_is no_units c zero s bs k h a = absurd (no_room 0 h)
  tail_is (units u us) c zero s bs k h a = absurd (no_room (suc (inner_size u) + units_size us) h)
  tail_is no_units true (suc n) s bs k h a = if_false (starts bs) _ _ (no_start s bs a)
  tail_is no_units false (suc n) s bs k h a = maybe_not (Symbol symbol.Semicolon) bs _ (sequence_skips s bs a)
  tail_is (units u us) c (suc n) s bs k h a =
      if_true (starts (g.unit_onto u (g.units_onto us (g.token_if c (Symbol symbol.Semicolon) bs)))) _ _
      (starts_unit u (g.units_onto us (g.token_if c (Symbol symbol.Semicolon) bs)))
      ∙ unit_is u n (m.sequence_tail ∷ s) (g.units_onto us (g.token_if c (Symbol symbol.Semicolon) bs))
      (λ u q. tail n q (λ us c p. k (units u us) c p)) (omega (arith, h)) (behind_units us c s bs a)
      ∙ tail_is us c n s bs (λ us c p. k (units u us) c p) (omega (arith, h)) a

  stmt_is : (t : StatementTree) (n : ℕ) (s : List Want) (bs : List Token) (k : StatementTree → List Token → Answer)
      → stmt_size t ≤ n → AfterStatement s bs → stmt n (g.statement_onto t bs) k ≡ k t bs
  stmt_is (statement q qs) zero s bs k h a = absurd (no_room (seq_size q + sides_size qs) h)
  stmt_is (statement q qs) (suc n) s bs k h a =
      seq_is q n (m.statement_tail ∷ s) (g.sequences_onto qs bs) (λ q r. side n r (λ qs p. k (statement q qs) p))
      (omega (arith, h)) (behind_sequences qs s bs a)
      ∙ side_is qs n s bs (λ qs p. k (statement q qs) p) (omega (arith, h)) a

  side_is : (qs : SequencesTree) (n : ℕ) (s : List Want) (bs : List Token) (k : SequencesTree → List Token → Answer)
      → sides_size qs ≤ n → AfterStatement s bs → side n (g.sequences_onto qs bs) k ≡ k qs bs
  side_is no_sequences zero s bs k h a = absurd (no_room 0 h)
  side_is (sequences q qs) zero s bs k h a = absurd (no_room (seq_size q + sides_size qs) h)
  side_is no_sequences (suc n) s bs k h a = maybe_not (Symbol symbol.Parallel) bs _ (statement_skips s bs a)
  side_is (sequences q qs) (suc n) s bs k h a =
      seq_is q n (m.statement_tail ∷ s) (g.sequences_onto qs bs) (λ q p. side n p (λ qs o. k (sequences q qs) o))
      (omega (arith, h)) (behind_sequences qs s bs a)
      ∙ side_is qs n s bs (λ qs o. k (sequences q qs) o) (omega (arith, h)) a

-- ---- modules

abbrev relation_size : RelationTree → ℕ
relation_size (excludes a b ns) = suc (length ns)
relation_size (implies a b) = 0

abbrev relations_size : List RelationTree → ℕ
relations_size [] = 1
relations_size (r ∷ rs) = suc (relation_size r + relations_size rs)

abbrev declaration_size : DeclarationTree → ℕ
declaration_size (input ns) = suc (length ns.later)
declaration_size (output ns) = suc (length ns.later)
declaration_size (inputoutput ns) = suc (length ns.later)
declaration_size (relations r rs) = relation_size r + relations_size rs

abbrev declarations_size : List DeclarationTree → ℕ
declarations_size [] = 1
declarations_size (d ∷ ds) = suc (declaration_size d + declarations_size ds)

abbrev modules_size : List ModuleTree → ℕ
modules_size [] = 1
modules_size (p ∷ ps) = suc (declarations_size p.declarations + stmt_size p.body + modules_size ps)

relation_is : (r : RelationTree) (n : ℕ) (bs : List Token) (k : RelationTree → List Token → Answer)
    → relation_size r ≤ n → Skips (Symbol symbol.Hash) bs → relation n (g.relation_onto r bs) k ≡ k r bs
relation_is (excludes a b ns) n bs k h e = members_are ns n bs (λ ns i. k (excludes a b ns) i) h e
relation_is (implies a b) n bs k h e = refl

behind_relations : (rs : List RelationTree) (bs : List Token)
    → Skips (Symbol symbol.Hash) (g.later_relations_onto rs (Symbol symbol.Semicolon ∷ bs))
behind_relations [] bs = refl
behind_relations (r ∷ rs) bs = refl

relations_are : (rs : List RelationTree) (n : ℕ) (bs : List Token) (k : List RelationTree → List Token → Answer)
    → relations_size rs ≤ n → later_relations n (g.later_relations_onto rs (Symbol symbol.Semicolon ∷ bs)) k ≡ k rs
    (Symbol symbol.Semicolon ∷ bs)
relations_are [] zero bs k h = absurd (no_room 0 h)
relations_are (r ∷ rs) zero bs k h = absurd (no_room (relation_size r + relations_size rs) h)
relations_are [] (suc n) bs k h = refl
relations_are (r ∷ rs) (suc n) bs k h =
    relation_is r n (g.later_relations_onto rs (Symbol symbol.Semicolon ∷ bs))
    (λ a q. later_relations n q (λ zs p. k (a ∷ zs) p)) (omega (arith, h)) (behind_relations rs bs)
    ∙ relations_are rs n bs (λ zs p. k (r ∷ zs) p) (omega (arith, h))

-- no declaration begins where a unit does
no_word : (u : UnitTree) (bs : List Token) → Skips (Keyword keyword.Input) (g.unit_onto u bs)
    × Skips (Keyword keyword.Output) (g.unit_onto u bs) × Skips (Keyword keyword.Inputoutput) (g.unit_onto u bs)
    × Skips (Keyword keyword.Relation) (g.unit_onto u bs)
no_word nothing bs = (refl, refl, refl, refl)
no_word pause bs = (refl, refl, refl, refl)
no_word halt bs = (refl, refl, refl, refl)
no_word (emit n) bs = (refl, refl, refl, refl)
no_word (sustain n) bs = (refl, refl, refl, refl)
no_word (exit n) bs = (refl, refl, refl, refl)
no_word (await d) bs = (refl, refl, refl, refl)
no_word (present n b) bs = (refl, refl, refl, refl)
no_word (suspend t d c) bs = (refl, refl, refl, refl)
no_word (abort t d c) bs = (refl, refl, refl, refl)
no_word (weak_abort t d c) bs = (refl, refl, refl, refl)
no_word (repeat t c) bs = (refl, refl, refl, refl)
no_word (repeat_each t n) bs = (refl, refl, refl, refl)
no_word (every d t c) bs = (refl, refl, refl, refl)
no_word (trap n t c) bs = (refl, refl, refl, refl)
no_word (signal ns t c) bs = (refl, refl, refl, refl)
no_word (run n rs) bs = (refl, refl, refl, refl)
no_word (group t) bs = (refl, refl, refl, refl)

declarations_end : (n : ℕ) (bs : List Token) (k : List DeclarationTree → List Token → Answer)
    → Skips (Keyword keyword.Input) bs × Skips (Keyword keyword.Output) bs × Skips (Keyword keyword.Inputoutput) bs
    × Skips (Keyword keyword.Relation) bs
    → declarations (suc n) bs k ≡ k [] bs
declarations_end n bs k e = maybe_not (Keyword keyword.Input) bs _ e.0 ∙ maybe_not (Keyword keyword.Output) bs _ e.1
    ∙ maybe_not (Keyword keyword.Inputoutput) bs _ e.2 ∙ maybe_not (Keyword keyword.Relation) bs _ e.3

statement_word : (t : StatementTree) (bs : List Token) → Skips (Keyword keyword.Input) (g.statement_onto t bs)
    × Skips (Keyword keyword.Output) (g.statement_onto t bs)
    × Skips (Keyword keyword.Inputoutput) (g.statement_onto t bs)
    × Skips (Keyword keyword.Relation) (g.statement_onto t bs)
statement_word (statement (sequence u us c) qs) bs =
    no_word u (g.units_onto us (g.token_if c (Symbol symbol.Semicolon) (g.sequences_onto qs bs)))

declarations_are : (ds : List DeclarationTree) (n : ℕ) (t : StatementTree) (bs : List Token)
    (k : List DeclarationTree → List Token → Answer) → declarations_size ds ≤ n
    → declarations n (g.declarations_onto ds (g.statement_onto t bs)) k ≡ k ds (g.statement_onto t bs)
declarations_are [] zero t bs k h = absurd (no_room 0 h)
declarations_are (d ∷ ds) zero t bs k h = absurd (no_room (declaration_size d + declarations_size ds) h)
declarations_are [] (suc n) t bs k h = declarations_end n (g.statement_onto t bs) k (statement_word t bs)
declarations_are (input ns ∷ ds) (suc n) t bs k h =
    names_are ns.later n (Symbol symbol.Semicolon ∷ g.declarations_onto ds (g.statement_onto t bs))
    (λ zs p. expect (Symbol symbol.Semicolon) p
    (λ o. declarations n o (λ ds i. k (input (record { first = ns.first; later = zs }) ∷ ds) i)))
    (omega (arith, h)) refl
    ∙ declarations_are ds n t bs (λ ds i. k (input ns ∷ ds) i) (omega (arith, h))
declarations_are (output ns ∷ ds) (suc n) t bs k h =
    names_are ns.later n (Symbol symbol.Semicolon ∷ g.declarations_onto ds (g.statement_onto t bs))
    (λ zs p. expect (Symbol symbol.Semicolon) p
    (λ o. declarations n o (λ ds i. k (output (record { first = ns.first; later = zs }) ∷ ds) i)))
    (omega (arith, h)) refl
    ∙ declarations_are ds n t bs (λ ds i. k (output ns ∷ ds) i) (omega (arith, h))
declarations_are (inputoutput ns ∷ ds) (suc n) t bs k h =
    names_are ns.later n (Symbol symbol.Semicolon ∷ g.declarations_onto ds (g.statement_onto t bs))
    (λ zs p. expect (Symbol symbol.Semicolon) p
    (λ o. declarations n o (λ ds i. k (inputoutput (record { first = ns.first; later = zs }) ∷ ds) i)))
    (omega (arith, h)) refl
    ∙ declarations_are ds n t bs (λ ds i. k (inputoutput ns ∷ ds) i) (omega (arith, h))
declarations_are (relations r rs ∷ ds) (suc n) t bs k h =
    relation_is r n (g.later_relations_onto rs
    (Symbol symbol.Semicolon ∷ g.declarations_onto ds (g.statement_onto t bs)))
    (λ a o. later_relations n o (λ zs i. expect (Symbol symbol.Semicolon) i
    (λ j. declarations n j (λ ds l. k (relations a zs ∷ ds) l)))) (omega (arith, h))
    (behind_relations rs (g.declarations_onto ds (g.statement_onto t bs)))
    ∙ relations_are rs n (g.declarations_onto ds (g.statement_onto t bs))
    (λ zs i. expect (Symbol symbol.Semicolon) i (λ j. declarations n j (λ ds l. k (relations r zs ∷ ds) l)))
    (omega (arith, h))
    ∙ declarations_are ds n t bs (λ ds l. k (relations r rs ∷ ds) l) (omega (arith, h))

module_is : (p : ModuleTree) (n : ℕ) (bs : List Token) (k : ModuleTree → List Token → Answer)
    → declarations_size p.declarations + stmt_size p.body ≤ n
    → module_from n (Identifier p.name ∷ Symbol symbol.Colon
    ∷ g.declarations_onto p.declarations (g.statement_onto p.body (kw_end ∷ Keyword keyword.Module ∷ bs))) k ≡ k p bs
module_is p n bs k h =
    declarations_are p.declarations n p.body (kw_end ∷ Keyword keyword.Module ∷ bs)
    (λ ds q. stmt n q (λ t o. expect kw_end o
    (λ i. expect (Keyword keyword.Module) i (λ j. k (record { name = p.name; declarations = ds; body = t }) j))))
    (omega (arith, h))
    ∙ stmt_is p.body n round (kw_end ∷ Keyword keyword.Module ∷ bs)
    (λ t o. expect kw_end o (λ i. expect (Keyword keyword.Module) i
    (λ j. k (record { name = p.name; declarations = p.declarations; body = t }) j))) (omega (arith, h))
    ((refl, refl, refl), ([], refl, λ b. refl))

modules_are : (ps : List ModuleTree) (n : ℕ) (k : List ModuleTree → List Token → Answer) → modules_size ps ≤ n
    → modules n (g.modules_onto ps []) k ≡ k ps []
modules_are [] zero k h = absurd (no_room 0 h)
modules_are (p ∷ ps) zero k h =
    absurd (no_room (declarations_size p.declarations + stmt_size p.body + modules_size ps) h)
modules_are [] (suc n) k h = refl
modules_are (p ∷ ps) (suc n) k h =
    module_is p n (g.modules_onto ps []) (λ p q. modules n q (λ ps o. k (p ∷ ps) o)) (omega (arith, h))
    ∙ modules_are ps n (λ ps o. k (p ∷ ps) o) (omega (arith, h))

library_is : (l : LibraryTree) (n : ℕ) → modules_size (l.first ∷ l.later) ≤ n → library_of n (g.spelling l) ≡ Some l
library_is l n h = modules_are (l.first ∷ l.later) n finished h

same_answer : (k l : LibraryTree) → Some k ≡ Some l → k ≡ l
same_answer k l e = cc

-- one library alone is spelt so
pub one_library : (k l : LibraryTree) → g.spelling k ≡ g.spelling l → k ≡ l
one_library k l e =
    let n = modules_size (k.first ∷ k.later) + modules_size (l.first ∷ l.later) in
    same_answer k l (sym (library_is k n (omega arith)) ∙ ap (library_of n) e ∙ library_is l n (omega arith))
