-- Steps of the parser: one reading after another.
use Rattle.std.proofs.Common.{◌≡◌, ◌∙◌, ℕ, ◌≤◌, ◌<◌, ◌⊎◌, inl, inr, List, [], ◌∷◌, ◌++◌, Bool, true, false}
use Rattle.std.proofs.Common.{if◌then◌else◌, length, refl, sym, ap, arith}
use Rattle.est_text.specs.declared.token.Token.{Token}
use Rattle.est_text.specs.declared.token.Token.TheVariants.{Keyword, Identifier, Symbol}
use Rattle.est_text.specs.declared.keyword.Keyword.TheVariants as keyword
use Rattle.est_text.specs.declared.token.Symbol.TheVariants as symbol
use Rattle.est_syntax.specs.declared.fault.ParserStop.{ParserStop}
use Rattle.est_syntax.specs.declared.fault.ParserStop.TheVariants.{Syntax, TooDeep, Memory}
use Rattle.est_syntax.specs.Tree.{RenamingTree, UnitTree, SequenceTree, RelationTree, DeclarationTree, ModuleTree}
use Rattle.est_syntax.specs.Grammar as g
use Rattle.est_syntax.specs.Views.{units_of, sequences_of}
use Rattle.est_syntax.specs.Inner.Machine as m
use Rattle.est_syntax.specs.Inner.Machine.{Want, run, Skips}
use Rattle.est_syntax.specs.Inner.Parsing.{Fails, EndsSo, renamings_so_far}
use Rattle.est_syntax.specs.declared.parse.TheConstants.{MOST_OPEN_UNITS}

-- what is wanted leads to something else that fails
pub fails_from : (ws vs : List Want) (f : List Want → List Want) (bs after : List Token) (e : ParserStop)
    → ((s : List Want) → run MOST_OPEN_UNITS (ws ++ s) bs ≡ run MOST_OPEN_UNITS (vs ++ f s) after) → Fails vs after e
    → Fails ws bs e
fails_from ws vs f bs after (Syntax n) h k = (k.0, k.1, λ s. h s ∙ k.2 (f s))
fails_from ws vs f bs after (TooDeep n) h k = (k.0, k.1, λ s. h s ∙ k.2 (f s))
fails_from ws vs f bs after Memory h k = tt

pub names_push : (ns : List (List ℕ)) (n : List ℕ) (rest : List Token)
    → g.later_names_onto (ns ++ n ∷ []) rest ≡ g.later_names_onto ns (Symbol symbol.Comma ∷ Identifier n ∷ rest)
names_push [] n rest = refl
names_push (k ∷ ns) n rest = ap (λ (l : List Token). Symbol symbol.Comma ∷ Identifier k ∷ l) (names_push ns n rest)

pub members_push : (ns : List (List ℕ)) (n : List ℕ) (rest : List Token)
    → g.later_members_onto (ns ++ n ∷ []) rest ≡ g.later_members_onto ns (Symbol symbol.Hash ∷ Identifier n ∷ rest)
members_push [] n rest = refl
members_push (k ∷ ns) n rest = ap (λ (l : List Token). Symbol symbol.Hash ∷ Identifier k ∷ l) (members_push ns n rest)

pub later_renamings_push : (rs : List RenamingTree) (r : RenamingTree) (rest : List Token)
    → g.later_renamings_onto (rs ++ r ∷ []) rest ≡ g.later_renamings_onto rs
    (Symbol symbol.Comma ∷ g.renaming_onto r rest)
later_renamings_push [] r rest = refl
later_renamings_push (k ∷ rs) r rest =
    ap (λ (l : List Token). Symbol symbol.Comma ∷ g.renaming_onto k l) (later_renamings_push rs r rest)

pub relations_push : (rs : List RelationTree) (r : RelationTree) (rest : List Token)
    → g.later_relations_onto (rs ++ r ∷ []) rest ≡ g.later_relations_onto rs
    (Symbol symbol.Comma ∷ g.relation_onto r rest)
relations_push [] r rest = refl
relations_push (k ∷ rs) r rest = ap (λ (l : List Token). Symbol symbol.Comma ∷ g.relation_onto k l)
    (relations_push rs r rest)

pub declarations_push : (ds : List DeclarationTree) (d : DeclarationTree) (rest : List Token)
    → g.declarations_onto (ds ++ d ∷ []) rest ≡ g.declarations_onto ds (g.declaration_onto d rest)
declarations_push [] d rest = refl
declarations_push (k ∷ ds) d rest = ap (λ (l : List Token). g.declaration_onto k l) (declarations_push ds d rest)

pub modules_push : (ps : List ModuleTree) (p : ModuleTree) (rest : List Token)
    → g.modules_onto (ps ++ p ∷ []) rest ≡ g.modules_onto ps (g.module_onto p rest)
modules_push [] p rest = refl
modules_push (k ∷ ps) p rest = ap (λ (l : List Token). g.module_onto k l) (modules_push ps p rest)

pub units_push : (us : List UnitTree) (u : UnitTree) (rest : List Token)
    → g.units_onto (units_of (us ++ u ∷ [])) rest ≡ g.units_onto (units_of us)
    (Symbol symbol.Semicolon ∷ g.unit_onto u rest)
units_push [] u rest = refl
units_push (v ∷ us) u rest = ap (λ (l : List Token). Symbol symbol.Semicolon ∷ g.unit_onto v l) (units_push us u rest)

pub sequences_push : (qs : List SequenceTree) (q : SequenceTree) (rest : List Token)
    → g.sequences_onto (sequences_of (qs ++ q ∷ [])) rest ≡ g.sequences_onto (sequences_of qs)
    (Symbol symbol.Parallel ∷ g.sequence_onto q rest)
sequences_push [] q rest = refl
sequences_push (r ∷ qs) q rest = ap (λ (l : List Token). Symbol symbol.Parallel ∷ g.sequence_onto r l)
    (sequences_push qs q rest)

-- a list of names with one more after its comma
pub one_more_name : (bs mid left rest : List Token) (ns items : List (List ℕ)) (n : List ℕ)
    → bs ≡ g.later_names_onto ns left → left ≡ Symbol symbol.Comma ∷ mid → mid ≡ Identifier n ∷ rest
    → items ≡ ns ++ n ∷ [] → bs ≡ g.later_names_onto items rest
one_more_name bs mid left rest ns items n e f h i =
    e ∙ ap (λ (l : List Token). g.later_names_onto ns l) (f ∙ ap (λ (l : List Token). Symbol symbol.Comma ∷ l) h)
    ∙ sym (names_push ns n rest) ∙ ap (λ (k : List (List ℕ)). g.later_names_onto k rest) (sym i)

pub one_more_member : (bs mid left rest : List Token) (ns items : List (List ℕ)) (n : List ℕ)
    → bs ≡ g.later_members_onto ns left → left ≡ Symbol symbol.Hash ∷ mid → mid ≡ Identifier n ∷ rest
    → items ≡ ns ++ n ∷ [] → bs ≡ g.later_members_onto items rest
one_more_member bs mid left rest ns items n e f h i =
    e ∙ ap (λ (l : List Token). g.later_members_onto ns l) (f ∙ ap (λ (l : List Token). Symbol symbol.Hash ∷ l) h)
    ∙ sym (members_push ns n rest) ∙ ap (λ (k : List (List ℕ)). g.later_members_onto k rest) (sym i)

-- after an `end` that makes no pair and can end nothing else, nothing goes on
pub weak_stops : (ends : Bool) (x : List Token) → Skips (Keyword keyword.Abort) x → Skips (Keyword keyword.Weak) x
    → ends ≡ false → (s : List Want) → EndsSo ends s → run MOST_OPEN_UNITS (m.may_end_weak ∷ s) (m.kw_end ∷ x)
    ≡ m.wrong x
weak_stops true x a w e s h = cc
weak_stops false [] a w e s h = refl
weak_stops false (b ∷ bs) a w e s h =
    ap (λ (y : Bool). m.go_on MOST_OPEN_UNITS
    (if y then m.to s else (if m.same (Keyword keyword.Weak) b then m.to
    (m.one (Keyword keyword.Abort) ∷ s) else m.step_after_end s b)) (b ∷ bs) (λ t. run MOST_OPEN_UNITS t bs)) a
    ∙ ap (λ (y : Bool). m.go_on MOST_OPEN_UNITS
    (if y then m.to (m.one (Keyword keyword.Abort) ∷ s) else m.step_after_end s b) (b ∷ bs)
    (λ t. run MOST_OPEN_UNITS t bs)) w
    ∙ ap (λ o. m.go_on MOST_OPEN_UNITS o (b ∷ bs) (λ t. run MOST_OPEN_UNITS t bs)) (h b)

pub weak_ends : (ends : Bool) (n : ℕ) (x : List Token) → n ≡ length x → Skips (Keyword keyword.Abort) x
    → Skips (Keyword keyword.Weak) x → (ends ≡ false) ⊎ ((ends ≡ true) × (n ≡ 0)) → (s : List Want) → EndsSo ends s
    → run MOST_OPEN_UNITS (m.may_end_weak ∷ s) (m.kw_end ∷ x) ≡ m.wrong x
weak_ends ends n x l a w (inl e) s h = weak_stops ends x a w e s h
weak_ends ends n [] l a w (inr e) s h = refl
weak_ends ends n (b ∷ bs) l a w (inr e) s h = absurd (no_length bs (sym l ∙ e.1))
  where
    no_length : (bs : List Token) → length (b ∷ bs) ≡ 0 → ⊥
    no_length bs e = cc

pub relation_tail_is : (s : List Want) (bs : List Token) → Skips (Symbol symbol.Implies) bs
    → run MOST_OPEN_UNITS (m.relation_tail ∷ s) bs ≡ run MOST_OPEN_UNITS
    (m.one (Symbol symbol.Hash) ∷ m.name ∷ m.later_members ∷ s) bs
relation_tail_is s [] h = refl
relation_tail_is s (Symbol symbol.Implies ∷ bs) h = cc
relation_tail_is s (_ ∷ bs) h = refl

pub one_more_renaming : (bs mid left rest : List Token) (rs items : List RenamingTree) (r : RenamingTree)
    → bs ≡ renamings_so_far rs left → 0 < length rs → left ≡ Symbol symbol.Comma ∷ mid → mid ≡ g.renaming_onto r rest
    → items ≡ rs ++ r ∷ [] → bs ≡ renamings_so_far items rest
one_more_renaming bs mid left rest [] items r e l f h i = absurd (no_less l)
  where
    no_less : 0 < 0 → ⊥
    no_less h = omega (arith, h)
one_more_renaming bs mid left rest (k ∷ rs) items r e l f h i =
    e ∙ ap (λ (x : List Token). Symbol symbol.OpenBracket ∷ Keyword keyword.Signal
    ∷ g.renaming_onto k (g.later_renamings_onto rs x)) (f ∙ ap (λ (x : List Token). Symbol symbol.Comma ∷ x) h)
    ∙ ap (λ (x : List Token). Symbol symbol.OpenBracket ∷ Keyword keyword.Signal ∷ g.renaming_onto k x)
    (sym (later_renamings_push rs r rest))
    ∙ ap (λ (x : List RenamingTree). renamings_so_far x rest) (sym i)

pub relation_is : (s : List Want) (bs : List Token)
    → run MOST_OPEN_UNITS (m.relation ∷ s) bs ≡ run MOST_OPEN_UNITS (m.name ∷ m.relation_tail ∷ s) bs
relation_is s [] = refl
relation_is s (Identifier n ∷ bs) = refl
relation_is s (_ ∷ bs) = refl

pub one_more_relation : (bs mid left rest : List Token) (rs items : List RelationTree) (r : RelationTree)
    → bs ≡ g.later_relations_onto rs left → left ≡ Symbol symbol.Comma ∷ mid → mid ≡ g.relation_onto r rest
    → items ≡ rs ++ r ∷ [] → bs ≡ g.later_relations_onto items rest
one_more_relation bs mid left rest rs items r e f h i =
    e ∙ ap (λ (l : List Token). g.later_relations_onto rs l) (f ∙ ap (λ (l : List Token). Symbol symbol.Comma ∷ l) h)
    ∙ sym (relations_push rs r rest) ∙ ap (λ (k : List RelationTree). g.later_relations_onto k rest) (sym i)

pub one_more_declaration : (bs left rest : List Token) (ds items : List DeclarationTree) (d : DeclarationTree)
    → bs ≡ g.declarations_onto ds left → left ≡ g.declaration_onto d rest → items ≡ ds ++ d ∷ []
    → bs ≡ g.declarations_onto items rest
one_more_declaration bs left rest ds items d e h i =
    e ∙ ap (λ (l : List Token). g.declarations_onto ds l) h ∙ sym (declarations_push ds d rest)
    ∙ ap (λ (k : List DeclarationTree). g.declarations_onto k rest) (sym i)

pub ends_leave : (ends : Bool) (s : List Want) → EndsSo ends s → EndsSo ends (m.leave ∷ s)
ends_leave true s h = h
ends_leave false s h = h

pub loop_tail_is : (s : List Want) (bs : List Token) → Skips (Keyword keyword.Each) bs
    → run MOST_OPEN_UNITS (m.loop_tail ∷ s) bs ≡ run MOST_OPEN_UNITS
    (m.one m.kw_end ∷ m.may (Keyword keyword.Loop) ∷ s) bs
loop_tail_is s [] h = refl
loop_tail_is s (Keyword keyword.Each ∷ bs) h = cc
loop_tail_is s (_ ∷ bs) h = refl
