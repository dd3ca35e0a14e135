-- A text and the name of its main module have one first fault at most, and none where they give a module.
use Rattle.std.proofs.Common.{◌≡◌, ◌⊎◌, ◌∙◌, ℕ, List, inl, inr, refl, ap, sym, subst}
use Rattle.std.specs.Prelude.{Some, None, Option}
use Rattle.est_kernel.specs.Limits.{limit_passed}
use Rattle.est_kernel.specs.StartCodes.{IsLoopSafe}
use Rattle.est_kernel.specs.declared.limits.Limit.{Limit}
use Rattle.est_checks.specs.FirstFaults.{IsFirstFault}
use Rattle.est_modules.specs.Modules.{programs_of}
use Rattle.est_checks.specs.declared.fault.LinkFault.{LinkFault}
use Rattle.est_checks.proofs.Uniqueness.{one_first_fault}
use Rattle.est_link.specs.FlatModules.{FlatModule}
use Rattle.est_reduce.specs.Bodies.{Body}
use Rattle.est_reduce.specs.Reducing.{IsFaultOf}
use Rattle.est_reduce.specs.declared.fault.ReduceFault.{ReduceFault}
use Rattle.est_reduce.specs.declared.fault.ReduceFault.TheVariants as reduce
use Rattle.est_reduce.proofs.Answering.{one_fault}
use Rattle.est_syntax.specs.Grammar.{tokens_of}
use Rattle.est_syntax.specs.Faults.{IsSyntaxFault, IsTooDeep}
use Rattle.est_syntax.specs.ParseFaults.{IsParseFault}
use Rattle.est_syntax.specs.Tree.{LibraryTree}
use Rattle.est_syntax.specs.declared.parse.ParseFault.{ParseFault}
use Rattle.est_syntax.specs.declared.parse.ParseFault.TheVariants as parse
use Rattle.est_syntax.specs.declared.parse.TheConstants.{MOST_OPEN_UNITS}
use Rattle.est_syntax.proofs.OneFault.{one_syntax_fault, one_kind, no_syntax_fault, not_too_deep}
use Rattle.est_text.specs.Lexing.{IsFirstFault as IsCutFault, IsLexFault}
use Rattle.est_text.specs.Pieces.{AreTokens}
use Rattle.est_text.specs.Places.{place_after}
use Rattle.est_text.specs.TokenLists.{TokenList, place_of}
use Rattle.est_text.specs.declared.lex.LexFault.{LexFault}
use Rattle.est_text.specs.declared.lex.LexFault.TheVariants as lex
use Rattle.est_text.specs.declared.token.Located.{Located}
use Rattle.std.specs.Prelude.{take}
use Rattle.reactor_core.specs.declared.refusal.ReactorRefusal.{ReactorRefusal}
use Rattle.reactor_core.specs.declared.refusal.ReactorRefusal.TheVariants.{Module, Memory}
use Rattle.reactor_core.specs.declared.refusal.ModuleRefusal.TheVariants.{Lexical, Syntax}
use Rattle.est_text.specs.declared.place.Place.{Place}
use Rattle.reactor_core.specs.Faults.{refusal_of_lex, refusal_of_parse, refusal_of_link, refusal_of_reduce}
use Rattle.reactor_core.specs.Loading.{IsCutOf, Spells, LinksTo, GivenModule, Gives, IsLoadFault, in_cutting}
use Rattle.reactor_core.specs.Loading.{in_grammar, in_linking, in_reduction}
use Rattle.reactor_core.proofs.OneLoad.{CutsAreOne, LinksAreOne, none_found, same_library, same_flat}

-- a text has one first place where no piece stands, and none where it is cut into tokens (a law of est_text)
pub record CutFaultsAreOne : Type 0 where
  pub same : (text : List ℕ) (at other : ℕ) → IsCutFault text at → IsCutFault text other → at ≡ other
  pub no_tokens : (text : List ℕ) (tokens : List Located) (at : ℕ) → AreTokens text tokens → IsCutFault text at → ⊥

-- two refusals of a load are one, unless memory was refused for one of them
abbrev pub AreOne : ReactorRefusal → ReactorRefusal → Type 0
AreOne a b = (a ≡ b) ⊎ (a ≡ Memory) ⊎ (b ≡ Memory)

other_way : {a b : ReactorRefusal} → AreOne a b → AreOne b a
other_way (inl same) = inl (sym same)
other_way (inr (inl memory)) = inr (inr memory)
other_way (inr (inr memory)) = inr (inl memory)

some_fault : (a b : LinkFault) → Some a ≡ Some b → a ≡ b
some_fault a b e = cc

none_fault : (a : LinkFault) → None ≡ Some a → ⊥
none_fault a e = cc

none_some : (a : Limit) → None ≡ Some a → ⊥
none_some a e = cc

module _ (cuts : CutsAreOne) (faults : CutFaultsAreOne) (links : LinksAreOne) where
  -- ---- cutting

  -- a text that is cut has no fault of cutting
  cut_or_memory : (text : List ℕ) (tokens : TokenList) → IsCutOf text tokens → (fault : LexFault)
      → IsLexFault text fault → refusal_of_lex fault ≡ Memory
  cut_or_memory text tokens cut (lex.Lexical place) h = absurd (faults.no_tokens text tokens.located h.0 cut.cut h.1)
  cut_or_memory text tokens cut lex.Memory h = refl

  two_cuttings : (text : List ℕ) (a b : LexFault) → IsLexFault text a → IsLexFault text b
      → AreOne (refusal_of_lex a) (refusal_of_lex b)
  two_cuttings text (lex.Lexical p) (lex.Lexical q) h k =
      inl (ap (λ (p : Place). Module (Lexical p))
      (h.2 ∙ ap (λ (n : ℕ). place_after (take n text)) (faults.same text h.0 k.0 h.1 k.1) ∙ sym k.2))
  two_cuttings text lex.Memory b h k = inr (inl refl)
  two_cuttings text (lex.Lexical p) lex.Memory h k = inr (inr refl)

  -- ---- the grammar

  -- a text is cut into one list of tokens
  same_tokens : (text : List ℕ) (s t : TokenList) → IsCutOf text s → IsCutOf text t → s ≡ t
  same_tokens text s t one other =
      ap (λ (source : List ℕ). let x : TokenList = record { source = source; located = s.located } in x)
      (one.source ∙ sym other.source)
      ∙ ap (λ (located : List Located). let x : TokenList = record { source = t.source; located = located } in x)
      (cuts text s.located t.located one.cut other.cut)

  -- a text that spells a library has no fault of the grammar
  spelt_or_memory : (text : List ℕ) (library : LibraryTree) → Spells text library → (tokens : TokenList)
      → IsCutOf text tokens
      → (fault : ParseFault) → IsParseFault MOST_OPEN_UNITS tokens fault → refusal_of_parse fault ≡ Memory
  spelt_or_memory text library spells tokens cut fault h =
      at fault
      (subst (λ (t : TokenList). IsParseFault MOST_OPEN_UNITS t fault)
      (same_tokens text tokens spells.tokens cut spells.cut) h) where
        at : (fault : ParseFault) → IsParseFault MOST_OPEN_UNITS spells.tokens fault → refusal_of_parse fault ≡ Memory
        at (parse.Syntax place) f =
            absurd (no_syntax_fault MOST_OPEN_UNITS library f.0
            (subst (λ ts. IsSyntaxFault MOST_OPEN_UNITS ts f.0) spells.spelt f.2))
        at (parse.TooLarge place) f =
            absurd (not_too_deep MOST_OPEN_UNITS library f.0 spells.shallow
            (subst (λ ts. IsTooDeep MOST_OPEN_UNITS ts f.0) spells.spelt f.2))
        at parse.Memory f = refl

  two_readings : (tokens : TokenList) (a b : ParseFault) → IsParseFault MOST_OPEN_UNITS tokens a
      → IsParseFault MOST_OPEN_UNITS tokens b
      → AreOne (refusal_of_parse a) (refusal_of_parse b)
  two_readings tokens (parse.Syntax p) (parse.Syntax q) h k =
      inl (ap (λ (p : Place). Module (Syntax p))
      (h.1 ∙ ap (place_of tokens) (one_syntax_fault MOST_OPEN_UNITS (tokens_of tokens.located) h.0 k.0 h.2 k.2)
      ∙ sym k.1))
  two_readings tokens (parse.Syntax p) (parse.TooLarge q) h k =
      absurd (one_kind MOST_OPEN_UNITS (tokens_of tokens.located) h.0 k.0 h.2 k.2)
  two_readings tokens (parse.TooLarge p) (parse.Syntax q) h k =
      absurd (one_kind MOST_OPEN_UNITS (tokens_of tokens.located) k.0 h.0 k.2 h.2)
  two_readings tokens (parse.TooLarge p) (parse.TooLarge q) h k = inl refl
  two_readings tokens parse.Memory b h k = inr (inl refl)
  two_readings tokens (parse.Syntax p) parse.Memory h k = inr (inr refl)
  two_readings tokens (parse.TooLarge p) parse.Memory h k = inr (inr refl)

  -- ---- linking

  -- two texts' libraries have the same first faults
  first_here : (main text : List ℕ) (k l : LibraryTree) → Spells text k → Spells text l → (found : Option LinkFault)
      → IsFirstFault (programs_of k) main found → IsFirstFault (programs_of l) main found
  first_here main text k l one other found =
      subst (λ (library : LibraryTree). IsFirstFault (programs_of library) main found)
      (same_library cuts text k l one other)

  -- a library that links has no fault of linking
  links_or_none : (main text : List ℕ) (flat : FlatModule) → LinksTo main text flat → (library : LibraryTree)
      → Spells text library
      → (fault : LinkFault) → IsFirstFault (programs_of library) main (Some fault) → ⊥
  links_or_none main text flat link library spells fault h =
      none_fault fault
      (one_first_fault (programs_of link.library) main None (Some fault) (none_found link.library main link.sound)
      (first_here main text library link.library spells link.spells (Some fault) h))

  two_linkings : (main text : List ℕ) (k l : LibraryTree) → Spells text k → Spells text l → (a b : LinkFault)
      → IsFirstFault (programs_of k) main (Some a) → IsFirstFault (programs_of l) main (Some b)
      → AreOne (refusal_of_link a) (refusal_of_link b)
  two_linkings main text k l one other a b h j =
      inl (ap refusal_of_link (some_fault a b
      (one_first_fault (programs_of k) main (Some a) (Some b) h (first_here main text l k other one (Some b) j))))

  -- ---- reduction

  two_reductions : (p : Body) (a b : ReduceFault) → IsFaultOf p a → IsFaultOf p b
      → AreOne (refusal_of_reduce a) (refusal_of_reduce b)
  two_reductions p a b h k = told (one_fault p a b h k) where
    told : (a ≡ b) ⊎ (a ≡ reduce.Memory) ⊎ (b ≡ reduce.Memory) → AreOne (refusal_of_reduce a) (refusal_of_reduce b)
    told (inl same) = inl (ap refusal_of_reduce same)
    told (inr (inl memory)) = inr (inl (ap refusal_of_reduce memory))
    told (inr (inr memory)) = inr (inr (ap refusal_of_reduce memory))

  -- ---- all stages

  -- a text that is cut and has a fault of cutting has it for want of memory
  behind_cut : (text : List ℕ) (tokens : TokenList) (fault : LexFault) (b : ReactorRefusal) → IsCutOf text tokens
      → IsLexFault text fault → AreOne (refusal_of_lex fault) b
  behind_cut text tokens fault b cut h = inr (inl (cut_or_memory text tokens cut fault h))

  behind_spelt : (text : List ℕ) (library : LibraryTree) (tokens : TokenList) (fault : ParseFault) (b : ReactorRefusal)
      → Spells text library → IsCutOf text tokens
      → IsParseFault MOST_OPEN_UNITS tokens fault → AreOne (refusal_of_parse fault) b
  behind_spelt text library tokens fault b spells cut h =
      inr (inl (spelt_or_memory text library spells tokens cut fault h))

  -- two faults of a load are one
  pub one_load_fault : (main text : List ℕ) (a b : ReactorRefusal) → IsLoadFault main text a → IsLoadFault main text b
      → AreOne a b
  one_load_fault main text _ _ (in_cutting f h) (in_cutting g k) = two_cuttings text f g h k
  one_load_fault main text _ _ (in_cutting f h) (in_grammar t cut g k) = behind_cut text t f _ cut h
  one_load_fault main text _ _ (in_cutting f h) (in_linking l s g k) = behind_cut text s.tokens f _ s.cut h
  one_load_fault main text _ _ (in_cutting f h) (in_reduction flat link g k) =
      behind_cut text link.spells.tokens f _ link.spells.cut h
  one_load_fault main text _ _ (in_grammar t cut f h) (in_cutting g k) = other_way (behind_cut text t g _ cut k)
  one_load_fault main text _ _ (in_grammar t cut f h) (in_grammar u other g k) =
      two_readings t f g h
      (subst (λ (x : TokenList). IsParseFault MOST_OPEN_UNITS x g) (same_tokens text u t other cut) k)
  one_load_fault main text _ _ (in_grammar t cut f h) (in_linking l s g k) = behind_spelt text l t f _ s cut h
  one_load_fault main text _ _ (in_grammar t cut f h) (in_reduction flat link g k) =
      behind_spelt text link.library t f _ link.spells cut h
  one_load_fault main text _ _ (in_linking l s f h) (in_cutting g k) = other_way (behind_cut text s.tokens g _ s.cut k)
  one_load_fault main text _ _ (in_linking l s f h) (in_grammar t cut g k) =
      other_way (behind_spelt text l t g _ s cut k)
  one_load_fault main text _ _ (in_linking l s f h) (in_linking m r g k) = two_linkings main text l m s r f g h k
  one_load_fault main text _ _ (in_linking l s f h) (in_reduction flat link g k) =
      absurd (links_or_none main text flat link l s f h)
  one_load_fault main text _ _ (in_reduction flat link f h) (in_cutting g k) =
      other_way (behind_cut text link.spells.tokens g _ link.spells.cut k)
  one_load_fault main text _ _ (in_reduction flat link f h) (in_grammar t cut g k) =
      other_way (behind_spelt text link.library t g _ link.spells cut k)
  one_load_fault main text _ _ (in_reduction flat link f h) (in_linking l s g k) =
      absurd (links_or_none main text flat link l s g k)
  one_load_fault main text _ _ (in_reduction flat link f h) (in_reduction other link' g k) =
      two_reductions flat.body f g h
      (subst (λ (m : FlatModule). IsFaultOf m.body g) (sym (same_flat cuts links main text flat other link link')) k)

  -- where a text gives a module, memory alone is refused
  pub given_or_fault : (main text : List ℕ) (m : GivenModule) (a : ReactorRefusal) → Gives main text m
      → IsLoadFault main text a → a ≡ Memory
  given_or_fault main text m _ gives (in_cutting f h) = cut_or_memory text gives.links.spells.tokens
      gives.links.spells.cut f h
  given_or_fault main text m _ gives (in_grammar t cut f h) =
      spelt_or_memory text gives.links.library gives.links.spells t cut f h
  given_or_fault main text m _ gives (in_linking l s f h) =
      absurd (links_or_none main text gives.flat gives.links l s f h)
  given_or_fault main text m _ gives (in_reduction flat link f h) =
      reduced f
      (subst (λ (m : FlatModule). IsFaultOf m.body f)
      (same_flat cuts links main text flat gives.flat link gives.links) h)
    where
      reduced : (f : ReduceFault) → IsFaultOf gives.flat.body f → refusal_of_reduce f ≡ Memory
      reduced (reduce.TooLarge limit) h = let e = ap limit_passed gives.begins in
          absurd (none_some limit (sym gives.within_limits ∙ e ∙ h))
      reduced reduce.InstantLoop h = absurd (h.1 (subst IsLoopSafe gives.begins gives.loop_safe))
      reduced reduce.Memory h = refl
