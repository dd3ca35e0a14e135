-- A text and the name of its main module give one module at most, or have one first fault.
use Rattle.std.proofs.Common.{◌≡◌, ◌∙◌, ℕ, List, ap, sym, subst}
use Rattle.est_kernel.specs.Term.{Term}
use Rattle.est_kernel.specs.declared.interface.Declaration.{Declaration}
use Rattle.std.specs.Prelude.{None}
use Rattle.est_checks.specs.FirstFaults.{IsFirstFault}
use Rattle.est_link.specs.FlatModules.{FlatModule, IsFlatOf}
use Rattle.est_modules.specs.Modules.{Program, programs_of}
use Rattle.est_reduce.specs.Reductions.{kernel_term}
use Rattle.est_relations.specs.declared.relations.Relation.{Relation}
use Rattle.est_syntax.specs.Grammar.{tokens_of}
use Rattle.est_syntax.specs.Tree.{LibraryTree}
use Rattle.est_syntax.proofs.Unique.{one_library}
use Rattle.est_text.specs.Pieces.{AreTokens}
use Rattle.est_text.specs.declared.token.Located.{Located}
use Rattle.reactor_core.specs.Loading.{HasNoFault, Spells, LinksTo, GivenModule, Gives}

-- a text is cut in one way (a law of est_text)
abbrev pub CutsAreOne : Type 0
CutsAreOne = (text : List ℕ) (tokens others : List Located) → AreTokens text tokens → AreTokens text others
    → tokens ≡ others

-- a library is linked to one flat module (a law of est_link)
abbrev pub LinksAreOne : Type 0
LinksAreOne = (ps : List Program) (main : List ℕ) → (a b : FlatModule) → IsFlatOf ps main a → IsFlatOf ps main b
    → a ≡ b

-- no check has a fault
pub no_fault : (library : LibraryTree) (main : List ℕ) → IsFirstFault (programs_of library) main None
    → HasNoFault library main
unfolding HasNoFault
no_fault library main h = h

pub none_found : (library : LibraryTree) (main : List ℕ) → HasNoFault library main
    → IsFirstFault (programs_of library) main None
unfolding HasNoFault
none_found library main h = h

-- modules of the same parts are the same
same_parts : (m n : GivenModule) → m.interface ≡ n.interface → m.relations ≡ n.relations → m.term ≡ n.term → m ≡ n
same_parts m n interface relations term =
    ap (λ (i : List Declaration). let x : GivenModule = record
    { interface = i; relations = m.relations; term = m.term } in x) interface
    ∙ ap (λ (r : List Relation). let x : GivenModule = record
    { interface = n.interface; relations = r; term = m.term } in x) relations
    ∙ ap (λ (t : Term). let x : GivenModule = record { interface = n.interface; relations = n.relations; term = t } in
    x) term

module _ (cuts : CutsAreOne) where
  -- a text spells one library
  pub same_library : (text : List ℕ) (k l : LibraryTree) → Spells text k → Spells text l → k ≡ l
  same_library text k l one other =
      let located : one.tokens.located ≡ other.tokens.located =
      cuts text one.tokens.located other.tokens.located one.cut.cut other.cut.cut in
      one_library k l (sym one.spelt ∙ ap tokens_of located ∙ other.spelt)

  module _ (links : LinksAreOne) where
    -- a text and a main module's name link to one flat module
    pub same_flat : (main text : List ℕ) (f g : FlatModule) → LinksTo main text f → LinksTo main text g → f ≡ g
    same_flat main text f g one other =
        let library : other.library ≡ one.library = same_library text other.library one.library other.spells
        one.spells in
        links (programs_of one.library) main f g one.is
        (subst (λ (l : LibraryTree). IsFlatOf (programs_of l) main g) library other.is)

    -- and give one module
    pub same_given : (main text : List ℕ) (m n : GivenModule) → Gives main text m → Gives main text n → m ≡ n
    same_given main text m n one other =
        let flat = same_flat main text one.flat other.flat one.links other.links in
        same_parts m n
        (one.declares ∙ ap (λ (f : FlatModule). f.interface) flat ∙ sym other.declares)
        (one.relates ∙ ap (λ (f : FlatModule). f.relations) flat ∙ sym other.relates)
        (one.begins ∙ ap (λ (f : FlatModule). kernel_term f.body) flat ∙ sym other.begins)
