use Rattle.std.proofs.Common.{◌≡◌, ◌⊎◌, ℕ, List, sym, refl, subst, ⊎_elim}
use Rattle.std.specs.Prelude.{Some, None}
use Rattle.std.proofs.lemmas.Result.{err_from_is_err_and}
use Rattle.est_kernel.specs.declared.interface.Declaration.{Declaration}
use Rattle.est_relations.specs.Keeping.{AreOverInputs}
use Rattle.est_kernel.specs.Limits.{limit_passed}
use Rattle.est_kernel.specs.StartCodes.{IsLoopSafe}
use Rattle.est_kernel.specs.Term.{Term}
use Rattle.est_checks.specs.FirstFaults.{IsFirstFault}
use Rattle.est_link.specs.FlatModules.{flat_of}
use Rattle.est_modules.specs.Modules.{programs_of}
use Rattle.est_checks.specs.declared.fault.LinkFault.{LinkFault}
use Rattle.est_checks.specs.declared.fault.LinkFault.TheVariants as link
use Rattle.est_syntax.specs.Tree.{LibraryTree}
use Rattle.est_syntax.specs.Views.{library_view}
use Rattle.est_text.specs.declared.lex.LexFault.TheVariants as lex
use Rattle.reactor_core.specs.Faults.{refusal_of_link}
use Rattle.reactor_core.specs.Loading.{IsCutOf, Spells, LinksTo, IsLoadFault, in_cutting, in_grammar, in_linking}
use Rattle.reactor_core.specs.Loading.{in_reduction}
use Rattle.reactor_core.proofs.OneLoad.{no_fault}
use Rattle.reactor_core.proofs.reading.read_module.Goals as goal

-- want of memory while linking is that of a load
link_fault : (main text : List ℕ) (library : LibraryTree) (fault : LinkFault) → Spells text library
    → (fault ≡ link.Memory) ⊎ IsFirstFault (programs_of library) main (Some fault)
    → IsLoadFault main text (refusal_of_link fault)
link_fault main text library fault spells h =
    ⊎_elim (λ e. subst (λ (f : LinkFault). IsLoadFault main text (refusal_of_link f)) (sym e)
    (in_cutting lex.Memory tt))
    (λ first. in_linking library spells fault first) h

pub returns-in_err-tokens-clause-fault : goal.returns-in_err-tokens-clause-fault
returns-in_err-tokens-clause-fault c =
    let p = err_from_is_err_and c.from_residual.result c.from_residual.ensures.1 in
    rw (p.1, p.2) (in_cutting c.in_err-tokens.field-0.0 c.in_err-tokens.ensures.fault)

pub returns-in_err-library-clause-fault : goal.returns-in_err-library-clause-fault
returns-in_err-library-clause-fault c =
    let p = err_from_is_err_and c.from_residual-in_err-library.result c.from_residual-in_err-library.ensures.1 in
    let e = c.in_ok-tokens.ensures in
    let cut : IsCutOf c.args.text.now c.in_ok-tokens.tokens = record { source = e.source; cut = e.tokens } in
    rw (p.1, p.2) (in_grammar c.in_ok-tokens.tokens cut c.in_err-library.field-0.0 c.in_err-library.ensures.fault)

pub returns-in_err-flat-clause-fault : goal.returns-in_err-flat-clause-fault
returns-in_err-flat-clause-fault c =
    let p = err_from_is_err_and c.from_residual-in_err-flat.result c.from_residual-in_err-flat.ensures.1 in
    let e = c.in_ok-tokens.ensures in
    let l = c.in_ok-library.ensures in
    let cut : IsCutOf c.args.text.now c.in_ok-tokens.tokens = record { source = e.source; cut = e.tokens } in
    let library = library_view c.in_ok-library.library in
    let spells : Spells c.args.text.now library =
    record { tokens = c.in_ok-tokens.tokens; cut = cut; spelt = l.spelt; shallow = l.depth } in
    rw (p.1, p.2)
    (link_fault c.args.main.now c.args.text.now library c.in_err-flat.field-0.0 spells c.in_err-flat.ensures.first)

pub returns-in_err-kernel-clause-fault : goal.returns-in_err-kernel-clause-fault
returns-in_err-kernel-clause-fault c =
    let p = err_from_is_err_and c.from_residual-in_err-kernel.result c.from_residual-in_err-kernel.ensures.1 in
    let e = c.in_ok-tokens.ensures in
    let l = c.in_ok-library.ensures in
    let f = c.in_ok-flat.ensures in
    let cut : IsCutOf c.args.text.now c.in_ok-tokens.tokens = record { source = e.source; cut = e.tokens } in
    let library = library_view c.in_ok-library.library in
    let spells : Spells c.args.text.now library =
    record { tokens = c.in_ok-tokens.tokens; cut = cut; spelt = l.spelt; shallow = l.depth } in
    let links : LinksTo c.args.main.now c.args.text.now (flat_of c.in_ok-flat.flat) =
    record { library = library; spells = spells; sound = no_fault library c.args.main.now f.first; is = f.flat } in
    rw (p.1, p.2) (in_reduction (flat_of c.in_ok-flat.flat) links c.in_err-kernel.field-0.0 c.in_err-kernel.ensures)

pub returns-clause-given : goal.returns-clause-given
returns-clause-given c =
    let e = c.in_ok-tokens.ensures in
    let l = c.in_ok-library.ensures in
    let f = c.in_ok-flat.ensures in
    let k = c.in_ok-kernel.ensures in
    let cut : IsCutOf c.args.text.now c.in_ok-tokens.tokens = record { source = e.source; cut = e.tokens } in
    let library = library_view c.in_ok-library.library in
    let spells : Spells c.args.text.now library =
    record { tokens = c.in_ok-tokens.tokens; cut = cut; spelt = l.spelt; shallow = l.depth } in
    record {
      flat = flat_of c.in_ok-flat.flat;
      links = record {
        library = library;
        spells = spells;
        sound = no_fault library c.args.main.now f.first;
        is = f.flat;
      };
      declares = k.declares;
      relates = refl;
      begins = k.term;
      within_limits = subst (λ (t : Term). limit_passed t ≡ None) (sym k.term) k.within_limits;
      loop_safe = subst IsLoopSafe (sym k.term) k.loop_safe;
    }

pub invariant_of-result : goal.invariant_of-result
invariant_of-result c = record {
  over_inputs = subst (λ (i : List Declaration). AreOverInputs i c.in_ok-flat.flat.relations)
      (sym c.in_ok-kernel.ensures.declares) c.in_ok-flat.flat.over_inputs;
}
