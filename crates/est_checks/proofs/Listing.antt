-- What checks find along lists of the code.
use mathlib.Core.Path.{fun_ext}
use Rattle.std.proofs.Common.{◌≡◌, Bor, not, ℕ, List, Option, Some, None, Bool, refl, ap, sym, ◌∙◌, map, option_map}
use Rattle.std.specs.List.{find, position}
use Rattle.est_syntax.specs.Tree.{RenamingTree, RelationTree, excludes, implies}
use Rattle.est_syntax.specs.Views.{renaming_view, relation_view}
use Rattle.est_syntax.specs.declared.tree.Renaming.{Renaming}
use Rattle.est_syntax.specs.declared.tree.Relation.{Relation}
use Rattle.est_checks.specs.Inner.Offers.{is_over_outputs}
use Rattle.est_checks.specs.LawlessRelations.{is_lawless}
use Rattle.std.specs.Option.{option_or}
use Rattle.est_modules.specs.declared.interface.Declared.{Declared}
use Rattle.est_modules.specs.Occurrences.{Binder}
use Rattle.est_modules.specs.Modules.{Program, is_offerable}
use Rattle.est_modules.specs.Visible.{is_visible}
use Rattle.est_checks.specs.UnknownNames.{is_unbound, unknown_in_run}
use Rattle.est_checks.specs.BadRenamings.{is_misnamed, bad_in_run}
use Rattle.est_modules.proofs.Lists.{find_map, same_none}
use Rattle.est_modules.proofs.Positions.{position_map}

pub inner_found : (test : List ℕ → Bool) (rs : List Renaming)
    → option_map (λ (r : RenamingTree). r.inner) (find (λ (r : RenamingTree). test r.inner) (map renaming_view rs))
    ≡ option_map (λ (r : Renaming). r.inner) (find (λ (r : Renaming). test r.inner) rs)
inner_found test rs = ap (option_map (λ (r : RenamingTree). r.inner))
    (find_map (λ (r : RenamingTree). test r.inner) renaming_view rs)
    ∙ same_none renaming_view (λ (r : RenamingTree). r.inner) _

-- the bad renaming of a run, along the renamings of the code
pub bad_found : (q : Program) (rs : List Renaming) → option_map (λ (r : Renaming). r.inner)
    (find (λ (r : Renaming). is_misnamed q (map renaming_view rs) r.inner) rs)
    ≡ bad_in_run (map renaming_view rs) (Some q)
bad_found q rs = sym (inner_found (is_misnamed q (map renaming_view rs)) rs)

-- the left name of the first renaming that passes a test of it
pub outer_found : (test : List ℕ → Bool) (rs : List Renaming)
    → option_map (λ (r : RenamingTree). r.outer) (find (λ (r : RenamingTree). test r.outer) (map renaming_view rs))
    ≡ option_map (λ (r : Renaming). r.outer) (find (λ (r : Renaming). test r.outer) rs)
outer_found test rs = ap (option_map (λ (r : RenamingTree). r.outer))
    (find_map (λ (r : RenamingTree). test r.outer) renaming_view rs)
    ∙ same_none renaming_view (λ (r : RenamingTree). r.outer) _

-- what is unknown in a run
abbrev pub names_of : Program → List Binder → List Renaming → Program → Option (List ℕ)
names_of p bs rs q = option_map (λ (d : Declared). d.name)
    (find (λ (d : Declared). is_unbound p bs (map renaming_view rs) d.name) q.interface)

pub run_renaming : (p : Program) (bs : List Binder) (rs : List Renaming) (q : Option Program) {n : List ℕ}
    → Some n ≡ option_map (λ (r : Renaming). r.outer) (find (λ (r : Renaming). not (is_visible p bs r.outer)) rs)
    → Some n ≡ unknown_in_run p bs (map renaming_view rs) q
run_renaming p bs rs None e = e ∙ sym (outer_found (λ s. not (is_visible p bs s)) rs)
run_renaming p bs rs (Some q) e = ap (λ a. option_or a (names_of p bs rs q))
    (e ∙ sym (outer_found (λ s. not (is_visible p bs s)) rs))

pub run_name : (p : Program) (bs : List Binder) (rs : List Renaming) (q : Program) {b : Option (List ℕ)}
    → None ≡ option_map (λ (r : Renaming). r.outer) (find (λ (r : Renaming). not (is_visible p bs r.outer)) rs)
    → b ≡ option_map (λ (d : Declared). d.name)
    (find (λ (d : Declared). is_unbound p bs (map renaming_view rs) d.name) q.interface)
    → b ≡ unknown_in_run p bs (map renaming_view rs) (Some q)
run_name p bs rs q none e = e ∙ ap (λ a. option_or a (names_of p bs rs q))
    (none ∙ sym (outer_found (λ s. not (is_visible p bs s)) rs))

pub run_nowhere : (p : Program) (bs : List Binder) (rs : List Renaming)
    → None ≡ option_map (λ (r : Renaming). r.outer) (find (λ (r : Renaming). not (is_visible p bs r.outer)) rs)
    → None ≡ unknown_in_run p bs (map renaming_view rs) None
run_nowhere p bs rs e = e ∙ sym (outer_found (λ s. not (is_visible p bs s)) rs)

past_is : (ds : List Declared) (r : RelationTree) → is_over_outputs (is_offerable ds) r ≡ is_lawless ds r
past_is ds (excludes a b ns) = refl
past_is ds (implies a b) = refl

-- the first lawless relation, along the relations of the code
pub lawless_listed : (offered : List ℕ → Bool) (ds : List Declared) (rs : List (Bor Relation)) {ts : List RelationTree}
    → ((s : List ℕ) → offered s ≡ is_offerable ds s) → map (λ (r : Bor Relation). relation_view r.now) rs ≡ ts
    → position (λ (r : Bor Relation). is_over_outputs offered (relation_view r.now)) rs ≡ position (is_lawless ds) ts
lawless_listed offered ds rs {ts} same e =
    sym (position_map (is_over_outputs offered) (λ (r : Bor Relation). relation_view r.now) rs)
    ∙ ap (position (is_over_outputs offered)) e
    ∙ ap (λ (f : RelationTree → Bool). position f ts)
    (fun_ext (λ r. ap (λ (f : List ℕ → Bool). is_over_outputs f r) (fun_ext same) ∙ past_is ds r))
