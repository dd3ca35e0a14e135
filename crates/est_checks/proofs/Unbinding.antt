-- Interface names of a module that is run, of which none is at fault.
use Rattle.std.proofs.Common.{◌≡◌, ◌||◌, not, ℕ, List, [], ◌∷◌, None, Bool, true, false, map, option_map, refl, ap, sym}
use Rattle.std.proofs.lemmas.Bool.{false≢true, or_right, or_left}
use Rattle.std.specs.List.{find}
use Rattle.std.specs.Prelude.{Some}
use Rattle.std.specs.Str.{bytes_eq}
use Rattle.est_syntax.specs.Views.{renaming_view}
use Rattle.est_syntax.specs.declared.tree.Renaming.{Renaming}
use Rattle.est_modules.specs.Modules.{Program}
use Rattle.est_modules.specs.Occurrences.{Binder}
use Rattle.est_modules.specs.Visible.{is_visible, stands_in}
use Rattle.est_modules.specs.declared.interface.Declared.{Declared}
use Rattle.est_modules.proofs.Testing.{equal_bytes}
use Rattle.est_checks.specs.Inner.InterfaceNames.{names_in}
use Rattle.est_checks.specs.UnknownNames.{is_unbound, unknown_in_run}
use Rattle.est_checks.proofs.Deciding.{passed_over}
use Rattle.est_checks.proofs.Listing.{run_name}

-- where none of the names passes, no signal is found
pub none_at_fault : (test : List ℕ → Bool) (ds : List Declared)
    → ((s : List ℕ) → stands_in (map (λ (d : Declared). d.name) ds) s ≡ true → test s ≡ false)
    → find (λ (d : Declared). test d.name) ds ≡ None
none_at_fault test [] h = refl
none_at_fault test (d ∷ ds) h =
    let names = map (λ (d : Declared). d.name) ds in
    passed_over (test d.name) d (find (λ (d : Declared). test d.name) ds)
    (h d.name (or_left (bytes_eq d.name d.name) (stands_in names d.name) (equal_bytes d.name)))
    (none_at_fault test ds (λ s later. h s (or_right (bytes_eq d.name s) (stands_in names s) later)))

-- a name that is local, renamed or otherwise visible is bound
pub bound : (renamed local other : Bool) → ((local || renamed) || other) ≡ true
    → not (renamed || (local || other)) ≡ false
bound true local other h = refl
bound false true other h = refl
bound false false true h = refl
bound false false false h = absurd (false≢true h)

-- where each interface name is bound, none is unknown
pub run_bound : (p : Program) (bs : List Binder) (rs : List Renaming) (q : Program)
    → None ≡ option_map (λ (r : Renaming). r.outer) (find (λ (r : Renaming). not (is_visible p bs r.outer)) rs)
    → ((s : List ℕ) → stands_in (names_in (Some q)) s ≡ true → is_unbound p bs (map renaming_view rs) s ≡ false)
    → None ≡ unknown_in_run p bs (map renaming_view rs) (Some q)
run_bound p bs rs q none all =
    run_name p bs rs q none (sym (ap (option_map (λ (d : Declared). d.name))
    (none_at_fault (is_unbound p bs (map renaming_view rs)) q.interface all)))
