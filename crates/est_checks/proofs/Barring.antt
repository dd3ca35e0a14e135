-- Names of a module that is run, for none of which the run is refused.
use Rattle.std.proofs.Common.{◌≡◌, ◌||◌, ◌&&◌, not, ℕ, List, Option, Some, None, Bool, true, false, map, option_map}
use Rattle.std.proofs.Common.{refl, ap, sym, ◌∙◌, subst}
use Rattle.std.proofs.lemmas.Bool.{false≢true, true≢false, and_from}
use Rattle.std.specs.List.{find, list_any}
use Rattle.std.specs.Str.{bytes_eq}
use Rattle.est_syntax.specs.Tree.{RenamingTree}
use Rattle.est_syntax.specs.Views.{renaming_view}
use Rattle.est_syntax.specs.declared.tree.Renaming.{Renaming}
use Rattle.est_modules.specs.Modules.{Program, is_declared, is_input}
use Rattle.est_modules.specs.Occurrences.{Binder}
use Rattle.est_modules.specs.Renamings.{is_renamed, renamed, callers_name}
use Rattle.est_modules.specs.Visible.{is_local, is_tick, stands_in}
use Rattle.est_modules.specs.declared.interface.Declared.{Declared}
use Rattle.est_modules.proofs.Lists.{any_map}
use Rattle.est_modules.proofs.Testing.{found_passes, none_found, other_fails, same_bytes}
use Rattle.est_checks.specs.Emissions.{is_refused, is_refused_in_run, refused_in_run}
use Rattle.est_checks.specs.Inner.Emitted.{names_emitted_in}
use Rattle.est_checks.proofs.Leaving.{and_false, stands_left}
use Rattle.est_checks.proofs.Noting.{keeps_name}
use Rattle.est_checks.proofs.Unbinding.{none_at_fault}

-- ---- a name that is renamed

swapped : (a b : Bool) → (a && b) ≡ false → (b && a) ≡ false
swapped true true h = h
swapped true false h = refl
swapped false true h = refl
swapped false false h = refl

-- where no renaming is at fault, the run is not refused for a name that it renames
renamed_found : (em : List ℕ → Bool) (test : List ℕ → Bool) (rs : List RenamingTree) (n : List ℕ)
    (o : Option RenamingTree) → find (λ (r : RenamingTree). bytes_eq r.inner n) rs ≡ o → is_renamed rs n ≡ true
    → list_any (λ (r : RenamingTree). test r.outer && em r.inner) rs ≡ false → (em n && test (callers_name o n)) ≡ false
renamed_found em test rs n None e so h =
    absurd (true≢false (sym so ∙ none_found (λ (r : RenamingTree). bytes_eq r.inner n) rs e))
renamed_found em test rs n (Some r) e so h =
    let same : r.inner ≡ n = same_bytes r.inner n (found_passes (λ (r : RenamingTree). bytes_eq r.inner n) rs r e) in
    swapped (test r.outer) (em n)
    (subst (λ k. (test r.outer && em k) ≡ false) same
    (other_fails (λ (r : RenamingTree). bytes_eq r.inner n)
    (λ (r : RenamingTree). test r.outer && em r.inner) rs r h e))

-- ---- any name

-- an emission of a name that is local, or that may be emitted
free : (emitted local input declared : Bool) → ((local || false) || (not input && declared)) ≡ true
    → (emitted && (not local && input)) ≡ false
free emitted true input declared h = and_false emitted
free emitted false true declared h = absurd (false≢true h)
free emitted false false declared h = and_false emitted

allowed_by : (em : List ℕ → Bool) (p : Program) (bs : List Binder) (rs : List RenamingTree) (s : List ℕ) (b : Bool)
    → is_renamed rs s ≡ b → list_any (λ (r : RenamingTree). is_refused p bs r.outer && em r.inner) rs ≡ false
    → ((is_local bs s || is_renamed rs s)
    || (not (is_input p.interface s || is_tick s) && is_declared p.interface s)) ≡ true
    → (em s && is_refused p bs (renamed rs s)) ≡ false
unfolding is_refused
allowed_by em p bs rs s true so none h =
    renamed_found em (is_refused p bs) rs s (find (λ (r : RenamingTree). bytes_eq r.inner s) rs) refl so none
allowed_by em p bs rs s false so none h =
    ap (λ k. em s && is_refused p bs k) (keeps_name rs s so)
    ∙ free (em s) (is_local bs s) (is_input p.interface s || is_tick s) (is_declared p.interface s)
    (ap (λ b. (is_local bs s || b) || (not (is_input p.interface s || is_tick s) && is_declared p.interface s)) (sym so)
    ∙ h)

-- where no renaming is at fault, the run is not refused for a name that is local, renamed, or may be emitted
pub allowed : (em : List ℕ → List ℕ → Bool) (p : Program) (bs : List Binder) (rs : List Renaming) (m s : List ℕ)
    → list_any (λ (r : Renaming). is_refused p bs r.outer && em m r.inner) rs ≡ false
    → ((is_local bs s || is_renamed (map renaming_view rs) s)
    || (not (is_input p.interface s || is_tick s) && is_declared p.interface s)) ≡ true
    → is_refused_in_run em p bs (map renaming_view rs) m s ≡ false
unfolding is_refused_in_run
allowed em p bs rs m s none h =
    allowed_by (em m) p bs (map renaming_view rs) s (is_renamed (map renaming_view rs) s) refl
    (any_map (λ (r : RenamingTree). is_refused p bs r.outer && em m r.inner) renaming_view rs ∙ none) h

-- a name that the module doesn't emit, and one that it does
one_allowed : (em : List ℕ → List ℕ → Bool) (p : Program) (bs : List Binder) (rs : List RenamingTree) (m : List ℕ)
    (q : Program) (s : List ℕ) (b : Bool) → em m s ≡ b
    → (stands_in (names_emitted_in (em m) (Some q)) s ≡ true → is_refused_in_run em p bs rs m s ≡ false)
    → stands_in (map (λ (d : Declared). d.name) q.interface) s ≡ true → is_refused_in_run em p bs rs m s ≡ false
unfolding is_refused_in_run
one_allowed em p bs rs m q s true so all here =
    let names = map (λ (d : Declared). d.name) q.interface in
    all (stands_left (em m) names s ∙ and_from (em m s) (stands_in names s) so here)
one_allowed em p bs rs m q s false so all here = ap (λ b. b && is_refused p bs (renamed rs s)) so

-- where the run is refused for none of the names that the module emits, it is not refused
pub run_allowed : (em : List ℕ → List ℕ → Bool) (p : Program) (bs : List Binder) (rs : List RenamingTree) (m : List ℕ)
    (q : Program)
    → ((s : List ℕ) → stands_in (names_emitted_in (em m) (Some q)) s ≡ true → is_refused_in_run em p bs rs m s ≡ false)
    → None ≡ refused_in_run em p bs rs m (Some q)
run_allowed em p bs rs m q all =
    sym (ap (option_map (λ (d : Declared). renamed rs d.name))
    (none_at_fault (is_refused_in_run em p bs rs m) q.interface
    (λ s here. one_allowed em p bs rs m q s (em m s) refl (all s) here)))
