-- What names mean where they are visible.
use Rattle.std.proofs.Common.{◌≡◌, ℕ, ◌+◌, ◌<◌, List, [], ◌∷◌, length, get_or, Bool, true, false, not, ◌||◌, ◌&&◌}
use Rattle.std.proofs.Common.{if◌then◌else◌, Option, Some, None, refl, ap, sym, ◌∙◌, subst, arith, codes}
use Rattle.std.proofs.lemmas.Bool.{false≢true, true≢false, or_parts, and_from, not_from_false}
use Rattle.std.proofs.lemmas.List.{get_or-map}
use Rattle.std.proofs.lemmas.List.Quantifiers.{position-Some}
use Rattle.std.proofs.lemmas.Option.{slice_get-get_or}
use Rattle.std.specs.List.{find, list_any, position, slice_get}
use Rattle.std.specs.Str.{bytes_eq}
use Rattle.std.proofs.lemmas.Map.Keys.{any_passes_from_place}
use Rattle.est_syntax.specs.Tree.{RenamingTree, TestTree}
use Rattle.est_link.proofs.Asked.{test_each}
use Rattle.est_kernel.specs.Term.{Query, tick}
use Rattle.est_link.specs.Bodies.{MayEmit, MayAsk, IsThere, AreBindings, IsSent}
use Rattle.est_checks.specs.Emissions.{is_refused, is_refused_in_run, refused_in_run, refused_act, emits_by}
use Rattle.est_checks.specs.Emissions.{emits_in_run}
use Rattle.est_modules.specs.Renamings.{renamed, callers_name, is_renamed}
use Rattle.est_modules.specs.Modules.{is_input}
use Rattle.est_link.specs.Linking as linking
use Rattle.est_link.specs.Linking.{signal_at, locals_around, trap_at, of_interface, of_list, emitted, interface_bound}
use Rattle.est_modules.specs.Modules.{Program, program_named, is_declared, is_input_kind}
use Rattle.est_modules.specs.Occurrences.{Binder, signals, a_trap, runs, Occurrence}
use Rattle.est_modules.specs.Visible.{is_local, is_trap, is_visible, is_among}
use Rattle.est_checks.specs.UnknownNames.{is_unbound, unknown_renaming, unknown_in_run, unknown_act}
use Rattle.est_modules.specs.declared.interface.Declared.{Declared}
use Rattle.est_modules.specs.declared.interface.Kind.TheVariants.{Input}
use Rattle.est_link.proofs.Binding.{more_asked, more_sent}
use Rattle.est_modules.proofs.Testing.{or_other, or_first, and_other}
use Rattle.est_modules.proofs.Testing.{same_bytes, equal_bytes, none_at, found_passes, other_fails, none_found}
use Rattle.est_modules.proofs.Testing.{no_place, none_has_place, place_passes, or_none_parts, map_none}
use Rattle.est_order.proofs.SearchLemmas.{is_true}

-- some declaration, for the place past the end
abbrev pub nobody : Declared
nobody = record { name = []; kind = Input }

-- ---- what is asked

of_interface_asked : (n : ℕ) (o : Option ℕ) → ((i : ℕ) → o ≡ Some i → i < n) → MayAsk n 0 (of_interface o)
of_interface_asked n None h = tt
of_interface_asked n (Some i) h = h i refl

of_list_asked : (n l k : ℕ) (o : Option ℕ) (q : Query) → ((i : ℕ) → o ≡ Some i → i < k) → MayAsk n l q
    → MayAsk n (l + k) (of_list o l q)
of_list_asked n l k None q h a = more_asked n l k q a
of_list_asked n l k (Some i) q h a = omega (arith, h i refl)

-- each name means something that may be asked
pub asked_at : (p : Program) (bs : List Binder) (s : List ℕ)
    → MayAsk (length p.interface) (locals_around bs) (signal_at p bs s)
asked_at p [] s = of_interface_asked (length p.interface) (position (λ (d : Declared). bytes_eq d.name s) p.interface)
    (λ i e. (position-Some (λ (d : Declared). bytes_eq d.name s) p.interface i nobody e).0)
asked_at p (signals ns ∷ bs) s = of_list_asked (length p.interface) (locals_around bs) (length (ns.first ∷ ns.later))
    (position (λ n. bytes_eq n s) (ns.first ∷ ns.later)) (signal_at p bs s)
    (λ i e. (position-Some (λ n. bytes_eq n s) (ns.first ∷ ns.later) i [] e).0) (asked_at p bs s)
asked_at p (a_trap t ∷ bs) s = asked_at p bs s

-- each test asks what may be asked
pub test_at : (p : Program) (bs : List Binder) (t : TestTree)
    → MayAsk (length p.interface) (locals_around bs) (linking.asked_at p bs t)
test_at p bs t = test_each (IsThere (length p.interface) (locals_around bs)) (signal_at p bs) (asked_at p bs) t

-- ---- traps

-- how many traps lie around a place
abbrev pub traps_around : List Binder → ℕ
traps_around [] = 0
traps_around (signals ns ∷ bs) = traps_around bs
traps_around (a_trap t ∷ bs) = traps_around bs + 1

here_or_out : (b c : Bool) (k t : ℕ) → (c ≡ true → k < t) → (b || c) ≡ true → (if b then 0 else k + 1) < t + 1
here_or_out true c k t rest h = omega arith
here_or_out false c k t rest h = omega (arith, rest h)

pub trap_within : (bs : List Binder) (t : List ℕ) → is_trap bs t ≡ true → trap_at bs t < traps_around bs
trap_within [] t h = absurd (false≢true h)
trap_within (signals ns ∷ bs) t h = trap_within bs t h
trap_within (a_trap u ∷ bs) t h = here_or_out (bytes_eq u t) (is_trap bs t) (trap_at bs t) (traps_around bs)
    (trap_within bs t) h

-- ---- what is emitted

list_sent : (n : ℕ) (may : ℕ → Type 0) (l k : ℕ) (o : Option ℕ) (q : Query) (b c : Bool)
    → ((i : ℕ) → o ≡ Some i → i < k) → (o ≡ None → b ≡ false) → (c ≡ true → MayEmit n may l (emitted q))
    → (b || c) ≡ true → MayEmit n may (l + k) (emitted (of_list o l q))
list_sent n may l k None q b c within none rest h = more_sent n may l k (emitted q) (rest (or_other b c (none refl) h))
list_sent n may l k (Some i) q b c within none rest h = omega (arith, within i refl)

-- a local signal
pub local_sent : (may : ℕ → Type 0) (p : Program) (bs : List Binder) (s : List ℕ) → is_local bs s ≡ true
    → MayEmit (length p.interface) may (locals_around bs) (emitted (signal_at p bs s))
local_sent may p [] s h = absurd (false≢true h)
local_sent may p (signals ns ∷ bs) s h =
    list_sent (length p.interface) may (locals_around bs) (length (ns.first ∷ ns.later))
    (position (λ n. bytes_eq n s) (ns.first ∷ ns.later)) (signal_at p bs s) (is_among ns s) (is_local bs s)
    (λ i e. (position-Some (λ n. bytes_eq n s) (ns.first ∷ ns.later) i [] e).0)
    (λ e. no_place (λ n. bytes_eq n s) (ns.first ∷ ns.later) e)
    (local_sent may p bs s)
    h
local_sent may p (a_trap t ∷ bs) s h = local_sent may p bs s h

-- a name that isn't local means a signal of the interface
pub global_at : (p : Program) (bs : List Binder) (s : List ℕ) → is_local bs s ≡ false
    → signal_at p bs s ≡ of_interface (position (λ (d : Declared). bytes_eq d.name s) p.interface)
global_at p [] s h = refl
global_at p (signals ns ∷ bs) s h =
    let parts = or_parts (is_among ns s) (is_local bs s) h in
    ap (λ o. of_list o (locals_around bs) (signal_at p bs s))
    (none_has_place (λ n. bytes_eq n s) (ns.first ∷ ns.later) parts.0) ∙ global_at p bs s parts.1
global_at p (a_trap t ∷ bs) s h = global_at p bs s h

-- a name that isn't local and is accepted is no input's, and not `tick`
no_input : (p : Program) (bs : List Binder) (s : List ℕ) → is_local bs s ≡ false → is_refused p bs s ≡ false
    → (list_any (λ (d : Declared). bytes_eq d.name s && is_input_kind d.kind) p.interface ≡ false)
    × (bytes_eq s (codes "tick") ≡ false)
unfolding is_refused is_input
no_input p bs s h r = or_parts _ _ (and_other (not (is_local bs s)) _ (not_from_false (is_local bs s) h) r)

place_sent : (em : List ℕ → List ℕ → Bool) (p : Program) (s : List ℕ) (o : Option ℕ)
    → position (λ (d : Declared). bytes_eq d.name s) p.interface ≡ o → is_declared p.interface s ≡ true
    → list_any (λ (d : Declared). bytes_eq d.name s && is_input_kind d.kind) p.interface ≡ false → em p.name s ≡ true
    → (l : ℕ) → MayEmit (length p.interface) (IsSent em p) l (emitted (of_interface o))
place_sent em p s None at_i declared inputs sent l = absurd
    (true≢false (sym declared ∙ no_place (λ (d : Declared). bytes_eq d.name s) p.interface at_i))
place_sent em p s (Some i) at_i declared inputs sent l = (
  (position-Some (λ (d : Declared). bytes_eq d.name s) p.interface i nobody at_i).0,
  (λ d there.
      let named = place_passes (λ (d : Declared). bytes_eq d.name s) p.interface i d at_i there in (
        (ap (em p.name) (same_bytes d.name s named) ∙ sent),
        and_other (bytes_eq d.name s) (is_input_kind d.kind) named
            (none_at (λ (d : Declared). bytes_eq d.name s && is_input_kind d.kind) p.interface i d inputs there),
      )),
)

global_sent : (em : List ℕ → List ℕ → Bool) (p : Program) (bs : List Binder) (s : List ℕ) → is_local bs s ≡ false
    → is_visible p bs s ≡ true → is_refused p bs s ≡ false → em p.name s ≡ true
    → MayEmit (length p.interface) (IsSent em p) (locals_around bs) (emitted (signal_at p bs s))
global_sent em p bs s h visible accepted sent =
    let parts = no_input p bs s h accepted in
    let known : (is_declared p.interface s || bytes_eq s (codes "tick")) ≡ true =
    or_other (is_local bs s) _ h visible in
    let declared : is_declared p.interface s ≡ true = or_first (is_declared p.interface s)
    (bytes_eq s (codes "tick")) parts.1 known in
    subst (λ q. MayEmit (length p.interface) (IsSent em p) (locals_around bs) (emitted q)) (sym (global_at p bs s h))
    (place_sent em p s (position (λ (d : Declared). bytes_eq d.name s) p.interface) refl declared parts.0 sent
    (locals_around bs))

by_place : (em : List ℕ → List ℕ → Bool) (p : Program) (bs : List Binder) (s : List ℕ) (b : Bool) → is_local bs s ≡ b
    → is_visible p bs s ≡ true → is_refused p bs s ≡ false → (is_local bs s ≡ false → em p.name s ≡ true)
    → MayEmit (length p.interface) (IsSent em p) (locals_around bs) (emitted (signal_at p bs s))
by_place em p bs s true h visible accepted sent = local_sent (IsSent em p) p bs s h
by_place em p bs s false h visible accepted sent = global_sent em p bs s h visible accepted (sent h)

-- a name that is visible and accepted may be emitted
pub sent_at : (em : List ℕ → List ℕ → Bool) (p : Program) (bs : List Binder) (s : List ℕ) → is_visible p bs s ≡ true
    → is_refused p bs s ≡ false → (is_local bs s ≡ false → em p.name s ≡ true)
    → MayEmit (length p.interface) (IsSent em p) (locals_around bs) (emitted (signal_at p bs s))
sent_at em p bs s = by_place em p bs s (is_local bs s) refl

-- ---- what a run binds

-- the caller's name for an interface name of the module that is run is visible
renamed_known : (p : Program) (bs : List Binder) (rs : List RenamingTree) (s : List ℕ) (o : Option RenamingTree)
    → find (λ (r : RenamingTree). bytes_eq r.inner s) rs ≡ o
    → list_any (λ (r : RenamingTree). not (is_visible p bs r.outer)) rs ≡ false → is_unbound p bs rs s ≡ false
    → is_visible p bs (callers_name o s) ≡ true
unfolding is_unbound
renamed_known p bs rs s None found left unbound = or_other (is_renamed rs s) (is_visible p bs s)
    (none_found (λ (r : RenamingTree). bytes_eq r.inner s) rs found) (is_true _ unbound)
renamed_known p bs rs s (Some r) found left unbound = is_true (is_visible p bs r.outer)
    (other_fails (λ (r : RenamingTree). bytes_eq r.inner s)
    (λ (r : RenamingTree). not (is_visible p bs r.outer)) rs r left found)

-- it is accepted, where the module emits that name
renamed_accepted : (em : List ℕ → List ℕ → Bool) (p : Program) (bs : List Binder) (rs : List RenamingTree)
    (m s : List ℕ) → is_refused_in_run em p bs rs m s ≡ false → em m s ≡ true → is_refused p bs (renamed rs s) ≡ false
unfolding is_refused_in_run
renamed_accepted em p bs rs m s h sent = and_other (em m s) (is_refused p bs (renamed rs s)) sent h

-- what is known of an occurrence without faults
pub record IsFine (ps : List Program) (em : List ℕ → List ℕ → Bool) (p : Program) (o : Occurrence) : Type 0 where
  pub known : unknown_act ps p o.around o.act ≡ None
  pub accepted : refused_act ps em p o.around o.act ≡ None
  pub sent : (s : List ℕ) → is_local o.around s ≡ false → emits_by ps em s o.act ≡ true → em p.name s ≡ true

run_sent : (ps : List Program) (em : List ℕ → List ℕ → Bool) (p : Program) (bs : List Binder) (m : List ℕ)
    (rs : List RenamingTree) (q : Program) → program_named ps m ≡ Some q
    → IsFine ps em p (record { act = runs m rs; around = bs }) → (i : ℕ) (d : Declared)
    → slice_get q.interface i ≡ Some d → em q.name d.name ≡ true
    → MayEmit (length p.interface) (IsSent em p) (locals_around bs) (emitted (signal_at p bs (renamed rs d.name)))
run_sent ps em p bs m rs q found fine i d there sent =
    let same : q.name ≡ m = same_bytes q.name m (found_passes (λ (p : Program). bytes_eq p.name m) ps q found) in
    let known = or_none_parts (unknown_renaming p bs rs) _ (sym (ap (unknown_in_run p bs rs) found) ∙ fine.known) in
    let left = none_found (λ (r : RenamingTree). not (is_visible p bs r.outer)) rs (map_none _ _ known.0) in
    let unbound = none_at (λ (d : Declared). is_unbound p bs rs d.name) q.interface i d
    (none_found _ q.interface (map_none _ _ known.1)) there in
    let refused : refused_in_run em p bs rs m (Some q) ≡ None =
    sym (ap (refused_in_run em p bs rs m) found) ∙ fine.accepted in
    let allowed = none_at (λ (d : Declared). is_refused_in_run em p bs rs m d.name) q.interface i d
    (none_found _ q.interface (map_none _ _ refused)) there in
    sent_at em p bs (renamed rs d.name)
    (renamed_known p bs rs d.name (find (λ (r : RenamingTree). bytes_eq r.inner d.name) rs) refl left unbound)
    (renamed_accepted em p bs rs m d.name allowed (ap (λ n. em n d.name) (sym same) ∙ sent))
    (λ h. fine.sent (renamed rs d.name) h
    (ap (emits_in_run em (renamed rs d.name) rs) found
    ∙ any_passes_from_place (λ (e : Declared). em q.name e.name && bytes_eq (renamed rs e.name) (renamed rs d.name))
    q.interface i d
    there (and_from (em q.name d.name) _ sent (equal_bytes (renamed rs d.name)))))

bound_at : (p : Program) (bs : List Binder) (rs : List RenamingTree) (ds : List Declared) (i : ℕ) → i < length ds
    → get_or (interface_bound p bs rs ds) i tick ≡ signal_at p bs (renamed rs (get_or ds i nobody).name)
bound_at p bs rs ds i lt = get_or-map (λ (d : Declared). signal_at p bs (renamed rs d.name)) ds i nobody tick lt

-- what the interface of the module that is run stands for
pub run_bindings : (ps : List Program) (em : List ℕ → List ℕ → Bool) (p : Program) (bs : List Binder) (m : List ℕ)
    (rs : List RenamingTree) (q : Program) → program_named ps m ≡ Some q
    → IsFine ps em p (record { act = runs m rs; around = bs })
    → AreBindings (length q.interface) (IsSent em q) (length p.interface) (IsSent em p) (locals_around bs)
    (interface_bound p bs rs q.interface)
run_bindings ps em p bs m rs q found fine =
    record {
      asked = λ i lt. subst (MayAsk (length p.interface) (locals_around bs)) (sym (bound_at p bs rs q.interface i lt))
          (asked_at p bs (renamed rs (get_or q.interface i nobody).name));
      sent = λ i lt may.
          let there = slice_get-get_or q.interface i nobody lt in
          subst (λ x. MayEmit (length p.interface) (IsSent em p) (locals_around bs) (emitted x))
          (sym (bound_at p bs rs q.interface i lt))
          (run_sent ps em p bs m rs q found fine i (get_or q.interface i nobody) there
          (may (get_or q.interface i nobody) there).0);
    }
