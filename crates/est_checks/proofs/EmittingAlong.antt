-- What the modules of a library emit, worked out along an order.
use mathlib.Core.Path.{fun_ext}
use Rattle.std.proofs.Common.{◌≡◌, ℕ, zero, suc, ◌+◌, ◌<◌, ◌≤◌, ◌⊎◌, inl, inr, List, [], ◌∷◌, ◌++◌, length, Bool, true}
use Rattle.std.proofs.Common.{false, cond, not, ◌||◌, ◌&&◌, slice_index, Option, Some, None, option_map, Contains, refl}
use Rattle.std.proofs.Common.{ap, sym, ◌∙◌, subst, arith}
use Rattle.std.proofs.lemmas.Bool.{cases_lt, false≢true, or_parts}
use Rattle.std.proofs.lemmas.List.{length-map}
use Rattle.std.proofs.lemmas.List.Elements.{Contains-append_right}
use Rattle.std.proofs.lemmas.Option.{none-some, slice_get_within}
use Rattle.std.proofs.lemmas.List.Folds.{list_any-append}
use Rattle.std.specs.List.{list_any, slice_get}
use Rattle.std.specs.Str.{bytes_eq}
use Rattle.est_syntax.specs.Tree.{RenamingTree}
use Rattle.est_modules.specs.Visible.{stands_in}
use Rattle.est_checks.specs.Duplicates.{duplicate_of, duplicate_after, first_duplicate}
use Rattle.est_checks.specs.Emissions.{emits_in_run, emits_by, emits_here, IsEmitted, AreEmissions}
use Rattle.est_checks.specs.Inner.EmissionsBefore.{AreEmissionsBefore, StandsBefore}
use Rattle.est_modules.specs.Modules.{Program, program_named}
use Rattle.est_modules.specs.Occurrences.{Act, emits, tests, exits, binds, runs, Occurrence, occurrences}
use Rattle.est_modules.specs.ModuleOrders.{IsOrderOf, run_rows, places_run, place_named}
use Rattle.est_modules.specs.Visible.{is_local}
use Rattle.est_modules.specs.declared.interface.Declared.{Declared}
use Rattle.est_modules.specs.Renamings.{renamed}
use Rattle.est_checks.proofs.OneName.{first_of_name, not_seen}
use Rattle.est_modules.proofs.Standing.{found_place}
use Rattle.est_modules.proofs.Ordering.{IsRunOf, run_is_run}
use Rattle.est_modules.proofs.Positions.{position_cons}
use Rattle.est_modules.proofs.Testing.{some_same, or_none_parts, equal_bytes, same_bytes, found_passes}
use Rattle.est_order.proofs.OrderPlaces.{each_stands}

-- ---- emissions by the same table, as far as it is asked

-- two tables say the same of each module that an act runs
abbrev pub SayTheSame : List Program → (f g : List ℕ → List ℕ → Bool) → Act → Type 0
SayTheSame ps f g act = (m : List ℕ) → IsRunOf act m → (q : Program) → program_named ps m ≡ Some q → (t : List ℕ)
    → f q.name t ≡ g q.name t

same_in_run : (f g : List ℕ → List ℕ → Bool) (s : List ℕ) (rs : List RenamingTree) (o : Option Program)
    → ((q : Program) → o ≡ Some q → (t : List ℕ) → f q.name t ≡ g q.name t)
    → emits_in_run f s rs o ≡ emits_in_run g s rs o
same_in_run f g s rs None h = refl
same_in_run f g s rs (Some q) h =
    ap (λ (k : List ℕ → Bool). list_any (λ (d : Declared). k d.name && bytes_eq (renamed rs d.name) s) q.interface)
    (fun_ext (h q refl))

same_by : (ps : List Program) (f g : List ℕ → List ℕ → Bool) (s : List ℕ) (act : Act) → SayTheSame ps f g act
    → emits_by ps f s act ≡ emits_by ps g s act
same_by ps f g s (emits n) h = refl
same_by ps f g s (tests n) h = refl
same_by ps f g s (exits t) h = refl
same_by ps f g s (binds ns) h = refl
same_by ps f g s (runs m rs) h = same_in_run f g s rs (program_named ps m) (h m refl)

pub same_here : (ps : List Program) (f g : List ℕ → List ℕ → Bool) (s : List ℕ) (o : Occurrence)
    → SayTheSame ps f g o.act → emits_here ps f s o ≡ emits_here ps g s o
same_here ps f g s o h = ap (λ b. not (is_local o.around s) && b) (same_by ps f g s o.act h)

pub same_any : {X : Type 0} (f g : X → Bool) (xs : List X) → ((x : X) → Contains xs x → f x ≡ g x)
    → list_any f xs ≡ list_any g xs
same_any f g [] h = refl
same_any f g (x ∷ xs) h =
    ap (λ b. b || list_any f xs) (h x (0, omega arith, refl))
    ∙ ap (λ b. g x || b) (same_any f g xs (λ y has. h y (Contains-append_right (x ∷ []) xs y has)))

-- ---- places of modules of one name each

place_here : (b : Bool) (o : Option ℕ) → b ≡ true → cond b (Some 0) (option_map (λ i. i + 1) o) ≡ Some 0
place_here b o h = ap (λ b. cond b (Some 0) (option_map (λ i. i + 1) o)) h

place_later : (b : Bool) (o : Option ℕ) (i : ℕ) → b ≡ false → o ≡ Some i
    → cond b (Some 0) (option_map (λ i. i + 1) o) ≡ Some (suc i)
place_later b o i h e = ap (λ b. cond b (Some 0) (option_map (λ i. i + 1) o)) h ∙ ap (option_map (λ i. i + 1)) e
    ∙ ap Some (omega arith)

-- each module stands at the place of its name
pub place_of_name : (seen : List (List ℕ)) (ps : List Program) → duplicate_after seen ps ≡ None → (i : ℕ) (p : Program)
    → slice_get ps i ≡ Some p → place_named ps p.name ≡ Some i
place_of_name seen [] h i p at = absurd (none-some p at)
place_of_name seen (q ∷ qs) h zero p at =
    position_cons (λ (r : Program). bytes_eq r.name p.name) q qs
    ∙ place_here (bytes_eq q.name p.name) (place_named qs p.name)
    (ap (λ (r : Program). bytes_eq r.name p.name) (some_same q p at) ∙ equal_bytes p.name)
place_of_name seen (q ∷ qs) h (suc i) p at =
    let rest = (or_none_parts (duplicate_of seen q) (duplicate_after (seen ++ q.name ∷ []) qs) h).1 in
    let later = not_seen (seen ++ q.name ∷ []) qs rest i p at in
    let other =
    (or_parts (bytes_eq q.name p.name) false
    ((or_parts (stands_in seen p.name) _
    (sym (list_any-append (λ n. bytes_eq n p.name) seen (q.name ∷ [])) ∙ later)).1)).0 in
    position_cons (λ (r : Program). bytes_eq r.name p.name) q qs
    ∙ place_later (bytes_eq q.name p.name) (place_named qs p.name) i other
    (place_of_name (seen ++ q.name ∷ []) qs rest i p at)

-- ---- one more module

-- the table says of the module what it emits, and of others what another table says
abbrev pub IsMore : List Program → (f g : List ℕ → List ℕ → Bool) → Program → Type 0
IsMore ps f g q = (m s : List ℕ)
    → g m s ≡ cond (bytes_eq q.name m) (list_any (emits_here ps f s) (occurrences [] q.body)) (f m s)

cases_bool : (b : Bool) → (b ≡ true) ⊎ (b ≡ false)
cases_bool true = inl refl
cases_bool false = inr refl

-- a module among the first k + 1 runs none at k, so that what it runs emits what it did
same_runs : (ps : List Program) (order : List ℕ) (f g : List ℕ → List ℕ → Bool) (k i : ℕ) (p q : Program)
    → IsOrderOf ps order → first_duplicate ps ≡ None → k < length order → i < k + 1 → i < length order
    → slice_get ps (slice_index order k) ≡ Some q → slice_get ps (slice_index order i) ≡ Some p → IsMore ps f g q
    → (o : Occurrence) → Contains (occurrences [] p.body) o → SayTheSame ps f g o.act
same_runs ps order f g k i p q up distinct k_in below i_in q_at p_at more o stands m is_run r found t =
    elim (cases_bool (bytes_eq q.name r.name)) [
      | inl same ↦
          let named : r.name ≡ m = same_bytes r.name m (found_passes (λ (p : Program). bytes_eq p.name m) ps r found) in
          let is_m : q.name ≡ m = same_bytes q.name r.name same ∙ named in
          let place : place_named ps m ≡ Some (slice_index order k) =
          subst (λ n. place_named ps n ≡ Some (slice_index order k)) is_m
          (place_of_name [] ps distinct (slice_index order k) q q_at) in
          let leads = run_is_run ps (slice_index order i) (slice_index order k) p o m p_at stands is_run place in
          absurd (omega (arith, below, up.after_runs i k i_in k_in leads))
      | inr other ↦
          sym (more r.name t
          ∙ ap (λ b. cond b (list_any (emits_here ps f t) (occurrences [] q.body)) (f r.name t)) other)
    ]

same_emissions : (ps : List Program) (order : List ℕ) (f g : List ℕ → List ℕ → Bool) (k i : ℕ) (p q : Program)
    → IsOrderOf ps order → first_duplicate ps ≡ None → k < length order → i < k + 1 → i < length order
    → slice_get ps (slice_index order k) ≡ Some q → slice_get ps (slice_index order i) ≡ Some p → IsMore ps f g q
    → (s : List ℕ) → list_any (emits_here ps f s) (occurrences [] p.body)
    ≡ list_any (emits_here ps g s) (occurrences [] p.body)
same_emissions ps order f g k i p q up distinct k_in below i_in q_at p_at more s =
    same_any (emits_here ps f s) (emits_here ps g s) (occurrences [] p.body) (λ o stands.
    same_here ps f g s o (same_runs ps order f g k i p q up distinct k_in below i_in q_at p_at more o stands))

-- two modules of one name are one
same_module : (ps : List Program) → first_duplicate ps ≡ None → (i j : ℕ) (p q : Program) → slice_get ps i ≡ Some p
    → slice_get ps j ≡ Some q → p.name ≡ q.name → p ≡ q
same_module ps distinct i j p q p_at q_at e =
    some_same p q
    (sym (first_of_name [] ps distinct i p p_at) ∙ ap (program_named ps) e ∙ first_of_name [] ps distinct j q q_at)

one_more : (ps : List Program) (order : List ℕ) (f g : List ℕ → List ℕ → Bool) (k : ℕ) (q : Program)
    → IsOrderOf ps order → first_duplicate ps ≡ None → k < length order → slice_get ps (slice_index order k) ≡ Some q
    → IsMore ps f g q → AreEmissionsBefore ps order k f
    → (i : ℕ) → i < k + 1 → (p : Program) → slice_get ps (slice_index order i) ≡ Some p → IsEmitted ps g p
one_more ps order f g k q up distinct k_in q_at more emitted i below p p_at s =
    let same = same_emissions ps order f g k i p q up distinct k_in below
    (omega (arith, below, k_in)) q_at p_at more s in
    let added : Bool = list_any (emits_here ps f s) (occurrences [] q.body) in
    more p.name s ∙ elim (cases_bool (bytes_eq q.name p.name)) [
      | inl named ↦
          ap (λ b. cond b added (f p.name s)) named
          ∙ ap (λ (r : Program). list_any (emits_here ps f s) (occurrences [] r.body))
          (same_module ps distinct (slice_index order k) (slice_index order i) q p q_at p_at
          (same_bytes q.name p.name named))
          ∙ same
      | inr other ↦ (elim (cases_lt i k) [
        | inl earlier ↦ ap (λ b. cond b added (f p.name s)) other ∙ emitted.each i earlier p p_at s ∙ same
        | inr last ↦
            let is_k : k ≡ i = omega (arith, below, last) in
            let is_p : q ≡ p = some_same q p (sym q_at ∙ ap (λ j. slice_get ps (slice_index order j)) is_k ∙ p_at) in
            absurd (false≢true
            (sym other ∙ subst (λ (r : Program). bytes_eq r.name p.name ≡ true) (sym is_p) (equal_bytes p.name)))
      ])
    ]

one_only : (ps : List Program) (order : List ℕ) (f g : List ℕ → List ℕ → Bool) (k : ℕ) (q : Program)
    → slice_get ps (slice_index order k) ≡ Some q → IsMore ps f g q → AreEmissionsBefore ps order k f → (m s : List ℕ)
    → g m s ≡ true → StandsBefore ps order (k + 1) m
one_only ps order f g k q q_at more emitted m s said = elim (cases_bool (bytes_eq q.name m)) [
  | inl new ↦
      record {
        place = k;
        before = omega arith;
        program = q;
        there = q_at;
        named = same_bytes q.name m new;
      }
  | inr other ↦
      let w = emitted.only m s
      (sym (ap (λ b. cond b (list_any (emits_here ps f s) (occurrences [] q.body)) (f m s)) other)
      ∙ sym (more m s) ∙ said) in
      record {
        place = w.place;
        before = omega (arith, w.before);
        program = w.program;
        there = w.there;
        named = w.named;
      }
]

-- one more module's emissions are said
pub emitting_goes_on : (ps : List Program) (order : List ℕ) (f g : List ℕ → List ℕ → Bool) (k : ℕ) (q : Program)
    → IsOrderOf ps order → first_duplicate ps ≡ None → k < length order → slice_get ps (slice_index order k) ≡ Some q
    → IsMore ps f g q → AreEmissionsBefore ps order k f → AreEmissionsBefore ps order (k + 1) g
emitting_goes_on ps order f g k q up distinct k_in q_at more emitted = record {
  each = one_more ps order f g k q up distinct k_in q_at more emitted;
  only = one_only ps order f g k q q_at more emitted;
}

-- before the first module nothing is said
pub emitting_begins : (ps : List Program) (order : List ℕ) (f : List ℕ → List ℕ → Bool)
    → ((m s : List ℕ) → f m s ≡ false) → AreEmissionsBefore ps order 0 f
emitting_begins ps order f none = record {
  each = λ i below p p_at. absurd (omega (arith, below));
  only = λ m s said. absurd (false≢true (sym (none m s) ∙ said));
}

-- behind the last one, what each module emits
pub emitting_ends : (ps : List Program) (order : List ℕ) (f : List ℕ → List ℕ → Bool) (n : ℕ) → IsOrderOf ps order
    → length order ≤ n → AreEmissionsBefore ps order n f → AreEmissions ps f
emitting_ends ps order f n up long emitted m p found =
    let place = found_place (λ (q : Program). bytes_eq q.name m) ps p found in
    let stood = each_stands (run_rows ps) order up place.0
    (omega (arith, slice_get_within ps place.0 p place.2, length-map ps (places_run ps))) in
    emitted.each stood.0 (omega (arith, stood.1, long)) p (ap (slice_get ps) stood.2 ∙ place.2)
