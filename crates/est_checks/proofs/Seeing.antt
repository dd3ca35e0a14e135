-- A module that uses no name that isn't visible emits no others than it declares, or `tick`.
use Rattle.std.proofs.Common.{◌≡◌, ◌||◌, ◌&&◌, not, inl, inr, ℕ, List, Option, Some, None, Bool, true, false}
use Rattle.std.proofs.Common.{option_map, ◌<◌, length, get_or, map, refl, ap, sym, ◌∙◌}
use Rattle.std.proofs.lemmas.Bool.{false≢true, true≢false, or_right, or_left}
use Rattle.std.proofs.lemmas.Option.{none-some, slice_get_read, slice_get-map}
use Rattle.std.specs.List.{list_any, find, slice_get}
use Rattle.std.specs.Str.{bytes_eq}
use Rattle.std.proofs.lemmas.Map.Keys.{any_passes_from_place}
use Rattle.est_syntax.specs.Tree.{RenamingTree}
use Rattle.est_modules.specs.Modules.{Program, program_named, program_of, is_declared}
use Rattle.est_modules.specs.Occurrences.{Binder, Act, emits, tests, exits, binds, runs, Occurrence, first_of}
use Rattle.est_modules.specs.Renamings.{is_renamed, renamed, callers_name}
use Rattle.est_modules.specs.Visible.{is_local, is_tick, is_visible}
use Rattle.est_modules.specs.declared.interface.Declared.{Declared}
use Rattle.est_modules.specs.declared.library_modules.LibraryModule.{LibraryModule}
use Rattle.est_modules.proofs.Standing.{first_none}
use Rattle.est_modules.proofs.Testing.{or_other, or_none_parts, map_none, none_found, none_at, other_fails}
use Rattle.est_modules.proofs.Testing.{same_bytes}
use Rattle.est_checks.specs.Emissions.{emits_in_run, emits_by, emits_here}
use Rattle.est_checks.specs.UnknownNames.{unless, is_unbound, unknown_renaming, unknown_in_run, unknown_act, unknown_at}
use Rattle.est_checks.proofs.Deciding.{both, either}
use Rattle.est_checks.proofs.Noting.{any_found, keeps_name}
use Rattle.est_order.proofs.SearchLemmas.{not_false as of_not, is_true}

-- the module declares the name, or it is `tick`
abbrev pub is_outer : Program → List ℕ → Bool
is_outer p s = is_declared p.interface s || is_tick s

pub known : (b : Bool) (n : List ℕ) → unless b n ≡ None → b ≡ true
known true n h = refl
known false n h = absurd (none-some n (sym h))

-- a visible name that no `signal` declares
outer : (p : Program) (bs : List Binder) (s : List ℕ) → is_visible p bs s ≡ true → is_local bs s ≡ false
    → is_outer p s ≡ true
outer p bs s seen free = or_other (is_local bs s) (is_outer p s) free seen

-- ---- what a run emits

-- the caller's name of a renamed signal
left_name : (p : Program) (bs : List Binder) (rs : List RenamingTree) (n : List ℕ) (o : Option RenamingTree)
    → find (λ (r : RenamingTree). bytes_eq r.inner n) rs ≡ o → is_renamed rs n ≡ true
    → list_any (λ (r : RenamingTree). not (is_visible p bs r.outer)) rs ≡ false
    → is_visible p bs (callers_name o n) ≡ true
left_name p bs rs n None e so none =
    absurd (true≢false (sym so ∙ none_found (λ (r : RenamingTree). bytes_eq r.inner n) rs e))
left_name p bs rs n (Some r) e so none =
    is_true (is_visible p bs r.outer)
    (other_fails (λ (r : RenamingTree). bytes_eq r.inner n) (λ (r : RenamingTree). not (is_visible p bs r.outer)) rs r
    none e)

-- an interface name that a run binds
bound_name : (p : Program) (bs : List Binder) (rs : List RenamingTree) (n : List ℕ) (b : Bool) → is_renamed rs n ≡ b
    → list_any (λ (r : RenamingTree). not (is_visible p bs r.outer)) rs ≡ false → is_unbound p bs rs n ≡ false
    → is_visible p bs (renamed rs n) ≡ true
unfolding is_unbound
bound_name p bs rs n true so none bound =
    left_name p bs rs n (find (λ (r : RenamingTree). bytes_eq r.inner n) rs) refl so none
bound_name p bs rs n false not_so none bound =
    ap (is_visible p bs) (keeps_name rs n not_so)
    ∙ or_other (is_renamed rs n) (is_visible p bs n) not_so
    (is_true (is_renamed rs n || is_visible p bs n) bound)

seen_in_run : (em : List ℕ → List ℕ → Bool) (p : Program) (bs : List Binder) (s : List ℕ) (rs : List RenamingTree)
    (found : Option Program) → unknown_in_run p bs rs found ≡ None → is_local bs s ≡ false
    → emits_in_run em s rs found ≡ true → is_outer p s ≡ true
seen_in_run em p bs s rs None h free emitted = absurd (false≢true emitted)
seen_in_run em p bs s rs (Some q) h free emitted =
    let parts = or_none_parts (unknown_renaming p bs rs)
    (option_map (λ (d : Declared). d.name) (find (λ (d : Declared). is_unbound p bs rs d.name) q.interface)) h in
    let lefts = none_found (λ (r : RenamingTree). not (is_visible p bs r.outer)) rs
    (map_none (λ (r : RenamingTree). r.outer) (find (λ (r : RenamingTree). not (is_visible p bs r.outer)) rs)
    parts.0) in
    let names = none_found (λ (d : Declared). is_unbound p bs rs d.name) q.interface
    (map_none (λ (d : Declared). d.name) (find (λ (d : Declared). is_unbound p bs rs d.name) q.interface) parts.1) in
    let f = any_found (λ (d : Declared). em q.name d.name && bytes_eq (renamed rs d.name) s) q.interface emitted in
    let d : Declared = f.1 in
    let at = both (em q.name d.name) (bytes_eq (renamed rs d.name) s) f.3 in
    let bound = none_at (λ (d : Declared). is_unbound p bs rs d.name) q.interface f.0 d names f.2 in
    outer p bs s
    (ap (is_visible p bs) (sym (same_bytes (renamed rs d.name) s at.1))
    ∙ bound_name p bs rs d.name (is_renamed rs d.name) refl lefts bound) free

-- ---- what an act emits

seen_by : (ps : List Program) (em : List ℕ → List ℕ → Bool) (p : Program) (bs : List Binder) (act : Act) (s : List ℕ)
    → unknown_act ps p bs act ≡ None → is_local bs s ≡ false → emits_by ps em s act ≡ true → is_outer p s ≡ true
seen_by ps em p bs (emits n) s h free emitted =
    outer p bs s (ap (is_visible p bs) (sym (same_bytes n s emitted)) ∙ known (is_visible p bs n) n h) free
seen_by ps em p bs (tests n) s h free emitted = absurd (false≢true emitted)
seen_by ps em p bs (exits n) s h free emitted = absurd (false≢true emitted)
seen_by ps em p bs (binds ns) s h free emitted = absurd (false≢true emitted)
seen_by ps em p bs (runs m rs) s h free emitted = seen_in_run em p bs s rs (program_named ps m) h free emitted

-- what is emitted along occurrences at which no name is unknown
pub seen_along : (ps : List Program) (em : List ℕ → List ℕ → Bool) (p : Program) (os : List Occurrence) (s : List ℕ)
    → first_of (unknown_at ps p) os ≡ None → list_any (emits_here ps em s) os ≡ true → is_outer p s ≡ true
seen_along ps em p os s none emitted =
    let f = any_found (emits_here ps em s) os emitted in
    let o : Occurrence = f.1 in
    let parts = both (not (is_local o.around s)) (emits_by ps em s o.act) f.3 in
    seen_by ps em p o.around o.act s (first_none (unknown_at ps p) os f.0 o none f.2)
    (of_not (is_local o.around s) parts.0) parts.1

-- ---- the module at a place

-- a module of the code
pub module_at : (hs found : List LibraryModule) (i : ℕ) (h : LibraryModule) → found ≡ hs → i < length hs
    → h ≡ get_or found i h
    → slice_get (map program_of hs) i ≡ Some (program_of h)
module_at hs found i h same room at =
    slice_get-map program_of hs i
    ∙ ap (option_map program_of)
    (slice_get_read hs (length hs) i h refl room (at ∙ ap (λ (xs : List LibraryModule). get_or xs i h) same))

-- a name that it declares has a number, where all that are declared have one
pub numbered_here : (ps : List Program) (i : ℕ) (p : Program) (s : List ℕ) (numbered : Bool)
    → slice_get ps i ≡ Some p
    → ((list_any (λ (p : Program). is_declared p.interface s) ps || is_tick s) ≡ true → numbered ≡ true)
    → is_outer p s ≡ true → numbered ≡ true
numbered_here ps i p s numbered at all h =
    let declared = λ (p : Program). is_declared p.interface s in
    all
    (elim (either (is_declared p.interface s) (is_tick s) h) [
      | inl own ↦ or_left (list_any declared ps) (is_tick s) (any_passes_from_place declared ps i p at own)
      | inr tick ↦ or_right (list_any declared ps) (is_tick s) tick
    ])
