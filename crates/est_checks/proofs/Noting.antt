-- What is noted of what a module emits is all of it.
use mathlib.Core.Path.{fun_ext}
use Rattle.std.proofs.Common.{◌≡◌, ◌<◌, ◌⊎◌, inl, inr, ◌||◌, ◌&&◌, not, ℕ, zero, suc, ◌+◌, take, List, [], ◌∷◌, map}
use Rattle.std.proofs.Common.{length, nat_eq, Option, Some, None, Bool, true, get_or, false, cond, refl, ap, sym, ◌∙◌}
use Rattle.std.proofs.Common.{subst}
use Rattle.std.proofs.lemmas.Bool.{false≢true, or_right, or_left, or_parts, and_from, not_from_false}
use Rattle.std.specs.List.{list_any, find, fold, slice_get}
use Rattle.std.specs.Prelude.{codes, is_some}
use Rattle.std.specs.Str.{bytes_eq}
use Rattle.std.proofs.lemmas.Map.Keys.{any_passes_from_place}
use Rattle.est_syntax.specs.Tree.{RenamingTree}
use Rattle.est_syntax.specs.Views.{renaming_view}
use Rattle.est_syntax.specs.declared.tree.Renaming.{Renaming}
use Rattle.est_modules.specs.Modules.{Program, program_named, is_declared}
use Rattle.est_modules.specs.NamedNumbers.{passes, is_number_of, Tells, Adds}
use Rattle.est_modules.specs.NameTables.{number_in, is_numbered, IsTable}
use Rattle.est_modules.specs.NumberSets.{numbers_of}
use Rattle.est_modules.specs.Occurrences.{Act, Binder, Occurrence}
use Rattle.est_modules.specs.Renamings.{is_renamed, renamed, callers_name}
use Rattle.est_modules.specs.Scopes.{act_of}
use Rattle.est_modules.specs.Visible.{is_local, is_tick}
use Rattle.est_modules.specs.declared.interface.Declared.{Declared}
use Rattle.est_modules.specs.declared.scope.Act.{Act as ActValue}
use Rattle.est_modules.specs.declared.names.table.NameTable.{NameTable}
use Rattle.est_modules.specs.declared.names.set.NumberSet.{NumberSet}
use Rattle.est_modules.proofs.Lists.{any_map}
use Rattle.est_modules.proofs.Numbering.{any_next}
use Rattle.est_modules.proofs.TellingNumbers.{adds_none, adds_same, adds_number, passes_none, passes_or}
use Rattle.est_modules.proofs.TellingNumbers.{passes_and, unnamed}
use Rattle.est_modules.proofs.Testing.{or_other, same_bytes, same_or, or_assoc}
use Rattle.est_modules.proofs.Testing.{or_turned, equal_bytes, found_passes, same_tests}
use Rattle.est_checks.specs.Emissions.{emits_by, emits_in_run, emits_here}
use Rattle.est_checks.specs.Inner.Noted.{is_noted, emits_inner, emits_renamed, noted_after}
use Rattle.est_checks.proofs.Deciding.{both, either}
use Rattle.est_checks.proofs.Leaving.{and_false, distributed, names_emitted}
use Rattle.est_order.proofs.SearchLemmas.{not_false}

-- ---- tests

pub cases_bool : (b : Bool) → (b ≡ true) ⊎ (b ≡ false)
cases_bool true = inl refl
cases_bool false = inr refl

pub turned : (a b : List ℕ) → bytes_eq a b ≡ bytes_eq b a
turned a b =
    same_tests (bytes_eq a b) (bytes_eq b a)
    (λ h. subst (λ n. bytes_eq n a ≡ true) (same_bytes a b h) (equal_bytes a))
    (λ h. subst (λ n. bytes_eq n b ≡ true) (same_bytes b a h) (equal_bytes b))

-- an element that passes a test, of a list that has one
pub any_found : {X : Type 0} (p : X → Bool) (xs : List X) → list_any p xs ≡ true
    → (i : ℕ) × (x : X) × (slice_get xs i ≡ Some x) × (p x ≡ true)
any_found p [] h = absurd (false≢true h)
any_found p (x ∷ xs) h = elim (cases_bool (p x)) [
  | inl so ↦ (zero, x, refl, so)
  | inr not_so ↦
      let rest = any_found p xs (or_other (p x) (list_any p xs) not_so h) in
      (suc rest.0, rest.1, rest.2, rest.3)
]

none_any : {X : Type 0} (p : X → Bool) (xs : List X) → list_any p xs ≡ false → find p xs ≡ None
none_any p [] h = refl
none_any p (x ∷ xs) h =
    let parts = or_parts (p x) (list_any p xs) h in
    ap (λ b. cond b (Some x) (find p xs)) parts.0 ∙ none_any p xs parts.1

-- a name that is not renamed keeps its own
pub keeps_name : (rs : List RenamingTree) (n : List ℕ) → is_renamed rs n ≡ false → renamed rs n ≡ n
keeps_name rs n h = ap (λ o. callers_name o n) (none_any (λ (r : RenamingTree). bytes_eq r.inner n) rs h)

-- ---- what a run emits: names that it doesn't rename, and others by its renamings

emitted_apart : (em : List ℕ → List ℕ → Bool) (q : Program) (rs : List RenamingTree) (s : List ℕ)
    → emits_in_run em s rs (Some q) ≡ true
    → ((not (is_renamed rs s) && emits_in_run em s [] (Some q)) || emits_renamed em q rs rs s) ≡ true
emitted_apart em q rs s h =
    let f = any_found (λ (d : Declared). em q.name d.name && bytes_eq (renamed rs d.name) s) q.interface h in
    let d : Declared = f.1 in
    let parts = both (em q.name d.name) (bytes_eq (renamed rs d.name) s) f.3 in
    elim (cases_bool (is_renamed rs d.name)) [
      | inl so ↦
          let g = any_found (λ (r : RenamingTree). bytes_eq r.inner d.name) rs so in
          let r : RenamingTree = g.1 in
          let same : r.inner ≡ d.name = same_bytes r.inner d.name g.3 in
          let declared : is_declared q.interface r.inner ≡ true =
          any_passes_from_place (λ (e : Declared). bytes_eq e.name r.inner) q.interface f.0 d f.2
          (subst (λ n. bytes_eq d.name n ≡ true) (sym same) (equal_bytes d.name)) in
          let emitted : em q.name r.inner ≡ true = subst (λ n. em q.name n ≡ true) (sym same) parts.0 in
          let named : bytes_eq (renamed rs r.inner) s ≡ true =
          subst (λ n. bytes_eq (renamed rs n) s ≡ true) (sym same) parts.1 in
          or_right (not (is_renamed rs s) && emits_in_run em s [] (Some q)) (emits_renamed em q rs rs s)
          (any_passes_from_place (λ (r : RenamingTree). (is_declared q.interface r.inner && em q.name r.inner)
          && bytes_eq (renamed rs r.inner) s) rs g.0 r g.2
          (and_from (is_declared q.interface r.inner && em q.name r.inner) (bytes_eq (renamed rs r.inner) s)
          (and_from (is_declared q.interface r.inner) (em q.name r.inner) declared emitted) named))
      | inr not_so ↦
          let is_s : d.name ≡ s = sym (keeps_name rs d.name not_so) ∙ same_bytes (renamed rs d.name) s parts.1 in
          let free : not (is_renamed rs s) ≡ true = not_from_false (is_renamed rs s)
          (subst (λ n. is_renamed rs n ≡ false) is_s not_so) in
          let plain : emits_in_run em s [] (Some q) ≡ true =
          any_passes_from_place (λ (e : Declared). em q.name e.name && bytes_eq e.name s) q.interface f.0 d f.2
          (and_from (em q.name d.name) (bytes_eq d.name s) parts.0
          (subst (λ n. bytes_eq d.name n ≡ true) is_s (equal_bytes d.name))) in
          or_left (not (is_renamed rs s) && emits_in_run em s [] (Some q)) (emits_renamed em q rs rs s)
          (and_from (not (is_renamed rs s)) (emits_in_run em s [] (Some q)) free plain)
    ]

emitted_whole : (em : List ℕ → List ℕ → Bool) (q : Program) (rs : List RenamingTree) (s : List ℕ)
    → ((not (is_renamed rs s) && emits_in_run em s [] (Some q)) || emits_renamed em q rs rs s) ≡ true
    → emits_in_run em s rs (Some q) ≡ true
emitted_whole em q rs s h =
    elim (either (not (is_renamed rs s) && emits_in_run em s [] (Some q)) (emits_renamed em q rs rs s) h) [
      | inl own ↦
          let parts = both (not (is_renamed rs s)) (emits_in_run em s [] (Some q)) own in
          let f = any_found (λ (d : Declared). em q.name d.name && bytes_eq d.name s) q.interface parts.1 in
          let d : Declared = f.1 in
          let at = both (em q.name d.name) (bytes_eq d.name s) f.3 in
          let is_s : d.name ≡ s = same_bytes d.name s at.1 in
          let keeps : renamed rs d.name ≡ d.name = keeps_name rs d.name
          (subst (λ n. is_renamed rs n ≡ false) (sym is_s) (not_false (is_renamed rs s) parts.0)) in
          any_passes_from_place (λ (e : Declared). em q.name e.name && bytes_eq (renamed rs e.name) s) q.interface f.0 d
          f.2
          (and_from (em q.name d.name) (bytes_eq (renamed rs d.name) s) at.0
          (subst (λ n. bytes_eq n s ≡ true) (sym keeps) at.1))
      | inr other ↦
          let g = any_found
          (λ (r : RenamingTree). (is_declared q.interface r.inner && em q.name r.inner)
          && bytes_eq (renamed rs r.inner) s) rs other in
          let r : RenamingTree = g.1 in
          let parts = both (is_declared q.interface r.inner && em q.name r.inner)
          (bytes_eq (renamed rs r.inner) s) g.3 in
          let emitted = both (is_declared q.interface r.inner) (em q.name r.inner) parts.0 in
          let f = any_found (λ (d : Declared). bytes_eq d.name r.inner) q.interface emitted.0 in
          let d : Declared = f.1 in
          let same : r.inner ≡ d.name = sym (same_bytes d.name r.inner f.3) in
          any_passes_from_place (λ (e : Declared). em q.name e.name && bytes_eq (renamed rs e.name) s) q.interface f.0 d
          f.2
          (and_from (em q.name d.name) (bytes_eq (renamed rs d.name) s) (subst (λ n. em q.name n ≡ true) same emitted.1)
          (subst (λ n. bytes_eq (renamed rs n) s ≡ true) same parts.1))
    ]

-- ---- one name

-- a test of one of two names that are the same
pub at_same : (f : List ℕ → Bool) (n u : List ℕ) (b : Bool) → bytes_eq n u ≡ b → (f n && b) ≡ (f u && b)
at_same f n u true same = ap (λ m. f m && true) (same_bytes n u same)
at_same f n u false other = and_false (f n) ∙ sym (and_false (f u))

-- a name that no `signal` declares is put in
pub name_noted : (t : NameTable) (bs : List Binder) (n : List ℕ) (i : ℕ) (old new : NumberSet) → IsTable t
    → number_in t n ≡ Some i → is_local bs n ≡ false
    → ((j : ℕ) → numbers_of new j ≡ (numbers_of old j || nat_eq i j))
    → Adds t (λ s. not (is_local bs s) && bytes_eq n s) old new
name_noted t bs n i old new is at outer put =
    adds_same t (bytes_eq n) (λ s. not (is_local bs s) && bytes_eq n s) old new
    (λ s. ap (λ b. not b && bytes_eq n s) (sym outer)
    ∙ at_same (λ u. not (is_local bs u)) n s (bytes_eq n s) refl)
    (adds_number t n i old new is at put)

-- another name is not
pub name_passed : (t : NameTable) (bs : List Binder) (n : List ℕ) (set : NumberSet) → is_local bs n ≡ true
    → Adds t (λ s. not (is_local bs s) && bytes_eq n s) set set
name_passed t bs n set hidden =
    adds_none t (λ s. not (is_local bs s) && bytes_eq n s) set
    (λ s. sym (at_same (λ u. not (is_local bs u)) n s (bytes_eq n s) refl)
    ∙ ap (λ b. not b && bytes_eq n s) hidden)

-- nor is one without a number
pub name_unnumbered : (t : NameTable) (bs : List Binder) (n : List ℕ) (set : NumberSet) → IsTable t
    → number_in t n ≡ None → Adds t (λ s. not (is_local bs s) && bytes_eq n s) set set
name_unnumbered t bs n set is none i =
    let o = slice_get t.names.items i in
    same_or (numbers_of set i)
    ∙ ap (λ b. numbers_of set i || b)
    (sym (and_false (passes (λ s. not (is_local bs s)) o))
    ∙ ap (λ b. passes (λ s. not (is_local bs s)) o && b) (unnamed t n i is none)
    ∙ passes_and (λ s. not (is_local bs s)) (bytes_eq n) o)

-- ---- the renamings of a run

-- the renamings of a run, one after another
pub renamed_next : (em : List ℕ → List ℕ → Bool) (q : Program) (bs : List Binder) (rs : List RenamingTree)
    (all : List Renaming) (k : ℕ) (r : Renaming) (s : List ℕ) → r ≡ get_or all k r → k < length all
    → ((not (is_local bs s) && emits_renamed em q rs (map renaming_view (take k all)) s)
    || (not (is_local bs s) && (emits_inner em q (renaming_view r) && bytes_eq (renamed rs r.inner) s)))
    ≡ (not (is_local bs s) && emits_renamed em q rs (map renaming_view (take (k + 1) all)) s)
renamed_next em q bs rs all k r s at room =
    let test = λ (r : RenamingTree). emits_inner em q r && bytes_eq (renamed rs r.inner) s in
    distributed (not (is_local bs s)) (emits_renamed em q rs (map renaming_view (take k all)) s)
    (test (renaming_view r))
    ∙ ap (λ b. not (is_local bs s) && b)
    (ap (λ b. b || test (renaming_view r)) (any_map test renaming_view (take k all))
    ∙ any_next (λ (r : Renaming). test (renaming_view r)) all k r at room
    ∙ sym (any_map test renaming_view (take (k + 1) all)))

-- a renaming whose signal is emitted, and one whose signal is not
pub emitted_is : (bs : List Binder) (n s : List ℕ) (b : Bool) → b ≡ true
    → (not (is_local bs s) && bytes_eq n s) ≡ (not (is_local bs s) && (b && bytes_eq n s))
emitted_is bs n s b h = sym (ap (λ x. not (is_local bs s) && (x && bytes_eq n s)) h)

pub unemitted_is : (bs : List Binder) (n s : List ℕ) (b : Bool) → b ≡ false
    → (not (is_local bs s) && (b && bytes_eq n s)) ≡ false
unemitted_is bs n s b h = ap (λ x. not (is_local bs s) && (x && bytes_eq n s)) h ∙ and_false (not (is_local bs s))

-- ---- what is noted after a run

both_ways : (l n e x : Bool) → ((e && not (l || n)) || (not l && x)) ≡ (not l && ((not n && e) || x))
both_ways true n true x = refl
both_ways true n false x = refl
both_ways false true true x = refl
both_ways false true false x = refl
both_ways false false true x = refl
both_ways false false false x = refl

-- what a run emits by itself, and by its renamings
pub run_emitted : (ps : List Program) (em : List ℕ → List ℕ → Bool) (bs : List Binder) (rs : List RenamingTree)
    (m : List ℕ) (q : Program) (s : List ℕ) → program_named ps m ≡ Some q
    → (((em m s && is_declared q.interface s) && not (is_local bs s || is_renamed rs s))
    || (not (is_local bs s) && emits_renamed em q rs rs s))
    ≡ (not (is_local bs s) && emits_in_run em s rs (Some q))
run_emitted ps em bs rs m q s found =
    let named : q.name ≡ m = same_bytes q.name m (found_passes (λ (p : Program). bytes_eq p.name m) ps q found) in
    both_ways (is_local bs s) (is_renamed rs s) (em m s && is_declared q.interface s) (emits_renamed em q rs rs s)
    ∙ ap (λ b. not (is_local bs s) && ((not (is_renamed rs s) && b) || emits_renamed em q rs rs s))
    (names_emitted em m q s named)
    ∙ ap (λ b. not (is_local bs s) && b)
    (sym (same_tests (emits_in_run em s rs (Some q)) _ (emitted_apart em q rs s) (emitted_whole em q rs s)))

-- ---- what is noted after an act

-- what an act adds is what it emits
pub act_noted : (ps : List Program) (em : List ℕ → List ℕ → Bool) (t u : NameTable) (old new : NumberSet)
    (bs : List Binder) (act given : ActValue) → t ≡ u → act ≡ given
    → Adds t (λ s. emits_here ps em s (record { act = act_of act; around = bs })) old new
    → numbers_of new ≡ noted_after ps em u (numbers_of old) (record { act = act_of given; around = bs })
act_noted ps em t u old new bs act given same is adds =
    subst (λ (v : NameTable). numbers_of new
    ≡ noted_after ps em v (numbers_of old) (record { act = act_of given; around = bs })) same
    (subst (λ (a : ActValue). numbers_of new
    ≡ noted_after ps em t (numbers_of old) (record { act = act_of a; around = bs })) is (fun_ext adds))

-- nothing is noted after an act that emits nothing
pub none_noted : (ps : List Program) (em : List ℕ → List ℕ → Bool) (t : NameTable) (set : NumberSet) (act : Act)
    (bs : List Binder) → ((s : List ℕ) → emits_by ps em s act ≡ false)
    → numbers_of set ≡ noted_after ps em t (numbers_of set) (record { act = act; around = bs })
none_noted ps em t set act bs none =
    fun_ext (adds_none t (λ s. emits_here ps em s (record { act = act; around = bs })) set
    (λ s. ap (λ b. not (is_local bs s) && b) (none s) ∙ and_false (not (is_local bs s))))

-- ---- from the first occurrence on

-- after a list those before it are noted, and those that an occurrence of the list emits
noted_along : (ps : List Program) (em : List ℕ → List ℕ → Bool) (t : NameTable) (noted : ℕ → Bool)
    (os : List Occurrence) (i : ℕ)
    → fold (noted_after ps em t) noted os i ≡ (noted i || is_number_of t (λ s. list_any (emits_here ps em s) os) i)
noted_along ps em t noted [] i =
    same_or (noted i) ∙ ap (λ b. noted i || b) (passes_none (slice_get t.names.items i))
noted_along ps em t noted (o ∷ os) i =
    let name = slice_get t.names.items i in
    let here = λ (s : List ℕ). emits_here ps em s o in
    let rest = λ (s : List ℕ). list_any (emits_here ps em s) os in
    noted_along ps em t (noted_after ps em t noted o) os i
    ∙ or_assoc (noted i) (passes here name) (passes rest name)
    ∙ ap (λ b. noted i || b) (passes_or here rest name)

told_of : (t : NameTable) (noted : NumberSet) (emitted : List ℕ → Bool) (s : List ℕ) (o : Option ℕ)
    → number_in t s ≡ o → IsTable t → Tells t emitted noted → is_noted noted o ≡ (is_some o && emitted s)
told_of t noted emitted s None e is tells = refl
told_of t noted emitted s (Some i) e is tells = tells i ∙ ap (passes emitted) (is.named s i e)

-- what is noted of a module is what it emits of the names that have a number
pub noted_all : (ps : List Program) (em : List ℕ → List ℕ → Bool) (t : NameTable) (first noted : NumberSet)
    (os : List Occurrence) (s : List ℕ) → IsTable t → ((i : ℕ) → numbers_of first i ≡ false)
    → numbers_of noted ≡ fold (noted_after ps em t) (numbers_of first) os
    → is_noted noted (number_in t s) ≡ (is_numbered t s && list_any (emits_here ps em s) os)
noted_all ps em t first noted os s is none e =
    told_of t noted (λ u. list_any (emits_here ps em u) os) s (number_in t s) refl is
    (λ i. ap (λ f. f i) e ∙ noted_along ps em t (numbers_of first) os i
    ∙ ap (λ b. b || is_number_of t (λ u. list_any (emits_here ps em u) os) i) (none i))

-- ---- the set of what is noted

-- one name more of an interface
pub set_more : (old noted before here : Bool)
    → ((old || (noted && before)) || (noted && here)) ≡ (old || (noted && (before || here)))
set_more old noted before here =
    or_assoc old (noted && before) (noted && here) ∙ ap (λ b. old || b) (distributed noted before here)

all_of : (d t n e : Bool) → (e ≡ true → (d || t) ≡ true) → ((d || t) ≡ true → n ≡ true)
    → (((n && e) && t) || ((n && e) && d)) ≡ e
all_of d t n false seen numbered = ap (λ x. (x && t) || (x && d)) (and_false n)
all_of d t n true seen numbered =
    ap (λ x. ((x && true) && t) || ((x && true) && d)) (numbered (seen refl)) ∙ or_turned t d ∙ seen refl

-- the set of the names that are noted and are declared, or `tick`, where only such names are emitted, and each of them
-- has a number
pub noted_set : (t : NameTable) (set : NumberSet) (emitted declared : List ℕ → Bool) (s : List ℕ)
    → ((u : List ℕ) → is_noted set (number_in t u) ≡ (is_numbered t u && emitted u))
    → (emitted s ≡ true → (declared s || is_tick s) ≡ true)
    → ((declared s || is_tick s) ≡ true → is_numbered t s ≡ true)
    → ((is_noted set (number_in t (codes "tick")) && bytes_eq (codes "tick") s)
    || (is_noted set (number_in t s) && declared s)) ≡ emitted s
noted_set t set emitted declared s noted seen numbered =
    let r = is_noted set (number_in t s) in
    ap (λ b. b || (r && declared s))
    (at_same (λ u. is_noted set (number_in t u)) (codes "tick") s (bytes_eq (codes "tick") s) refl)
    ∙ ap (λ b. (r && b) || (r && declared s)) (turned (codes "tick") s)
    ∙ ap (λ b. (b && is_tick s) || (b && declared s)) (noted s)
    ∙ all_of (declared s) (is_tick s) (is_numbered t s) (emitted s) seen numbered
