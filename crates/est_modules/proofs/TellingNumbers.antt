-- Sets of numbers that tell something of names.
use Rattle.std.proofs.Common.{◌≡◌, inl, inr, ◌||◌, ◌&&◌, not, ℕ, List, [], ◌∷◌, Option, Some}
use Rattle.std.proofs.Common.{None, Bool, true, false, refl, ap, sym, ◌∙◌, nat_eq}
use Rattle.std.proofs.lemmas.Bool.{false≢true, eq-eqb, ne_eqb, eqb-true, and_parts, or_cases}
use Rattle.std.proofs.lemmas.Option.{none-some}
use Rattle.std.specs.List.{list_all, slice_get}
use Rattle.std.specs.Prelude.{is_some}
use Rattle.std.specs.Str.{bytes_eq}
use Rattle.est_modules.specs.NamedNumbers.{passes, is_number_of, Tells, Adds, AreNumbers}
use Rattle.est_modules.specs.NameTables.{number_in, is_numbered, IsTable}
use Rattle.est_modules.specs.NumberSets.{numbers_of}
use Rattle.est_modules.specs.Visible.{stands_in}
use Rattle.est_modules.specs.declared.names.table.NameTable.{NameTable}
use Rattle.est_modules.specs.declared.names.set.NumberSet.{NumberSet}
use Rattle.est_modules.proofs.Testing.{same_bytes, equal_bytes, same_or, or_assoc, same_tests, some_same}

-- ---- tests of a name

pub passes_none : (o : Option (List ℕ)) → false ≡ passes (λ s. false) o
passes_none None = refl
passes_none (Some n) = refl

pub passes_same : (f g : List ℕ → Bool) (o : Option (List ℕ)) → ((s : List ℕ) → f s ≡ g s) → passes f o ≡ passes g o
passes_same f g None h = refl
passes_same f g (Some n) h = h n

pub passes_or : (f g : List ℕ → Bool) (o : Option (List ℕ)) → (passes f o || passes g o) ≡ passes (λ s. f s || g s) o
passes_or f g None = refl
passes_or f g (Some n) = refl

pub passes_and : (f g : List ℕ → Bool) (o : Option (List ℕ)) → (passes f o && passes g o) ≡ passes (λ s. f s && g s) o
passes_and f g None = refl
passes_and f g (Some n) = refl

pub passes_without : (f g : List ℕ → Bool) (o : Option (List ℕ))
    → (passes f o && not (passes g o)) ≡ passes (λ s. f s && not (g s)) o
passes_without f g None = refl
passes_without f g (Some n) = refl

-- ---- the number of a name

named_at : (t : NameTable) (s : List ℕ) (n i : ℕ) (o : Option (List ℕ)) → slice_get t.names.items i ≡ o → IsTable t
    → number_in t s ≡ Some n → nat_eq n i ≡ passes (bytes_eq s) o
named_at t s n i None e is at =
    ne_eqb n i (λ same. none-some s (sym e ∙ ap (slice_get t.names.items) (sym same) ∙ is.named s n at))
named_at t s n i (Some u) e is at =
    same_tests (nat_eq n i) (bytes_eq s u)
    (λ h. ap (bytes_eq s)
    (sym (some_same s u (sym (is.named s n at) ∙ ap (slice_get t.names.items) (eqb-true n i h) ∙ e)))
    ∙ equal_bytes s)
    (λ h. eq-eqb n i (some_same n i (sym at ∙ ap (number_in t) (same_bytes s u h) ∙ is.numbered u i e)))

unnamed_at : (t : NameTable) (s : List ℕ) (i : ℕ) (o : Option (List ℕ)) → slice_get t.names.items i ≡ o → IsTable t
    → number_in t s ≡ None → false ≡ passes (bytes_eq s) o
unnamed_at t s i None e is none = refl
unnamed_at t s i (Some u) e is none =
    same_tests false (bytes_eq s u) (λ h. absurd (false≢true h))
    (λ h. absurd (none-some i (sym none ∙ ap (number_in t) (same_bytes s u h) ∙ is.numbered u i e)))

pub unnamed : (t : NameTable) (s : List ℕ) (i : ℕ) → IsTable t → number_in t s ≡ None
    → false ≡ passes (bytes_eq s) (slice_get t.names.items i)
unnamed t s i is none = unnamed_at t s i (slice_get t.names.items i) refl is none

-- ---- what is put in

pub adds_none : (t : NameTable) (f : List ℕ → Bool) (set : NumberSet) → ((s : List ℕ) → f s ≡ false)
    → Adds t f set set
adds_none t f set none i =
    let o = slice_get t.names.items i in
    same_or (numbers_of set i)
    ∙ ap (λ b. numbers_of set i || b) (passes_none o ∙ sym (passes_same f (λ s. false) o none))

pub adds_same : (t : NameTable) (f g : List ℕ → Bool) (old new : NumberSet) → ((s : List ℕ) → f s ≡ g s)
    → Adds t f old new → Adds t g old new
adds_same t f g old new same adds i =
    adds i ∙ ap (λ b. numbers_of old i || b) (passes_same f g (slice_get t.names.items i) same)

-- one after the other
pub adds_both : (t : NameTable) (f g : List ℕ → Bool) (old now new : NumberSet) → Adds t f old now → Adds t g now new
    → Adds t (λ s. f s || g s) old new
adds_both t f g old now new first second i =
    let o = slice_get t.names.items i in
    second i ∙ ap (λ b. b || passes g o) (first i) ∙ or_assoc (numbers_of old i) (passes f o) (passes g o)
    ∙ ap (λ b. numbers_of old i || b) (passes_or f g o)

-- a name with a number
pub adds_number : (t : NameTable) (s : List ℕ) (n : ℕ) (old new : NumberSet) → IsTable t → number_in t s ≡ Some n
    → ((i : ℕ) → numbers_of new i ≡ (numbers_of old i || nat_eq n i)) → Adds t (bytes_eq s) old new
adds_number t s n old new is at put i =
    put i ∙ ap (λ b. numbers_of old i || b) (named_at t s n i (slice_get t.names.items i) refl is at)

-- ---- what a set tells

-- into a set with the same numbers as another
pub tells_put : (t : NameTable) (f g : List ℕ → Bool) (old same new : NumberSet)
    → ((i : ℕ) → numbers_of same i ≡ numbers_of old i) → Adds t g same new → Tells t f old
    → Tells t (λ s. f s || g s) new
tells_put t f g old same new is adds tells i =
    let o = slice_get t.names.items i in
    adds i ∙ ap (λ b. b || passes g o) (is i ∙ tells i) ∙ passes_or f g o

-- into an empty one
pub tells_first : (t : NameTable) (f : List ℕ → Bool) (old new : NumberSet) → ((i : ℕ) → numbers_of old i ≡ false)
    → Adds t f old new → Tells t f new
tells_first t f old new none adds i = adds i ∙ ap (λ b. b || is_number_of t f i) (none i)

pub tells_same : (t : NameTable) (f g : List ℕ → Bool) (set : NumberSet) → ((s : List ℕ) → f s ≡ g s) → Tells t f set
    → Tells t g set
tells_same t f g set same tells i = tells i ∙ passes_same f g (slice_get t.names.items i) same

-- of a name with a number
pub tells_at : (t : NameTable) (f : List ℕ → Bool) (set : NumberSet) (s : List ℕ) (n : ℕ) → IsTable t → Tells t f set
    → number_in t s ≡ Some n → numbers_of set n ≡ f s
tells_at t f set s n is tells at = tells n ∙ ap (passes f) (is.named s n at)

-- ---- names that are bound

numbered_there : (t : NameTable) (names : List (List ℕ)) (s : List ℕ) → list_all (is_numbered t) names ≡ true
    → stands_in names s ≡ true → is_numbered t s ≡ true
numbered_there t [] s all h = absurd (false≢true h)
numbered_there t (n ∷ ns) s all h =
    let parts = and_parts (is_numbered t n) (list_all (is_numbered t) ns) all in
    elim (or_cases (bytes_eq n s) (stands_in ns s) h) [
      | inl same ↦ ap (is_numbered t) (sym (same_bytes n s same)) ∙ parts.0
      | inr later ↦ numbered_there t ns s parts.1 later
    ]

number_there : (o : Option ℕ) → is_some o ≡ true → (i : ℕ) × (o ≡ Some i)
number_there None h = absurd (false≢true h)
number_there (Some i) h = (i, refl)

-- where each number is in one of two sets, each name passes one of their tests
pub names_covered : (t : NameTable) (names : List (List ℕ)) (set first second : NumberSet) (f g : List ℕ → Bool)
    → IsTable t → AreNumbers t names set → Tells t f first → Tells t g second
    → ((i : ℕ) → numbers_of set i ≡ true → (numbers_of first i || numbers_of second i) ≡ true)
    → (s : List ℕ) → stands_in names s ≡ true → (f s || g s) ≡ true
names_covered t names set first second f g is are tells_f tells_g all s h =
    let found = number_there (number_in t s) (numbered_there t names s are.numbered h) in
    let i : ℕ = found.0 in
    ap (λ b. b || g s) (sym (tells_at t f first s i is tells_f found.1))
    ∙ ap (λ b. numbers_of first i || b) (sym (tells_at t g second s i is tells_g found.1))
    ∙ all i (tells_at t (stands_in names) set s i is are.told found.1 ∙ h)
