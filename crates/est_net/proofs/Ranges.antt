-- Ranges of cells, looked at and decided one after another.
use Rattle.std.specs.Prelude.{◌≡◌, ◌≢◌, ◌↔◌, ◌<◌, ◌≤◌, ◌+◌, ◌⊎◌, ◌&&◌, ℕ, zero, suc, Bool, true, false, List}
use Rattle.std.specs.Prelude.{[], ◌∷◌, ◌-◌, length, set, slice_get, Some}
use Rattle.std.proofs.Common.{refl, ap, sym, ◌∙◌, arith, inl, inr, subst}
use Rattle.std.proofs.lemmas.List.{get_or-set_same, get_or-set_other, length-set, set-get_or}
use Rattle.std.proofs.lemmas.List.Sums.{sum_by-cons, sum_by-set}
use Rattle.std.proofs.lemmas.Option.{slice_get-get_or}
use Rattle.est_meaning.specs.declared.status.Status.{Status}
use Rattle.est_meaning.specs.declared.status.Status.TheVariants.{Present, Absent, Unknown}
use Rattle.est_net.specs.Cells.{AllDecided, AllOpen, AreFalse, Learns, NoneTrue, cell_at, decided, is_known, is_open}
use Rattle.est_net.specs.Cells.{known_as, learned, steps_of}

pub last_or_before : (k n : ℕ) → k < n + 1 → (k ≡ n) ⊎ (k < n)
last_or_before zero zero l = inl refl
last_or_before zero (suc n) l = inr (omega arith)
last_or_before (suc k) zero l = absurd (omega arith)
last_or_before (suc k) (suc n) l = elim (last_or_before k n (omega arith))
    [ inl e ↦ inl (ap suc e) | inr d ↦ inr (omega arith) ]

-- each cell from place lo on and before place hi is as R says
abbrev Each : (Status → Type 0) → (lo hi : ℕ) → List Status → Type 0
Each R lo hi cells = (i : ℕ) → lo ≤ i → i < hi → R (cell_at cells i)

one_more : (R : Status → Type 0) (lo n : ℕ) (cells : List Status) → Each R lo n cells → R (cell_at cells n)
    → Each R lo (n + 1) cells
one_more R lo n cells h d i l u = elim (last_or_before i n u) [
  | inl e ↦ subst (λ (k : ℕ). R (cell_at cells k)) (sym e) d
  | inr k ↦ h i l k
]

-- all of a range are so exactly where all before its last cell are, and that one is
each_more : (R : Status → Type 0) (lo n : ℕ) (cells : List Status) (was is now : Bool) → lo ≤ n
    → ((was ≡ true) ↔ Each R lo n cells) → ((is ≡ true) ↔ R (cell_at cells n)) → now ≡ (was && is)
    → (now ≡ true) ↔ Each R lo (n + 1) cells
each_more R lo n cells was is now l h k f = (there was is h k f, back was is h k f)
  where
    there : (was is : Bool) → ((was ≡ true) ↔ Each R lo n cells) → ((is ≡ true) ↔ R (cell_at cells n))
        → now ≡ (was && is) → now ≡ true → Each R lo (n + 1) cells
    there false is h k f g = let z : false ≡ true = sym f ∙ g in cc
    there true true h k f g = one_more R lo n cells (h.0 refl) (k.0 refl)
    there true false h k f g = let z : false ≡ true = sym f ∙ g in cc

    back : (was is : Bool) → ((was ≡ true) ↔ Each R lo n cells) → ((is ≡ true) ↔ R (cell_at cells n))
        → now ≡ (was && is) → Each R lo (n + 1) cells → now ≡ true
    back was is h k f g = f ∙ (ap (λ (z : Bool). z && is) (h.1 (λ i a b. g i a (omega arith)))
        ∙ k.1 (g n l (omega arith)))

-- each cell of an empty range is decided; one cell more
pub all_known : (lo : ℕ) (cells : List Status) → AllDecided lo lo cells
unfolding AllDecided
all_known lo cells i l u = absurd (omega arith)

known : (b : Bool) (v : Status) → b ≡ is_known v → (b ≡ true) ↔ (v ≢ Unknown)
known true Unknown e = let z : true ≡ false = e in cc
known false Unknown e = (λ h. let z : false ≡ true = h in cc, λ d. absurd (d refl))
known true Present e = (λ h z. cc, λ d. refl)
known false Present e = let z : false ≡ true = e in cc
known true Absent e = (λ h z. cc, λ d. refl)
known false Absent e = let z : false ≡ true = e in cc

pub known_more : (lo n : ℕ) (cells : List Status) (was is_one now : Bool) → lo ≤ n
    → ((was ≡ true) ↔ AllDecided lo n cells) → is_one ≡ is_known (cell_at cells n) → now ≡ (was && is_one)
    → (now ≡ true) ↔ AllDecided lo (n + 1) cells
unfolding AllDecided
known_more lo n cells was b now l h e f =
    each_more (λ v. v ≢ Unknown) lo n cells was b now l h (known b (cell_at cells n) e) f

-- each cell of an empty range is open; one cell more
pub all_opened : (lo : ℕ) (cells : List Status) → AllOpen lo lo cells
unfolding AllOpen
all_opened lo cells i l u = absurd (omega arith)

opened : (b : Bool) (v : Status) → b ≡ is_open v → (b ≡ true) ↔ (v ≡ Unknown)
opened true Unknown e = (λ h. refl, λ d. refl)
opened false Unknown e = let z : false ≡ true = e in cc
opened true Present e = let z : true ≡ false = e in cc
opened false Present e = (λ h. cc, λ h. cc)
opened true Absent e = let z : true ≡ false = e in cc
opened false Absent e = (λ h. cc, λ h. cc)

pub open_more : (lo n : ℕ) (cells : List Status) (was is_one now : Bool) → lo ≤ n
    → ((was ≡ true) ↔ AllOpen lo n cells) → is_one ≡ is_open (cell_at cells n) → now ≡ (was && is_one)
    → (now ≡ true) ↔ AllOpen lo (n + 1) cells
unfolding AllOpen
open_more lo n cells was b now l h e f =
    each_more (λ v. v ≡ Unknown) lo n cells was b now l h (opened b (cell_at cells n) e) f

-- no cell of an empty range has changed; one cell more is told that it is false
pub none_false : (lo : ℕ) (cells : List Status) → AreFalse lo lo cells cells
none_false lo cells = record {
  false_now = λ i l u. absurd (omega arith);
  before = λ i l. refl;
  after = λ i l. refl;
  size = refl;
  more = omega arith;
  quiet = λ e. refl;
}

step_or_same : (v w : Status) → steps_of v ≤ steps_of (learned v w)
step_or_same Present w = omega arith
step_or_same Absent w = omega arith
step_or_same Unknown w = omega arith

no_step : (v : Status) → steps_of (learned v Absent) ≡ steps_of v → learned v Absent ≡ v
no_step Present e = refl
no_step Absent e = refl
no_step Unknown e = absurd (omega (arith, e))

pub assigned_false : (cells new : List Status) (n : ℕ) (now : Status) → n < length cells
    → now ≡ learned (cell_at cells n) Absent → new ≡ set cells n now → Learns n Absent cells new
assigned_false cells new n now l e s = subst (λ (z : List Status). Learns n Absent cells z) (sym s)
    (let count = sum_by-set steps_of cells n now Absent l in
    let more = subst (λ (v : Status). steps_of (cell_at cells n) ≤ steps_of v) (sym e)
    (step_or_same (cell_at cells n) Absent) in
    record {
      here = get_or-set_same cells n now Absent l ∙ e;
      others = λ i k. get_or-set_other cells n i now Absent (λ z. absurd (omega (arith, k, z)));
      later = λ i k. get_or-set_other cells n i now Absent (λ z. absurd (omega (arith, k, z)));
      size = length-set cells n now;
      more = omega (arith, count, more);
      quiet = λ q. ap (set cells n) (e ∙ no_step (cell_at cells n)
          (let same : steps_of now ≡ steps_of (cell_at cells n) = omega (arith, count, q) in
          ap steps_of (sym e) ∙ same)) ∙ set-get_or cells n Absent;
    })

told_false : (v : Status) → v ≢ Present → learned v Absent ≡ Absent
told_false Present d = absurd (d refl)
told_false Absent d = refl
told_false Unknown d = refl

pub one_false : (lo n hi : ℕ) (old mid new : List Status) → lo ≤ n → n < hi → NoneTrue lo hi old
    → AreFalse lo n old mid → Learns n Absent mid new → AreFalse lo (n + 1) old new
unfolding NoneTrue
one_false lo n hi old mid new a b none x y =
    let p = x.more in
    let q = y.more in
    record {
      false_now = λ i l u. elim (last_or_before i n u) [
        | inl e ↦ subst (λ (z : ℕ). cell_at new z ≡ Absent) (sym e)
            (y.here ∙ (ap (λ (v : Status). learned v Absent) (x.after n (omega arith))
            ∙ told_false (cell_at old n) (none n a b)))
        | inr k ↦ y.others i k ∙ x.false_now i l k
      ];
      before = λ i l. y.others i (omega arith) ∙ x.before i l;
      after = λ i l. y.later i (omega arith) ∙ x.after i (omega arith);
      size = y.size ∙ x.size;
      more = omega arith;
      quiet = λ e. y.quiet (omega arith) ∙ x.quiet (omega arith);
    }

-- a range of open cells, as it is made false from its first cell on
not_present : (v : Status) → v ≡ Unknown → v ≢ Present
not_present v e h = let z : Unknown ≡ Present = sym e ∙ h in cc

pub open_there : (lo n hi : ℕ) (old mid : List Status) → lo ≤ n → n < hi → hi ≤ length old → AllOpen lo hi old
    → AreFalse lo n old mid → slice_get mid n ≡ Some Unknown
unfolding AllOpen
open_there lo n hi old mid a b long all x =
    let size = x.size in
    slice_get-get_or mid n Absent (omega arith) ∙ ap Some (x.after n (omega arith) ∙ all n a b)

pub filled_more : (lo n hi : ℕ) (old mid new : List Status) → lo ≤ n → n < hi → hi ≤ length old → AllOpen lo hi old
    → AreFalse lo n old mid → new ≡ set mid n (known_as false) → AreFalse lo (n + 1) old new
unfolding AllOpen NoneTrue
filled_more lo n hi old mid new a b long all x e =
    let size = x.size in
    let here : cell_at mid n ≡ Unknown = x.after n (omega arith) ∙ all n a b in
    one_false lo n hi old mid new a b (λ i l u. not_present (cell_at old i) (all i l u)) x
    (assigned_false mid new n Absent (omega arith) (ap (λ (v : Status). learned v Absent) (sym here)) e)

pub two_filled : (lo hi : ℕ) (old mid new : List Status) → lo + 2 ≤ hi → hi ≤ length old → AllOpen lo hi old
    → mid ≡ set old lo (known_as false) → new ≡ set mid (lo + 1) (known_as false) → AreFalse lo (lo + 2) old new
two_filled lo hi old mid new a long all e f =
    let same : lo + 1 + 1 ≡ lo + 2 = omega arith in
    subst (λ (n : ℕ). AreFalse lo n old new) same
    (filled_more lo (lo + 1) hi old mid new (omega arith) (omega arith) long all
    (filled_more lo lo hi old old mid (omega arith) (omega arith) long all (none_false lo old) e) f)

-- at most as many cells are decided as there are
step_small : (v : Status) → steps_of v ≤ 1
step_small Present = omega arith
step_small Absent = omega arith
step_small Unknown = omega arith

pub decided_within : (cells : List Status) → decided cells ≤ length cells
decided_within [] = omega arith
decided_within (x ∷ xs) =
    let k = decided_within xs in
    let o = step_small x in
    let e : decided (x ∷ xs) ≡ steps_of x + decided xs = sum_by-cons steps_of x xs in
    omega arith

-- n open cells of a list are decided
pub record FewerOpen (left n : ℕ) (new : List Status) : Type 0 where
  pub enough : n ≤ left
  pub counted : decided new + (left - n) ≡ length new

pub fewer_open : (left n : ℕ) (old mid new : List Status) → mid ≡ old → decided new ≡ decided mid + n
    → length new ≡ length mid → decided old + left ≡ length old → FewerOpen left n new
fewer_open left n old mid new e count size counted =
    let within = decided_within new in
    let a = ap decided e in
    let b = ap (λ (z : List Status). length z) e in
    let few : n ≤ left = omega arith in
    record { enough = few; counted = omega arith }
