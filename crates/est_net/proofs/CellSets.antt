-- Sets of cells as bits, and the first of a set.
use Rattle.std.specs.Prelude.{◌≡◌, ◌≢◌, ◌↔◌, ◌<◌, ◌≤◌, ◌+◌, ◌-◌, ◌*◌, ◌/◌, ◌%◌, ◌^◌, ◌||◌, ℕ, zero, suc, Bool, true}
use Rattle.std.specs.Prelude.{false, List, Option, None, Some, IfNone, IfSome, get_or, is_some, length, not, replicate}
use Rattle.std.specs.Prelude.{set, slice_get}
use Rattle.std.proofs.Common.{refl, ap, sym, ◌∙◌, arith, inl, inr, w64}
use Rattle.std.specs.Int.{trailing_zeros}
use Rattle.std.proofs.lemmas.Bool.{cases_eq, cases_lt, lt-ltb, le-ltb}
use Rattle.std.proofs.lemmas.List.{get_or_default, get_or-set_same, get_or-set_other}
use Rattle.std.proofs.lemmas.Option.{slice_get_within, slice_get-get_or}
use Rattle.est_kernel.specs.Bits.{bits}
use Rattle.est_kernel.specs.Pauses.{some_from}
use Rattle.est_kernel.proofs.Masks.{bits_above, bits_zero}
use Rattle.est_kernel.proofs.PauseSets.{least_in_word, none_in_word, some_split, zero_at}
use Rattle.est_meaning.proofs.PauseWordLemmas.{or_false}
use Rattle.est_meaning.specs.declared.status.Status.{Status}
use Rattle.est_meaning.specs.declared.status.Status.TheVariants.{Present, Absent, Unknown}
use Rattle.est_cells.specs.Tables.{is_sure}
use Rattle.est_net.specs.CellSets.{AreTrueCells, IsFirstIn, NoneIn, marked}
use Rattle.est_net.specs.Cells.{AllOpen, AreFalse, NoneTrue, cell_at, known_as, true_at}

-- the bit of the cell that was put into the set, and those of all others
pub marked_here : (words : List ℕ) (cell w : ℕ) → cell / 64 < length words → bits w (cell % 64) ≡ true
    → marked (set words (cell / 64) w) cell ≡ true
unfolding marked
marked_here words cell w l e =
    ap (λ (z : ℕ). bits z (cell % 64)) (get_or-set_same words (cell / 64) w 0 l) ∙ e

pub marked_elsewhere : (words : List ℕ) (cell w : ℕ) → cell / 64 < length words
    → ((k : ℕ) → k ≢ cell % 64 → bits w k ≡ bits (get_or words (cell / 64) 0) k)
    → (i : ℕ) → i ≢ cell → marked (set words (cell / 64) w) i ≡ marked words i
unfolding marked
marked_elsewhere words cell w l f i d = elim (cases_eq (i / 64) (cell / 64)) [
  | inl e ↦ ap (λ (z : ℕ). bits (get_or (set words (cell / 64) w) z 0) (i % 64)) e
      ∙ (ap (λ (z : ℕ). bits z (i % 64)) (get_or-set_same words (cell / 64) w 0 l)
      ∙ (f (i % 64) (λ h. d (omega arith)) ∙ ap (λ (z : ℕ). bits (get_or words z 0) (i % 64)) (sym e)))
  | inr g ↦ ap (λ (z : ℕ). bits z (i % 64)) (get_or-set_other words (cell / 64) (i / 64) w 0 g)
]

-- no cell is in a set of words that are 0
pub none_marked : (m i : ℕ) → marked (replicate m 0) i ≡ false
unfolding marked
none_marked m i = ap (λ (z : ℕ). bits z (i % 64)) (zero_at m (i / 64)) ∙ bits_zero (i % 64)

-- ---- the lowest bit of a word from one on

or_none : (a b : Bool) → (a || b) ≡ false → (a ≡ false) × (b ≡ false)
or_none true b h = let z : true ≡ false = h in cc
or_none false b h = (refl, h)

none_of : (f : ℕ → Bool) (i n : ℕ) → some_from f i n ≡ false → (k : ℕ) → k < n → f (i + k) ≡ false
none_of f i zero h k l = absurd (omega arith)
none_of f i (suc n) h zero l = ap f (omega arith) ∙ (or_none (f i) (some_from f (i + 1) n) h).0
none_of f i (suc n) h (suc k) l =
    ap f (omega arith) ∙ none_of f (i + 1) n (or_none (f i) (some_from f (i + 1) n) h).1 k (omega arith)

last_of : (f : ℕ → Bool) (i n : ℕ) → some_from f i (n + 1) ≡ true → some_from f i n ≡ false → f (i + n) ≡ true
last_of f i n h none =
    sym (or_false (f (i + n)))
    ∙ (sym (ap (λ (b : Bool). b || (f (i + n) || false)) none) ∙ (sym (some_split f i n 1) ∙ h))

-- no bit of a word is set where its rest is 0; else the lowest one of the rest is the first
pub no_bit : (x k : ℕ) → x / 2 ^ k ≡ 0 → NoneIn (bits x) k 64
unfolding NoneIn
no_bit x k e i a b =
    let here : i ≡ k + (i - k) = omega arith in
    ap (bits x) here ∙ none_of (bits x) k (i - k + 1) (none_in_word x k (i - k + 1) e) (i - k) (omega arith)

pub first_bit_is : (x k : ℕ) → x < 2 ^ 64 → 0 < x / 2 ^ k → x / 2 ^ k < 2 ^ 64
    → IsFirstIn (bits x) k 64 (k + trailing_zeros w64 (x / 2 ^ k))
unfolding NoneIn
first_bit_is x k small p q =
    let t = trailing_zeros w64 (x / 2 ^ k) in
    let none : some_from (bits x) k t ≡ false = least_in_word x k t p q ∙ le-ltb t t (omega arith) in
    let some : some_from (bits x) k (t + 1) ≡ true
    = least_in_word x k (t + 1) p q ∙ lt-ltb t (t + 1) (omega arith) in
    let here : bits x (k + t) ≡ true = last_of (bits x) k t some none in
    record {
      after = omega arith;
      before = elim (cases_lt (k + t) 64) [
        | inl l ↦ l
        | inr g ↦ let z : true ≡ false = sym here ∙ bits_above x (k + t) small g in cc
      ];
      here = here;
      none = λ i a b.
          let at : i ≡ k + (i - k) = omega arith in
          ap (bits x) at ∙ none_of (bits x) k t none (i - k) (omega arith);
    }

-- ---- the first of a range

pub none_before : (set : ℕ → Bool) (from past : ℕ) → past ≤ from → NoneIn set from past
unfolding NoneIn
none_before set from past l i a b = absurd (omega arith)

-- a cell by its word
pub word_is : (words : List ℕ) (i w : ℕ) → i < length words → w ≡ get_or words i w → w ≡ get_or words i 0
word_is words i w l e = e ∙ get_or_default words i w 0 l

marked_in_word : (words : List ℕ) (from w i : ℕ) → w ≡ get_or words (from / 64) 0 → from / 64 * 64 ≤ i
    → i < from / 64 * 64 + 64 → marked words i ≡ bits w (i % 64)
unfolding marked
marked_in_word words from w i e a b =
    let word : i / 64 ≡ from / 64 = omega arith in
    ap (λ (z : ℕ). bits (get_or words z 0) (i % 64)) word ∙ ap (λ (z : ℕ). bits z (i % 64)) (sym e)

none_in_word_before : (words : List ℕ) (from w n past : ℕ) → w ≡ get_or words (from / 64) 0
    → NoneIn (bits w) (from % 64) n → n ≤ 64 → past ≤ from / 64 * 64 + n → NoneIn (marked words) from past
unfolding NoneIn
none_in_word_before words from w n past e none l m i a b =
    marked_in_word words from w i e (omega arith) (omega arith) ∙ none (i % 64) (omega arith) (omega arith)

none_joined : (set : ℕ → Bool) (lo mid hi past : ℕ) → hi ≤ mid → NoneIn set lo mid → NoneIn set hi past
    → NoneIn set lo past
unfolding NoneIn
none_joined set lo mid hi past l f g i a b = elim (cases_lt i mid) [
  | inl h ↦ f i a h
  | inr h ↦ g i (omega arith) b
]

-- where no bit of a word is set, the search goes on after it
none_later : (words : List ℕ) (from next past w : ℕ) → w ≡ get_or words (from / 64) 0
    → NoneIn (bits w) (from % 64) 64 → next ≤ from / 64 * 64 + 64 → NoneIn (marked words) next past
    → NoneIn (marked words) from past
none_later words from next past w e none l h =
    none_joined (marked words) from (from / 64 * 64 + 64) next past l
    (none_in_word_before words from w 64 (from / 64 * 64 + 64) e none (omega arith) (omega arith)) h

first_later : (words : List ℕ) (from next past w first : ℕ) → w ≡ get_or words (from / 64) 0
    → NoneIn (bits w) (from % 64) 64 → next ≤ from / 64 * 64 + 64 → from ≤ next
    → IsFirstIn (marked words) next past first → IsFirstIn (marked words) from past first
first_later words from next past w first e none l m h =
    let a = h.after in
    record {
      after = omega arith;
      before = h.before;
      here = h.here;
      none = none_later words from next first w e none l h.none;
    }

pub later_first : (words : List ℕ) (from next past w : ℕ) (o : Option ℕ) → w ≡ get_or words (from / 64) 0
    → NoneIn (bits w) (from % 64) 64 → next ≤ from / 64 * 64 + 64 → from ≤ next
    → IfSome o (IsFirstIn (marked words) next past) → IfSome o (IsFirstIn (marked words) from past)
later_first words from next past w None e none l m h = h
later_first words from next past w (Some first) e none l m h = first_later words from next past w first e none l m h

pub later_none : (words : List ℕ) (from next past w : ℕ) (o : Option ℕ) → w ≡ get_or words (from / 64) 0
    → NoneIn (bits w) (from % 64) 64 → next ≤ from / 64 * 64 + 64
    → IfNone o (NoneIn (marked words) next past) → IfNone o (NoneIn (marked words) from past)
later_none words from next past w None e none l h = none_later words from next past w e none l h
later_none words from next past w (Some first) e none l h = h

-- else its first bit tells the first cell, if that is of the range
pub first_here : (words : List ℕ) (from past w bit : ℕ) → w ≡ get_or words (from / 64) 0
    → IsFirstIn (bits w) (from % 64) 64 bit → from / 64 * 64 + bit < past
    → IsFirstIn (marked words) from past (from / 64 * 64 + bit)
first_here words from past w bit e h l =
    let a = h.after in
    let b = h.before in
    let low : (from / 64 * 64 + bit) % 64 ≡ bit = omega arith in
    record {
      after = omega arith;
      before = l;
      here = marked_in_word words from w (from / 64 * 64 + bit) e (omega arith) (omega arith)
          ∙ (ap (bits w) low ∙ h.here);
      none = none_in_word_before words from w bit (from / 64 * 64 + bit) e h.none (omega arith) (omega arith);
    }

pub none_here : (words : List ℕ) (from past w bit : ℕ) → w ≡ get_or words (from / 64) 0
    → IsFirstIn (bits w) (from % 64) 64 bit → past ≤ from / 64 * 64 + bit → NoneIn (marked words) from past
none_here words from past w bit e h l =
    let b = h.before in
    none_in_word_before words from w bit past e h.none (omega arith) l

-- ---- the cells of a table that are true

not_present : (v : Status) → is_sure v ≡ false → v ≢ Present
not_present Present e h = let z : true ≡ false = e in cc
not_present Absent e h = cc
not_present Unknown e h = cc

present : (v : Status) → is_sure v ≡ true → v ≡ Present
present Present e = refl
present Absent e = let z : false ≡ true = e in cc
present Unknown e = let z : false ≡ true = e in cc

-- no cell of a range is true
pub none_is_true : (cells : List Status) (lo hi : ℕ) → NoneIn (true_at cells) lo hi → NoneTrue lo hi cells
unfolding NoneIn NoneTrue
none_is_true cells lo hi none i a b = not_present (cell_at cells i) (none i a b)

-- two sets of the same cells have the same first one
pub same_first : (f g : ℕ → Bool) (lo hi : ℕ) (o : Option ℕ) → ((i : ℕ) → f i ≡ g i) → IfSome o (IsFirstIn f lo hi)
    → IfSome o (IsFirstIn g lo hi)
unfolding NoneIn
same_first f g lo hi None same h = h
same_first f g lo hi (Some n) same h =
    record {
      after = h.after;
      before = h.before;
      here = sym (same n) ∙ h.here;
      none = λ i a b. sym (same i) ∙ h.none i a b;
    }

pub same_none : (f g : ℕ → Bool) (lo hi : ℕ) (o : Option ℕ) → ((i : ℕ) → f i ≡ g i) → IfNone o (NoneIn f lo hi)
    → IfNone o (NoneIn g lo hi)
unfolding NoneIn
same_none f g lo hi None same h = λ i a b. sym (same i) ∙ h i a b
same_none f g lo hi (Some n) same h = h

pub are_true : (words : List ℕ) (cells : List Status) → AreTrueCells words cells → (i : ℕ)
    → marked words i ≡ true_at cells i
unfolding AreTrueCells
are_true words cells so = so

-- that is so exactly where there is no first one
pub no_first : (o : Option ℕ) (none : Bool) (lo hi : ℕ) (cells : List Status) → is_some o ≡ not none
    → IfSome o (IsFirstIn (true_at cells) lo hi) → IfNone o (NoneIn (true_at cells) lo hi)
    → (none ≡ true) ↔ NoneTrue lo hi cells
unfolding NoneTrue
no_first None true lo hi cells is found not_found = (λ e. none_is_true cells lo hi not_found, λ h. refl)
no_first None false lo hi cells is found not_found = let z : false ≡ true = is in cc
no_first (Some n) true lo hi cells is found not_found = let z : true ≡ false = is in cc
no_first (Some n) false lo hi cells is found not_found = (
  λ e. let z : false ≡ true = e in cc,
  λ h. absurd (h n found.after found.before (present (cell_at cells n) found.here)),
)

-- ---- which cells are true, as cells are decided and opened

sure_known : (value : Bool) → is_sure (known_as value) ≡ value
sure_known true = refl
sure_known false = refl

open_is : (cells : List Status) (cell : ℕ) → slice_get cells cell ≡ Some Unknown → cell_at cells cell ≡ Unknown
open_is cells cell there =
    let e : Some (cell_at cells cell) ≡ Some Unknown
    = sym (slice_get-get_or cells cell Absent (slice_get_within cells cell Unknown there)) ∙ there in cc

all_open : (n i : ℕ) → true_at (replicate n Unknown) i ≡ false
all_open zero i = refl
all_open (suc n) zero = refl
all_open (suc n) (suc i) = all_open n i

-- one open cell is decided
pub marks_written : (words grown : List ℕ) (old mid new : List Status) (cell : ℕ) (value : Bool) → mid ≡ old
    → slice_get old cell ≡ Some Unknown → new ≡ set mid cell (known_as value) → marked grown cell ≡ value
    → ((i : ℕ) → i ≢ cell → marked grown i ≡ marked words i) → AreTrueCells words old → AreTrueCells grown new
unfolding AreTrueCells
marks_written words grown old mid new cell value same there is here others so i =
    let within : cell < length mid = rw same (slice_get_within old cell Unknown there) in
    elim (cases_eq i cell) [
      | inl e ↦ ap (marked grown) e ∙ (here ∙ (sym (sure_known value)
          ∙ ap is_sure (sym (ap (λ (l : List Status). cell_at l i) is
          ∙ (ap (cell_at (set mid cell (known_as value))) e
          ∙ get_or-set_same mid cell (known_as value) Absent within)))))
      | inr d ↦ others i d ∙ (so i ∙ ap is_sure (sym (ap (λ (l : List Status). cell_at l i) is
          ∙ (get_or-set_other mid cell i (known_as value) Absent d ∙ ap (λ (l : List Status). cell_at l i) same))))
    ]

-- an open cell is none of them
pub open_unmarked : (words : List ℕ) (cells : List Status) (cell : ℕ) → slice_get cells cell ≡ Some Unknown
    → AreTrueCells words cells → marked words cell ≡ false
unfolding AreTrueCells
open_unmarked words cells cell there so =
    so cell ∙ ap is_sure (open_is cells cell there)

-- open cells become false
pub marks_filled : (words : List ℕ) (old mid new : List Status) (lo hi : ℕ) → mid ≡ old → AllOpen lo hi old
    → AreFalse lo hi mid new → AreTrueCells words old → AreTrueCells words new
unfolding AreTrueCells AllOpen
marks_filled words old mid new lo hi same were are so i = elim (cases_lt i lo) [
  | inl b ↦ so i ∙ ap is_sure (sym (are.before i b ∙ ap (λ (l : List Status). cell_at l i) same))
  | inr l ↦ elim (cases_lt i hi) [
    | inl u ↦ so i ∙ (ap is_sure (were i l u) ∙ ap is_sure (sym (are.false_now i l u)))
    | inr a ↦ so i ∙ ap is_sure (sym (are.after i a ∙ ap (λ (l : List Status). cell_at l i) same))
  ]
]

-- all cells are open
pub marks_opened : (words : List ℕ) (n : ℕ) → ((i : ℕ) → marked words i ≡ false)
    → AreTrueCells words (replicate n Unknown)
unfolding AreTrueCells
marks_opened words n none i = none i ∙ sym (all_open n i)
