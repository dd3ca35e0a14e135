-- What cells tell, one after another.
use Rattle.std.specs.Prelude.{◌≡◌, ◌≢◌, ◌<◌, ◌≤◌, ◌+◌, ◌-◌, ℕ, zero, suc, List, [], ◌∷◌, ◌++◌, Option, None, Some}
use Rattle.std.specs.Prelude.{get_or, length, map, slice_get, take}
use Rattle.std.specs.List.{flat_map, range_with_len}
use Rattle.std.proofs.Common.{◌∙◌, refl, sym, ap, append-nil, arith, subst}
use Rattle.std.proofs.lemmas.Grind.{flat_map-append}
use Rattle.std.proofs.lemmas.List.{take_all, take_more}
use Rattle.est_meaning.specs.declared.status.Status.{Status}
use Rattle.est_meaning.specs.declared.status.Status.TheVariants.{Present, Absent, Unknown}
use Rattle.est_net.specs.CellSets.{IsFirstIn, NoneIn}
use Rattle.est_net.specs.Cells.{NoneTrue, cell_at, true_at}
use Rattle.est_net.specs.Owners.{cell_of, kind_at, own_owners}
use Rattle.est_net.specs.declared.owners.CellKind.{CellKind}
use Rattle.est_net.specs.declared.owners.CellKind.TheVariants.{Go, Code, Status as OfSignal}
use Rattle.est_net.specs.declared.owners.StatementCell.{StatementCell}
use Rattle.lab_instant.specs.Inner.Reading.{AreReadTo}
use Rattle.lab_instant.specs.OwnCells.{signal_at, signal_by_kind, signal_places}
use Rattle.lab_instant.specs.Seen.{all_locals, begun_at, begun_by_kind, found_below, incarnation_of, listed, local_at}
use Rattle.lab_instant.specs.Seen.{local_by_kind, resumed_at, resumed_by_kind}
use Rattle.lab_instant.specs.declared.seen.Incarnation.{Incarnation}
use Rattle.lab_instant.specs.declared.seen.Local.{Local}
use Rattle.est_net.proofs.CellSets.{none_is_true}
use Rattle.lab_instant.proofs.Steps.{found_later, more_found, none_found, nothing_found, one_found}

-- ---- a statement's own cells

mapped_more : {A : Type 0} (f : ℕ → A) (a x : ℕ)
    → map f (range_with_len a (suc x)) ≡ map f (range_with_len a x) ++ f (a + x) ∷ []
mapped_more f a zero = let e : a ≡ a + zero = omega arith in ap (λ (z : ℕ). f z ∷ []) e
mapped_more f a (suc x) =
    let e : a + 1 + x ≡ a + suc x = omega arith in
    ap (λ (l : List _). f a ∷ l)
    (mapped_more f (a + 1) x ∙ ap (λ (z : ℕ). map f (range_with_len (a + 1) x) ++ f z ∷ []) e)

pub own_more : (i n t x : ℕ) → own_owners i n t (x + 1) ≡ own_owners i n t x ++ cell_of i n (kind_at t x) ∷ []
own_more i n t x =
    let e : x + 1 ≡ suc x = omega arith in
    let here : 0 + x ≡ x = omega arith in
    ap (own_owners i n t) e ∙ (mapped_more (λ y. cell_of i n (kind_at t y)) 0 x
    ∙ ap (λ (z : ℕ). own_owners i n t x ++ cell_of i n (kind_at t z) ∷ []) here)

-- ---- what began and went on

-- one cell more is read
read_more : (owners : List StatementCell) (f : ℕ → Status) (c n : ℕ) (b w b2 w2 : List Incarnation)
    (cell : StatementCell) → slice_get owners n ≡ Some cell → AreReadTo owners f c n b w
    → b2 ≡ b ++ listed (begun_at (Some cell) (f (c + n))) → w2 ≡ w ++ listed (resumed_at (Some cell) f (c + n))
    → AreReadTo owners f c (n + 1) b2 w2
read_more owners f c n b w b2 w2 cell there so hb hw =
    record {
      began = more_found (λ x. begun_at (slice_get owners x) (f (c + x))) n b b2 [] (begun_at (Some cell) (f (c + n)))
          (ap (λ (o : Option StatementCell). begun_at o (f (c + n))) (sym there)) hb so.began;
      went_on = more_found (λ x. resumed_at (slice_get owners x) f (c + x)) n w w2 [] (resumed_at (Some cell) f (c + n))
          (ap (λ (o : Option StatementCell). resumed_at o f (c + n)) (sym there)) hw so.went_on;
    }

-- nothing more is found where nothing is
found_still : {A : Type 0} (g : ℕ → Option A) (m n : ℕ) → m ≤ n → ((x : ℕ) → m ≤ x → x < n → g x ≡ None)
    → found_below g n ≡ found_below g m
found_still g m n le none =
    let e : n ≡ m + (n - m) = omega arith in
    ap (found_below g) e ∙ (found_later g m (n - m)
    ∙ (ap (λ (l : List _). found_below g m ++ l)
    (nothing_found (λ x. g (m + x)) (n - m) (λ x h. none (m + x) (omega arith) (omega arith)))
    ∙ append-nil (found_below g m)))

not_begun_kind : (kind : CellKind) (v : Status) (at : Incarnation) → v ≢ Present → begun_by_kind kind v at ≡ None
not_begun_kind Go Present at un = absurd (un refl)
not_begun_kind Go Absent at un = refl
not_begun_kind Go Unknown at un = refl
not_begun_kind (Code k) v at un = refl
not_begun_kind OfSignal v at un = refl

not_begun : (o : Option StatementCell) (v : Status) → v ≢ Present → begun_at o v ≡ None
not_begun None v un = refl
not_begun (Some o) v un = not_begun_kind o.kind v (incarnation_of o) un

not_resumed_kind : (kind : CellKind) (go v : Status) (at : Incarnation) → v ≢ Present
    → resumed_by_kind kind go v at ≡ None
not_resumed_kind Go go v at un = refl
not_resumed_kind (Code k) Absent Present at un = absurd (un refl)
not_resumed_kind (Code k) Absent Absent at un = refl
not_resumed_kind (Code k) Absent Unknown at un = refl
not_resumed_kind (Code k) Present v at un = refl
not_resumed_kind (Code k) Unknown v at un = refl
not_resumed_kind OfSignal go v at un = refl

not_resumed : (o : Option StatementCell) (f : ℕ → Status) (x : ℕ) → f x ≢ Present → resumed_at o f x ≡ None
not_resumed None f x un = refl
not_resumed (Some o) f x un = not_resumed_kind o.kind _ (f x) (incarnation_of o) un

-- cells of which none is true add nothing
read_quiet : (owners : List StatementCell) (cells : List Status) (c m n : ℕ) (b w : List Incarnation) → m ≤ n
    → NoneTrue (c + m) (c + n) cells → AreReadTo owners (cell_at cells) c m b w
    → AreReadTo owners (cell_at cells) c n b w
unfolding NoneTrue
read_quiet owners cells c m n b w le none so =
    record {
      began = so.began ∙ sym (found_still _ m n le
          (λ x l h. not_begun (slice_get owners x) (cell_at cells (c + x)) (none (c + x) (omega arith) (omega arith))));
      went_on = so.went_on ∙ sym (found_still _ m n le
          (λ x l h. not_resumed (slice_get owners x) (cell_at cells) (c + x)
          (none (c + x) (omega arith) (omega arith))));
    }

-- all cells of the table before place p are read
pub record AreReadBefore (owners : List StatementCell) (cells : List Status) (c p : ℕ) (b w : List Incarnation)
    : Type 0 where
  pub after : c ≤ p
  pub within : p ≤ c + length owners
  pub read : AreReadTo owners (cell_at cells) c (p - c) b w

pub read_begins : (owners : List StatementCell) (cells : List Status) (c : ℕ) (b w : List Incarnation)
    → AreReadTo owners (cell_at cells) c 0 b w → AreReadBefore owners cells c c b w
read_begins owners cells c b w so =
    let none : 0 ≡ c - c = omega arith in
    record {
      after = omega arith;
      within = omega arith;
      read = subst (λ (n : ℕ). AreReadTo owners (cell_at cells) c n b w) none so;
    }

read_quiet_before : (owners : List StatementCell) (cells : List Status) (c p q : ℕ) (b w : List Incarnation) → p ≤ q
    → NoneIn (true_at cells) p q → AreReadBefore owners cells c p b w
    → AreReadTo owners (cell_at cells) c (q - c) b w
read_quiet_before owners cells c p q b w le none so =
    let after = so.after in
    let low : p ≡ c + (p - c) = omega arith in
    let high : q ≡ c + (q - c) = omega arith in
    read_quiet owners cells c (p - c) (q - c) b w (omega arith)
    (subst (λ (z : ℕ). NoneTrue (c + (p - c)) z cells) high
    (subst (λ (z : ℕ). NoneTrue z q cells) low (none_is_true cells p q none)))
    so.read

-- the next true cell is read
pub read_true : (owners : List StatementCell) (cells : List Status) (c p q : ℕ) (b w b2 w2 : List Incarnation)
    (cell : StatementCell) → AreReadBefore owners cells c p b w
    → IsFirstIn (true_at cells) p (c + length owners) q → slice_get owners (q - c) ≡ Some cell
    → b2 ≡ b ++ listed (begun_at (Some cell) (cell_at cells q))
    → w2 ≡ w ++ listed (resumed_at (Some cell) (cell_at cells) q)
    → AreReadBefore owners cells c (q + 1) b2 w2
read_true owners cells c p q b w b2 w2 cell so first there hb hw =
    let after = so.after in
    let low = first.after in
    let high = first.before in
    let here : q ≡ c + (q - c) = omega arith in
    let next : q - c + 1 ≡ q + 1 - c = omega arith in
    let so_far = read_quiet_before owners cells c p q b w low first.none so in
    record {
      after = omega arith;
      within = omega arith;
      read = subst (λ (n : ℕ). AreReadTo owners (cell_at cells) c n b2 w2) next
          (read_more owners (cell_at cells) c (q - c) b w b2 w2 cell there so_far
          (hb ∙ ap (λ (z : ℕ). b ++ listed (begun_at (Some cell) (cell_at cells z))) here)
          (hw ∙ ap (λ (z : ℕ). w ++ listed (resumed_at (Some cell) (cell_at cells) z)) here));
    }

-- no cell is left that is true
pub read_ends : (owners : List StatementCell) (cells : List Status) (c p : ℕ) (b w : List Incarnation)
    → AreReadBefore owners cells c p b w → NoneIn (true_at cells) p (c + length owners)
    → AreReadTo owners (cell_at cells) c (length owners) b w
read_ends owners cells c p b w so none =
    let all : c + length owners - c ≡ length owners = omega arith in
    subst (λ (n : ℕ). AreReadTo owners (cell_at cells) c n b w) all
    (read_quiet_before owners cells c p (c + length owners) b w so.within none so)

-- ---- local signals

-- what is added for a place
abbrev pub locals_at : List StatementCell → (ℕ → Status) → (c : ℕ) → ℕ → List Local
locals_at owners f c x = listed (local_at (slice_get owners x) (f (c + x)))

one_place : (owners : List StatementCell) (f : ℕ → Status) (c n : ℕ) (o : Option StatementCell)
    → slice_get owners n ≡ o
    → flat_map (locals_at owners f c) (listed (signal_at o n)) ≡ listed (local_at o (f (c + n)))
one_place owners f c n None e = refl
one_place owners f c n (Some o) e = by_kind o.kind refl
  where
    by_kind : (kind : CellKind) → o.kind ≡ kind
        → flat_map (locals_at owners f c) (listed (signal_by_kind kind n))
        ≡ listed (local_by_kind kind (f (c + n)) (incarnation_of o))
    by_kind Go k = refl
    by_kind (Code m) k = refl
    by_kind OfSignal k =
        append-nil (locals_at owners f c n)
        ∙ (ap (λ (p : Option StatementCell). listed (local_at p (f (c + n)))) e
        ∙ ap (λ (kind : CellKind). listed (local_by_kind kind (f (c + n)) (incarnation_of o))) k)

places_tell : (owners : List StatementCell) (f : ℕ → Status) (c n : ℕ)
    → flat_map (locals_at owners f c) (found_below (λ x. signal_at (slice_get owners x) x) n)
    ≡ found_below (λ x. local_at (slice_get owners x) (f (c + x))) n
places_tell owners f c zero = ap (flat_map (locals_at owners f c)) (none_found _) ∙ sym (none_found _)
places_tell owners f c (suc n) =
    let p = λ (x : ℕ). signal_at (slice_get owners x) x in
    let g = λ (x : ℕ). local_at (slice_get owners x) (f (c + x)) in
    ap (flat_map (locals_at owners f c)) (one_found p n)
    ∙ (flat_map-append (locals_at owners f c) (found_below p n) (listed (p n))
    ∙ (ap (λ (l : List Local). l ++ flat_map (locals_at owners f c) (listed (p n))) (places_tell owners f c n)
    ∙ (ap (λ (l : List Local). found_below g n ++ l) (one_place owners f c n (slice_get owners n) refl)
    ∙ sym (one_found g n))))

-- the places of all local signals tell of all
pub all_told : (owners : List StatementCell) (f : ℕ → Status) (c i : ℕ) (signals : List ℕ) → length signals ≤ i
    → signals ≡ signal_places owners
    → flat_map (locals_at owners f c) (take i signals) ≡ all_locals owners f c
all_told owners f c i signals past are =
    ap (flat_map (locals_at owners f c)) (take_all i signals past ∙ are) ∙ places_tell owners f c (length owners)

-- and one more place
pub one_told : (owners : List StatementCell) (f : ℕ → Status) (c i d : ℕ) (signals : List ℕ) → i < length signals
    → flat_map (locals_at owners f c) (take (i + 1) signals)
    ≡ flat_map (locals_at owners f c) (take i signals) ++ locals_at owners f c (get_or signals i d)
one_told owners f c i d signals within =
    ap (flat_map (locals_at owners f c)) (take_more signals i d within)
    ∙ (flat_map-append (locals_at owners f c) (take i signals) (get_or signals i d ∷ [])
    ∙ ap (λ (l : List Local). flat_map (locals_at owners f c) (take i signals) ++ l)
    (append-nil (locals_at owners f c (get_or signals i d))))
