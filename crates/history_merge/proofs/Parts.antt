-- What a part of the events says of all of them.
use Rattle.std.proofs.Common.{◌≡◌, ℕ, zero, suc, ◌+◌, ◌-◌, ◌<◌, ◌≤◌, ◌==◌, Bool, true, false, List, [], ◌∷◌, length}
use Rattle.std.proofs.Common.{take, drop, refl, sym, ap, ◌∙◌, subst, Some, None, arith, eq-eqb, ne_eqb}
use Rattle.std.specs.Prelude.{Option, slice_get, if◌then◌else◌}
use native.Mathlib.Decide.{ℕ_discrete, dec_le}
use Rattle.rbac_policy.specs.declared.commands.Entry.{Entry}
use Rattle.rbac_policy.specs.declared.objects.TheConstants.{SLOTS}
use Rattle.reactor_core.specs.declared.entry.SlotEntry.{SlotEntry}
use Rattle.history_receipts.specs.declared.receipt.SlotReceipt.{SlotReceipt}
use Rattle.history_receipts.specs.declared.receipt.Kept.{Kept}
use Rattle.history_receipts.specs.declared.receipt.Kept.TheVariants.{Admin, Slot}
use Rattle.rbac_policy.specs.declared.sizes.TheConstants.{OPENING_ENTRIES}
use Rattle.history_merge.specs.declared.order.Rank.{Rank}
use Rattle.history_merge.specs.declared.order.Rank.TheVariants as rank
use Rattle.history_merge.specs.ToldCalls.{ToldCall, Publishes, Commands, of_seat, of_policy, of_slot}
use Rattle.history_merge.specs.Order.{part_at, rank_of, version_at, InOrder}
use Rattle.history_merge.specs.OneList.{Tells, Tell, HasParts, AreOfOneList}
use Rattle.history_merge.specs.Mismatches.{IsThere}
use Rattle.history_merge.specs.Once.{ExactlyOne, IsOfPlace, IsOfVersion, EachOnce}
use Rattle.history_merge.proofs.Going.{at_past}

abbrev pub add : {B : Type 0} → Option B → List B → List B
add None xs = xs
add (Some x) xs = x ∷ xs

abbrev pub part : {B : Type 0} → (ToldCall → Option B) → List ToldCall → List B
part f [] = []
part f (e ∷ es) = add (f e) (part f es)

-- an item of the part is of one event, which has as many before it
pub record Of {B : Type 0} (f : ToldCall → Option B) (es : List ToldCall) (n : ℕ) (b : B) : Type 0 where
  pub j : ℕ
  pub e : ToldCall
  pub here : slice_get es j ≡ Some e
  pub is : f e ≡ Some b
  pub before : n ≡ length (part f (take j es))

pub of_event : {B : Type 0} (f : ToldCall → Option B) (es : List ToldCall) (n : ℕ) (b : B)
    → slice_get (part f es) n ≡ Some b
    → Of f es n b
of_event f [] n b h = absurd cc
of_event {B} f (x ∷ es) n b h = by (λ m k. of_event f es m b k) (f x) refl n h
  where
    by : ((m : ℕ) → slice_get (part f es) m ≡ Some b → Of f es m b) → (o : Option B) → f x ≡ o → (m : ℕ)
        → slice_get (add o (part f es)) m ≡ Some b → Of f (x ∷ es) m b
    by rest None is m k = let o = rest m k in
        record {
          j = suc o.j;
          e = o.e;
          here = o.here;
          is = o.is;
          before = o.before ∙ ap (λ y. length (add y (part f (take o.j es)))) (sym is);
        }
    by rest (Some c) is zero k = record { j = 0; e = x; here = refl; is = is ∙ k; before = refl }
    by rest (Some c) is (suc m) k = let o = rest m k in record {
      j = suc o.j;
      e = o.e;
      here = o.here;
      is = o.is;
      before = ap suc o.before
          ∙ ap (λ y. length (add y (part f (take o.j es)))) (sym is);
    }

pub in_part : {B : Type 0} (f : ToldCall → Option B) (es : List ToldCall) (j : ℕ) (e : ToldCall) (b : B)
    → slice_get es j ≡ Some e → f e ≡ Some b → slice_get (part f es) (length (part f (take j es))) ≡ Some b
in_part f [] j e b h is = absurd cc
in_part f (x ∷ es) zero e b h is =
    let same : f x ≡ Some b = ap f (let s : x ≡ e = cc (h) in s) ∙ is in
    subst (λ o. slice_get (add o (part f es)) 0 ≡ Some b) (sym same) refl
in_part {B} f (x ∷ es) (suc j) e b h is = by (in_part f es j e b h is) (f x) refl
  where
    by : slice_get (part f es) (length (part f (take j es))) ≡ Some b → (o : Option B) → f x ≡ o
        → slice_get (add (f x) (part f es)) (length (add (f x) (part f (take j es)))) ≡ Some b
    by rest None q = subst (λ o. slice_get (add o (part f es)) (length (add o (part f (take j es)))) ≡ Some b)
        (sym q) rest
    by rest (Some c) q = subst (λ o. slice_get (add o (part f es)) (length (add o (part f (take j es)))) ≡ Some b)
        (sym q) rest

-- events of the part with as many before them are one
pub one_event : {B : Type 0} (f : ToldCall → Option B) (es : List ToldCall) (i j : ℕ) (d e : ToldCall) (b c : B)
    → slice_get es i ≡ Some d → slice_get es j ≡ Some e → f d ≡ Some b → f e ≡ Some c
    → length (part f (take i es)) ≡ length (part f (take j es)) → i ≡ j
one_event f [] i j d e b c h k p q n = absurd cc
one_event f (x ∷ es) zero zero d e b c h k p q n = refl
one_event f (x ∷ es) zero (suc j) d e b c h k p q n =
    let same : f x ≡ Some b = ap f (let s : x ≡ d = cc (h) in s) ∙ p in
    let m : 0 ≡ suc (length (part f (take j es))) = n ∙ ap (λ o. length (add o (part f (take j es)))) same in
    absurd (omega arith)
one_event f (x ∷ es) (suc i) zero d e b c h k p q n =
    let same : f x ≡ Some c = ap f (let s : x ≡ e = cc (k) in s) ∙ q in
    let m : suc (length (part f (take i es))) ≡ 0 = sym (ap (λ o. length (add o (part f (take i es)))) same) ∙ n in
    absurd (omega arith)
one_event {B} f (x ∷ es) (suc i) (suc j) d e b c h k p q n = ap suc (by (one_event f es i j d e b c h k p q) (f x) n)
  where
    by : (length (part f (take i es)) ≡ length (part f (take j es)) → i ≡ j) → (o : Option B)
        → length (add o (part f (take i es))) ≡ length (add o (part f (take j es))) → i ≡ j
    by rest None m = rest m
    by rest (Some y) m = rest (omega arith)

abbrev pub if_so : {B : Type 0} → Bool → B → Option B
if_so true b = Some b
if_so false b = None

abbrev pub seat_of : ℕ → ToldCall → Option Kept
seat_of s (Publishes seat version entry) = if_so (seat == s) (Admin version entry)
seat_of s (Commands seat r) = if_so (seat == s) (Slot r)

abbrev pub slot_of : ℕ → ToldCall → Option SlotReceipt
slot_of k (Publishes seat version entry) = None
slot_of k (Commands seat r) = if_so (r.slot == k) r

abbrev pub entry_of : ToldCall → Option Entry
entry_of (Publishes seat version entry) = Some entry
entry_of (Commands seat r) = None

add_if : {B : Type 0} (t : Bool) (b : B) (xs : List B) → (if t then b ∷ xs else xs) ≡ add (if_so t b) xs
add_if true b xs = refl
add_if false b xs = refl

seat_part : (s : ℕ) (es : List ToldCall) → of_seat s es ≡ part (seat_of s) es
seat_part s [] = refl
seat_part s (Publishes seat version entry ∷ es) = ap (λ ks. if seat == s then Admin version entry ∷ ks else ks)
    (seat_part s es) ∙ add_if (seat == s) (Admin version entry) (part (seat_of s) es)
seat_part s (Commands seat r ∷ es) = ap (λ ks. if seat == s then Slot r ∷ ks else ks) (seat_part s es)
    ∙ add_if (seat == s) (Slot r) (part (seat_of s) es)

slot_part : (k : ℕ) (es : List ToldCall) → of_slot k es ≡ part (slot_of k) es
slot_part k [] = refl
slot_part k (Publishes seat version entry ∷ es) = slot_part k es
slot_part k (Commands seat r ∷ es) = ap (λ ks. if r.slot == k then r ∷ ks else ks) (slot_part k es)
    ∙ add_if (r.slot == k) r (part (slot_of k) es)

entry_part : (es : List ToldCall) → of_policy es ≡ part entry_of es
entry_part [] = refl
entry_part (Publishes seat version entry ∷ es) = ap (λ xs. entry ∷ xs) (entry_part es)
entry_part (Commands seat r ∷ es) = entry_part es

-- what a test says, where it answers something
if_so-is : {B : Type 0} (a b : ℕ) (x y : B) → if_so (a == b) x ≡ Some y → (a ≡ b) × (x ≡ y)
if_so-is {B} a b x y h = by (ℕ_discrete a b)
  where
    by : Dec (a ≡ b) → (a ≡ b) × (x ≡ y)
    by (yes same) = (same, (let h' : Some x ≡ Some y = rw (eq-eqb a b same) at h in cc))
    by (no other) = (let h' : None ≡ Some y = rw (ne_eqb a b other) at h in absurd cc)

tell_at : (place : ℕ) (number : Option ℕ) (rs : List SlotReceipt) (es : List SlotEntry) (i : ℕ) (r : SlotReceipt)
    → Tell place number rs es → slice_get rs i ≡ Some r → (r.place ≡ place + i + 1)
    × ((e : SlotEntry) × (slice_get es i ≡ Some e) × Tells r e)
tell_at place number [] es i r t h = absurd cc
tell_at place number (q ∷ rs) [] i r t h = absurd t
tell_at place number (q ∷ rs) (e ∷ es) zero r t h = subst
    (λ x. (x.place ≡ place + 0 + 1) × ((d : SlotEntry) × (slice_get (e ∷ es) 0 ≡ Some d) × Tells x d))
    (let s : q ≡ r = cc (h) in s) ((let p = t.0 in omega arith), (e, refl, t.1))
tell_at place number (q ∷ rs) (e ∷ es) (suc i) r t h = let u = tell_at (place + 1) (Some q.number) rs es i r t.3 h in
    ((let p = u.0 in omega arith), u.1)

told_at : (place : ℕ) (number : Option ℕ) (rs : List SlotReceipt) (es : List SlotEntry) (i : ℕ) (e : SlotEntry)
    → Tell place number rs es → slice_get es i ≡ Some e → (r : SlotReceipt) × (slice_get rs i ≡ Some r)
told_at place number rs [] i e t h = absurd cc
told_at place number [] (d ∷ es) i e t h = absurd t
told_at place number (q ∷ rs) (d ∷ es) zero e t h = (q, refl)
told_at place number (q ∷ rs) (d ∷ es) (suc i) e t h = told_at (place + 1) (Some q.number) rs es i e t.3 h

of_seat_event : (seats : List (List Kept)) (es : List ToldCall) → ((s : ℕ) → of_seat s es ≡ part_at seats s)
    → (s n : ℕ) (kept : Kept) → slice_get (part_at seats s) n ≡ Some kept → Of (seat_of s) es n kept
of_seat_event seats es h s n kept k = of_event (seat_of s) es n kept
    (subst (λ ks. slice_get ks n ≡ Some kept) (sym (h s) ∙ seat_part s es) k)

-- the event of a slot receipt
slot_event : (s : ℕ) (e : ToldCall) (r : SlotReceipt) → seat_of s e ≡ Some (Slot r) → e ≡ Commands s r
slot_event s (Publishes seat version entry) r h =
    (let i = if_so-is seat s (Admin version entry) (Slot r) h in absurd (let d = i.1 in cc))
slot_event s (Commands seat q) r h = (let i = if_so-is seat s (Slot q) (Slot r) h in let a = i.0 in let b = i.1 in cc)

policy_event : (s : ℕ) (e : ToldCall) (v : ℕ) (d : Entry) → seat_of s e ≡ Some (Admin v d) → e ≡ Publishes s v d
policy_event s (Publishes seat version entry) v d h =
    (let i = if_so-is seat s (Admin version entry) (Admin v d) h in let a = i.0 in let b = i.1 in cc)
policy_event s (Commands seat q) v d h = (let i = if_so-is seat s (Slot q) (Admin v d) h in absurd (let e = i.1 in cc))

-- each slot command that a slot's part tells is of one event, and so of one receipt
commands_once : (journals : List (List SlotEntry)) (seats : List (List Kept)) (es : List ToldCall)
    → ((s : ℕ) → of_seat s es ≡ part_at seats s) → ((k : ℕ) → Tell 0 None (of_slot k es) (part_at journals k))
    → (k i : ℕ) (e : SlotEntry) → slice_get (part_at journals k) i ≡ Some e → ExactlyOne seats (IsOfPlace k (i + 1))
commands_once journals seats es kept told k i e h =
    let found = told_at 0 None (of_slot k es) (part_at journals k) i e (told k) h in
    let place : found.0.place ≡ 0 + i + 1 =
    (tell_at 0 None (of_slot k es) (part_at journals k) i found.0 (told k) found.1).0 in
    let event =
    of_event (slot_of k) es i found.0 (subst (λ rs. slice_get rs i ≡ Some found.0) (slot_part k es) found.1) in
    by found.0 (omega arith) event.j event.e event.here event.is event.before
  where
    only : (s m : ℕ) (other : Kept) → slice_get (part_at seats s) m ≡ Some other → IsOfPlace k (i + 1) other
        → (seat : ℕ) (q : SlotReceipt) (j : ℕ) → slice_get es j ≡ Some (Commands seat q) → q.slot ≡ k
        → (r : SlotReceipt) × (slot_of k (Commands seat q) ≡ Some r) → i ≡ length (part (slot_of k) (take j es))
        → (s ≡ seat) × (m ≡ length (part (seat_of seat) (take j es)))
    only s m (Admin v d) stands such seat q j here slot is before = absurd such
    only s m (Slot o) stands such seat q j here slot is before =
        let event = of_seat_event seats es kept s m (Slot o) stands in
        let is_command : event.e ≡ Commands s o = slot_event s event.e o event.is in
        let there : slice_get es event.j ≡ Some (Commands s o) = event.here ∙ ap Some is_command in
        let self : slot_of k (Commands s o) ≡ Some o = rw (eq-eqb o.slot k such.0) refl in
        let in_slot : slice_get (of_slot k es) (length (part (slot_of k) (take event.j es))) ≡ Some o =
        subst (λ rs. slice_get rs (length (part (slot_of k) (take event.j es))) ≡ Some o) (sym (slot_part k es))
        (in_part (slot_of k) es event.j (Commands s o) o there self) in
        let place : o.place ≡ 0 + length (part (slot_of k) (take event.j es)) + 1 =
        (tell_at 0 None (of_slot k es) (part_at journals k) (length (part (slot_of k) (take event.j es))) o
        (told k) in_slot).0 in
        let count : length (part (slot_of k) (take event.j es)) ≡ i = (let p = such.1 in omega arith) in
        let one : event.j ≡ j = one_event (slot_of k) es event.j j (Commands s o)
        (Commands seat q) o is.0 there here self is.1 (count ∙ before) in
        let both : Some (Commands s o) ≡ Some (Commands seat q) = sym there ∙ (ap (λ x. slice_get es x) one ∙ here) in
        let seats_same : s ≡ seat = cc (both) in (
          seats_same,
          event.before
              ∙ (ap (λ x. length (part (seat_of s) (take x es))) one
              ∙ ap (λ x. length (part (seat_of x) (take j es))) seats_same),
        )

    by : (r : SlotReceipt) → r.place ≡ i + 1 → (j : ℕ) (x : ToldCall) → slice_get es j ≡ Some x → slot_of k x ≡ Some r
        → i ≡ length (part (slot_of k) (take j es)) → ExactlyOne seats (IsOfPlace k (i + 1))
    by r place j (Publishes seat version entry) here is before = absurd cc
    by r place j (Commands seat q) here is before =
        let i1 = if_so-is q.slot k q r is in
        let same : q ≡ r = i1.1 in
        let self : seat_of seat (Commands seat q) ≡ Some (Slot q) = rw (eq-eqb seat seat refl) refl in
        record {
          seat = seat;
          n = length (part (seat_of seat) (take j es));
          kept = Slot q;
          here = subst (λ ks. slice_get ks (length (part (seat_of seat) (take j es))) ≡ Some (Slot q))
              (sym (seat_part seat es) ∙ kept seat) (in_part (seat_of seat) es j (Commands seat q) (Slot q) here self);
          such = (i1.0, ap (λ (y : SlotReceipt). y.place) same ∙ place);
          only = λ s m other stands such. only s m other stands such seat q j here i1.0 (r, is) before;
        }

-- the version of a policy event is the number of those before it
event_version : (last : Rank) (es : List ToldCall) (j s v : ℕ) (d : Entry) → InOrder last es
    → slice_get es j ≡ Some (Publishes s v d) → v ≡ version_at last + length (part entry_of (take j es)) + 1
event_version last [] j s v d o h = absurd cc
event_version last (Publishes seat w entry ∷ es) zero s v d o h = (let e : w ≡ v = cc (h) in let n = o.0 in omega arith)
event_version last (Commands seat r ∷ es) zero s v d o h = absurd cc
event_version last (Publishes seat w entry ∷ es) (suc j) s v d o h =
    (let e = event_version (rank.Entry w) es j s v d o.2 h in let n = o.0 in omega arith)
event_version last (Commands seat r ∷ es) (suc j) s v d o h =
    (let e = event_version (rank_of (Slot r)) es j s v d o.2 h in let n = o.0 in omega arith)

entries_once : (policy : List Entry) (seats : List (List Kept)) (es : List ToldCall)
    → ((s : ℕ) → of_seat s es ≡ part_at seats s) → of_policy es ≡ drop OPENING_ENTRIES policy
    → InOrder (rank.Entry OPENING_ENTRIES) es → (i : ℕ) (e : Entry) → slice_get (drop OPENING_ENTRIES policy) i ≡ Some e
    → ExactlyOne seats (IsOfVersion (OPENING_ENTRIES + i + 1))
entries_once policy seats es kept published order i e h =
    let event = of_event entry_of es i e (subst (λ xs. slice_get xs i ≡ Some e) (sym published ∙ entry_part es) h) in
    by event.j event.e event.here event.is event.before
  where
    only : (s m : ℕ) (other : Kept) → slice_get (part_at seats s) m ≡ Some other
        → IsOfVersion (OPENING_ENTRIES + i + 1) other → (seat v : ℕ) (j : ℕ)
        → slice_get es j ≡ Some (Publishes seat v e) → i ≡ length (part entry_of (take j es))
        → (s ≡ seat) × (m ≡ length (part (seat_of seat) (take j es)))
    only s m (Slot r) stands such seat v j here before = absurd such
    only s m (Admin w d) stands such seat v j here before =
        let event = of_seat_event seats es kept s m (Admin w d) stands in
        let is_policy : event.e ≡ Publishes s w d = policy_event s event.e w d event.is in
        let there : slice_get es event.j ≡ Some (Publishes s w d) = event.here ∙ ap Some is_policy in
        let version : w ≡ OPENING_ENTRIES + length (part entry_of (take event.j es)) + 1 =
        event_version (rank.Entry OPENING_ENTRIES) es event.j s w d order there in
        let count : length (part entry_of (take event.j es)) ≡ i = omega arith in
        let one : event.j ≡ j = one_event entry_of es event.j j (Publishes s w d)
        (Publishes seat v e) d e there here refl refl (count ∙ before) in
        let both : Some (Publishes s w d) ≡ Some (Publishes seat v e) =
        sym there ∙ (ap (λ x. slice_get es x) one ∙ here) in
        let seats_same : s ≡ seat = cc (both) in (
          seats_same,
          event.before
              ∙ (ap (λ x. length (part (seat_of s) (take x es))) one
              ∙ ap (λ x. length (part (seat_of x) (take j es))) seats_same),
        )

    by : (j : ℕ) (x : ToldCall) → slice_get es j ≡ Some x → entry_of x ≡ Some e → i ≡ length (part entry_of (take j es))
        → ExactlyOne seats (IsOfVersion (OPENING_ENTRIES + i + 1))
    by j (Commands seat r) here is before = absurd cc
    by j (Publishes seat v d) here is before =
        let same : d ≡ e = cc (is) in
        let here' : slice_get es j ≡ Some (Publishes seat v e) = here ∙ ap (λ y. Some (Publishes seat v y)) same in
        let self : seat_of seat (Publishes seat v e) ≡ Some (Admin v e) = rw (eq-eqb seat seat refl) refl in
        let version = event_version (rank.Entry OPENING_ENTRIES) es j seat v e order here' in
        record {
          seat = seat;
          n = length (part (seat_of seat) (take j es));
          kept = Admin v e;
          here = subst (λ ks. slice_get ks (length (part (seat_of seat) (take j es))) ≡ Some (Admin v e))
              (sym (seat_part seat es) ∙ kept seat)
              (in_part (seat_of seat) es j (Publishes seat v e) (Admin v e) here' self);
          such = omega arith;
          only = λ s m other stands such. only s m other stands such seat v j here' before;
        }

get_drop : {A : Type 0} (n : ℕ) (xs : List A) (i : ℕ) → slice_get (drop n xs) i ≡ slice_get xs (n + i)
get_drop zero [] i = refl
get_drop (suc n) [] i = refl
get_drop zero (x ∷ xs) i = ap (λ k. slice_get (x ∷ xs) k) (let e : i ≡ 0 + i = omega arith in e)
get_drop (suc n) (x ∷ xs) i = get_drop n xs i ∙ ap (λ k. slice_get (x ∷ xs) k)
    (let e : suc (n + i) ≡ suc n + i = omega arith in e)

is_slot : (journals : List (List SlotEntry)) (k i : ℕ) (e : SlotEntry) → Dec (length journals ≤ k)
    → length journals ≡ SLOTS → slice_get (part_at journals k) i ≡ Some e → k < SLOTS
is_slot journals k i e (yes past) sixteen h =
    (let none : slice_get (part_at journals k) i ≡ None = ap (λ es. slice_get es i) (at_past journals k past) in
    absurd cc)
is_slot journals k i e (no few) sixteen h = omega arith

-- the version of a slot command is that of the last policy event before it
command_version : (last : Rank) (es : List ToldCall) (j s : ℕ) (r : SlotReceipt) → InOrder last es
    → slice_get es j ≡ Some (Commands s r) → (version_at last ≤ r.version)
    × (r.version ≤ version_at last + length (of_policy es))
command_version last [] j s r o h = absurd cc
command_version last (Publishes seat w entry ∷ es) zero s r o h = absurd cc
command_version last (Commands seat q ∷ es) zero s r o h =
    (let e : Commands seat q ≡ Commands s r = cc (h) in let v : q.version ≡ r.version = cc in let n = o.0 in
    (omega arith, omega arith))
command_version last (Publishes seat w entry ∷ es) (suc j) s r o h =
    (let e = command_version (rank.Entry w) es j s r o.2 h in let n = o.0 in let low = e.0 in let high = e.1 in
    (omega arith, omega arith))
command_version last (Commands seat q ∷ es) (suc j) s r o h =
    (let e = command_version (rank_of (Slot q)) es j s r o.2 h in let n = o.0 in let low = e.0 in let high = e.1 in
    (omega arith, omega arith))

drop_length : {A : Type 0} (n : ℕ) (xs : List A) → n ≤ length xs → n + length (drop n xs) ≡ length xs
drop_length zero xs h = omega arith
drop_length (suc n) [] h = absurd (omega arith)
drop_length (suc n) (x ∷ xs) h = (let e = drop_length n xs (omega arith) in omega arith)

is_there : (policy : List Entry) (journals : List (List SlotEntry)) (seats : List (List Kept)) (es : List ToldCall)
    → OPENING_ENTRIES ≤ length policy → length journals ≡ SLOTS → HasParts policy journals seats es
    → (s n : ℕ) (kept : Kept) → slice_get (part_at seats s) n ≡ Some kept → IsThere policy journals kept
is_there policy journals seats es opened sixteen m s n (Slot r) h =
    let event = of_seat_event seats es m.kept s n (Slot r) h in
    let there : slice_get es event.j ≡ Some (Commands s r) = event.here ∙ ap Some (slot_event s event.e r event.is) in
    let self : slot_of r.slot (Commands s r) ≡ Some r = rw (eq-eqb r.slot r.slot refl) refl in
    let i : ℕ = length (part (slot_of r.slot) (take event.j es)) in
    let in_slot : slice_get (of_slot r.slot es) i ≡ Some r =
    subst (λ rs. slice_get rs i ≡ Some r) (sym (slot_part r.slot es))
    (in_part (slot_of r.slot) es event.j (Commands s r) r there self) in
    let t = tell_at 0 None (of_slot r.slot es) (part_at journals r.slot) i r (m.told r.slot) in_slot in
    let place : r.place ≡ 0 + i + 1 = t.0 in
    let version = command_version (rank.Entry OPENING_ENTRIES) es event.j s r m.order there in
    let entries : length (of_policy es) ≡ length (drop OPENING_ENTRIES policy) = ap length m.published in
    let whole = drop_length OPENING_ENTRIES policy opened in (
      is_slot journals r.slot i t.1.0 (dec_le (length journals) r.slot) sixteen t.1.1,
      (omega arith),
      (
        t.1.0,
        subst (λ k. slice_get (part_at journals r.slot) k ≡ Some t.1.0)
            (let e : i ≡ r.place - 1 = omega arith in e) t.1.1,
        t.1.2,
      ),
      version.0,
      (let high = version.1 in omega arith),
    )
is_there policy journals seats es opened sixteen m s n (Admin v d) h =
    let event = of_seat_event seats es m.kept s n (Admin v d) h in
    let there : slice_get es event.j ≡ Some (Publishes s v d) =
    event.here ∙ ap Some (policy_event s event.e v d event.is) in
    let i : ℕ = length (part entry_of (take event.j es)) in
    let in_policy : slice_get (drop OPENING_ENTRIES policy) i ≡ Some d =
    subst (λ xs. slice_get xs i ≡ Some d) (sym (entry_part es) ∙ m.published)
    (in_part entry_of es event.j (Publishes s v d) d there refl) in
    let version : v ≡ OPENING_ENTRIES + i + 1 = event_version
    (rank.Entry OPENING_ENTRIES) es event.j s v d m.order there in (
      (omega arith),
      subst (λ k. slice_get policy k ≡ Some d) (let e : OPENING_ENTRIES + i ≡ v - 1 = omega arith in e)
          (sym (get_drop OPENING_ENTRIES policy i) ∙ in_policy),
    )

pub all_once : (policy : List Entry) (journals : List (List SlotEntry)) (seats : List (List Kept))
    → OPENING_ENTRIES ≤ length policy → length journals ≡ SLOTS → AreOfOneList policy journals seats
    → EachOnce policy journals seats
all_once policy journals seats opened sixteen one = record {
  slots = commands_once journals seats one.0 one.1.kept one.1.told;
  policy_entries = entries_once policy seats one.0 one.1.kept one.1.published one.1.order;
  receipts = is_there policy journals seats one.0 opened sixteen one.1;
}
