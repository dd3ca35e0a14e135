-- The begin and the end of taking.
use Rattle.std.proofs.Common.{◌≡◌, ◌≢◌, inl, inr, ℕ, zero, suc, ◌+◌, ◌-◌, ◌<◌, ◌≤◌, ◌==◌, List, [], ◌∷◌, length, drop}
use Rattle.std.proofs.Common.{set, refl, sym, ap, ◌∙◌, subst, Some, None, arith, eq-eqb, ne_eqb, replicate}
use Rattle.std.proofs.Common.{length-append}
use Rattle.std.specs.Prelude.{slice_get, slice_index, flat_map, if◌then◌else◌}
use Rattle.std.proofs.Math.ListN.{drop_of_length-le}
use native.Mathlib.Decide.{ℕ_discrete, dec_le}
use Rattle.rbac_policy.specs.declared.commands.Entry.{Entry}
use Rattle.reactor_core.specs.declared.entry.SlotEntry.{SlotEntry}
use Rattle.history_receipts.specs.declared.mismatch.Mismatch.{Mismatch}
use Rattle.history_receipts.specs.declared.receipt.Kept.{Kept}
use Rattle.history_receipts.specs.declared.receipt.Kept.TheVariants.{Admin, Slot}
use Rattle.rbac_policy.specs.declared.objects.TheConstants.{SLOTS}
use Rattle.history_receipts.specs.declared.receipt_list.TheConstants.{SEATS}
use Rattle.rbac_policy.specs.declared.sizes.TheConstants.{OPENING_ENTRIES}
use Rattle.history_merge.specs.declared.order.Rank.TheVariants as rank
use Rattle.history_merge.specs.declared.merge.Taken.{Taken}
use Rattle.history_merge.specs.ToldCalls.{ToldCall, Publishes, Commands, of_seat, of_policy, of_slot}
use Rattle.history_merge.specs.Order.{part_at}
use Rattle.history_merge.specs.OneList.{AreOfOneList}
use Rattle.history_merge.specs.Mismatches.{kept_of_slot, kept_of_policy, CountDiffers}
use Rattle.history_merge.specs.Inner.Taking.{none_taken, CountsDiffer, Takes, taken_after, number_of, read_on, head}
use Rattle.history_merge.specs.Inner.Taking.{AreAllRead}
use Rattle.history_merge.proofs.Exact.{Chain, chain_tells, are_ordered}
use Rattle.history_merge.proofs.Going.{State, Whole, Sixteen, at_past}

zeros : (n k : ℕ) → slice_index (replicate n 0) k ≡ 0
zeros zero k = refl
zeros (suc n) zero = refl
zeros (suc n) (suc k) = zeros n k

nones : (n k : ℕ) → number_of (replicate n None) k ≡ None
nones zero k = refl
nones (suc n) zero = refl
nones (suc n) (suc k) = nones n k

drop_none : (n : ℕ) (ks : List Kept) → slice_get ks n ≡ None → drop n ks ≡ []
drop_none zero [] h = refl
drop_none (suc n) [] h = refl
drop_none zero (k ∷ ks) h = absurd cc
drop_none (suc n) (k ∷ ks) h = drop_none n ks h

all_read : (seats : List (List Kept)) (read : List ℕ) (s : ℕ) → AreAllRead seats read (length seats)
    → Dec (length seats ≤ s) → drop (slice_index read s) (part_at seats s) ≡ []
all_read seats read s h (yes past) = drop_of_length-le (part_at seats s)
    (let e : length (part_at seats s) ≡ 0 = ap length (at_past seats s past) in omega arith)
all_read seats read s h (no few) = drop_none (slice_index read s) (part_at seats s) (h s (omega arith))

-- all events, when all receipts are read
pub whole_events : (policy : List Entry) (journals : List (List SlotEntry)) (seats : List (List Kept)) (t : Taken)
    → State policy journals seats t → AreAllRead seats t.read (length seats) → Whole policy journals seats t []
whole_events policy journals seats t st all = st.leads []
    (record {
      kept = λ s. sym (all_read seats t.read s all (dec_le (length seats) s));
      sorted = tt;
      there = tt;
      chain = λ k. tt;
    })

-- as many entries as receipts: all are of one list
pub all_match : (policy : List Entry) (journals : List (List SlotEntry)) (seats : List (List Kept)) (t : Taken)
    → length journals ≡ SLOTS → Whole policy journals seats t []
    → ((k : ℕ) → k < length journals → slice_index t.counts k ≡ length (part_at journals k)) → t.entries ≡ length policy
    → Sixteen t → AreOfOneList policy journals seats
all_match policy journals seats t n w counts entries six =
    let o = are_ordered policy journals (rank.Entry OPENING_ENTRIES) w.all
    (let e = w.entries in omega arith) w.sorted w.there in (
      w.all,
      record {
        published = o.published;
        told = λ k. chain_tells (part_at journals k) 0 None (of_slot k w.all)
            (let a : length (of_slot k w.all) ≡ slice_index t.counts k + 0 = w.counted k in
            let b = count k (dec_le (length journals) k) in omega arith) (w.chain k);
        kept = w.kept;
        order = o.order;
      },
    )
  where
    past : (xs : List ℕ) (k : ℕ) → length xs ≤ k → slice_index xs k ≡ 0
    past [] k h = refl
    past (x ∷ xs) zero h = absurd (omega arith)
    past (x ∷ xs) (suc k) h = past xs k (omega arith)

    count : (k : ℕ) → Dec (length journals ≤ k) → slice_index t.counts k + 0 ≡ length (part_at journals k)
    count k (yes over) = let a : slice_index t.counts k ≡ 0 = past t.counts k (let l = six.counts in omega arith) in
        let b : length (part_at journals k) ≡ 0 = ap length (at_past journals k over) in omega arith
    count k (no below) = let a = counts k (omega arith) in omega arith

-- the receipts of all seats, counted seat by seat
flat_one : (f : List Kept → List Kept) (seats : List (List Kept)) (seat : ℕ) (ks : List Kept) → seat < length seats
    → length (flat_map f seats) + length (f ks) ≡ length (flat_map f (set seats seat ks))
    + length (f (part_at seats seat))
flat_one f [] seat ks h = absurd (omega arith)
flat_one f (x ∷ seats) zero ks h =
    omega (arith, length-append (f x) (flat_map f seats), length-append (f ks) (flat_map f seats))
flat_one f (x ∷ seats) (suc seat) ks h = let e = flat_one f seats seat ks (omega arith) in
    omega (arith, length-append (f x) (flat_map f seats), length-append (f x) (flat_map f (set seats seat ks)))

at_set_same : {A : Type 0} (xss : List (List A)) (n : ℕ) (xs : List A) → n < length xss → part_at (set xss n xs) n ≡ xs
at_set_same [] n xs h = absurd (omega arith)
at_set_same (y ∷ xss) zero xs h = refl
at_set_same (y ∷ xss) (suc n) xs h = at_set_same xss n xs (omega arith)

at_set_other : {A : Type 0} (xss : List (List A)) (n k : ℕ) (xs : List A) → n ≢ k
    → part_at (set xss n xs) k ≡ part_at xss k
at_set_other [] n k xs h = refl
at_set_other (y ∷ xss) zero zero xs h = absurd (h refl)
at_set_other (y ∷ xss) zero (suc k) xs h = refl
at_set_other (y ∷ xss) (suc n) zero xs h = refl
at_set_other (y ∷ xss) (suc n) (suc k) xs h = at_set_other xss n k xs (λ e. h (ap suc e))

flat_none : (f : List Kept → List Kept) (seats : List (List Kept)) → f [] ≡ [] → ((s : ℕ) → [] ≡ part_at seats s)
    → length (flat_map f seats) ≡ 0
flat_none f [] e h = refl
flat_none f (x ∷ seats) e h =
    let first : f x ≡ [] = ap f (sym (h 0)) ∙ e in
    let rest = flat_none f seats e (λ s. h (suc s)) in
    omega (arith, length-append (f x) (flat_map f seats), ap length first)

-- the seat of the first event, and what it keeps besides
pub record FirstSeat (seats : List (List Kept)) (seat : ℕ) (kept : Kept) (es : List ToldCall) : Type 0 where
  pub inside : seat < length seats
  pub here : kept ∷ of_seat seat es ≡ part_at seats seat
  pub others : (s : ℕ) → of_seat s es ≡ part_at (set seats seat (of_seat seat es)) s

first_seat : (seats : List (List Kept)) (seat : ℕ) (kept : Kept) (es : List ToldCall) → Dec (length seats ≤ seat)
    → ((s : ℕ) → (if seat == s then kept ∷ of_seat s es else of_seat s es) ≡ part_at seats s)
    → FirstSeat seats seat kept es
first_seat seats seat kept es (yes past) h =
    let a : kept ∷ of_seat seat es ≡ part_at seats seat = rw (eq-eqb seat seat refl) at (h seat) in
    let b : part_at seats seat ≡ [] = at_past seats seat past in
    absurd cc
first_seat seats seat kept es (no few) h =
    record {
      inside = omega arith;
      here = rw (eq-eqb seat seat refl) at (h seat);
      others = λ s. other s (ℕ_discrete seat s);
    }
  where
    other : (s : ℕ) → Dec (seat ≡ s) → of_seat s es ≡ part_at (set seats seat (of_seat seat es)) s
    other s (yes same) = subst (λ j. of_seat j es ≡ part_at (set seats seat (of_seat seat es)) j) same
        (sym (at_set_same seats seat (of_seat seat es) (omega arith)))
    other s (no apart) = (rw (ne_eqb seat s apart) at (h s)) ∙ sym (at_set_other seats seat s (of_seat seat es) apart)

-- as many receipts of a slot as events
pub slot_counted : (k : ℕ) (events : List ToldCall) (seats : List (List Kept))
    → ((s : ℕ) → of_seat s events ≡ part_at seats s) → length (flat_map (kept_of_slot k) seats)
    ≡ length (of_slot k events)
slot_counted k [] seats h = flat_none (kept_of_slot k) seats refl h
slot_counted k (Publishes seat version entry ∷ es) seats h =
    let f = first_seat seats seat (Admin version entry) es (dec_le (length seats) seat) h in
    let r = slot_counted k es (set seats seat (of_seat seat es)) f.others in
    let o = flat_one (kept_of_slot k) seats seat (of_seat seat es) f.inside in
    let e : length (kept_of_slot k (part_at seats seat)) ≡ length (kept_of_slot k (of_seat seat es)) =
    ap (λ ks. length (kept_of_slot k ks)) (sym f.here) in
    omega arith
slot_counted k (Commands seat r ∷ es) seats h =
    let f = first_seat seats seat (Slot r) es (dec_le (length seats) seat) h in
    let i = slot_counted k es (set seats seat (of_seat seat es)) f.others in
    let o = flat_one (kept_of_slot k) seats seat (of_seat seat es) f.inside in
    let e : length (kept_of_slot k (part_at seats seat)) ≡ length
    (if r.slot == k then Slot r ∷ kept_of_slot k (of_seat seat es) else kept_of_slot k (of_seat seat es)) =
    ap (λ ks. length (kept_of_slot k ks)) (sym f.here) in
    by (ℕ_discrete r.slot k) f.inside i o e
  where
    by : Dec (r.slot ≡ k) → seat < length seats → length (flat_map (kept_of_slot k) (set seats seat (of_seat seat es)))
        ≡ length (of_slot k es)
        → length (flat_map (kept_of_slot k) seats) + length (kept_of_slot k (of_seat seat es))
        ≡ length (flat_map (kept_of_slot k) (set seats seat (of_seat seat es)))
        + length (kept_of_slot k (part_at seats seat))
        → length (kept_of_slot k (part_at seats seat)) ≡ length
        (if r.slot == k then Slot r ∷ kept_of_slot k (of_seat seat es) else kept_of_slot k (of_seat seat es))
        → length (flat_map (kept_of_slot k) seats) ≡ length (if r.slot == k then r ∷ of_slot k es else of_slot k es)
    by (yes same) b i o e =
        rw (eq-eqb r.slot k same)
        (let e' : length (kept_of_slot k (part_at seats seat))
        ≡ suc (length (kept_of_slot k (of_seat seat es))) = rw (eq-eqb r.slot k same) at e in omega arith)
    by (no other) b i o e =
        rw (ne_eqb r.slot k other)
        (let e' : length (kept_of_slot k (part_at seats seat))
        ≡ length (kept_of_slot k (of_seat seat es)) = rw (ne_eqb r.slot k other) at e in omega arith)

-- as many policy receipts as policy events
pub policy_counted : (events : List ToldCall) (seats : List (List Kept))
    → ((s : ℕ) → of_seat s events ≡ part_at seats s)
    → length (flat_map kept_of_policy seats) ≡ length (of_policy events)
policy_counted [] seats h = flat_none kept_of_policy seats refl h
policy_counted (Publishes seat version entry ∷ es) seats h =
    let f = first_seat seats seat (Admin version entry) es (dec_le (length seats) seat) h in
    let r = policy_counted es (set seats seat (of_seat seat es)) f.others in
    let o = flat_one kept_of_policy seats seat (of_seat seat es) f.inside in
    let e : length (kept_of_policy (part_at seats seat)) ≡ suc (length (kept_of_policy (of_seat seat es))) =
    ap (λ ks. length (kept_of_policy ks)) (sym f.here) in
    omega arith
policy_counted (Commands seat r ∷ es) seats h =
    let f = first_seat seats seat (Slot r) es (dec_le (length seats) seat) h in
    let i = policy_counted es (set seats seat (of_seat seat es)) f.others in
    let o = flat_one kept_of_policy seats seat (of_seat seat es) f.inside in
    let e : length (kept_of_policy (part_at seats seat)) ≡ length (kept_of_policy (of_seat seat es)) =
    ap (λ ks. length (kept_of_policy ks)) (sym f.here) in
    omega arith

-- how many receipts are left
abbrev pub left : List (List Kept) → List ℕ → ℕ
left [] read = 0
left (x ∷ seats) [] = length x + left seats []
left (x ∷ seats) (r ∷ read) = (length x - r) + left seats read

inside_get : (ks : List Kept) (n : ℕ) (k : Kept) → slice_get ks n ≡ Some k → n < length ks
inside_get [] n k h = absurd cc
inside_get (x ∷ ks) zero k h = omega arith
inside_get (x ∷ ks) (suc n) k h = let e = inside_get ks n k h in omega arith

pub left_falls : (seats : List (List Kept)) (read : List ℕ) (seat : ℕ) (kept : Kept) → seat < length read
    → head seats read seat ≡ Some kept → left seats (read_on read seat) < left seats read
left_falls [] read seat kept i h = absurd cc
left_falls (x ∷ seats) [] seat kept i h = absurd (omega arith)
left_falls (x ∷ seats) (r ∷ read) zero kept i h = let e = inside_get x r kept h in omega arith
left_falls (x ∷ seats) (r ∷ read) (suc seat) kept i h = let e = left_falls seats read seat kept (omega arith) h in
    omega arith

pub count_differs : (policy : List Entry) (journals : List (List SlotEntry)) (seats : List (List Kept)) (t : Taken)
    (m : Mismatch) → Whole policy journals seats t [] → CountsDiffer policy journals t m
    → CountDiffers policy journals seats m
count_differs policy journals seats t m w (inl d) = inl (
  d.0,
  d.1,
  d.2,
  λ e. d.3 (let a : length (of_slot d.0 w.all) ≡ slice_index t.counts d.0 + 0 = w.counted d.0 in
      let b = slot_counted d.0 w.all seats w.kept in omega arith),
)
count_differs policy journals seats t m w (inr d) = inr
    (d.0, λ e. d.1 (let a = w.entries in let b = policy_counted w.all seats w.kept in omega arith))

read_after : (t : Taken) (seat : ℕ) (kept : Kept) → (taken_after t seat kept).read ≡ read_on t.read seat
read_after t seat (Admin version entry) = refl
read_after t seat (Slot r) = refl

pub takes_falls : (policy : List Entry) (journals : List (List SlotEntry)) (seats : List (List Kept)) (seat : ℕ)
    (kept : Kept) (old new : Taken) → seat < length old.read → head seats old.read seat ≡ Some kept
    → Takes policy journals seat kept old new → left seats new.read < left seats old.read
takes_falls policy journals seats seat kept old new inside here t =
    subst (λ r. left seats r < left seats old.read)
    (sym (ap (λ (u : Taken). u.read) t.after ∙ read_after old seat kept))
    (left_falls seats old.read seat kept inside here)
