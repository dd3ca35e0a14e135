-- What holds while receipts are taken.
use Rattle.std.proofs.Common.{◌≡◌, ◌≢◌, ◌⊎◌, inl, inr, ℕ, zero, suc, ◌+◌, ◌-◌, ◌<◌, ◌≤◌, ◌==◌, List, [], ◌∷◌, length}
use Rattle.std.proofs.Common.{drop, set, refl, sym, ap, ◌∙◌, subst, Some, None, arith, eq-eqb, ne_eqb, get_or-set_same}
use Rattle.std.proofs.Common.{get_or-set_other}
use Rattle.std.specs.Prelude.{Option, slice_get, slice_index, slice_set, if◌then◌else◌}
use Rattle.std.proofs.Math.ListN.{length-set}
use native.Mathlib.Decide.{ℕ_discrete, dec_le, dec_lt}
use Rattle.rbac_policy.specs.declared.commands.Entry.{Entry}
use Rattle.reactor_core.specs.declared.entry.SlotEntry.{SlotEntry}
use Rattle.history_receipts.specs.declared.receipt.SlotReceipt.{SlotReceipt}
use Rattle.history_receipts.specs.declared.receipt.Kept.{Kept}
use Rattle.history_receipts.specs.declared.receipt.Kept.TheVariants.{Admin, Slot}
use Rattle.rbac_policy.specs.declared.objects.TheConstants.{SLOTS}
use Rattle.history_receipts.specs.declared.receipt_list.TheConstants.{SEATS}
use Rattle.rbac_policy.specs.declared.sizes.TheConstants.{OPENING_ENTRIES}
use Rattle.history_merge.specs.declared.order.Rank.{Rank}
use Rattle.history_merge.specs.declared.order.Rank.TheVariants as rank
use Rattle.history_merge.specs.declared.merge.Taken.{Taken}
use Rattle.history_merge.specs.ToldCalls.{ToldCall, Publishes, Commands, of_seat, of_policy, of_slot}
use Rattle.history_merge.specs.Order.{part_at, rank_of, Precedes, IsOver, Rises}
use Rattle.history_merge.specs.OneList.{Tells}
use Rattle.history_merge.specs.Mismatches.{IsThere, IsBelow, Clash, Clashes, IsFault}
use Rattle.history_merge.specs.Inner.Taking.{Takes, Refuses, IsLined, IsInLine, HasRoom, taken_after, taken_command}
use Rattle.history_merge.specs.Inner.Taking.{number_of, read_on, head, IsLeast}
use Rattle.history_merge.proofs.Leasts.{precedes_trans, precedes_not_self}
use Rattle.history_merge.proofs.Exact.{drop_get, Sorted, AreThere, Chain}

pub record Sixteen (t : Taken) : Type 0 where
  pub places : length t.places ≡ SLOTS
  pub numbers : length t.numbers ≡ SLOTS
  pub counts : length t.counts ≡ SLOTS
  pub read : length t.read ≡ SEATS

-- the events are those of the receipts that are left
pub record Rest (policy : List Entry) (journals : List (List SlotEntry)) (seats : List (List Kept)) (t : Taken)
    (events : List ToldCall) : Type 0 where
  pub kept : (s : ℕ) → of_seat s events ≡ drop (slice_index t.read s) (part_at seats s)
  pub sorted : Sorted t.last events
  pub there : AreThere policy journals events
  pub chain : (k : ℕ) → Chain (part_at journals k) (slice_index t.places k) (number_of t.numbers k) (of_slot k events)

-- all events, of which these are left
pub record Whole (policy : List Entry) (journals : List (List SlotEntry)) (seats : List (List Kept)) (t : Taken)
    (events : List ToldCall) : Type 0 where
  pub all : List ToldCall
  pub kept : (s : ℕ) → of_seat s all ≡ part_at seats s
  pub sorted : Sorted (rank.Entry OPENING_ENTRIES) all
  pub there : AreThere policy journals all
  pub chain : (k : ℕ) → Chain (part_at journals k) 0 None (of_slot k all)
  pub counted : (k : ℕ) → length (of_slot k all) ≡ slice_index t.counts k + length (of_slot k events)
  pub entries : OPENING_ENTRIES + length (of_policy all) ≡ t.entries + length (of_policy events)

pub record IsTaken (seats : List (List Kept)) (read : List ℕ) (kept : Kept) : Type 0 where
  pub keeper : ℕ
  pub place : ℕ
  pub before : place < slice_index read keeper
  pub here : slice_get (part_at seats keeper) place ≡ Some kept

pub record LastReceipt (seats : List (List Kept)) (t : Taken) (k : ℕ) : Type 0 where
  pub r : SlotReceipt
  pub taken : IsTaken seats t.read (Slot r)
  pub slot : r.slot ≡ k
  pub place : r.place ≡ slice_index t.places k
  pub number : number_of t.numbers k ≡ Some r.number
  pub upto : (y : Rank) → Precedes t.last y → Precedes (rank_of (Slot r)) y

abbrev pub LastIn : List (List Kept) → Taken → ℕ → Type 0
LastIn seats t k = ((slice_index t.places k ≡ 0) × (number_of t.numbers k ≡ None)) ⊎ LastReceipt seats t k

-- the receipt that was taken last: no next one precedes it
pub record LastTaken (seats : List (List Kept)) (t : Taken) : Type 0 where
  pub kept : Kept
  pub stands : rank_of kept ≡ t.last
  pub taken : IsTaken seats t.read kept
  pub heads : (s : ℕ) (h : Kept) → head seats t.read s ≡ Some h → Precedes (rank_of h) t.last → ⊥

pub record State (policy : List Entry) (journals : List (List SlotEntry)) (seats : List (List Kept))
    (t : Taken) : Type 0 where
  pub six : Sixteen t
  pub leads : (events : List ToldCall) → Rest policy journals seats t events → Whole policy journals seats t events
  pub last_in : (t.last ≡ rank.Entry OPENING_ENTRIES) ⊎ LastTaken seats t
  pub slots : (k : ℕ) → LastIn seats t k
  pub low : (k : ℕ) → slice_index t.counts k ≤ slice_index t.places k
  pub room : HasRoom t

-- the event of a seat's receipt
abbrev pub event_of : ℕ → Kept → ToldCall
event_of seat (Admin version entry) = Publishes seat version entry
event_of seat (Slot r) = Commands seat r

of_seat_event : (seat s : ℕ) (kept : Kept) (es : List ToldCall)
    → of_seat s (event_of seat kept ∷ es) ≡ (if seat == s then kept ∷ of_seat s es else of_seat s es)
of_seat_event seat s (Admin version entry) es = refl
of_seat_event seat s (Slot r) es = refl

-- one more receipt of the seat
seat_goes : (seats : List (List Kept)) (read : List ℕ) (seat s : ℕ) (kept : Kept) (rest : List Kept) → Dec (seat ≡ s)
    → seat < length read → slice_get (part_at seats seat) (slice_index read seat) ≡ Some kept
    → rest ≡ drop (slice_index (read_on read seat) s) (part_at seats s)
    → (if seat == s then kept ∷ rest else rest) ≡ drop (slice_index read s) (part_at seats s)
seat_goes seats read seat s kept rest (yes same) inside next h =
    let here : slice_index (set read seat (slice_index read seat + 1)) s ≡ slice_index read s + 1 =
    ap (λ k. slice_index (set read seat (slice_index read seat + 1)) k) (sym same)
    ∙ (get_or-set_same read seat (slice_index read seat + 1) 0 inside ∙ ap (λ k. slice_index read k + 1) same) in
    let next' : slice_get (part_at seats s) (slice_index read s) ≡ Some kept =
    subst (λ k. slice_get (part_at seats k) (slice_index read k) ≡ Some kept) same next in
    rw (eq-eqb seat s same)
    (ap (λ ks. kept ∷ ks) (h ∙ ap (λ k. drop k (part_at seats s)) here)
    ∙ sym (drop_get (slice_index read s) (part_at seats s) kept next'))
seat_goes seats read seat s kept rest (no other) inside next h =
    rw (ne_eqb seat s other)
    (h ∙ ap (λ k. drop k (part_at seats s))
    (get_or-set_other read seat s (slice_index read seat + 1) 0 (λ e. other (sym e))))

kept_goes : (seats : List (List Kept)) (read : List ℕ) (seat s : ℕ) (kept : Kept) (es : List ToldCall)
    → seat < length read
    → slice_get (part_at seats seat) (slice_index read seat) ≡ Some kept
    → of_seat s es ≡ drop (slice_index (read_on read seat) s) (part_at seats s)
    → of_seat s (event_of seat kept ∷ es) ≡ drop (slice_index read s) (part_at seats s)
kept_goes seats read seat s kept es inside next h = of_seat_event seat s kept es
    ∙ seat_goes seats read seat s kept (of_seat s es) (ℕ_discrete seat s) inside next h

-- one more receipt of the slot
chain_goes : (journals : List (List SlotEntry)) (places : List ℕ) (numbers : List (Option ℕ)) (k : ℕ) (r : SlotReceipt)
    (rest : List SlotReceipt) → Dec (r.slot ≡ k) → r.slot < length places → r.slot < length numbers
    → slice_index places r.slot < r.place → IsOver (number_of numbers r.slot) r.number
    → ((entry : SlotEntry) × (slice_get (part_at journals r.slot) (r.place - 1) ≡ Some entry) × Tells r entry)
    → Chain (part_at journals k) (slice_index (slice_set places r.slot r.place) k)
    (number_of (slice_set numbers r.slot (Some r.number)) k) rest
    → Chain (part_at journals k) (slice_index places k) (number_of numbers k) (if r.slot == k then r ∷ rest else rest)
chain_goes journals places numbers k r rest (yes same) inside inside' place over told h =
    let P : ℕ → Type 0 = λ j. Chain (part_at journals j) (slice_index places j) (number_of numbers j) (r ∷ rest) in
    let h1 : Chain (part_at journals r.slot) (slice_index (set places r.slot r.place) r.slot)
    (number_of (set numbers r.slot (Some r.number)) r.slot) rest =
    subst (λ j. Chain (part_at journals j) (slice_index (set places r.slot r.place) j)
    (number_of (set numbers r.slot (Some r.number)) j) rest) (sym same) h in
    let h2 : Chain (part_at journals r.slot) r.place (number_of (set numbers r.slot (Some r.number)) r.slot) rest =
    subst (λ p. Chain (part_at journals r.slot) p (number_of (set numbers r.slot (Some r.number)) r.slot) rest)
    (get_or-set_same places r.slot r.place 0 inside) h1 in
    let h3 : Chain (part_at journals r.slot) r.place (Some r.number) rest =
    subst (λ n. Chain (part_at journals r.slot) r.place n rest)
    (get_or-set_same numbers r.slot (Some r.number) None inside') h2 in
    rw (eq-eqb r.slot k same) (subst P same (place, over, told, h3))
chain_goes journals places numbers k r rest (no other) inside inside' place over told h =
    let there : slice_index (set places r.slot r.place) k ≡ slice_index places k =
    get_or-set_other places r.slot k r.place 0 (λ e. other (sym e)) in
    let same : number_of (set numbers r.slot (Some r.number)) k ≡ number_of numbers k =
    get_or-set_other numbers r.slot k (Some r.number) None (λ e. other (sym e)) in
    let h1 : Chain (part_at journals k) (slice_index places k) (number_of (set numbers r.slot (Some r.number)) k) rest =
    subst (λ p. Chain (part_at journals k) p (number_of (set numbers r.slot (Some r.number)) k) rest) there h in
    rw (ne_eqb r.slot k other) (subst (λ n. Chain (part_at journals k) (slice_index places k) n rest) same h1)

count_goes : (counts : List ℕ) (k : ℕ) (r : SlotReceipt) (rest : List SlotReceipt) → Dec (r.slot ≡ k)
    → r.slot < length counts → slice_index counts k + length (if r.slot == k then r ∷ rest else rest)
    ≡ slice_index (slice_set counts r.slot (slice_index counts r.slot + 1)) k + length rest
count_goes counts k r rest (yes same) inside =
    let here : slice_index (set counts r.slot (slice_index counts r.slot + 1)) r.slot ≡ slice_index counts r.slot + 1 =
    get_or-set_same counts r.slot (slice_index counts r.slot + 1) 0 inside in
    let here' : slice_index (set counts r.slot (slice_index counts r.slot + 1)) k ≡ slice_index counts k + 1 =
    subst (λ j. slice_index (set counts r.slot (slice_index counts r.slot + 1)) j ≡ slice_index counts j + 1) same
    here in
    rw (eq-eqb r.slot k same) (omega arith)
count_goes counts k r rest (no other) inside =
    let there : slice_index (set counts r.slot (slice_index counts r.slot + 1)) k ≡ slice_index counts k =
    get_or-set_other counts r.slot k (slice_index counts r.slot + 1) 0 (λ e. other (sym e)) in
    rw (ne_eqb r.slot k other) (ap (λ n. n + length rest) (sym there))

leads_on : (policy : List Entry) (journals : List (List SlotEntry)) (seats : List (List Kept)) (seat : ℕ) (kept : Kept)
    (old : Taken) (events : List ToldCall) → State policy journals seats old → seat < SEATS
    → head seats old.read seat ≡ Some kept → IsThere policy journals kept → Precedes old.last (rank_of kept)
    → IsLined old kept
    → Rest policy journals seats (taken_after old seat kept) events
    → Whole policy journals seats (taken_after old seat kept) events
leads_on policy journals seats seat (Admin version entry) old events st inside next there follows lined rest =
    let w = st.leads (Publishes seat version entry ∷ events) (record {
      kept = λ s. kept_goes seats old.read seat s (Admin version entry) events (let l = st.six.read in omega arith) next
          (rest.kept s);
      sorted = (follows, rest.sorted);
      there = (there, rest.there);
      chain = rest.chain;
    }) in
    record {
      all = w.all;
      kept = w.kept;
      sorted = w.sorted;
      there = w.there;
      chain = w.chain;
      counted = w.counted;
      entries = (let n = w.entries in omega arith);
    }
leads_on policy journals seats seat (Slot r) old events st inside next there follows lined rest =
    let w = st.leads (Commands seat r ∷ events) (record {
      kept = λ s. kept_goes seats old.read seat s (Slot r) events (let l = st.six.read in omega arith) next
          (rest.kept s);
      sorted = (follows, rest.sorted);
      there = (there, rest.there);
      chain = λ k. chain_goes journals old.places old.numbers k r (of_slot k events) (ℕ_discrete r.slot k)
          (let l = st.six.places in let b = there.0 in omega arith)
          (let l = st.six.numbers in let b = there.0 in omega arith) lined.0 lined.1 there.2 (rest.chain k);
    }) in
    record {
      all = w.all;
      kept = w.kept;
      sorted = w.sorted;
      there = w.there;
      chain = w.chain;
      entries = w.entries;
      counted = λ k. w.counted k ∙ count_goes old.counts k r (of_slot k events) (ℕ_discrete r.slot k)
          (let l = st.six.counts in let b = there.0 in omega arith);
    }

-- along a seat's receipts each precedes the next
rises_pair : (a b : Kept) (version : ℕ) (number : Option ℕ) (ks : List Kept) → Rises version number (a ∷ (b ∷ ks))
    → Precedes (rank_of a) (rank_of b)
rises_pair (Admin v d) (Admin w e) version number ks h = h.1.0
rises_pair (Admin v d) (Slot r) version number ks h = h.1.0
rises_pair (Slot r) (Admin w e) version number ks h = h.2.0
rises_pair (Slot r) (Slot q) version number ks h = by (ℕ_discrete r.version q.version)
  where
    by : Dec (r.version ≡ q.version) → Precedes (rank_of (Slot r)) (rank_of (Slot q))
    by (yes same) = inr (same, inl h.2.1)
    by (no other) = inl (let b = h.2.0 in omega arith)

rises_tail : (a : Kept) (version : ℕ) (number : Option ℕ) (ks : List Kept) → Rises version number (a ∷ ks)
    → (v : ℕ) × (n : Option ℕ) × Rises v n ks
rises_tail (Admin v d) version number ks h = (v, number, h.1)
rises_tail (Slot r) version number ks h = (r.version, Some r.number, h.2)

pub rises_next : (version : ℕ) (number : Option ℕ) (ks : List Kept) (n : ℕ) (a b : Kept) → Rises version number ks
    → slice_get ks n ≡ Some a → slice_get ks (n + 1) ≡ Some b → Precedes (rank_of a) (rank_of b)
rises_next version number [] n a b h p q = absurd cc
rises_next version number (x ∷ []) zero a b h p q = absurd cc
rises_next version number (x ∷ (y ∷ ks)) zero a b h p q =
    let e : x ≡ a = cc (p) in
    let f : y ≡ b = cc (q) in
    subst (λ z. Precedes (rank_of z) (rank_of b)) e
    (subst (λ z. Precedes (rank_of x) (rank_of z)) f (rises_pair x y version number ks h))
rises_next version number (x ∷ ks) (suc n) a b h p q =
    let t = rises_tail x version number ks h in
    let m : suc n + 1 ≡ suc (n + 1) = omega arith in
    rises_next t.0 t.1 ks n a b t.2 p (subst (λ k. slice_get (x ∷ ks) k ≡ Some b) m q)

pub at_past : {A : Type 0} (xss : List (List A)) (n : ℕ) → length xss ≤ n → part_at xss n ≡ []
at_past [] n h = refl
at_past (x ∷ xss) zero h = absurd (omega arith)
at_past (x ∷ xss) (suc n) h = at_past xss n (omega arith)

-- reading on never takes a receipt back
reads_more : (read : List ℕ) (seat s : ℕ) → Dec (seat ≡ s) → seat < length read
    → slice_index read s ≤ slice_index (read_on read seat) s
reads_more read seat s (yes same) inside =
    let here : slice_index (read_on read seat) seat ≡ slice_index read seat + 1 =
    get_or-set_same read seat (slice_index read seat + 1) 0 inside in
    subst (λ j. slice_index read j ≤ slice_index (read_on read seat) j) same (omega arith)
reads_more read seat s (no other) inside =
    let there : slice_index (read_on read seat) s ≡ slice_index read s =
    get_or-set_other read seat s (slice_index read seat + 1) 0 (λ e. other (sym e)) in
    omega arith

taken_more : (seats : List (List Kept)) (read : List ℕ) (seat : ℕ) (kept : Kept) → seat < length read
    → IsTaken seats read kept → IsTaken seats (read_on read seat) kept
taken_more seats read seat kept inside t = record {
  keeper = t.keeper;
  place = t.place;
  here = t.here;
  before = (let m = reads_more read seat t.keeper (ℕ_discrete seat t.keeper) inside in let b = t.before in omega arith);
}

taken_now : (seats : List (List Kept)) (read : List ℕ) (seat : ℕ) (kept : Kept) → seat < length read
    → head seats read seat ≡ Some kept → IsTaken seats (read_on read seat) kept
taken_now seats read seat kept inside here = record {
  keeper = seat;
  place = slice_index read seat;
  here = here;
  before = (let e = get_or-set_same read seat (slice_index read seat + 1) 0 inside in omega arith);
}

-- no receipt that comes next precedes the one just taken
heads_on : (seats : List (List Kept)) (read : List ℕ) (seat : ℕ) (kept : Kept) → seat < length read
    → head seats read seat ≡ Some kept
    → ((s : ℕ) (other : Kept) → s < length seats → head seats read s ≡ Some other
    → Precedes (rank_of other) (rank_of kept) → ⊥) → Rises 0 None (part_at seats seat) → (s : ℕ) (h : Kept)
    → Dec (seat ≡ s) → Dec (length seats ≤ s) → head seats (read_on read seat) s ≡ Some h
    → Precedes (rank_of h) (rank_of kept) → ⊥
heads_on seats read seat kept inside now least rises s h (yes same) past e p =
    let here : slice_index (read_on read seat) seat ≡ slice_index read seat + 1 =
    get_or-set_same read seat (slice_index read seat + 1) 0 inside in
    let e' : head seats (read_on read seat) seat ≡ Some h =
    subst (λ j. head seats (read_on read seat) j ≡ Some h) (sym same) e in
    let next : slice_get (part_at seats seat) (slice_index read seat + 1) ≡ Some h =
    subst (λ n. slice_get (part_at seats seat) n ≡ Some h) here e' in
    precedes_not_self (rank_of h)
    (precedes_trans (rank_of h) (rank_of kept) (rank_of h) p
    (rises_next 0 None (part_at seats seat) (slice_index read seat) kept h rises now next))
heads_on seats read seat kept inside now least rises s h (no other) (yes past) e p =
    let none : slice_get (part_at seats s) (slice_index (read_on read seat) s) ≡ None =
    ap (λ ks. slice_get ks (slice_index (read_on read seat) s)) (at_past seats s past) in
    absurd cc
heads_on seats read seat kept inside now least rises s h (no other) (no few) e p =
    let there : slice_index (read_on read seat) s ≡ slice_index read s =
    get_or-set_other read seat s (slice_index read seat + 1) 0 (λ e. other (sym e)) in
    least s h (omega arith) (subst (λ n. slice_get (part_at seats s) n ≡ Some h) there e) p

last_kept : (seats : List (List Kept)) (old : Taken) (seat : ℕ) (kept : Kept) (k : ℕ) (places : List ℕ)
    (numbers : List (Option ℕ)) (counts : List ℕ) (entries : ℕ) → seat < length old.read
    → Precedes old.last (rank_of kept)
    → slice_index places k ≡ slice_index old.places k → number_of numbers k ≡ number_of old.numbers k
    → LastIn seats old k
    → LastIn seats
    (record {
      last = rank_of kept;
      entries = entries;
      places = places;
      numbers = numbers;
      counts = counts;
      read = read_on old.read seat;
    }) k
last_kept seats old seat kept k places numbers counts entries inside follows p n (inl none) =
    inl (p ∙ none.0, n ∙ none.1)
last_kept seats old seat kept k places numbers counts entries inside follows p n (inr l) = inr (record {
  r = l.r;
  taken = taken_more seats old.read seat (Slot l.r) inside l.taken;
  slot = l.slot;
  place = l.place ∙ sym p;
  number = n ∙ l.number;
  upto = λ y f. precedes_trans (rank_of (Slot l.r)) (rank_of kept) y (l.upto (rank_of kept) follows) f;
})

last_slot : (seats : List (List Kept)) (old : Taken) (seat : ℕ) (r : SlotReceipt) (k : ℕ) → Sixteen old
    → seat < length old.read → r.slot < SLOTS → head seats old.read seat ≡ Some (Slot r)
    → Precedes old.last (rank_of (Slot r)) → Dec (r.slot ≡ k) → LastIn seats old k
    → LastIn seats (taken_command old seat r) k
last_slot seats old seat r k six inside slot here follows (yes same) l = inr (record {
  r = r;
  taken = taken_now seats old.read seat (Slot r) inside here;
  slot = same;
  place = sym
      (subst (λ j. slice_index (slice_set old.places r.slot r.place) j ≡ r.place) same
      (get_or-set_same old.places r.slot r.place 0 (let n = six.places in omega arith)));
  number = subst (λ j. number_of (slice_set old.numbers r.slot (Some r.number)) j ≡ Some r.number) same
      (get_or-set_same old.numbers r.slot (Some r.number) None (let n = six.numbers in omega arith));
  upto = λ y f. f;
})
last_slot seats old seat r k six inside slot here follows (no other) l =
    last_kept seats old seat (Slot r) k (slice_set old.places r.slot r.place)
    (slice_set old.numbers r.slot (Some r.number)) (slice_set old.counts r.slot (slice_index old.counts r.slot + 1))
    old.entries inside follows
    (get_or-set_other old.places r.slot k r.place 0 (λ e. other (sym e)))
    (get_or-set_other old.numbers r.slot k (Some r.number) None (λ e. other (sym e))) l

low_on : (places counts : List ℕ) (slot place k : ℕ) → slot < length places → slot < length counts
    → slice_index counts slot < place → Dec (slot ≡ k) → slice_index counts k ≤ slice_index places k
    → slice_index (slice_set counts slot (slice_index counts slot + 1)) k ≤ slice_index (slice_set places slot place) k
low_on places counts slot place k inside inside' h (yes same) low =
    let a : slice_index (set places slot place) slot ≡ place = get_or-set_same places slot place 0 inside in
    let b : slice_index (set counts slot (slice_index counts slot + 1)) slot ≡ slice_index counts slot + 1 =
    get_or-set_same counts slot (slice_index counts slot + 1) 0 inside' in
    subst (λ j. slice_index (slice_set counts slot (slice_index counts slot + 1)) j ≤ slice_index
    (slice_set places slot place) j) same (omega arith)
low_on places counts slot place k inside inside' h (no other) low =
    let a : slice_index (set places slot place) k ≡ slice_index places k =
    get_or-set_other places slot k place 0 (λ e. other (sym e)) in
    let b : slice_index (set counts slot (slice_index counts slot + 1)) k ≡ slice_index counts k =
    get_or-set_other counts slot k (slice_index counts slot + 1) 0 (λ e. other (sym e)) in
    omega arith

state_after : (policy : List Entry) (journals : List (List SlotEntry)) (seats : List (List Kept)) (seat : ℕ)
    (kept : Kept) (old : Taken) → State policy journals seats old → seat < SEATS
    → IsLeast seats old.read (length seats) seat kept → Rises 0 None (part_at seats seat)
    → IsThere policy journals kept → Precedes old.last (rank_of kept) → IsLined old kept
    → State policy journals seats (taken_after old seat kept)
state_after policy journals seats seat (Admin version entry) old st inside least rises there follows lined =
    let reads : seat < length old.read = (let l = st.six.read in omega arith) in
    record {
      six = record {
        places = st.six.places;
        numbers = st.six.numbers;
        counts = st.six.counts;
        read = length-set old.read seat (slice_index old.read seat + 1) ∙ st.six.read;
      };
      leads = λ events rest. leads_on policy journals seats seat
          (Admin version entry) old events st inside least.next there follows lined rest;
      last_in = inr (record {
        kept = Admin version entry;
        stands = refl;
        taken = taken_now seats old.read seat (Admin version entry) reads least.next;
        heads = λ s h here p. heads_on seats old.read seat (Admin version entry) reads least.next least.least rises s h
            (ℕ_discrete seat s) (dec_le (length seats) s) here p;
      });
      slots = λ k. last_kept seats old seat (Admin version entry) k old.places old.numbers old.counts
          (old.entries + 1) reads follows refl refl (st.slots k);
      low = st.low;
      room = λ v f. (let m : old.entries < version = st.room version follows in omega arith);
    }
state_after policy journals seats seat (Slot r) old st inside least rises there follows lined =
    let reads : seat < length old.read = (let l = st.six.read in omega arith) in
    record {
      six = record {
        places = length-set old.places r.slot r.place ∙ st.six.places;
        numbers = length-set old.numbers r.slot (Some r.number) ∙ st.six.numbers;
        counts = length-set old.counts r.slot (slice_index old.counts r.slot + 1) ∙ st.six.counts;
        read = length-set old.read seat (slice_index old.read seat + 1) ∙ st.six.read;
      };
      leads = λ events rest. leads_on policy journals seats seat
          (Slot r) old events st inside least.next there follows lined rest;
      last_in = inr (record {
        kept = Slot r;
        stands = refl;
        taken = taken_now seats old.read seat (Slot r) reads least.next;
        heads = λ s h here p. heads_on seats old.read seat (Slot r) reads least.next least.least rises s h
            (ℕ_discrete seat s) (dec_le (length seats) s) here p;
      });
      slots = λ k. last_slot seats old seat r k st.six reads there.0 least.next follows (ℕ_discrete r.slot k)
          (st.slots k);
      low = λ k. low_on old.places old.counts r.slot r.place k (let l = st.six.places in let b = there.0 in omega arith)
          (let l = st.six.counts in let b = there.0 in omega arith)
          (let a = st.low r.slot in let b = lined.0 in omega arith) (ℕ_discrete r.slot k) (st.low k);
      room = λ v f. st.room v (precedes_trans old.last (rank_of (Slot r)) (rank.Entry v) follows f);
    }

pub state_on : (policy : List Entry) (journals : List (List SlotEntry)) (seats : List (List Kept)) (seat : ℕ)
    (kept : Kept) (old new : Taken) → State policy journals seats old → seat < SEATS
    → IsLeast seats old.read (length seats) seat kept → Rises 0 None (part_at seats seat)
    → Takes policy journals seat kept old new → State policy journals seats new
state_on policy journals seats seat kept old new st inside least rises t =
    subst (State policy journals seats) (sym t.after)
    (state_after policy journals seats seat kept old st inside least rises t.there t.follows t.lined)

-- receipts of which none precedes the other clash
clash_tie : (a b : Kept) → (Precedes (rank_of a) (rank_of b) → ⊥) → (Precedes (rank_of b) (rank_of a) → ⊥) → Clash a b
clash_tie (Admin v d) (Admin w e) h k = omega arith
clash_tie (Admin v d) (Slot r) h k = absurd (omega arith)
clash_tie (Slot r) (Admin w e) h k = absurd (omega arith)
clash_tie (Slot r) (Slot q) h k =
    let version : r.version ≡ q.version =
    (let a : r.version < q.version → ⊥ = λ l. h (inl l) in let b : q.version < r.version
    → ⊥ = λ l. k (inl l) in omega arith) in
    let number : r.number ≡ q.number =
    (let a : r.number < q.number → ⊥ = λ l. h (inr (version, inl l)) in let b : q.number < r.number
    → ⊥ = λ l. k (inr (sym version, inl l)) in omega arith) in
    let slot : r.slot ≡ q.slot =
    (let a : r.slot < q.slot → ⊥ = λ l. h (inr (version, inr (number, l))) in let b : q.slot < r.slot
    → ⊥ = λ l. k (inr (sym version, inr (sym number, l))) in omega arith) in
    (slot, λ b. (let n = b.number in omega arith), λ b. (let n = b.number in omega arith))

another_place : (read : List ℕ) (seat keeper place : ℕ) → place < slice_index read keeper → Dec (keeper ≡ seat)
    → (keeper ≢ seat) ⊎ (place ≢ slice_index read seat)
another_place read seat keeper place h (no other) = inl other
another_place read seat keeper place h (yes same) = inr
    (λ e. (let m : place < slice_index read seat = subst (λ j. place < slice_index read j) same h in omega arith))

clashes_with : (seats : List (List Kept)) (read : List ℕ) (seat : ℕ) (kept other : Kept) → IsTaken seats read other
    → Clash other kept → Clashes seats seat (slice_index read seat) kept
clashes_with seats read seat kept other t c =
    record {
      keeper = t.keeper;
      place = t.place;
      other = other;
      here = t.here;
      another = another_place read seat t.keeper t.place t.before (ℕ_discrete t.keeper seat);
      clash = c;
    }

-- at the start each receipt that is there comes after the opening entries
after_opening : (policy : List Entry) (journals : List (List SlotEntry)) (kept : Kept) → IsThere policy journals kept
    → Precedes (rank.Entry OPENING_ENTRIES) (rank_of kept)
after_opening policy journals (Admin version entry) there = there.0
after_opening policy journals (Slot r) there = there.3

tie_fault : (policy : List Entry) (journals : List (List SlotEntry)) (seats : List (List Kept)) (seat : ℕ) (kept : Kept)
    (t : Taken) → IsThere policy journals kept → head seats t.read seat ≡ Some kept
    → (Precedes t.last (rank_of kept) → ⊥) → ((t.last ≡ rank.Entry OPENING_ENTRIES) ⊎ LastTaken seats t)
    → Clashes seats seat (slice_index t.read seat) kept
tie_fault policy journals seats seat kept t there here h (inl start) =
    absurd (h (subst (λ l. Precedes l (rank_of kept)) (sym start) (after_opening policy journals kept there)))
tie_fault policy journals seats seat kept t there here h (inr l) =
    clashes_with seats t.read seat kept l.kept l.taken
    (clash_tie l.kept kept (λ p. h (subst (λ x. Precedes x (rank_of kept)) l.stands p))
    (λ p. l.heads seat kept here (subst (λ x. Precedes (rank_of kept) x) l.stands p)))

line_fault : (policy : List Entry) (journals : List (List SlotEntry)) (seats : List (List Kept)) (seat : ℕ)
    (r : SlotReceipt) (t : Taken) → Precedes t.last (rank_of (Slot r)) → IsThere policy journals (Slot r)
    → (IsInLine t r → ⊥) → LastIn seats t r.slot → Clashes seats seat (slice_index t.read seat) (Slot r)
line_fault policy journals seats seat r t follows there h (inl none) =
    absurd (h ((let a = none.0 in let b = there.1 in omega arith), subst (λ n. IsOver n r.number) (sym none.1) tt))
line_fault policy journals seats seat r t follows there h (inr l) =
    clashes_with seats t.read seat (Slot r) (Slot l.r) l.taken (
      l.slot,
      (λ b. h (
        (let p = l.place in let q = b.place in omega arith),
        subst (λ n. IsOver n r.number) (sym l.number) b.number,
      )),
      λ b. precedes_not_self (rank_of (Slot r))
          (precedes_trans (rank_of (Slot r)) (rank_of (Slot l.r)) (rank_of (Slot r))
          (below b (dec_lt r.version l.r.version)) (l.upto (rank_of (Slot r)) follows)),
    )
  where
    below : IsBelow r l.r → Dec (r.version < l.r.version) → Precedes (rank_of (Slot r)) (rank_of (Slot l.r))
    below b (yes lower) = inl lower
    below b (no other) = inr ((let v = b.version in omega arith), inl b.number)

pub refused_fault : (policy : List Entry) (journals : List (List SlotEntry)) (seats : List (List Kept)) (seat : ℕ)
    (kept : Kept) (t : Taken) → State policy journals seats t → head seats t.read seat ≡ Some kept
    → Refuses policy journals kept t → IsFault policy journals seats seat (slice_index t.read seat) kept
refused_fault policy journals seats seat kept t st here (inl h) = inl h
refused_fault policy journals seats seat kept t st here (inr (inl h)) =
    inr (inr (tie_fault policy journals seats seat kept t h.0 here h.1 st.last_in))
refused_fault policy journals seats seat kept t st here (inr (inr h)) =
    inr (inr
    (subst (Clashes seats seat (slice_index t.read seat)) (sym h.1)
    (line_fault policy journals seats seat h.0 t h.3 h.2 h.4 (st.slots h.0.slot))))
