-- Receipts that are there, in order and as many as the entries are those of one list.
use Rattle.std.proofs.Common.{◌≡◌, ℕ, zero, suc, ◌+◌, ◌-◌, ◌<◌, ◌≤◌, List, [], ◌∷◌, length, drop, sym, ap, ◌∙◌, subst}
use Rattle.std.proofs.Common.{Some, arith}
use Rattle.std.specs.Prelude.{Option, slice_get}
use Rattle.std.proofs.Math.ListN.{drop_of_length-le}
use Rattle.std.proofs.lemmas.Option.{slice_get_within}
use Rattle.rbac_policy.specs.declared.commands.Entry.{Entry}
use Rattle.reactor_core.specs.declared.entry.SlotEntry.{SlotEntry}
use Rattle.history_receipts.specs.declared.receipt.SlotReceipt.{SlotReceipt}
use Rattle.history_receipts.specs.declared.receipt.Kept.TheVariants.{Slot}
use Rattle.history_merge.specs.declared.order.Rank.{Rank}
use Rattle.history_merge.specs.declared.order.Rank.TheVariants as rank
use Rattle.history_merge.specs.ToldCalls.{ToldCall, Publishes, Commands, kept_of, of_policy}
use Rattle.history_merge.specs.Order.{rank_of, version_at, Precedes, IsOver, InOrder}
use Rattle.history_merge.specs.OneList.{Tell, Tells}
use Rattle.history_merge.specs.Mismatches.{IsThere}

pub drop_get : {A : Type 0} (n : ℕ) (xs : List A) (x : A) → slice_get xs n ≡ Some x → drop n xs ≡ x ∷ drop (n + 1) xs
drop_get n [] x h = absurd cc
drop_get zero (y ∷ xs) x h = ap (λ z. z ∷ xs) (cc (h))
drop_get (suc n) (y ∷ xs) x h = let e : suc n + 1 ≡ suc (n + 1) = omega arith in rw e (drop_get n xs x h)

-- each receipt precedes the next one
abbrev pub Sorted : Rank → List ToldCall → Type 0
Sorted last [] = Unit {0}
Sorted last (e ∷ es) = Precedes last (rank_of (kept_of e)) × Sorted (rank_of (kept_of e)) es

-- each receipt is there
abbrev pub AreThere : List Entry → List (List SlotEntry) → List ToldCall → Type 0
AreThere policy journals [] = Unit {0}
AreThere policy journals (e ∷ es) = IsThere policy journals (kept_of e) × AreThere policy journals es

-- places and numbers rise, and each receipt tells the entry of its place
abbrev pub Chain : List SlotEntry → ℕ → Option ℕ → List SlotReceipt → Type 0
Chain journal place number [] = Unit {0}
Chain journal place number (r ∷ rs) = (place < r.place) × IsOver number r.number
    × ((entry : SlotEntry) × (slice_get journal (r.place - 1) ≡ Some entry) × Tells r entry)
    × Chain journal r.place (Some r.number) rs

chain_fits : (journal : List SlotEntry) (place : ℕ) (number : Option ℕ) (rs : List SlotReceipt) → place ≤ length journal
    → Chain journal place number rs → place + length rs ≤ length journal
chain_fits journal place number [] h c = omega arith
chain_fits journal place number (r ∷ rs) h c =
    let a : r.place - 1 < length journal = slice_get_within journal (r.place - 1) c.2.0 c.2.1 in
    let low = c.0 in
    let b : r.place + length rs ≤ length journal = chain_fits journal r.place (Some r.number) rs (omega arith) c.3 in
    omega arith

-- as many receipts as entries: each has the next place
pub chain_tells : (journal : List SlotEntry) (place : ℕ) (number : Option ℕ) (rs : List SlotReceipt)
    → place + length rs ≡ length journal → Chain journal place number rs → Tell place number rs (drop place journal)
chain_tells journal place number [] n c = subst (λ es. Tell place number [] es)
    (sym (drop_of_length-le journal {i = place} (omega arith))) tt
chain_tells journal place number (r ∷ rs) n c =
    let a : r.place - 1 < length journal = slice_get_within journal (r.place - 1) c.2.0 c.2.1 in
    let low = c.0 in
    let b : r.place + length rs ≤ length journal = chain_fits journal r.place (Some r.number) rs (omega arith) c.3 in
    let next : r.place ≡ place + 1 = omega arith in
    let before : r.place - 1 ≡ place = omega arith in
    let here : slice_get journal place ≡ Some c.2.0 = subst (λ p. slice_get journal p ≡ Some c.2.0) before c.2.1 in
    let rest : Tell (place + 1) (Some r.number) rs (drop (place + 1) journal) =
    subst (λ p. Tell p (Some r.number) rs (drop p journal)) next
    (chain_tells journal r.place (Some r.number) rs (omega arith) c.3) in
    subst (λ es. Tell place number (r ∷ rs) es) (sym (drop_get place journal c.2.0 here)) (next, c.2.2, c.1, rest)

rises_to_entry : (last : Rank) (version : ℕ) → Precedes last (rank.Entry version) → version_at last < version
rises_to_entry (rank.Entry v) version f = f
rises_to_entry (rank.Command v n s) version f = f

rises_to_command : (last : Rank) (version number slot : ℕ) → Precedes last (rank.Command version number slot)
    → version_at last ≤ version
rises_to_command (rank.Entry v) version number slot f = f
rises_to_command (rank.Command v n s) version number slot f = grind arith

entries_fit : (policy : List Entry) (journals : List (List SlotEntry)) (last : Rank) (es : List ToldCall)
    → version_at last ≤ length policy → Sorted last es → AreThere policy journals es
    → version_at last + length (of_policy es) ≤ length policy
entries_fit policy journals last [] h s t = omega arith
entries_fit policy journals last (Publishes seat version entry ∷ es) h s t =
    let a : version - 1 < length policy = slice_get_within policy (version - 1) entry t.0.1 in
    let four = t.0.0 in
    let low : version_at last < version = rises_to_entry last version s.0 in
    let b : version + length (of_policy es) ≤ length policy =
    entries_fit policy journals (rank.Entry version) es (omega arith) s.1 t.1 in
    omega arith
entries_fit policy journals last (Commands seat r ∷ es) h s t =
    let low : version_at last ≤ r.version = rises_to_command last r.version r.number r.slot s.0 in
    let high = t.0.4 in
    let b : r.version + length (of_policy es) ≤ length policy =
    entries_fit policy journals (rank_of (Slot r)) es high s.1 t.1 in
    omega arith

pub record Ordered (policy : List Entry) (last : Rank) (es : List ToldCall) : Type 0 where
  pub published : of_policy es ≡ drop (version_at last) policy
  pub order : InOrder last es

-- as many policy receipts as entries: each has the next version, and each slot command comes in its version
pub are_ordered : (policy : List Entry) (journals : List (List SlotEntry)) (last : Rank) (es : List ToldCall)
    → version_at last + length (of_policy es) ≡ length policy → Sorted last es → AreThere policy journals es
    → Ordered policy last es
are_ordered policy journals last [] n s t =
    record { published = sym (drop_of_length-le policy {i = version_at last} (omega arith)); order = tt }
are_ordered policy journals last (Publishes seat version entry ∷ es) n s t =
    let a : version - 1 < length policy = slice_get_within policy (version - 1) entry t.0.1 in
    let four = t.0.0 in
    let low : version_at last < version = rises_to_entry last version s.0 in
    let b : version + length (of_policy es) ≤ length policy =
    entries_fit policy journals (rank.Entry version) es (omega arith) s.1 t.1 in
    let next : version ≡ version_at last + 1 = omega arith in
    let before : version - 1 ≡ version_at last = omega arith in
    let rest = are_ordered policy journals (rank.Entry version) es (omega arith) s.1 t.1 in
    let here : slice_get policy (version_at last) ≡ Some entry =
    subst (λ p. slice_get policy p ≡ Some entry) before t.0.1 in
    record {
      published = ap (λ xs. entry ∷ xs) (rest.published ∙ ap (λ p. drop p policy) next)
          ∙ sym (drop_get (version_at last) policy entry here);
      order = (next, s.0, rest.order);
    }
are_ordered policy journals last (Commands seat r ∷ es) n s t =
    let low : version_at last ≤ r.version = rises_to_command last r.version r.number r.slot s.0 in
    let high = t.0.4 in
    let b : r.version + length (of_policy es) ≤ length policy =
    entries_fit policy journals (rank_of (Slot r)) es high s.1 t.1 in
    let same : r.version ≡ version_at last = omega arith in
    let rest = are_ordered policy journals (rank_of (Slot r)) es (omega arith) s.1 t.1 in
    record {
      published = rest.published ∙ ap (λ p. drop p policy) same;
      order = (same, s.0, rest.order);
    }
