-- The least of the next receipts.
use Rattle.std.proofs.Common.{◌≡◌, inl, inr, ℕ, zero, suc, ◌+◌, ◌<◌, List, [], ◌∷◌, length, get_or, refl, sym, subst}
use Rattle.std.proofs.Common.{Some, None, arith}
use Rattle.std.specs.Prelude.{Option, option_map}
use native.Mathlib.Decide.{dec_lt}
use Rattle.history_receipts.specs.declared.receipt.Kept.{Kept}
use Rattle.history_merge.specs.declared.order.Rank.{Rank}
use Rattle.history_merge.specs.declared.order.Rank.TheVariants.{Entry, Command}
use Rattle.history_merge.specs.Order.{part_at, rank_of, Precedes}
use Rattle.history_merge.specs.Inner.Taking.{head, IsLeast, LeastOf, Lesser}

pub precedes_trans : (a b c : Rank) → Precedes a b → Precedes b c → Precedes a c
precedes_trans (Entry u) (Entry v) (Entry w) h k = omega arith
precedes_trans (Entry u) (Entry v) (Command w n s) h k = omega arith
precedes_trans (Entry u) (Command v m t) (Entry w) h k = omega arith
precedes_trans (Entry u) (Command v m t) (Command w n s) h k = grind arith
precedes_trans (Command u l r) (Entry v) (Entry w) h k = omega arith
precedes_trans (Command u l r) (Entry v) (Command w n s) h k = grind arith
precedes_trans (Command u l r) (Command v m t) (Entry w) h k = grind arith
precedes_trans (Command u l r) (Command v m t) (Command w n s) h k = grind arith

pub precedes_not_self : (a : Rank) → Precedes a a → ⊥
precedes_not_self (Entry v) h = omega arith
precedes_not_self (Command v n s) h = grind arith

-- what is below n + 1 is below n, or n
pub below_next : (P : ℕ → Type 0) (n : ℕ) → ((s : ℕ) → s < n → P s) → P n → (s : ℕ) → s < n + 1 → P s
below_next P n h here s b = by (dec_lt s n)
  where
    by : Dec (s < n) → P s
    by (yes lower) = h s lower
    by (no other) = let e : n ≡ s = omega arith in subst P e here

-- one seat more: of the next receipts the least stays, or the next one of that seat is it
least_stays : (seats : List (List Kept)) (read : List ℕ) (n seat : ℕ) (kept : Kept)
    → ((o : Kept) → head seats read n ≡ Some o → Precedes (rank_of o) (rank_of kept) → ⊥)
    → IsLeast seats read n seat kept → IsLeast seats read (n + 1) seat kept
least_stays seats read n seat kept h i = record {
  inside = (let b = i.inside in omega arith);
  next = i.next;
  least = λ s other b e. below_next (λ t. (o : Kept) → head seats read t ≡ Some o → Precedes (rank_of o) (rank_of kept)
      → ⊥) n (λ t c o. i.least t o c) h s b other e;
}

least_is : (seats : List (List Kept)) (read : List ℕ) (n : ℕ) (kept : Kept) → head seats read n ≡ Some kept
    → ((s : ℕ) (o : Kept) → s < n → head seats read s ≡ Some o → Precedes (rank_of o) (rank_of kept) → ⊥)
    → IsLeast seats read (n + 1) n kept
least_is seats read n kept h l = record {
  inside = omega arith;
  next = h;
  least = λ s other b e. below_next (λ t. (o : Kept) → head seats read t ≡ Some o → Precedes (rank_of o) (rank_of kept)
      → ⊥) n (λ t c o. l t o c)
      (λ o e' q. (let same : o ≡ kept = cc in precedes_not_self (rank_of kept)
      (subst (λ x. Precedes (rank_of x) (rank_of kept)) same q))) s b other e;
}

pub lesser_keeps : (seats : List (List Kept)) (read : List ℕ) (n : ℕ) (least : Option (ℕ × Rank)) (next : Option Kept)
    (result : Option (ℕ × Rank)) → head seats read n ≡ next → Lesser least n (option_map rank_of next) result
    → LeastOf seats read n least → LeastOf seats read (n + 1) result
lesser_keeps seats read n None None result h l i = subst (LeastOf seats read (n + 1)) (sym l)
    (below_next (λ t. head seats read t ≡ None) n i h)
lesser_keeps seats read n (Some p) None result h l i = subst (LeastOf seats read (n + 1)) (sym l) (record {
  kept = i.kept;
  stands = i.stands;
  is = least_stays seats read n p.0 i.kept (λ o e. absurd cc) i.is;
})
lesser_keeps seats read n None (Some k) result h l i = subst (LeastOf seats read (n + 1)) (sym l) (record {
  kept = k;
  stands = refl;
  is = least_is seats read n k h (λ s o b e. (let none = i s b in absurd cc));
})
lesser_keeps seats read n (Some p) (Some k) result h (inl l) i = subst (LeastOf seats read (n + 1)) (sym l.0) (record {
  kept = k;
  stands = refl;
  is = least_is seats read n k h
      (λ s o b e q. i.is.least s o b e
      (precedes_trans (rank_of o) (rank_of k) (rank_of i.kept) q (subst (Precedes (rank_of k)) (sym i.stands) l.1)));
})
lesser_keeps seats read n (Some p) (Some k) result h (inr l) i = subst (LeastOf seats read (n + 1)) (sym l.0) (record {
  kept = i.kept;
  stands = i.stands;
  is = least_stays seats read n p.0 i.kept
      (λ o e q. (let same : o ≡ k = cc in
      l.1 (subst (Precedes (rank_of k)) i.stands (subst (λ x. Precedes (rank_of x) (rank_of i.kept)) same q)))) i.is;
})

pub part_is : {A : Type 0} (xss : List (List A)) (i : ℕ) (xs : List A) → i < length xss → xs ≡ get_or xss i xs
    → part_at xss i ≡ xs
part_is [] i xs h e = absurd (omega arith)
part_is (x ∷ xss) zero xs h e = sym e
part_is (x ∷ xss) (suc i) xs h e = part_is xss i xs (omega arith) e
