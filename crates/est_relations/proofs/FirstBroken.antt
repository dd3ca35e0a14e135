-- The first relation that does not hold.
use Rattle.std.proofs.Common.{◌≡◌, ◌∙◌, ◌≤◌, ◌<◌, ℕ, zero, suc, ◌+◌, ◌^◌, Bool, true, false, not, ◌&&◌, ◌||◌, nat_eq}
use Rattle.std.proofs.Common.{nat_lt, cond, List, [], ◌∷◌, length, take, get_or, Option, None, refl, sym, ap, arith}
use Rattle.std.proofs.Common.{option_map}
use Rattle.std.specs.Prelude.{Some, position, MatchOption}
use Rattle.std.specs.List.{find, list_any, list_all, position_or_len}
use Rattle.std.proofs.lemmas.Bool.{false≢true, or_right}
use Rattle.std.proofs.lemmas.Bool.Decides.{nat_tests}
use Rattle.std.proofs.lemmas.List.Sums.{position_or_len_is}
use Rattle.std.proofs.lemmas.Option.{slice_get-get_or}
use Rattle.est_kernel.specs.Bits.{bits}
use Rattle.est_kernel.specs.declared.statement.InterfaceSignal.{InterfaceSignal}
use Rattle.est_kernel.proofs.Masks.{bits_or, bits_pow}
use Rattle.est_relations.specs.Inner.Violations.{Excludes, Lacks}
use Rattle.est_relations.specs.Keeping.{has_one_at_most, has_implied, keeps, keeps_exclusion}
use Rattle.est_relations.specs.Offers.{with_place, IsFirstBroken, IsFirstLacking}
use Rattle.est_relations.specs.declared.relations.Relation.{Relation}
use Rattle.est_relations.specs.declared.relations.Relation.TheVariants.{Exclusion}
use Rattle.est_relations.proofs.Members.{one_beside, one_alone, not_two}

-- the mask with one more bit
pub with_bits : (mask place n : ℕ) → bits (with_place mask place) n ≡ (bits mask n || nat_eq place n)
with_bits mask place n = bits_or mask (2 ^ place) n ∙ ap (λ b. bits mask n || b) (bits_pow place n)

-- ---- one relation

-- a signal that is no member may come
pub no_member : (members : List ℕ) (mask place : ℕ) → list_any (nat_eq place) members ≡ false
    → has_one_at_most (bits mask) members ≡ true → has_one_at_most (bits (with_place mask place)) members ≡ true
no_member members mask place out kept =
    one_beside (bits mask) (bits (with_place mask place)) members place (with_bits mask place) out kept

-- a member may come exactly where no member is pending
pub member : (members : List ℕ) (mask place : ℕ) (o : Option InterfaceSignal)
    → list_any (nat_eq place) members ≡ true → bits mask place ≡ false
    → option_map {T = InterfaceSignal} {U = ℕ} (λ s. s.index) o ≡ find (bits mask) members
    → MatchOption o (has_one_at_most (bits (with_place mask place)) members ≡ true)
    (λ m. Excludes (Exclusion members) mask place m.index)
member members mask place None in_it new found =
    one_alone (bits mask) (bits (with_place mask place)) members place (with_bits mask place) (sym found)
member members mask place (Some m) in_it new found = record {
  broken = not_two (bits mask) (bits (with_place mask place)) members place m.index (with_bits mask place) new in_it
      (sym found);
  members = members;
  is = refl;
  pending = sym found;
}

pub implied_missing : (present : ℕ → Bool) (a b : ℕ) → present a ≡ true → present b ≡ false
    → has_implied present a b ≡ false
unfolding has_implied
implied_missing present a b p q = rw (p, q) refl

pub implied_there : (present : ℕ → Bool) (a b : ℕ) → present b ≡ true → has_implied present a b ≡ true
unfolding has_implied
implied_there present a b h = or_right (not (present a)) (present b) h

pub not_asked : (present : ℕ → Bool) (a b : ℕ) → present a ≡ false → has_implied present a b ≡ true
unfolding has_implied
not_asked present a b h = rw h refl

-- ---- the first relation

pub kept_at : {X : Type 0} (keep : X → Bool) (xs : List X) (n k : ℕ) (d : X) → n ≤ length xs → k < n
    → list_all keep (take n xs) ≡ true → keep (get_or xs k d) ≡ true
kept_at keep [] n k d few lt h = absurd (omega (arith, few, lt))
kept_at keep (x ∷ xs) zero k d few lt h = absurd (omega (arith, lt))
kept_at keep (x ∷ xs) (suc n) zero d few lt h = both (keep x) (list_all keep (take n xs)) h where
  both : (a b : Bool) → (a && b) ≡ true → a ≡ true
  both true b h = refl
  both false b h = h
kept_at keep (x ∷ xs) (suc n) (suc k) d few lt h =
    kept_at keep xs n k d (omega (arith, few)) (omega (arith, lt)) (both (keep x) (list_all keep (take n xs)) h) where
      both : (a b : Bool) → (a && b) ≡ true → b ≡ true
      both true b h = h
      both false b h = absurd (false≢true h)

-- the first place at which a test fails
pub first_at : {X : Type 0} (keep : X → Bool) (xs : List X) (n : ℕ) (d : X) → n < length xs
    → list_all keep (take n xs) ≡ true → keep (get_or xs n d) ≡ false
    → position (λ x. not (keep x)) xs ≡ Some n
first_at keep xs n d lt h f =
    let is : position_or_len (λ x. not (keep x)) xs ≡ n =
    position_or_len_is (λ x. not (keep x)) xs n d (omega (arith, lt))
    (λ k l. ap not (kept_at keep xs n k d (omega (arith, lt)) l h)) (λ l. ap not f) in
    rw is (within n (length xs) lt) where
      within : (n l : ℕ) → n < l → cond (nat_lt n l) (Some n) None ≡ Some n
      within n l h = grind (arith, nat_tests)

-- the first exclusion that would not hold
pub first_broken_exclusion : (rs : List Relation) (mask place n m : ℕ) (r : Relation) → n < length rs
    → r ≡ get_or rs n r
    → list_all (keeps_exclusion (bits (with_place mask place))) (take n rs) ≡ true → Excludes r mask place m
    → IsFirstBroken rs mask place (n + 1) m
first_broken_exclusion rs mask place n m r lt at before e = record {
  index = n;
  numbered = refl;
  first = first_at (keeps_exclusion (bits (with_place mask place))) rs n r lt before
      (ap (keeps_exclusion (bits (with_place mask place))) (sym at) ∙ e.broken);
  members = e.members;
  is = slice_get-get_or rs n r lt ∙ ap Some (sym at ∙ e.is);
  pending = e.pending;
}

-- the first relation that does not hold
pub first_broken_implication : (rs : List Relation) (mask n : ℕ) (m : InterfaceSignal) (r : Relation) → n < length rs
    → r ≡ get_or rs n r
    → list_all (keeps (bits mask)) (take n rs) ≡ true → Lacks r mask m
    → IsFirstLacking rs mask (n + 1) m.index
first_broken_implication rs mask n m r lt at before l = record {
  index = n;
  numbered = refl;
  first = first_at (keeps (bits mask)) rs n r lt before (ap (keeps (bits mask)) (sym at) ∙ l.broken);
  condition = l.condition;
  missing = m;
  is = slice_get-get_or rs n r lt ∙ ap Some (sym at ∙ l.is);
  place = refl;
}
