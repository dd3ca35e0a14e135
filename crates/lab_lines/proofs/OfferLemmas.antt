-- Names of signals that may be offered, a name at a time.
use Rattle.std.proofs.Common.{◌≡◌, ◌∙◌, ℕ, zero, suc, ◌+◌, ◌<◌, Bool, true, false, ◌||◌, List, [], ◌∷◌, ◌++◌, Bor}
use Rattle.std.proofs.Common.{ap, drop, get_or, length, map, refl, subst, sym, take, arith}
use Rattle.std.specs.List.{list_any}
use Rattle.std.proofs.lemmas.List.{map-append, take_more}
use Rattle.std.proofs.lemmas.List.Elements.{All-push}
use Rattle.std.proofs.lemmas.List.Folds.{list_any-append}
use Rattle.est_kernel.specs.Bits.{bits}
use Rattle.est_kernel.specs.declared.interface.Declaration.{Declaration}
use Rattle.est_relations.specs.declared.refusal.PendingRefusal.{PendingRefusal}
use Rattle.lab_lines.specs.Offers.{AreNamed, FirstNotOfferable, IsNotOfferable, IsOfferable, has_name}

-- the texts of a list, cut at a place
pub cut_at : (xs : List (Bor (List ℕ))) (i : ℕ) (x : Bor (List ℕ)) → i < length xs
    → map (λ t. t.now) xs ≡ map (λ t. t.now) (take i xs) ++ (get_or xs i x).now ∷ map (λ t. t.now) (drop (suc i) xs)
cut_at [] i x within = absurd (omega arith)
cut_at (y ∷ xs) zero x within = refl
cut_at (y ∷ xs) (suc i) x within = ap (λ (ts : List (List ℕ)). y.now ∷ ts) (cut_at xs i x (omega arith))

-- the texts up to the next one
taken_texts : (xs : List (Bor (List ℕ))) (i : ℕ) (x : Bor (List ℕ)) → i < length xs
    → map (λ t. t.now) (take (i + 1) xs) ≡ map (λ t. t.now) (take i xs) ++ (get_or xs i x).now ∷ []
taken_texts xs i x within =
    ap (λ (ys : List (Bor (List ℕ))). map (λ t. t.now) ys) (take_more xs i x within)
    ∙ map-append (λ (t : Bor (List ℕ)). t.now) (take i xs) (get_or xs i x ∷ [])

or_one_more : (a b : Bool) → (a || b) ≡ (a || (b || false))
or_one_more a true = refl
or_one_more a false = refl

-- one name more
named_more : (interface : List Declaration) (names : List (List ℕ)) (name : List ℕ) (old one new : ℕ)
    → AreNamed interface names old → IsOfferable interface name → ((n : ℕ) → bits one n ≡ has_name interface n name)
    → ((n : ℕ) → bits new n ≡ (bits old n || bits one n)) → AreNamed interface (names ++ name ∷ []) new
named_more interface names name old one new are may is more = record {
  offered = All-push (IsOfferable interface) names name are.offered may;
  only = λ n. more n ∙ ap (λ (b : Bool). b || bits one n) (are.only n)
      ∙ ap (λ (b : Bool). list_any (has_name interface n) names || b) (is n)
      ∙ or_one_more (list_any (has_name interface n) names) (has_name interface n name)
      ∙ sym (list_any-append (has_name interface n) names (name ∷ []));
}

pub named_next : (interface : List Declaration) (xs : List (Bor (List ℕ))) (i : ℕ) (x : Bor (List ℕ))
    (old one new : ℕ) → i < length xs → AreNamed interface (map (λ t. t.now) (take i xs)) old
    → IsOfferable interface (get_or xs i x).now → ((n : ℕ) → bits one n ≡ has_name interface n (get_or xs i x).now)
    → ((n : ℕ) → bits new n ≡ (bits old n || bits one n))
    → AreNamed interface (map (λ t. t.now) (take (i + 1) xs)) new
named_next interface xs i x old one new within are may is more =
    subst (λ (ts : List (List ℕ)). AreNamed interface ts new) (sym (taken_texts xs i x within))
    (named_more interface (map (λ t. t.now) (take i xs)) (get_or xs i x).now old one new are may is more)

-- the names so far may be offered, and the next may not
pub first_not_offered : (interface : List Declaration) (xs : List (Bor (List ℕ))) (i : ℕ) (x : Bor (List ℕ))
    (signals : ℕ) (fault : PendingRefusal) → i < length xs → AreNamed interface (map (λ t. t.now) (take i xs)) signals
    → IsNotOfferable interface (get_or xs i x).now fault → FirstNotOfferable interface (map (λ t. t.now) xs) fault
first_not_offered interface xs i x signals fault within are why = record {
  earlier = map (λ t. t.now) (take i xs);
  name = (get_or xs i x).now;
  later = map (λ t. t.now) (drop (suc i) xs);
  cut = cut_at xs i x within;
  offered = are.offered;
  why = why;
}
