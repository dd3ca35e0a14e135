-- Beginnings of lists.
use Rattle.std.proofs.Common.{◌≡◌, ◌≤◌, List, [], ◌∷◌, ◌++◌, length, refl, sym, ap, ◌∙◌, arith, append_assoc}
use Rattle.std.proofs.Common.{append-nil, length-append}
use mathlib.Core.List.{IsPrefix}
use Rattle.rbac_admin.specs.PolicyLists.{Begins}

module _ {A : Type 0} where
  pub as_begins : (xs ys : List A) → IsPrefix xs ys → Begins xs ys
  as_begins xs ys p = record { rest = p.0; is = p.1 }

  -- a list begins itself
  pub begins_self : (xs : List A) → Begins xs xs
  begins_self xs = record { rest = []; is = append-nil xs }

  -- what begins a beginning begins the whole
  pub begins_trans : {xs ys zs : List A} → Begins xs ys → Begins ys zs → Begins xs zs
  begins_trans {xs} b c = record {
    rest = b.rest ++ c.rest;
    is = sym (append_assoc xs b.rest c.rest) ∙ (ap (λ l. l ++ c.rest) b.is ∙ c.is);
  }

  -- a list begins the list with one more
  pub begins_push : (xs : List A) (x : A) → Begins xs (xs ++ x ∷ [])
  begins_push xs x = record { rest = x ∷ []; is = refl }

  -- a beginning is no longer than the whole
  pub begins_length : {xs ys : List A} → Begins xs ys → length xs ≤ length ys
  begins_length {xs} b = let n = ap length b.is in omega (arith, n, length-append xs b.rest)

  tail_of : (x y : A) (xs ys : List A) → x ∷ xs ≡ y ∷ ys → (x ≡ y) × (xs ≡ ys)
  tail_of x y xs ys e = (cc (e), cc (e))

  shorter : (xs ys p q all : List A) → xs ++ p ≡ all → ys ++ q ≡ all → length xs ≤ length ys → Begins xs ys
  shorter [] ys p q all a b le = record { rest = ys; is = refl }
  shorter (x ∷ xs) [] p q all a b le = absurd (omega arith)
  shorter (x ∷ xs) (y ∷ ys) p q [] a b le = absurd (cc (a))
  shorter (x ∷ xs) (y ∷ ys) p q (z ∷ all) a b le =
      let s = tail_of x z (xs ++ p) all a in
      let t = tail_of y z (ys ++ q) all b in
      let later = shorter xs ys p q all s.1 t.1 (omega arith) in
      record { rest = later.rest; is = λ i. (s.0 ∙ sym t.0) i ∷ later.is i }

  -- of two beginnings of one list the shorter begins the longer
  pub begins_shorter : (xs ys all : List A) → Begins xs all → Begins ys all → length xs ≤ length ys → Begins xs ys
  begins_shorter xs ys all b c le = shorter xs ys b.rest c.rest all b.is c.is le

  none_left : (xs p : List A) → length (xs ++ p) ≤ length xs → xs ≡ xs ++ p
  none_left xs [] le = sym (append-nil xs)
  none_left xs (x ∷ p) le = absurd (omega (arith, le, length-append xs (x ∷ p)))

  -- a beginning that is no shorter is the whole
  pub begins_whole : (xs ys : List A) → Begins xs ys → length ys ≤ length xs → xs ≡ ys
  begins_whole xs ys b le = none_left xs b.rest (omega (arith, le, ap length b.is)) ∙ b.is
