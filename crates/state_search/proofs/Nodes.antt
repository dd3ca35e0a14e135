-- Which node is where.
use Rattle.std.proofs.Common.{◌≡◌, ◌∙◌, ℕ, ◌<◌, ◌⊎◌, inl, inr, List, [], ◌∷◌, ◌++◌, length, get_or, sym, arith}
use Rattle.std.proofs.Common.{Option}
use Rattle.std.proofs.lemmas.Bool.{cases_lt}
use Rattle.std.proofs.lemmas.List.{get_or_append_left, get_or_push, length_push, get_or_default, length-append}
use Rattle.state_search.specs.Inner.Places.{Puts, had, comes}
use Rattle.state_search.specs.Table.{IsNodeAt, HasStateAt, Leads, nowhere, there}
use Rattle.state_search.specs.declared.found.Node.{Node}

module _ {S : Type 0} where
  pub is_stays : (nodes more : List (Node S)) (p : ℕ) (n : Node S) → IsNodeAt nodes p n → IsNodeAt (nodes ++ more) p n
  is_stays nodes more p n h = record {
    within = let w = h.within in omega (arith, length-append nodes more);
    is = λ d. get_or_append_left nodes more d p h.within ∙ h.is d;
  }

  pub is_last : (nodes : List (Node S)) (n : Node S) (p : ℕ) → p ≡ length nodes → IsNodeAt (nodes ++ n ∷ []) p n
  is_last nodes n p e = record {
    within = omega (arith, e, length_push nodes n);
    is = λ d. get_or_push nodes n d p (sym e);
  }

  pub is_one : (nodes : List (Node S)) (p : ℕ) (m n : Node S) → IsNodeAt nodes p m → IsNodeAt nodes p n → m ≡ n
  is_one nodes p m n a b = sym (a.is m) ∙ b.is m

  pub is_there : (nodes : List (Node S)) (p : ℕ) (d : Node S) → p < length nodes → IsNodeAt nodes p (get_or nodes p d)
  is_there nodes p d h = record { within = h; is = λ e. get_or_default nodes p e d h }

  pub is_old : (nodes more : List (Node S)) (p : ℕ) (n : Node S) → p < length nodes → IsNodeAt (nodes ++ more) p n
      → IsNodeAt nodes
      p n
  is_old nodes more p n h i = record {
    within = h;
    is = λ d. sym (get_or_append_left nodes more d p h) ∙ i.is d;
  }

  pub is_cases : (nodes : List (Node S)) (n : Node S) (p : ℕ) (m : Node S) → IsNodeAt (nodes ++ n ∷ []) p m
      → IsNodeAt nodes p m ⊎ ((p ≡ length nodes) × (m ≡ n))
  is_cases nodes n p m h = elim (cases_lt p (length nodes)) [
    | inl lt ↦ inl (is_old nodes (n ∷ []) p m lt h)
    | inr ge ↦
        let last : p ≡ length nodes = let w = h.within in omega (arith, length_push nodes n) in
        inr (last, is_one (nodes ++ n ∷ []) p m n h (is_last nodes n p last))
  ]

  pub at_stays : (nodes more : List (Node S)) (p : ℕ) (x : S) → HasStateAt nodes p x → HasStateAt (nodes ++ more) p x
  at_stays nodes more p x h = record { node = h.node; is = is_stays nodes more p h.node h.is; state = h.state }

  pub leads_stays : (nodes more : List (Node S)) (most : ℕ) (p : Option ℕ) (x : Option S) → Leads nodes most p x
      → Leads (nodes ++ more) most p x
  leads_stays nodes more most p x nowhere = nowhere
  leads_stays nodes more most p x (there q n is few) = there q n (is_stays nodes more q n is) few

  pub is_read : (nodes : List (Node S)) (p : ℕ) (n : Node S) → p < length nodes → n ≡ get_or nodes p n
      → IsNodeAt nodes p n
  is_read nodes p n h e = record { within = h; is = λ d. get_or_default nodes p d n h ∙ sym e }

  -- the first node
  pub puts_first : (first : Node S) (p : ℕ) (nodes : List (Node S)) → Puts [] first p nodes → nodes ≡ first ∷ []
  puts_first first p nodes (had a e) = absurd (let w = a.is.within in omega arith)
  puts_first first p nodes (comes f i e) = e
