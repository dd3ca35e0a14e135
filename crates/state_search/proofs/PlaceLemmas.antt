-- The places of states.
use Rattle.std.proofs.Common.{◌≡◌, ◌≢◌, ◌∙◌, ℕ, ◌≤◌, ◌+◌, Bool, true, false, nat_eq, cond, inl, inr, subst, List, []}
use Rattle.std.proofs.Common.{◌∷◌, ◌++◌, length, sym, ap, arith, refl, Option, Some, None}
use Rattle.std.proofs.lemmas.Bool.{cases_Bool, cases_lt, eqb-true, eqb-false, false≢true}
use Rattle.std.specs.List.{All}
use Rattle.std.proofs.lemmas.List.{get_or_append_left, get_or_push, length_push}
use Rattle.std.specs.HashMap.{get}
use Rattle.state_search.specs.Inner.Numbers.{count_to, IsLastOf, IsSought, NoneHas, number_of}
use Rattle.state_search.specs.Inner.Places.{IsPlaced}
use Rattle.state_search.specs.Table.{IsNodeAt}
use Rattle.state_search.specs.declared.found.Node.{Node}
use Rattle.state_search.specs.declared.places.Places.{Places}
use Rattle.state_search.proofs.Nodes.{is_cases, is_last, is_old, is_one, is_stays, is_there}

-- a node whose state does not compare alike is of another
pub not_here : {S : Type 0} (eq : S → S → Bool) → ((x : S) → eq x x ≡ true) → (m n : Node S) (x : S) (b : Bool) → m ≡ n
    → b ≡ eq n.state x → b ≡ false → m.state ≢ x
not_here {S} eq same m n x b e is f alike = false≢true (sym f ∙ (is ∙ subst (λ (y : S). eq n.state y ≡ true)
    (sym (ap (λ (k : Node S). k.state) e) ∙ alike) (same n.state)))

module _ {S : Type 0} (number : S → ℕ) where
  -- what stands before a place stays
  pub last_stays : (nodes more : List (Node S)) (most k : ℕ) → most ≤ length nodes → (r : Option ℕ)
      → IsLastOf number nodes most k r → IsLastOf number (nodes ++ more) most k r
  last_stays nodes more most k within None h =
      λ p n least less is. h p n least less (is_old nodes more p n (omega arith) is)
  last_stays nodes more most k within (Some q) h = (
    h.0,
    record {
      node = h.1.node;
      is = is_stays nodes more q h.1.node h.1.is;
      number_is = h.1.number_is;
    },
    λ p n least less is. h.2 p n least less (is_old nodes more p n (omega arith) is),
  )

  -- a node of another number comes at the end
  pub other_comes : (nodes : List (Node S)) (m : Node S) (k : ℕ) → number m.state ≢ k → (r : Option ℕ)
      → IsLastOf number nodes (length nodes) k r → IsLastOf number (nodes ++ m ∷ []) (length nodes + 1) k r
  other_comes nodes m k other None h = λ p n least less is. elim (is_cases nodes m p n is) [
    | inl old ↦ h p n least old.within old
    | inr new ↦ rw new.1 other
  ]
  other_comes nodes m k other (Some q) h = (
    let w = h.0 in omega arith,
    record {
      node = h.1.node;
      is = is_stays nodes (m ∷ []) q h.1.node h.1.is;
      number_is = h.1.number_is;
    },
    λ p n least less is. elim (is_cases nodes m p n is) [
      | inl old ↦ h.2 p n least old.within old
      | inr new ↦ rw new.1 other
    ],
  )

  -- the node at the end is the last of its number
  pub new_last : (nodes : List (Node S)) (m : Node S) (p : ℕ) → p ≡ length nodes
      → IsLastOf number (nodes ++ m ∷ []) (length nodes + 1) (number m.state) (Some p)
  new_last nodes m p e = (
    omega arith,
    record { node = m; is = is_last nodes m p e; number_is = refl },
    λ q n least less is. absurd (omega arith),
  )

  -- the search for a state begins
  pub sought : (nodes : List (Node S)) (x : S) (last : Option ℕ) → IsLastOf number nodes (length nodes) (number x) last
      → IsSought number nodes x last
  sought nodes x None h = record {
    here = record {};
    passed = λ p n few is e. h p n few is.within is (ap number e);
  }
  sought nodes x (Some q) h = record {
    here = h.1;
    passed = λ p n few is e. h.2 p n few is.within is (ap number e);
  }

  same_number : (nodes : List (Node S)) (x : S) (at : ℕ) (m : Node S) → IsNodeAt nodes at m
      → IsSought number nodes x (Some at) → number m.state ≡ number x
  same_number nodes x at m here h =
      ap (λ (k : Node S). number k.state) (is_one nodes at m h.here.node here h.here.is) ∙ h.here.number_is

  none_from : (nodes : List (Node S)) (x : S) (at : ℕ) (m : Node S) → IsNodeAt nodes at m → m.state ≢ x
      → IsSought number nodes x (Some at) → (least : ℕ) → NoneHas number nodes least at (number m.state)
      → (p : ℕ) (n : Node S) → least ≤ p → IsNodeAt nodes p n → n.state ≢ x
  none_from nodes x at m here other h least none p n few is e = elim (cases_lt p at) [
    | inl lt ↦ none p n few lt is (ap number e ∙ sym (same_number nodes x at m here h))
    | inr ge ↦ elim (cases_lt at p) [
      | inl gt ↦ h.passed p n (omega arith) is e
      | inr le ↦
          let at_it : p ≡ at = omega arith in
          other (ap (λ (k : Node S). k.state) (is_one nodes at m n here (rw at_it at is)) ∙ e)
    ]
  ]

  -- it isn't here, and goes on
  pub sought_on : (nodes : List (Node S)) (x : S) (at : ℕ) (m : Node S) → IsNodeAt nodes at m → m.state ≢ x
      → IsSought number nodes x (Some at) → (next : Option ℕ) → IsLastOf number nodes at (number m.state) next
      → IsSought number nodes x next
  sought_on nodes x at m here other h None last = record {
    here = record {};
    passed = none_from nodes x at m here other h 0 last;
  }
  sought_on nodes x at m here other h (Some q) last = record {
    here = rw (same_number nodes x at m here h) at last.1;
    passed = none_from nodes x at m here other h (q + 1) last.2;
  }

  -- it was looked for everywhere
  pub sought_out : (nodes : List (Node S)) (x : S) (place : Option ℕ) → ((p : ℕ) → place ≡ Some p → ⊥)
      → IsSought number nodes x place → All (λ n. n.state ≢ x) nodes
  sought_out nodes x None none h = λ i d w. h.passed i _ (omega arith) (is_there nodes i d w)
  sought_out nodes x (Some p) none h = absurd (none p refl)

  -- the last of the first nodes is one of them
  pub last_within : (nodes : List (Node S)) (most k : ℕ) (r : Option ℕ) → IsLastOf number nodes most k r
      → count_to r ≤ most
  last_within nodes most k None h = omega arith
  last_within nodes most k (Some p) h = let w = h.0 in omega arith

one_more : {S : Type 0} (feed : S → List (List ℕ)) (old new : Places) (nodes : List (Node S)) (n : Node S)
    (p : ℕ) → p ≡ length nodes
    → ((k : ℕ) → get nat_eq new.last k ≡ cond (nat_eq (number_of feed n.state) k) (Some p) (get nat_eq old.last k))
    → new.before.items ≡ old.before.items ++ get nat_eq old.last (number_of feed n.state) ∷ []
    → IsPlaced feed old nodes → IsPlaced feed new (nodes ++ n ∷ [])
one_more {S} feed old new nodes n p e updated pushed h = record {
  last = λ k. rw (length_push nodes n) (elim (cases_Bool (nat_eq (number_of feed n.state) k)) [
    | inl t ↦ rw (updated k ∙ ap (λ b. cond b (Some p) (get nat_eq old.last k)) t)
        (subst (λ (j : ℕ). IsLastOf (number_of feed) (nodes ++ n ∷ []) (length nodes + 1) j (Some p))
        (eqb-true _ _ t) (new_last (number_of feed) nodes n p e))
    | inr f ↦ rw (updated k ∙ ap (λ b. cond b (Some p) (get nat_eq old.last k)) f)
        (other_comes (number_of feed) nodes n k (eqb-false _ _ f) (get nat_eq old.last k) (h.last k))
  ]);
  before = rw pushed (record {
    count = length_push _ _ ∙ ap (λ (j : ℕ). j + 1) h.before.count ∙ sym (length_push nodes n);
    each = λ q m is. elim (is_cases nodes n q m is) [
      | inl was ↦ rw (get_or_append_left old.before.items _ None q (rw h.before.count was.within))
          (last_stays (number_of feed) nodes (n ∷ []) q _ (let w = was.within in omega arith) _ (h.before.each q m was))
      | inr new ↦ rw (new.0, new.1, get_or_push old.before.items _ None (length nodes) h.before.count)
          (last_stays (number_of feed) nodes (n ∷ []) (length nodes) _ (omega arith) _
          (h.last (number_of feed n.state)))
    ];
  });
}

-- one more node
pub one_more_place : {S : Type 0} (feed : S → List (List ℕ)) (old new : Places) (nodes : List (Node S)) (n : Node S)
    (p number : ℕ) (last : Option ℕ) → p ≡ length nodes → number ≡ number_of feed n.state
    → last ≡ get nat_eq old.last number
    → ((k : ℕ) → get nat_eq new.last k ≡ cond (nat_eq number k) (Some p) (get nat_eq old.last k))
    → new.before.items ≡ old.before.items ++ last ∷ [] → IsPlaced feed old nodes → IsPlaced feed new (nodes ++ n ∷ [])
one_more_place feed old new nodes n p number last e is had updated pushed h = one_more feed old new nodes n p e
    (λ k. rw is at (updated k))
    (pushed ∙ ap (λ (l : Option ℕ). old.before.items ++ l ∷ []) (had ∙ ap (get nat_eq old.last) is)) h

-- where there is no node
pub no_places : {S : Type 0} (feed : S → List (List ℕ)) (places : Places) → places.last.entries ≡ []
    → places.before.items ≡ [] → IsPlaced feed places []
no_places feed places none empty = record {
  last = λ k. rw none (λ p n least less is. absurd (omega arith));
  before = rw empty (record {
    count = refl;
    each = λ p n is. absurd (let w = is.within in omega arith);
  });
}
