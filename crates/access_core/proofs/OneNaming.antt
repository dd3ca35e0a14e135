-- What a refusal names, and what a look shows, is determined.
use Rattle.std.proofs.Common.{◌≡◌, ◌∙◌, ℕ, zero, suc, ◌+◌, ◌<◌, Bool, true, false, nat_eq, IsTrue, List, [], ◌∷◌, ◌++◌}
use Rattle.std.proofs.Common.{length, map, filter, inl, inr, refl, sym, ap, subst, arith}
use Rattle.std.specs.Prelude.{slice_get}
use Rattle.std.specs.Int.{bit_at}
use Rattle.std.specs.List.{find, range_with_len}
use Rattle.std.proofs.lemmas.Nat.Bits.{bit_at-lt, same_from_bits}
use Rattle.std.proofs.lemmas.Option.{same_Some, slice_get_cases}
use Rattle.est_kernel.specs.Bits.{bits}
use Rattle.est_kernel.specs.Term.{Term}
use Rattle.est_kernel.specs.declared.interface.Declaration.{Declaration}
use Rattle.est_kernel.specs.declared.statement.InterfaceSignal.{InterfaceSignal}
use Rattle.est_relations.specs.Offers.{PendingInputs, IsNameAt, IsFirstBroken, IsFirstImplied, IsFirstExcluded}
use Rattle.est_relations.specs.declared.relations.Relation.TheVariants.{Exclusion, Implication}
use Rattle.rbac_policy.specs.declared.commands.Entry.{Entry}
use Rattle.reactor_core.specs.declared.entry.SlotEntry.{SlotEntry}
use Rattle.reactor_core.specs.Instants.{LacksImplied, HasNoOutcome}
use Rattle.reactor_core.specs.Meaning.{Running, pending_of}
use Rattle.reactor_core.specs.Reacting.{IsStuck}
use Rattle.reactor_core.proofs.OneMeaning.{OneModule, same_running, one_term}
use Rattle.access_core.specs.Shown.{Observes}
use Rattle.access_core.proofs.Places.{kept_place, passed_place}

same_digit : (x y : ℕ) → x < 2 → y < 2 → nat_eq x 1 ≡ nat_eq y 1 → x ≡ y
same_digit zero zero p q e = refl
same_digit zero (suc zero) p q e = cc
same_digit (suc zero) zero p q e = cc
same_digit (suc zero) (suc zero) p q e = refl
same_digit (suc (suc x)) y p q e = absurd (omega arith)
same_digit zero (suc (suc y)) p q e = absurd (omega arith)
same_digit (suc zero) (suc (suc y)) p q e = absurd (omega arith)

-- masks with the same bits are the same
pub same_mask : (a b : ℕ) → ((n : ℕ) → bits a n ≡ bits b n) → a ≡ b
unfolding bits
same_mask a b agree =
    same_from_bits a b (λ n. same_digit (bit_at a n) (bit_at b n) (bit_at-lt a n) (bit_at-lt b n) (agree n))

-- one declaration stands at a place
same_name : (interface : List Declaration) (place other : ℕ) (name text : List ℕ) → place ≡ other
    → IsNameAt interface place name → IsNameAt interface other text → name ≡ text
same_name interface place other name text same x y =
    let at : slice_get interface place ≡ slice_get interface other = ap (slice_get interface) same in
    let declared : x.declaration ≡ y.declaration = same_Some x.declaration y.declaration (sym x.there ∙ at ∙ y.there) in
    x.named ∙ ap (λ (d : Declaration). d.name) declared ∙ sym y.named

-- two numbers with their names are equal
abbrev pub SamePair : (number other : ℕ) (name text : List ℕ) → Type 0
SamePair number other name text = (number ≡ other) × (name ≡ text)

-- the first implication that lacks a signal is determined
pub one_implied : (p : PendingInputs) (number other : ℕ) (name text : List ℕ) → IsFirstImplied p number name
    → IsFirstImplied p other text
    → SamePair number other name text
one_implied p number other name text x y =
    let index : x.lacking.index ≡ y.lacking.index = same_Some x.lacking.index y.lacking.index
    (sym x.lacking.first ∙ y.lacking.first) in
    let at : slice_get p.relations x.lacking.index ≡ slice_get p.relations y.lacking.index =
    ap (slice_get p.relations) index in
    let relation : Implication x.lacking.condition x.lacking.missing
    ≡ Implication y.lacking.condition y.lacking.missing =
    same_Some (Implication x.lacking.condition x.lacking.missing) (Implication y.lacking.condition y.lacking.missing)
    (sym x.lacking.is ∙ at ∙ y.lacking.is) in
    let missing : x.lacking.missing ≡ y.lacking.missing = cc in
    let place : x.implied ≡ y.implied = x.lacking.place ∙ ap (λ (s : InterfaceSignal). s.index) missing
    ∙ sym y.lacking.place in (
      x.lacking.numbered ∙ ap (λ n. n + 1) index ∙ sym y.lacking.numbered,
      same_name p.interface x.implied y.implied name text place x.named y.named,
    )

-- the first exclusion that an offer would break is determined
pub one_excluded : (p : PendingInputs) (offered : List ℕ) (number other : ℕ) (name text : List ℕ)
    → IsFirstExcluded p offered number name
    → IsFirstExcluded p offered other text → SamePair number other name text
one_excluded p offered number other name text x y =
    let place : x.place ≡ y.place = same_Some x.place y.place (sym x.there ∙ y.there) in
    let b = subst (λ (at : ℕ). IsFirstBroken p.relations p.inputs at other y.member) (sym place) y.broken in
    let index : x.broken.index ≡ b.index = same_Some x.broken.index b.index (sym x.broken.first ∙ b.first) in
    let at : slice_get p.relations x.broken.index ≡ slice_get p.relations b.index = ap (slice_get p.relations) index in
    let relation : Exclusion x.broken.members ≡ Exclusion b.members =
    same_Some (Exclusion x.broken.members) (Exclusion b.members) (sym x.broken.is ∙ at ∙ b.is) in
    let members : x.broken.members ≡ b.members = cc in
    let member : x.member ≡ y.member =
    same_Some x.member y.member (sym x.broken.pending ∙ ap (find (bits p.inputs)) members ∙ b.pending) in (
      x.broken.numbered ∙ ap (λ n. n + 1) index ∙ sym b.numbered,
      same_name p.interface x.member y.member name text member x.named y.named,
    )

-- what a session sees of an interface is determined
same_test : (a b : Bool) → (IsTrue a → IsTrue b) → (IsTrue b → IsTrue a) → a ≡ b
same_test true true there back = refl
same_test false false there back = refl
same_test true false there back = sym (there refl)
same_test false true there back = back refl

pub same_sight : (entries : List Entry) (session slot : ℕ) (interface : List Declaration) (sees others : ℕ → Bool)
    → Observes entries session slot interface sees → Observes entries session slot interface others
    → (place : ℕ) → place < length interface → sees place ≡ others place
same_sight entries session slot interface sees others x y place below = elim (slice_get_cases interface place).1 [
  | inl at ↦
      let one = x.exactly place at.0 at.2 in
      let other = y.exactly place at.0 at.2 in
      same_test (sees place) (others place) (λ h. other.1 (one.0 h)) (λ h. one.1 (other.0 h))
  | inr past ↦ absurd (omega (arith, past.0, below))
]

-- tests that agree below a number keep the same of the numbers below it
pub same_kept : {X : Type 0} (f : ℕ → X) (p q : ℕ → Bool) (n : ℕ) → ((k : ℕ) → k < n → p k ≡ q k)
    → map f (filter p (range_with_len 0 n)) ≡ map f (filter q (range_with_len 0 n))
same_kept f p q zero agree = refl
same_kept {X = X} f p q (suc n) agree =
    let more : n + 1 ≡ suc n = omega arith in
    subst (λ (k : ℕ). map f (filter p (range_with_len 0 k)) ≡ map f (filter q (range_with_len 0 k))) more
    (by_test (same_kept f p q n (λ k below. agree k (omega (arith, below)))) (q n) refl) where
      here : p n ≡ q n
      here = agree n (omega arith)

      by_test : map f (filter p (range_with_len 0 n)) ≡ map f (filter q (range_with_len 0 n)) → (b : Bool) → q n ≡ b
          → map f (filter p (range_with_len 0 (n + 1))) ≡ map f (filter q (range_with_len 0 (n + 1)))
      by_test before true on = kept_place f p n (here ∙ on) ∙ ap (λ (xs : List X). xs ++ f n ∷ []) before
          ∙ sym (kept_place f q n on)
      by_test before false off = passed_place f p n (here ∙ off) ∙ before ∙ sym (passed_place f q n off)

module _ (modules : OneModule) (journal : List SlotEntry) where
  -- the first implication that the pending inputs lack is determined
  pub one_lacking : (number other : ℕ) (name text : List ℕ) → LacksImplied journal number name
      → LacksImplied journal other text
      → SamePair number other name text
  one_lacking number other name text x y =
      let same : x.running ≡ y.running = same_running modules journal x.running y.running x.runs y.runs in
      one_implied (pending_of x.running) number other name text x.first
      (subst (λ (r : Running). IsFirstImplied (pending_of r) other text) (sym same) y.first)

  -- the outputs that stay undecided are the same
  pub one_undecided : (a b : ℕ) → HasNoOutcome journal a → HasNoOutcome journal b → a ≡ b
  one_undecided a b x y =
      let runs : x.running ≡ y.running = same_running modules journal x.running y.running x.runs y.runs in
      let terms : x.term ≡ y.term = one_term modules journal x.term y.term x.leaves y.leaves in
      let stuck : IsStuck x.running.interface x.term x.running.pending b =
      subst (λ (r : Running). IsStuck r.interface x.term r.pending b) (sym runs)
      (subst (λ (t : Term). IsStuck y.running.interface t y.running.pending b) (sym terms) y.stuck) in
      same_mask a b (λ n. x.stuck.exactly n ∙ sym (stuck.exactly n))
