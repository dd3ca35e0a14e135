-- All lawful sets of inputs, where all that may be offered is unasked at first.
use Rattle.std.proofs.Common.{◌≡◌, ◌∙◌, ℕ, ◌<◌, Bool, true, false, ◌&&◌, ◌||◌, List, [], length, Option, sym, refl}
use Rattle.std.specs.Prelude.{Result, Ok, Err, IfOk, OnOk}
use mathlib.Core.Path.{fun_ext}
use Rattle.std.specs.Bool.{MatchBool}
use Rattle.std.specs.List.{All}
use Rattle.std.proofs.Common.{inl, inr}
use Rattle.std.proofs.lemmas.Bool.{cases_Bool, false≢true, or_right, or_left}
use Rattle.std.proofs.lemmas.List.Elements.{All-weaker}
use Rattle.est_kernel.specs.Bits.{bits}
use Rattle.est_kernel.specs.Interfaces.{emittable, offerable}
use Rattle.est_kernel.specs.declared.interface.Declaration.{Declaration}
use Rattle.est_kernel.proofs.Masks.{bits_zero}
use Rattle.est_meaning.specs.Knowledge.{IsIn}
use Rattle.est_relations.specs.Keeping.{AreLawful}
use Rattle.est_relations.specs.declared.relations.Relation.{Relation}
use Rattle.est_relations.proofs.Answering.{and_first}
use Rattle.est_cover.specs.InputSets.{may_offer, InputSet, IsAsked, HasInputs, HaveAllInputs}
use Rattle.est_cover.specs.Inner.Parts.{AreWatched, HasPart, IsCovered}
use Rattle.est_cover.specs.declared.answered.AnsweredInputs.{AnsweredInputs}
use Rattle.state_search.specs.declared.transition_system.Step.{Step}

-- what holds of each value of a call that succeeds
pub on_ok : {X E : Type 0} (r : Result X E) (P : X → Type 0) (Q : Type 0) → ((x : X) → P x → Q) → IfOk r P → OnOk r Q
on_ok (Ok x) P Q f h = f x h
on_ok (Err e) P Q f h = tt

-- the signals that may be offered, as a mask
pub may_is : (ds : List Declaration) (allowed offer mask : ℕ) → bits offer ≡ offerable ds
    → ((n : ℕ) → bits mask n ≡ (bits offer n && bits allowed n)) → bits mask ≡ may_offer ds (bits allowed)
may_is ds allowed offer mask e h = fun_ext (λ n. h n ∙ rw e refl)

pub watches : (ds : List Declaration) (allowed offer mask emit watched all : ℕ) → bits offer ≡ offerable ds
    → ((n : ℕ) → bits mask n ≡ (bits offer n && bits allowed n)) → bits emit ≡ emittable ds
    → ((n : ℕ) → bits all n ≡ (bits emit n || bits watched n)) → AreWatched ds offer mask all
watches ds allowed offer mask emit watched all e h f k = record {
  all = e;
  offered = λ n t. rw (← e) (and_first (bits offer n) (bits allowed n) (sym (h n) ∙ t));
  emitted = λ n t u. k n ∙ or_left (bits emit n) (bits watched n) (rw f u);
}

module _ {S A : Type 0} (answers : InputSet → A → Option S → Type 0) (is_state : S → Type 0) (may also : ℕ → Bool)
    (relations : List Relation) (unasked emit watched all : ℕ)
    (k : (n : ℕ) → bits all n ≡ (bits emit n || bits watched n)) (most : ℕ) (whole : Bool)
    (new : List (Step S (AnsweredInputs A))) where
  fewer : (s : Step S (AnsweredInputs A)) → IsAsked answers may relations (bits all) s.label s.next
      → IsAsked answers may relations (bits watched) s.label s.next
  fewer s h = record {
    lawful = h.lawful;
    asks = λ n m w. h.asks n m (k n ∙ or_right (bits emit n) (bits watched n) w);
    answer = h.answer;
  }

  pub all_sound : may ≡ also → IsCovered answers is_state may relations (bits all) unasked 0 most whole [] new
      → All (λ s. IsAsked answers also relations (bits watched) s.label s.next) new
  all_sound e h = rw (h.split, ← e) (All-weaker (λ s. IsAsked answers may relations (bits all) s.label s.next)
      (λ s. IsAsked answers may relations (bits watched) s.label s.next) fewer h.more h.sound)

  -- all sets that may be offered have the first part
  all_have : bits unasked ≡ may → (set : InputSet) → IsIn set may → HasPart unasked 0 set
  all_have o set offered n out = elim (cases_Bool (set n)) [
    | inl t ↦ absurd (false≢true (sym (rw o at out) ∙ offered n t))
    | inr f ↦ f ∙ sym (bits_zero n)
  ]

  pub all_whole : bits unasked ≡ may → may ≡ also
      → IsCovered answers is_state may relations (bits all) unasked 0 most whole [] new
      → MatchBool whole (HaveAllInputs also relations new) (most < length new)
  all_whole o e h = rw (← e) (at whole h.all) where
    at : (w : Bool) → MatchBool w ((set : InputSet) → IsIn set may → AreLawful relations set → HasPart unasked 0 set
        → HasInputs h.more set) (most < length new) → MatchBool w (HaveAllInputs may relations new) (most < length new)
    at true f = λ set offered lawful. rw h.split (f set offered lawful (all_have o set offered))
    at false l = l
