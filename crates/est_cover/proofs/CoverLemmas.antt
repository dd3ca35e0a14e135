-- All steps of a state, by parts of the inputs.
use Rattle.std.proofs.Common.{◌≡◌, ◌≢◌, ◌∙◌, ℕ, ◌<◌, Bool, true, false, List, [], ◌∷◌, ◌++◌, length, Option}
use Rattle.std.proofs.Common.{Some, sym, refl, ap, arith, inl, inr, append-nil, append_assoc, suc}
use Rattle.std.specs.Bool.{MatchBool}
use Rattle.std.specs.List.{All, AllPairs}
use Rattle.std.proofs.lemmas.Bool.{cases_Bool, false≢true}
use Rattle.std.proofs.lemmas.List.Kept.{AllPairs-cons}
use Rattle.std.proofs.lemmas.List.Elements.{All-nil, All-cons, All-append, All-weaker, All-head, All-tail}
use Rattle.std.proofs.lemmas.List.Elements.{Contains-append_left, Contains-append_right}
use Rattle.est_kernel.specs.Bits.{bits}
use Rattle.est_meaning.specs.Knowledge.{IsIn}
use Rattle.est_relations.specs.Keeping.{AreLawful}
use Rattle.est_relations.specs.declared.relations.Relation.{Relation}
use Rattle.est_cover.specs.InputSets.{InputSet, IsAsked, HasInputs}
use Rattle.est_cover.specs.Inner.Parts.{HasPart, IsNarrower, IsStepOf, IsCovered}
use Rattle.est_cover.specs.declared.answered.AnsweredInputs.{AnsweredInputs}
use Rattle.est_cover.specs.declared.part.Part.{Part}
use Rattle.state_search.specs.declared.transition_system.Step.{Step}
use Rattle.est_cover.proofs.PartLemmas.{has_narrower, has_wider, narrower_is}

-- pairs of two lists
pairs_joined : {X : Type 0} (P : X → X → Type 0) (xs ys : List X) → AllPairs P xs → AllPairs P ys
    → All (λ x. All (P x) ys) xs → AllPairs P (xs ++ ys)
pairs_joined P [] ys a b c = b
pairs_joined P (x ∷ xs) ys a b c = AllPairs-cons P x (xs ++ ys)
    (All-append (P x) xs ys (λ k d w. a 0 (suc k) d (omega arith) (omega arith)) (All-head (λ y. All (P y) ys) x xs c))
    (pairs_joined P xs ys (λ i j d l w. a (suc i) (suc j) d (omega arith) (omega arith)) b
    (All-tail (λ y. All (P y) ys) x xs c))

module _ {S A : Type 0} (answers : InputSet → A → Option S → Type 0) (is_state : S → Type 0) (may : ℕ → Bool)
    (relations : List Relation) (watched : ℕ → Bool) (most : ℕ) where
  -- no lawful set has the part
  pub covers_none : (unasked inputs : ℕ) (old : List (Step S (AnsweredInputs A)))
      → ((set : InputSet) → HasPart unasked inputs set → AreLawful relations set → ⊥)
      → IsCovered answers is_state may relations watched unasked inputs most true old old
  covers_none unasked inputs old none = record {
    more = [];
    split = sym (append-nil old);
    sound = All-nil _;
    states = All-nil _;
    within = All-nil _;
    differ = λ i j d l w. absurd (omega arith);
    all = λ set offered lawful has. absurd (none set has lawful);
  }

  -- one step
  pub covers_one : (unasked inputs : ℕ) (old new : List (Step S (AnsweredInputs A))) (s : Step S (AnsweredInputs A))
      (whole : Bool)
      → ((n : ℕ) → bits unasked n ≡ true → bits inputs n ≡ false)
      → IsStepOf answers is_state may relations watched unasked inputs s → new ≡ old ++ s ∷ []
      → MatchBool whole (Unit {0}) (most < length new)
      → IsCovered answers is_state may relations watched unasked inputs most whole old new
  covers_one unasked inputs old new s whole apart is e w = record {
    more = s ∷ [];
    split = e;
    sound = All-cons (λ t. IsAsked answers may relations watched t.label t.next) s [] is.sound (All-nil _);
    states = All-cons (λ t. (y : S) → t.next ≡ Some y → is_state y) s [] is.state (All-nil _);
    within = All-cons (λ t. HasPart unasked inputs (bits t.label.inputs)) s [] (λ n h. rw is.is refl) (All-nil _);
    differ = λ i j d l k. absurd (omega arith);
    all = at whole w;
  } where
    at : (b : Bool) → MatchBool b (Unit {0}) (most < length new) → MatchBool b
        ((set : InputSet) → IsIn set may → AreLawful relations set → HasPart unasked inputs set
        → HasInputs (s ∷ []) set)
        (most < length new)
    at true u = λ set offered lawful has. record {
      step = s;
      listed = (0, (omega arith), refl);
      agrees = λ n h. rw is.is (has n (is.asked n h));
    }
    at false l = l

  -- what is within the narrower part is within the part
  wider : (p : ℕ) (b : Bool) (old new : Part) → bits old.unasked p ≡ true → IsNarrower p b old new
      → (steps : List (Step S (AnsweredInputs A)))
      → All (λ s. HasPart new.unasked new.inputs (bits s.label.inputs)) steps
      → All (λ s. HasPart old.unasked old.inputs (bits s.label.inputs)) steps
  wider p b old new here n steps all =
      All-weaker (λ s. HasPart new.unasked new.inputs (bits s.label.inputs))
      (λ s. HasPart old.unasked old.inputs (bits s.label.inputs))
      (λ s. has_wider p b old new n here (bits s.label.inputs)) steps all

  -- all lawful sets that have the part agree on a signal
  pub covers_narrower : (p : ℕ) (b : Bool) (old new : Part) (before after : List (Step S (AnsweredInputs A)))
      (whole : Bool)
      → bits old.unasked p ≡ true
      → ((set : InputSet) → HasPart old.unasked old.inputs set → AreLawful relations set → set p ≡ b)
      → IsNarrower p b old new
      → IsCovered answers is_state may relations watched new.unasked new.inputs most whole before after
      → IsCovered answers is_state may relations watched old.unasked old.inputs most whole before after
  covers_narrower p b old new before after whole here is n h = record {
    more = h.more;
    split = h.split;
    sound = h.sound;
    states = h.states;
    within = wider p b old new here n h.more h.within;
    differ = h.differ;
    all = at whole h.all;
  } where
    at : (w : Bool) → MatchBool w
        ((set : InputSet) → IsIn set may → AreLawful relations set → HasPart new.unasked new.inputs set
        → HasInputs h.more set) (most < length after)
        → MatchBool w
        ((set : InputSet) → IsIn set may → AreLawful relations set → HasPart old.unasked old.inputs set
        → HasInputs h.more set) (most < length after)
    at true f = λ set offered lawful has.
        f set offered lawful (has_narrower p b old new n set has (is set has lawful))
    at false l = l

  -- those without a signal, of which there are too many
  pub covers_stops : (p : ℕ) (b : Bool) (old new : Part) (before after : List (Step S (AnsweredInputs A)))
      → bits old.unasked p ≡ true → IsNarrower p b old new
      → IsCovered answers is_state may relations watched new.unasked new.inputs most false before after
      → IsCovered answers is_state may relations watched old.unasked old.inputs most false before after
  covers_stops p b old new before after here n h = record {
    more = h.more;
    split = h.split;
    sound = h.sound;
    states = h.states;
    within = wider p b old new here n h.more h.within;
    differ = h.differ;
    all = h.all;
  }

  -- those without a signal, and those with it
  pub covers_both : (p : ℕ) (old low high : Part) (before mid after : List (Step S (AnsweredInputs A))) (whole : Bool)
      → bits old.unasked p ≡ true → IsNarrower p false old low → IsNarrower p true old high
      → IsCovered answers is_state may relations watched low.unasked low.inputs most true before mid
      → IsCovered answers is_state may relations watched high.unasked high.inputs most whole mid after
      → IsCovered answers is_state may relations watched old.unasked old.inputs most whole before after
  covers_both p old low high before mid after whole here n m a b = record {
    more = a.more ++ b.more;
    split = b.split
        ∙ (ap (λ (xs : List (Step S (AnsweredInputs A))). xs ++ b.more) a.split ∙ append_assoc before a.more b.more);
    sound = All-append (λ t. IsAsked answers may relations watched t.label t.next) a.more b.more a.sound b.sound;
    states = All-append (λ t. (y : S) → t.next ≡ Some y → is_state y) a.more b.more a.states b.states;
    within = All-append (λ s. HasPart old.unasked old.inputs (bits s.label.inputs)) a.more b.more
        (wider p false old low here n a.more a.within) (wider p true old high here m b.more b.within);
    differ = pairs_joined (λ s t. s.label.inputs ≢ t.label.inputs) a.more b.more a.differ b.differ
        (All-weaker (λ s. HasPart low.unasked low.inputs (bits s.label.inputs))
        (λ s. All (λ t. s.label.inputs ≢ t.label.inputs) b.more)
        (λ s i. All-weaker (λ t. HasPart high.unasked high.inputs (bits t.label.inputs))
        (λ t. s.label.inputs ≢ t.label.inputs)
        (λ t j e. false≢true (sym (narrower_is p false old low n (bits s.label.inputs) i) ∙
        (ap (λ k. bits k p) e ∙ narrower_is p true old high m (bits t.label.inputs) j)))
        b.more b.within) a.more a.within);
    all = at whole b.all;
  } where
    at : (w : Bool)
        → MatchBool w ((set : InputSet) → IsIn set may → AreLawful relations set → HasPart high.unasked high.inputs set
        → HasInputs b.more set) (most < length after)
        → MatchBool w ((set : InputSet) → IsIn set may → AreLawful relations set → HasPart old.unasked old.inputs set
        → HasInputs (a.more ++ b.more) set) (most < length after)
    at true h = λ set offered lawful has. elim (cases_Bool (set p)) [
      | inl t ↦ let one = h set offered lawful (has_narrower p true old high m set has t) in
          record {
            step = one.step;
            listed = Contains-append_right a.more b.more one.step one.listed;
            agrees = one.agrees;
          }
      | inr f ↦ let one = a.all set offered lawful (has_narrower p false old low n set has f) in
          record {
            step = one.step;
            listed = Contains-append_left a.more b.more one.step one.listed;
            agrees = one.agrees;
          }
    ]
    at false h = h
