-- The interface signals that a body has.
use Rattle.std.proofs.Common.{◌≡◌, ◌≢◌, ◌<◌, inl, inr, ℕ, zero, suc, ◌+◌, Bool, true, false, List, [], ◌∷◌, ◌++◌}
use Rattle.std.proofs.Common.{length, map, get_or, get_or-set_same, get_or-set_other, replicate, slice_set, Option}
use Rattle.std.proofs.Common.{Some, None, if◌then◌else◌, refl, ap, sym, ◌∙◌, subst, arith}
use Rattle.std.proofs.lemmas.Bool.{cases_eq}
use Rattle.std.proofs.lemmas.List.{get_or_append_left, get_or_push, length-map, length_push, map_push}
use Rattle.std.specs.Prelude.{is_some}
use Rattle.est_kernel.specs.View.{queries_of}
use Rattle.est_kernel.specs.Term.{Name, outer, inner, Query, tick, of, Joint}
use Rattle.est_link.specs.Inner.Meant.{itself, again}
use Rattle.est_link.specs.Linking.{Meant, query_meant, queries_meant, body_meant}
use Rattle.est_link.specs.Inner.OpenBodies.{meaning_of, numbered, meant_by, has_number, AreUsed, MeanThemselves, IsKept}
use Rattle.est_link.specs.Inner.OpenBodies.{IsBodyKept, AreMeaningsKept}
use Rattle.est_link.specs.declared.meaning.Meaning.{Meaning}
use Rattle.est_link.specs.declared.used_signals.UsedSignals.{UsedSignals}
use Rattle.est_link.specs.declared.signal_meanings.SignalMeanings.{SignalMeanings}
use Rattle.est_link.proofs.Meanings.{got_again, listed_meant, meant_in, test_meant}
use Rattle.est_modules.proofs.Testing.{some_same}
use Rattle.est_reduce.specs.Bodies.{Body}
use Rattle.est_reduce.specs.Views.{bound_joint, bound_name, bound_query}
use Rattle.est_reduce.specs.declared.body.BoundOperands.{BoundOperands}
use Rattle.est_reduce.specs.declared.body.BoundSignal.{BoundSignal}
use Rattle.est_reduce.specs.declared.body.BoundTest.TheViews.{out-BoundOperands}
use Rattle.est_reduce.proofs.Tests.{operands_seen}

-- ---- one number more

abbrev no_number : Option ℕ
no_number = None

none_at : (n k : ℕ) → get_or (replicate n no_number) k None ≡ None
none_at zero k = refl
none_at (suc n) zero = refl
none_at (suc n) (suc k) = none_at n k

-- more places without a number
pub padded : (os : List (Option ℕ)) (n k : ℕ) → get_or (os ++ replicate n no_number) k None ≡ get_or os k None
padded [] n k = none_at n k
padded (o ∷ os) n zero = refl
padded (o ∷ os) n (suc k) = padded os n k

number_told : (rooms : List (Option ℕ)) (place n i k : ℕ) → place < length rooms → i ≡ place
    → get_or (slice_set rooms place (Some n)) i None ≡ Some k → n ≡ k
number_told rooms place n i k room same e = some_same n k
    (sym (get_or-set_same rooms place (Some n) None room)
    ∙ ap (λ j. get_or (slice_set rooms place (Some n)) j None) (sym same) ∙ e)

-- numbers to which one is added, at a place
abbrev pub more_numbers : List (Option ℕ) → (place n : ℕ) → List (Option ℕ)
more_numbers rooms place n = slice_set rooms place (Some n)

-- each still means itself
pub used_more : (old : UsedSignals) (rooms : List (Option ℕ)) (place n : ℕ) (m : Meaning) (new : UsedSignals)
    → n ≡ length old.meanings.items → place < length rooms
    → ((k : ℕ) → get_or rooms k None ≡ get_or old.numbers.items k None)
    → new.numbers.items ≡ more_numbers rooms place n → new.meanings.items ≡ old.meanings.items ++ m ∷ []
    → meaning_of m ≡ itself (outer place) → AreUsed old → AreUsed new
used_more old rooms place n m new next room same numbers meanings means are =
    let ms = old.meanings.items in
    let longer : length new.meanings.items ≡ length ms + 1 =
    ap (λ (xs : List Meaning). length xs) meanings ∙ length_push ms m in
    let listed : map meaning_of new.meanings.items ≡ map meaning_of ms ++ meaning_of m ∷ [] =
    ap (map meaning_of) meanings ∙ map_push meaning_of ms m in
    let now : (i k : ℕ) → get_or new.numbers.items i None ≡ Some k
    → get_or (more_numbers rooms place n) i None ≡ Some k = λ i k e. ap (λ os. get_or os i None) (sym numbers) ∙ e in
    let before : (i k : ℕ) → i ≢ place → get_or new.numbers.items i None ≡ Some k
    → get_or old.numbers.items i None ≡ Some k =
    λ i k differs e. sym (get_or-set_other rooms place i (Some n) None differs ∙ same i) ∙ now i k e in
    record {
      listed = λ i k e. elim (cases_eq i place) [
        | inl is ↦ omega (arith, number_told rooms place n i k room is (now i k e), longer, next)
        | inr differs ↦ omega (arith, are.listed i k (before i k differs e), longer)
      ];
      means = λ i k e other. ap (λ xs. get_or xs k other) listed ∙ elim (cases_eq i place) [
        | inl is ↦
            get_or_push (map meaning_of ms) (meaning_of m) other k
            (length-map ms meaning_of ∙ sym next ∙ number_told rooms place n i k room is (now i k e))
            ∙ means ∙ ap (λ j. itself (outer j)) (sym is)
        | inr differs ↦
            get_or_append_left (map meaning_of ms) (meaning_of m ∷ []) other k
            (omega (arith, are.listed i k (before i k differs e), length-map ms meaning_of))
            ∙ are.means i k (before i k differs e) other
      ];
    }

-- those that had a number have one
pub number_kept : (old : UsedSignals) (rooms : List (Option ℕ)) (place n : ℕ) → place < length rooms
    → ((k : ℕ) → get_or rooms k None ≡ get_or old.numbers.items k None) → (i : ℕ) → has_number old i ≡ true
    → is_some (get_or (more_numbers rooms place n) i None) ≡ true
number_kept old rooms place n room same i has = elim (cases_eq i place) [
  | inl is ↦ ap (λ j. is_some (get_or (more_numbers rooms place n) j None)) is
      ∙ ap is_some (get_or-set_same rooms place (Some n) None room)
  | inr differs ↦ ap is_some (get_or-set_other rooms place i (Some n) None differs ∙ same i) ∙ has
]

-- ---- signals that mean themselves

asked_itself : (g : Name → Meant) (s : BoundSignal) (t : Bool) → g (bound_name s) ≡ itself (bound_name s)
    → (if t then tick else of (bound_name s)) ≡ query_meant g (if t then tick else of (bound_name s))
asked_itself g s true e = refl
asked_itself g s false e = sym (ap (λ (m : Meant). m.asked) e)

-- a meaning whose signal means itself
pub meaning_kept : (g : Name → Meant) (m : Meaning) → g (bound_name m.signal) ≡ itself (bound_name m.signal)
    → meaning_of m ≡ again g (meaning_of m)
meaning_kept g m e =
    ap (λ (q : Query). let x : Meant = record { asked = q; sent = bound_name m.signal } in x)
    (asked_itself g m.signal m.is_tick e)
    ∙ ap (λ (n : Name). let x : Meant = record
    { asked = query_meant g (meaning_of m).asked; sent = n } in x) (sym (ap (λ (x : Meant). x.sent) e))

numbered_kept : (g : Name → Meant) (o : Option ℕ) (ms : List Meaning) (x : Meant)
    → map (λ (m : Meaning). again g (meaning_of m)) ms ≡ map meaning_of ms → x ≡ again g x
    → numbered o (map meaning_of ms) x ≡ again g (numbered o (map meaning_of ms) x)
numbered_kept g None ms x listed other = other
numbered_kept g (Some k) ms x listed other =
    ap (λ xs. get_or xs k x) (sym listed)
    ∙ ap (get_or (map (λ (m : Meaning). again g (meaning_of m)) ms) k) other
    ∙ got_again g ms k x

-- the meanings of a run, each of which means itself
pub meanings_kept : (o : UsedSignals) (r : SignalMeanings)
    → ((g : Name → Meant) → MeanThemselves o g
    → map (λ (m : Meaning). again g (meaning_of m)) r.meanings.items ≡ map meaning_of r.meanings.items)
    → IsKept o (bound_name r.other.signal) → AreMeaningsKept o r
meanings_kept o r listed other g means (outer i) = numbered_kept g (get_or r.numbers.value.items i None)
    r.meanings.items (meaning_of r.other) (listed g means) (meaning_kept g r.other (other g means))
meanings_kept o r listed other g means (inner k) = sym (means.inners (r.locals + k))

-- the body of a run whose meanings mean themselves
pub run_kept : (o : UsedSignals) (r : SignalMeanings) (b : Body) → AreMeaningsKept o r
    → IsBodyKept o (body_meant (meant_by r) b)
run_kept o r b kept g means = meant_in g (meant_by r) (meant_by r) (kept g means) b

-- operands of tests that are kept
pub joint_kept : (g : Name → Meant) (o : BoundOperands)
    → test_meant g (out-BoundOperands o).first.value ≡ bound_query (out-BoundOperands o).first.value
    → test_meant g (out-BoundOperands o).second.value ≡ bound_query (out-BoundOperands o).second.value
    → map (test_meant g) (out-BoundOperands o).later.items ≡ map bound_query (out-BoundOperands o).later.items
    → (query_meant g (bound_joint o).first ≡ (bound_joint o).first)
    × (queries_meant g (bound_joint o).later ≡ (bound_joint o).later)
joint_kept g o first second later =
    let parts = out-BoundOperands o in
    subst (λ (j : Joint). (query_meant g j.first ≡ j.first) × (queries_meant g j.later ≡ j.later))
    (sym (operands_seen o)) (
      first,
      listed_meant g (bound_query parts.second.value) parts.later.items
          ∙ ap (λ (q : Query). queries_of q (map (test_meant g) parts.later.items)) second
          ∙ ap (queries_of (bound_query parts.second.value)) later,
    )
