-- Tests and their operands, as trees and as the code has them.
use Rattle.std.proofs.Common.{◌≡◌, ℕ, ◌+◌, List, [], ◌∷◌, map, refl, ap, sym, ◌∙◌, arith, rules}
use Rattle.std.specs.Prelude.{Bool, true, false, ◌&&◌, nat_lt, ◌<◌, ◌↔◌, IsTrue, length}
use Rattle.std.specs.List.{fold}
use Rattle.std.proofs.lemmas.Bool.Decides.{nat_tests}
use Rattle.std.proofs.lemmas.Bool.{and_from}
use Rattle.est_kernel.specs.declared.interface.Declaration.{Declaration}
use Rattle.est_kernel.specs.Inner.Counting.{is_seen, each_signal, each_signal_of_all, each_signal_of_joint}
use Rattle.est_kernel.specs.Limits.{word_count, later_word_count, joint_word_count}
use Rattle.est_kernel.specs.Scope.{EachSignal, EachSignalOfAll, IsVisible, IsAsked}
use Rattle.est_kernel.specs.Term.{Name, outer, inner, Query, tick, of, negated, joined, Queries, last, more}
use Rattle.est_kernel.specs.View.{query_of, queries_of, joint_of}
use Rattle.est_kernel.specs.declared.statement.Test.{Test}
use Rattle.est_kernel.specs.declared.statement.Operands.{Operands}
use Rattle.est_kernel.specs.declared.statement.Test.TheViews.{Joined, out-Operands, roll-Operands}
use Rattle.est_kernel.specs.declared.statement.Test.TheOpen.{Operands-F}
use Rattle.est_kernel.specs.declared.statement.Connective.{Connective}
use Rattle.est_kernel.specs.declared.statement.Test.TheFolds.{the_lemmas}
use Rattle.est_text.proofs.Heads.{both}

mutual
  -- where one property of a signal implies another, so it does for each signal of a test
  pub each_implies : (P Q : Name → Type 0) → ((s : Name) → P s → Q s) → (t : Query) → EachSignal P t → EachSignal Q t
  each_implies P Q f tick h = tt
  each_implies P Q f (of s) h = f s h
  each_implies P Q f (negated t) h = each_implies P Q f t h
  each_implies P Q f (joined c t ts) h = (each_implies P Q f t h.0, each_of_all_implies P Q f ts h.1)

  each_of_all_implies : (P Q : Name → Type 0) → ((s : Name) → P s → Q s) → (ts : Queries) → EachSignalOfAll P ts
      → EachSignalOfAll Q ts
  each_of_all_implies P Q f (last t) h = each_implies P Q f t h
  each_of_all_implies P Q f (more t ts) h = (each_implies P Q f t h.0, each_of_all_implies P Q f ts h.1)

-- what operands are, as the code has them
pub operands_seen : (o : Operands)
    → joint_of o
    ≡ record {
      first = query_of (out-Operands o).first.value;
      later = queries_of (query_of (out-Operands o).second.value) (map query_of (out-Operands o).later.items);
    }
operands_seen o = search (rules, the_lemmas)

-- what a connective asks, as it is made
pub joined_seen : (c : Connective) (p : Operands-F Test Operands)
    → query_of (Joined c (roll-Operands p)) ≡ joined c (query_of p.first.value)
    (queries_of (query_of p.second.value) (map query_of p.later.items))
joined_seen c p = search (rules, the_lemmas)

-- how many words further operands have, with the one before each
abbrev pub words_of : List Test → ℕ
words_of [] = 0
words_of (t ∷ ts) = word_count (query_of t) + 1 + words_of ts

listed_words : (t : Query) (ts : List Test) → later_word_count (queries_of t (map query_of ts)) ≡ word_count t + 1
    + words_of ts
listed_words t [] = omega arith
listed_words t (u ∷ us) = ap (λ n. word_count t + 1 + n) (listed_words (query_of u) us)

-- the words of operands are those of the first, the second and the later ones
pub operands_words : (o : Operands) → joint_word_count (joint_of o) ≡ word_count (query_of (out-Operands o).first.value)
    + (word_count (query_of (out-Operands o).second.value) + 1 + words_of (out-Operands o).later.items)
operands_words o =
    let parts = out-Operands o in
    ap joint_word_count (operands_seen o) ∙ ap (λ n. word_count (query_of parts.first.value) + n)
    (listed_words (query_of parts.second.value) parts.later.items)

-- whether the tests of a list pass too
abbrev pub and_each : (Name → Bool) → Bool → Test → Bool
and_each f b t = b && each_signal f (query_of t)

and_assoc : (a b c : Bool) → ((a && b) && c) ≡ (a && (b && c))
and_assoc true b c = refl
and_assoc false b c = refl

listed_pass : (f : Name → Bool) (b : Bool) (t : Query) (ts : List Test)
    → (b && each_signal_of_all f (queries_of t (map query_of ts))) ≡ fold (and_each f) (b && each_signal f t) ts
listed_pass f b t [] = refl
listed_pass f b t (u ∷ us) = sym (and_assoc b (each_signal f t) _)
    ∙ listed_pass f (b && each_signal f t) (query_of u) us

-- whether each signal of operands passes, one after another
pub operands_pass : (f : Name → Bool) (o : Operands) → each_signal_of_joint f (joint_of o)
    ≡ fold (and_each f)
    (each_signal f (query_of (out-Operands o).first.value) && each_signal f (query_of (out-Operands o).second.value))
    (out-Operands o).later.items
operands_pass f o =
    let parts = out-Operands o in
    ap (each_signal_of_joint f) (operands_seen o) ∙ listed_pass f (each_signal f (query_of parts.first.value))
    (query_of parts.second.value) parts.later.items

-- a property and its test
pub record Tells (f : Name → Bool) (P : Name → Type 0) : Type 0 where
  pub there : (s : Name) → f s ≡ true → P s
  pub back : (s : Name) → P s → f s ≡ true

mutual
  pub each_told : (f : Name → Bool) (P : Name → Type 0) → Tells f P → (t : Query) → each_signal f t ≡ true
      → EachSignal P t
  each_told f P w tick h = tt
  each_told f P w (of s) h = w.there s h
  each_told f P w (negated t) h = each_told f P w t h
  each_told f P w (joined c t ts) h = let p = both _ _ h in (each_told f P w t p.0, all_told f P w ts p.1)

  all_told : (f : Name → Bool) (P : Name → Type 0) → Tells f P → (ts : Queries) → each_signal_of_all f ts ≡ true
      → EachSignalOfAll P ts
  all_told f P w (last t) h = each_told f P w t h
  all_told f P w (more t ts) h = let p = both _ _ h in (each_told f P w t p.0, all_told f P w ts p.1)

mutual
  pub each_tells : (f : Name → Bool) (P : Name → Type 0) → Tells f P → (t : Query) → EachSignal P t
      → each_signal f t ≡ true
  each_tells f P w tick h = refl
  each_tells f P w (of s) h = w.back s h
  each_tells f P w (negated t) h = each_tells f P w t h
  each_tells f P w (joined c t ts) h = and_from _ _ (each_tells f P w t h.0) (all_tells f P w ts h.1)

  all_tells : (f : Name → Bool) (P : Name → Type 0) → Tells f P → (ts : Queries) → EachSignalOfAll P ts
      → each_signal_of_all f ts ≡ true
  all_tells f P w (last t) h = each_tells f P w t h
  all_tells f P w (more t ts) h = and_from _ _ (each_tells f P w t h.0) (all_tells f P w ts h.1)

less_told : (m n : ℕ) → nat_lt m n ≡ true → m < n
less_told m n h = grind (arith, nat_tests)

less_tells : (m n : ℕ) → m < n → nat_lt m n ≡ true
less_tells m n h = grind (arith, nat_tests)

seen_there : (i : List Declaration) (l : ℕ) (s : Name) → is_seen i l s ≡ true → IsVisible i l s
seen_there i l (outer n) h = less_told n (length i) h
seen_there i l (inner n) h = less_told n l h

seen_back : (i : List Declaration) (l : ℕ) (s : Name) → IsVisible i l s → is_seen i l s ≡ true
seen_back i l (outer n) h = less_tells n (length i) h
seen_back i l (inner n) h = less_tells n l h

is_told : (b : Bool) → IsTrue b → b ≡ true
is_told b h = cc

tell_is : (b : Bool) → b ≡ true → IsTrue b
tell_is b h = cc

-- the test of each signal tells whether what is asked is visible
pub asked_told : (i : List Declaration) (l : ℕ) (t : Query) (b : Bool) → b ≡ each_signal (is_seen i l) t
    → IsTrue b ↔ IsAsked i l t
asked_told i l t b e =
    let tells : Tells (is_seen i l) (IsVisible i l) = record { there = seen_there i l; back = seen_back i l } in (
      λ h. each_told (is_seen i l) (IsVisible i l) tells t (sym e ∙ is_told b h),
      λ h. tell_is b (e ∙ each_tells (is_seen i l) (IsVisible i l) tells t h),
    )
