-- Names with numbers.
use Rattle.std.proofs.Common.{◌≡◌, ◌<◌, ◌⊎◌, inl, inr, ◌||◌, ℕ, zero, suc, ◌+◌, List, [], ◌∷◌, ◌++◌, length, Option}
use Rattle.std.proofs.Common.{Some, None, Bool, true, false, cond, get_or, take, refl, ap, sym, ◌∙◌, subst}
use Rattle.std.proofs.lemmas.List.Folds.{list_any_more}
use Rattle.std.proofs.lemmas.Option.{none-some}
use Rattle.std.specs.List.{list_any, slice_get}
use Rattle.std.specs.Prelude.{is_some}
use Rattle.std.specs.Str.{bytes_eq}
use Rattle.std.proofs.lemmas.Bool.{or_right, or_left}
use Rattle.est_modules.specs.NameTables.{number_in, is_numbered, IsTable}
use Rattle.est_modules.specs.declared.names.table.NameTable.{NameTable}
use Rattle.est_modules.proofs.Testing.{same_bytes, equal_bytes, same_or, some_same}

-- ---- what stands at a place of a list

get_before : {X : Type 0} (xs ys : List X) (i : ℕ) (x : X) → slice_get xs i ≡ Some x → slice_get (xs ++ ys) i ≡ Some x
get_before [] ys i x h = absurd (none-some x h)
get_before (z ∷ zs) ys zero x h = h
get_before (z ∷ zs) ys (suc i) x h = get_before zs ys i x h

get_last : {X : Type 0} (xs : List X) (x : X) → slice_get (xs ++ x ∷ []) (length xs) ≡ Some x
get_last [] x = refl
get_last (z ∷ zs) x = get_last zs x

get_grown : {X : Type 0} (xs : List X) (x : X) (i : ℕ) (y : X) → slice_get (xs ++ x ∷ []) i ≡ Some y
    → (slice_get xs i ≡ Some y) ⊎ ((i ≡ length xs) × (x ≡ y))
get_grown [] x zero y h = inr (refl, some_same x y h)
get_grown [] x (suc i) y h = absurd (none-some y h)
get_grown (z ∷ zs) x zero y h = inl h
get_grown (z ∷ zs) x (suc i) y h = elim (get_grown zs x i y h) [
  | inl before ↦ inl before
  | inr last ↦ inr (ap suc last.0, last.1)
]

-- ---- one more name

in_grown : (t new : NameTable) (s u : List ℕ) (i : ℕ) (b : Bool) → bytes_eq s u ≡ b → IsTable t
    → new.names.items ≡ t.names.items ++ s ∷ [] → cond b (Some (length t.names.items)) (number_in t u) ≡ Some i
    → slice_get new.names.items i ≡ Some u
in_grown t new s u i true same is grown h =
    ap (λ xs. slice_get xs i) grown
    ∙ ap (slice_get (t.names.items ++ s ∷ [])) (sym (some_same (length t.names.items) i h))
    ∙ get_last t.names.items s ∙ ap Some (same_bytes s u same)
in_grown t new s u i false other is grown h =
    ap (λ xs. slice_get xs i) grown ∙ get_before t.names.items (s ∷ []) i u (is.named u i h)

numbered_before : (t : NameTable) (s u : List ℕ) (i : ℕ) (b : Bool) → bytes_eq s u ≡ b → IsTable t
    → number_in t s ≡ None → slice_get t.names.items i ≡ Some u
    → cond b (Some (length t.names.items)) (number_in t u) ≡ Some i
numbered_before t s u i true same is none h =
    absurd (none-some i (sym none ∙ ap (number_in t) (same_bytes s u same) ∙ is.numbered u i h))
numbered_before t s u i false other is none h = is.numbered u i h

numbered_last : (t : NameTable) (s u : List ℕ) (i : ℕ) → i ≡ length t.names.items → s ≡ u
    → cond (bytes_eq s u) (Some (length t.names.items)) (number_in t u) ≡ Some i
numbered_last t s u i is same =
    ap (λ b. cond b (Some (length t.names.items)) (number_in t u))
    (subst (λ v. bytes_eq s v ≡ true) same (equal_bytes s)) ∙ ap Some (sym is)

-- a table to which a name is added that had no number
pub grown_table : (t new : NameTable) (s : List ℕ) → IsTable t → number_in t s ≡ None
    → new.names.items ≡ t.names.items ++ s ∷ []
    → ((u : List ℕ) → number_in new u ≡ cond (bytes_eq s u) (Some (length t.names.items)) (number_in t u)) → IsTable new
grown_table t new s is none grown updates = record {
  named = λ u i h. in_grown t new s u i (bytes_eq s u) refl is grown (sym (updates u) ∙ h);
  numbered = λ u i h. updates u ∙ elim (get_grown t.names.items s i u (ap (λ xs. slice_get xs i) (sym grown) ∙ h)) [
    | inl before ↦ numbered_before t s u i (bytes_eq s u) refl is none before
    | inr last ↦ numbered_last t s u i last.0 last.1
  ];
}

-- a name has a number where it had one, or was added
pub numbered_cond : (b : Bool) (n : ℕ) (o : Option ℕ) → is_some (cond b (Some n) o) ≡ (is_some o || b)
numbered_cond true n None = refl
numbered_cond true n (Some i) = refl
numbered_cond false n None = refl
numbered_cond false n (Some i) = refl

-- a name that had one is added
pub numbered_still : (t : NameTable) (s u : List ℕ) (i : ℕ) (b : Bool) → bytes_eq s u ≡ b → number_in t s ≡ Some i
    → is_numbered t u ≡ (is_numbered t u || b)
numbered_still t s u i true same at =
    let has : number_in t u ≡ Some i = ap (number_in t) (sym (same_bytes s u same)) ∙ at in
    ap is_some has ∙ sym (ap (λ (o : Option ℕ). is_some o || true) has)
numbered_still t s u i false other at = same_or (is_numbered t u)

-- a name that is declared, or `tick`, has a number
pub numbered_by : (old listed now declared tick : Bool) → now ≡ (old || listed) → (tick ≡ true → listed ≡ true)
    → (declared || tick) ≡ true → (now || declared) ≡ true
numbered_by old listed now true tick e has h = or_right now true refl
numbered_by old listed now false tick e has h = or_left now false (e ∙ or_right old listed (has h))

-- ---- along lists

-- one element more of a list
pub any_next : {X : Type 0} (p : X → Bool) (xs : List X) (k : ℕ) (x : X) → x ≡ get_or xs k x → k < length xs
    → (list_any p (take k xs) || p x) ≡ list_any p (take (k + 1) xs)
any_next p xs k x at room =
    ap (λ y. list_any p (take k xs) || p y) at ∙ sym (list_any_more p xs k x room)
