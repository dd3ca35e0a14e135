-- Which modules a module runs, as its walk notes them.
use Rattle.std.proofs.Common.{◌≡◌, ℕ, ◌<◌, inl, inr, Bool, true, false, cond, nat_lt, List, [], ◌∷◌, ◌++◌, length, map}
use Rattle.std.proofs.Common.{slice_get, slice_index_or, Option, Some, None, option_to_list, unwrap_or, Contains}
use Rattle.std.proofs.Common.{append_assoc, append-nil, refl, ap, sym, ◌∙◌, subst, arith, rules}
use Rattle.std.specs.List.{fold, flat_map, position, position_or_len}
use Rattle.std.specs.Str.{bytes_eq}
use Rattle.std.proofs.lemmas.Bool.{ltb-true}
use Rattle.std.proofs.lemmas.List.{length-map, get_or-map}
use Rattle.std.proofs.lemmas.List.Elements.{Contains-append_left, Contains-append_right, Contains-append_cases}
use Rattle.std.proofs.lemmas.List.Elements.{Contains-push, Contains-push_cases}
use Rattle.std.proofs.lemmas.Option.{slice_get_within, get_or_from_slice_get}
use Rattle.est_order.specs.RunRows.{IsRun}
use Rattle.est_modules.specs.Occurrences.{Act, emits, tests, exits, binds, runs, Occurrence, occurrences}
use Rattle.est_modules.specs.Modules.{Program, program_of}
use Rattle.est_modules.specs.ModuleOrders.{place_named, place_run, places_run, run_rows}
use Rattle.est_modules.specs.declared.library_modules.LibraryModule.{LibraryModule}
use Rattle.est_modules.proofs.Positions.{position_map}

-- the place of a module, from that in the code
pub place_found : (hs : List LibraryModule) (m : List ℕ) → place_named (map program_of hs) m
    ≡ position (λ (h : LibraryModule). bytes_eq h.name m) hs
place_found hs m = position_map (λ (p : Program). bytes_eq p.name m) program_of hs

-- what is put after each other is what each gives
pub gathered : {X A : Type 0} (f : X → List A) (k : List A) (xs : List X)
    → fold (λ s x. s ++ f x) k xs ≡ k ++ flat_map f xs
gathered f k [] = sym (append-nil k)
gathered f k (x ∷ xs) = gathered f (k ++ f x) xs ∙ append_assoc k (f x) (flat_map f xs)

-- an element of what one element gives
among : {X A : Type 0} (f : X → List A) (xs : List X) (x : X) (y : A) → Contains xs x → Contains (f x) y
    → Contains (flat_map f xs) y
among f [] x y h k = absurd (omega (arith, h.1))
among f (z ∷ xs) x y h k = elim (Contains-append_cases (z ∷ []) xs x h) [
  | inl here ↦ (elim (Contains-push_cases [] z x here) [
    | inl none ↦ absurd (omega (arith, none.1))
    | inr e ↦ Contains-append_left (f z) (flat_map f xs) y (subst (λ w. Contains (f w) y) (sym e) k)
  ])
  | inr later ↦ Contains-append_right (f z) (flat_map f xs) y (among f xs x y later k)
]

some_is : (b : Bool) (n j : ℕ) → cond {A = Option ℕ} b (Some n) None ≡ Some j → (b ≡ true) × (n ≡ j)
some_is true n j e = (refl, ap (λ o. unwrap_or o n) e)
some_is false n j e = absurd (search (rules, e))

-- the place of a module is there
place_within : (ps : List Program) (m : List ℕ) (j : ℕ) → place_named ps m ≡ Some j → j < length ps
place_within ps m j e =
    let first : ℕ = position_or_len (λ (p : Program). bytes_eq p.name m) ps in
    let is = some_is (nat_lt first (length ps)) first j e in
    subst (λ n. n < length ps) is.1 (ltb-true first (length ps) is.0)

-- the act is a run of the module of this name
abbrev pub IsRunOf : Act → List ℕ → Type 0
IsRunOf (emits s) m = ⊥
IsRunOf (tests s) m = ⊥
IsRunOf (exits t) m = ⊥
IsRunOf (binds ns) m = ⊥
IsRunOf (runs n rs) m = n ≡ m

run_noted : (ps : List Program) (act : Act) (m : List ℕ) (j : ℕ) → IsRunOf act m → place_named ps m ≡ Some j
    → Contains (place_run ps act) j
run_noted ps (emits s) m j h e = absurd h
run_noted ps (tests s) m j h e = absurd h
run_noted ps (exits t) m j h e = absurd h
run_noted ps (binds ns) m j h e = absurd h
run_noted ps (runs n rs) m j h e = subst (λ (o : Option ℕ). Contains (option_to_list o) j)
    (sym (ap (place_named ps) h ∙ e)) (Contains-push [] j)

-- a run of a module that is there is a run of its place
pub run_is_run : (ps : List Program) (i j : ℕ) (p : Program) (o : Occurrence) (m : List ℕ) → slice_get ps i ≡ Some p
    → Contains (occurrences [] p.body) o → IsRunOf o.act m → place_named ps m ≡ Some j → IsRun (run_rows ps) i j
run_is_run ps i j p o m at stands is_run e = record {
  there = omega (arith, place_within ps m j e, length-map ps (places_run ps));
  named =
      let row : slice_index_or (run_rows ps) i [] ≡ places_run ps p =
      get_or-map (places_run ps) ps i p [] (slice_get_within ps i p at)
      ∙ ap (places_run ps) (get_or_from_slice_get ps i p p at) in
      subst (λ r. Contains r j) (sym row)
      (among (λ (q : Occurrence). place_run ps q.act) (occurrences [] p.body) o j stands
      (run_noted ps o.act m j is_run e));
}
