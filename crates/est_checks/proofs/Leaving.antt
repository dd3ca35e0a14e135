-- Names that are left of a list, and what a run without renamings emits.
use Rattle.std.proofs.Common.{◌≡◌, ◌||◌, ◌&&◌, ℕ, List, [], ◌∷◌, Some, Bool, true, false, cond, filter, refl, ap}
use Rattle.std.proofs.Common.{sym, ◌∙◌}
use Rattle.std.specs.List.{list_any}
use Rattle.std.specs.Str.{bytes_eq}
use Rattle.est_modules.specs.Visible.{stands_in}
use Rattle.est_checks.specs.Emissions.{emits_in_run}
use Rattle.est_modules.specs.Modules.{Program, is_declared}
use Rattle.est_modules.specs.declared.interface.Declared.{Declared}
use Rattle.est_modules.proofs.Testing.{same_bytes}

pub and_false : (b : Bool) → (b && false) ≡ false
and_false true = refl
and_false false = refl

-- where no element passes, none is left
pub none_left : {X : Type 0} (p : X → Bool) (xs : List X) → ((x : X) → p x ≡ false) → filter p xs ≡ []
none_left p [] none = refl
none_left p (x ∷ xs) none = ap (λ b. cond b (x ∷ filter p xs) (filter p xs)) (none x) ∙ none_left p xs none

pub distributed : (a b c : Bool) → ((a && b) || (a && c)) ≡ (a && (b || c))
distributed true b c = refl
distributed false b c = refl

pub one_left : (p : List ℕ → Bool) (n s : List ℕ) (r : Bool) (e : Bool) → bytes_eq n s ≡ e
    → ((p n && e) || (p s && r)) ≡ (p s && (e || r))
one_left p n s r true same = ap (λ m. (p m && true) || (p s && r)) (same_bytes n s same) ∙ distributed (p s) true r
one_left p n s r false other = ap (λ b. b || (p s && r)) (and_false (p n))

-- a name that is kept stands in the list, or in its rest
kept_name : (p : List ℕ → Bool) (n : List ℕ) (ns : List (List ℕ)) (s : List ℕ) (b : Bool)
    → stands_in (cond b (n ∷ ns) ns) s ≡ ((b && bytes_eq n s) || stands_in ns s)
kept_name p n ns s true = refl
kept_name p n ns s false = refl

-- what stands in a list from which names were taken is the name of one that was left
pub stands_left : (p : List ℕ → Bool) (ns : List (List ℕ)) (s : List ℕ)
    → stands_in (filter p ns) s ≡ (p s && stands_in ns s)
stands_left p [] s = sym (and_false (p s))
stands_left p (n ∷ ns) s =
    kept_name p n (filter p ns) s (p n)
    ∙ ap (λ b. (p n && bytes_eq n s) || b) (stands_left p ns s)
    ∙ one_left p n s (stands_in ns s) (bytes_eq n s) refl

-- the name of an interface signal that passes
named_so : (p : List ℕ → Bool) (ds : List Declared) (s : List ℕ)
    → list_any (λ (d : Declared). p d.name && bytes_eq d.name s) ds ≡ (p s && is_declared ds s)
named_so p [] s = sym (and_false (p s))
named_so p (d ∷ ds) s =
    ap (λ b. (p d.name && bytes_eq d.name s) || b) (named_so p ds s)
    ∙ one_left p d.name s (is_declared ds s) (bytes_eq d.name s) refl

-- the interface names that a module emits are those that a run of it emits without renamings
pub names_emitted : (em : List ℕ → List ℕ → Bool) (m : List ℕ) (q : Program) (s : List ℕ) → q.name ≡ m
    → (em m s && is_declared q.interface s) ≡ emits_in_run em s [] (Some q)
names_emitted em m q s named =
    sym (named_so (em m) q.interface s)
    ∙ ap (λ k. list_any (λ (d : Declared). em k d.name && bytes_eq d.name s) q.interface) (sym named)
