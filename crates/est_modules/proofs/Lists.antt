-- Tests along lists that were mapped.
use Rattle.std.proofs.Common.{◌≡◌, ◌||◌, ℕ, suc, List, [], ◌∷◌, Option, Some, None, Bool, true, false, cond, refl, ap}
use Rattle.std.proofs.Common.{map, option_map, length, filter, ◌++◌, ◌<◌, get_or, take, sym, ◌∙◌}
use Rattle.std.proofs.Math.Seq.{take-suc}
use Rattle.std.proofs.lemmas.List.{map-append}
use Rattle.std.specs.Prelude.{is_some}
use Rattle.std.specs.List.{list_any, find}
use Rattle.std.specs.Str.{bytes_eq}
use Rattle.est_syntax.specs.Tree.{RenamingTree}
use Rattle.est_syntax.specs.Views.{renaming_view}
use Rattle.est_syntax.specs.declared.tree.Renaming.{Renaming}
use Rattle.est_modules.specs.declared.library_modules.LibraryModule.{LibraryModule}
use Rattle.est_modules.specs.Modules.{Program, program_of, program_named}
use Rattle.est_modules.specs.Renamings.{renamed, callers_name}

pub any_map : {X Y : Type 0} (p : Y → Bool) (f : X → Y) (xs : List X)
    → list_any p (map f xs) ≡ list_any (λ x. p (f x)) xs
any_map p f [] = refl
any_map p f (x ∷ xs) = ap (λ b. p (f x) || b) (any_map p f xs)

counted : {X Y : Type 0} (b : Bool) (x : X) (y : Y) (xs : List X) (ys : List Y) → length ys ≡ length xs
    → length (cond b (y ∷ ys) ys) ≡ length (cond b (x ∷ xs) xs)
counted true x y xs ys e = ap suc e
counted false x y xs ys e = e

pub count_map : {X Y : Type 0} (p : Y → Bool) (f : X → Y) (xs : List X)
    → length (filter p (map f xs)) ≡ length (filter (λ x. p (f x)) xs)
count_map p f [] = refl
count_map p f (x ∷ xs) = counted (p (f x)) x (f x) _ _ (count_map p f xs)

chosen : {X Y : Type 0} (b : Bool) (f : X → Y) (x : X) (o : Option X) (r : Option Y) → r ≡ option_map f o
    → cond b (Some (f x)) r ≡ option_map f (cond b (Some x) o)
chosen true f x o r e = refl
chosen false f x o r e = e

pub find_map : {X Y : Type 0} (p : Y → Bool) (f : X → Y) (xs : List X)
    → find p (map f xs) ≡ option_map f (find (λ x. p (f x)) xs)
find_map p f [] = refl
find_map p f (x ∷ xs) = chosen (p (f x)) f x _ _ (find_map p f xs)

pub same_none : {X Y Z : Type 0} (f : X → Y) (g : Y → Z) (o : Option X)
    → option_map g (option_map f o) ≡ option_map (λ x. g (f x)) o
same_none f g None = refl
same_none f g (Some x) = refl

-- the module of a name, from the place of that name
pub program_found : (hs : List LibraryModule) (m : List ℕ) → program_named (map program_of hs) m
    ≡ option_map program_of (find (λ (h : LibraryModule). bytes_eq h.name m) hs)
program_found hs m = find_map (λ (p : Program). bytes_eq p.name m) program_of hs

pub renamed_is : (rs : List Renaming) (s : List ℕ) → renamed (map renaming_view rs) s
    ≡ callers_name (option_map renaming_view (find (λ (r : Renaming). bytes_eq r.inner s) rs)) s
renamed_is rs s = ap (λ o. callers_name o s) (find_map (λ (r : RenamingTree). bytes_eq r.inner s) renaming_view rs)

pub map_map : {X Y Z : Type 0} (g : Y → Z) (f : X → Y) (xs : List X) → map g (map f xs) ≡ map (λ x. g (f x)) xs
map_map g f [] = refl
map_map g f (x ∷ xs) = ap (λ ys. g (f x) ∷ ys) (map_map g f xs)

-- a list of which i were taken goes on with the next
pub more : {X Y : Type 0} (f : X → Y) (xs : List X) (i j : ℕ) (d : X) → i < length xs → j ≡ suc i
    → map f (take i xs) ++ f (get_or xs i d) ∷ [] ≡ map f (take j xs)
more f xs i j d lt next =
    sym (ap (λ k. map f (take k xs)) next ∙ ap (map f) (take-suc xs i d lt)
    ∙ map-append f (take i xs) (get_or xs i d ∷ []))

-- what is found is there
pub some_map : {X Y : Type 0} (f : X → Y) (o : Option X) → is_some (option_map f o) ≡ is_some o
some_map f None = refl
some_map f (Some x) = refl

some_chosen : {X : Type 0} (b : Bool) (x : X) (o : Option X) → is_some (cond b (Some x) o) ≡ (b || is_some o)
some_chosen true x o = refl
some_chosen false x o = refl

-- something is found where an element passes
pub some_found : {X : Type 0} (p : X → Bool) (xs : List X) → is_some (find p xs) ≡ list_any p xs
some_found p [] = refl
some_found p (x ∷ xs) = some_chosen (p x) x (find p xs) ∙ ap (λ b. p x || b) (some_found p xs)
