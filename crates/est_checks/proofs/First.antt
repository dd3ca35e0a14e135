-- The first answer along lists.
use Rattle.std.proofs.Common.{◌≡◌, ℕ, suc, ◌<◌, List, [], ◌∷◌, map, length, drop, get_or, Option, Some, None, refl, ap}
use Rattle.std.proofs.Math.Seq.{drop-cons}
use Rattle.std.specs.Option.{option_or}
use Rattle.std.specs.List.{fold}
use Rattle.est_modules.specs.Modules.{Program, program_of, first_in_bodies}
use Rattle.est_modules.specs.Occurrences.{Occurrence, occurrences, first_of}
use Rattle.est_modules.specs.declared.library_modules.LibraryModule.{LibraryModule}

kept : {X A : Type 0} (f : X → Option A) (a : A) (xs : List X) → fold (λ k x. option_or k (f x)) (Some a) xs ≡ Some a
kept f a [] = refl
kept f a (x ∷ xs) = kept f a xs

begun : {X A : Type 0} (f : X → Option A) (k : Option A) (xs : List X)
    → fold (λ k x. option_or k (f x)) k xs ≡ option_or k (first_of f xs)
begun f (Some a) xs = kept f a xs
begun f None [] = refl
begun f None (x ∷ xs) = begun f (f x) xs

-- what is kept along a list is its first answer
pub fold_first : {X A : Type 0} (f : X → Option A) (xs : List X)
    → fold (λ k x. option_or k (f x)) None xs ≡ first_of f xs
fold_first f xs = begun f None xs

-- the first in the bodies of modules, from that of the module at a place
pub next_home : (f : Program → Occurrence → Option (List ℕ)) (hs : List LibraryModule) (i : ℕ) (d : LibraryModule)
    → i < length hs
    → first_in_bodies f (map program_of (drop i hs)) ≡ option_or
    (first_of (f (program_of (get_or hs i d))) (occurrences [] (program_of (get_or hs i d)).body))
    (first_in_bodies f (map program_of (drop (suc i) hs)))
next_home f hs i d lt = ap (λ ys. first_in_bodies f (map program_of ys)) (drop-cons hs i d lt)
