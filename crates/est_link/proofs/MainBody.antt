-- The names of the main module's body are bound in its interface.
use Rattle.std.proofs.Common.{◌≡◌, ℕ, zero, suc, ◌+◌, ◌<◌, List, [], ◌∷◌, length, map, get_or, Bool, true, false, Some}
use Rattle.std.proofs.Common.{refl, ap, sym, ◌∙◌, subst}
use Rattle.std.proofs.lemmas.Bool.{true≢false}
use Rattle.std.proofs.lemmas.List.{length-map}
use Rattle.std.proofs.lemmas.Option.{slice_get-get_or, none-some}
use Rattle.std.specs.List.{slice_get}
use Rattle.est_kernel.specs.Interfaces.{can_be_emitted, declares}
use Rattle.est_kernel.proofs.Tests.{each_implies}
use Rattle.est_kernel.specs.Scope.{IsAsked, IsEmitted, IsVisible}
use Rattle.est_kernel.specs.Term.{Name, outer, inner, Query}
use Rattle.est_link.specs.Bodies.{MayEmit, MayAsk, IsThere, IsBody, IsSent}
use Rattle.est_link.specs.MainModule.{declaration_of, declarations_of, kernel_kind}
use Rattle.est_modules.specs.Modules.{Program, is_input_kind}
use Rattle.est_modules.specs.declared.interface.Declared.{Declared}
use Rattle.est_modules.specs.declared.interface.Kind.{Kind}
use Rattle.est_modules.specs.declared.interface.Kind.TheVariants.{Input, Output, InputOutput}
use Rattle.est_link.proofs.Naming.{nobody}
use Rattle.est_modules.proofs.Testing.{some_same}
use Rattle.est_reduce.specs.Bodies.{Body, nothing, pause, halt, emit, sustain, exit, await, present, suspend, abort}
use Rattle.est_reduce.specs.Bodies.{weak_abort, repeat, repeat_each, every, trap, signal, seq, par}
use Rattle.est_reduce.specs.Bound.{IsBound}

is_output : (k : Kind) → is_input_kind k ≡ false → can_be_emitted (kernel_kind k) ≡ true
is_output Input h = absurd (true≢false h)
is_output Output h = refl
is_output InputOutput h = refl

output_at : (ds : List Declared) (i : ℕ) (d : Declared) → slice_get ds i ≡ Some d → is_input_kind d.kind ≡ false
    → declares can_be_emitted (map declaration_of ds) i ≡ true
output_at [] i d e h = absurd (none-some d e)
output_at (x ∷ xs) zero d e h = is_output x.kind (ap (λ (y : Declared). is_input_kind y.kind) (some_same x d e) ∙ h)
output_at (x ∷ xs) (suc i) d e h = output_at xs i d e h

main_there : (p : Program) (l : ℕ) (s : Name) → IsThere (length p.interface) l s → IsVisible (declarations_of p) l s
main_there p l (outer i) h = subst (λ n. i < n) (sym (length-map p.interface declaration_of)) h
main_there p l (inner k) h = h

main_asked : (p : Program) (l : ℕ) (q : Query) → MayAsk (length p.interface) l q → IsAsked (declarations_of p) l q
main_asked p l q h = each_implies (IsThere (length p.interface) l) (IsVisible (declarations_of p) l)
    (main_there p l) q h

main_sent : (em : List ℕ → List ℕ → Bool) (p : Program) (l : ℕ) (s : Name)
    → MayEmit (length p.interface) (IsSent em p) l s → IsEmitted (declarations_of p) l s
main_sent em p l (outer i) h =
    let there = slice_get-get_or p.interface i nobody h.0 in
    output_at p.interface i (get_or p.interface i nobody) there (h.1 (get_or p.interface i nobody) there).1
main_sent em p l (inner k) h = h

-- each name is bound, and no input is emitted
pub main_bound : (em : List ℕ → List ℕ → Bool) (p : Program) (t l : ℕ) (f : Body)
    → IsBody (length p.interface) (IsSent em p) t l f → IsBound (declarations_of p) t l f
main_bound em p t l nothing h = tt
main_bound em p t l pause h = tt
main_bound em p t l halt h = tt
main_bound em p t l (emit s) h = main_sent em p l s h
main_bound em p t l (sustain s) h = main_sent em p l s h
main_bound em p t l (exit k) h = h
main_bound em p t l (await now s) h = main_asked p l s h
main_bound em p t l (present s q r) h = (main_asked p l s h.0, main_bound em p t l q h.1, main_bound em p t l r h.2)
main_bound em p t l (suspend now s q) h = (main_asked p l s h.0, main_bound em p t l q h.1)
main_bound em p t l (abort now s q) h = (main_asked p l s h.0, main_bound em p t l q h.1)
main_bound em p t l (weak_abort now s q) h = (main_asked p l s h.0, main_bound em p t l q h.1)
main_bound em p t l (repeat q) h = main_bound em p t l q h
main_bound em p t l (repeat_each s q) h = (main_asked p l s h.0, main_bound em p t l q h.1)
main_bound em p t l (every now s q) h = (main_asked p l s h.0, main_bound em p t l q h.1)
main_bound em p t l (trap q) h = main_bound em p (t + 1) l q h
main_bound em p t l (signal n q) h = main_bound em p t (l + n) q h
main_bound em p t l (seq q r) h = (main_bound em p t l q h.0, main_bound em p t l r h.1)
main_bound em p t l (par q r) h = (main_bound em p t l q h.0, main_bound em p t l r h.1)
