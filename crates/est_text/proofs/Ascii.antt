-- The bytes of an identifier are ASCII, so they are text.
use Rattle.std.proofs.Common.{◌≡◌, ◌<◌, ℕ, zero, suc, List, [], ◌∷◌, true, refl, arith, Result, Ok, Err}
use Rattle.std.specs.List.{list_all}
use Rattle.std.specs.Str.{IsAscii, IsUtf8}
use Rattle.std.specs.Result.{MatchResult, IsOk}
use Rattle.std.proofs.lemmas.Str.{IsUtf8-from_ascii}
use Rattle.std.proofs.lemmas.Bool.Decides.{nat_tests}
use Rattle.std.proofs.lemmas.Grind.{common_steps}
use Rattle.est_text.specs.Identifiers.{is_identifier_byte, is_identifier}

small : (b : ℕ) → is_identifier_byte b ≡ true → b < 128
small b h = grind (arith, nat_tests, common_steps)

all_small : (bs : List ℕ) → list_all is_identifier_byte bs ≡ true → IsAscii bs
all_small [] h i = omega arith
all_small (b ∷ bs) h zero = small b (grind (arith, nat_tests, common_steps))
all_small (b ∷ bs) h (suc i) = all_small bs (grind (arith, nat_tests, common_steps)) i

pub identifier_is_text : (bs : List ℕ) → is_identifier bs ≡ true → IsUtf8 bs
identifier_is_text [] h = cc
identifier_is_text (b ∷ bs) h = IsUtf8-from_ascii (b ∷ bs) (all_small (b ∷ bs) (grind (arith, nat_tests, common_steps)))

-- text is never refused
pub text_is_read : {A E : Type 0} (bs : List ℕ) (s : A → Type 0) (q : E → Type 0) (r : Result A E)
    → MatchResult r s (λ e. ¬ (IsUtf8 bs) × q e) → IsUtf8 bs → IsOk r
text_is_read bs s q (Ok x) h text = refl
text_is_read bs s q (Err e) h text = absurd (h.0 text)
