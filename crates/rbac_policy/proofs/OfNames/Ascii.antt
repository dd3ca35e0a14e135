-- The bytes of a name are ASCII, so they are text.
use Rattle.std.proofs.Common.{◌≡◌, ◌<◌, ℕ, List, [], ◌∷◌, true, arith}
use Rattle.std.specs.Str.{IsUtf8}
use Rattle.std.proofs.lemmas.Str.{IsUtf8-from_ascii}
use Rattle.std.proofs.lemmas.Str.Ascii.{IsAscii-from_all}
use Rattle.std.proofs.lemmas.List.Elements.{All-weaker}
use Rattle.std.proofs.lemmas.List.Sums.{AllPass-from_list_all}
use Rattle.std.proofs.lemmas.Bool.Decides.{nat_tests}
use Rattle.std.proofs.lemmas.Grind.{common_steps}
use Rattle.rbac_policy.specs.Names.{is_name_byte, is_name}

small : (b : ℕ) → is_name_byte b ≡ true → b < 128
small b h = grind (arith, nat_tests, common_steps)

pub name_is_text : (bs : List ℕ) → is_name bs ≡ true → IsUtf8 bs
name_is_text [] h = cc
name_is_text (b ∷ bs) h =
    let each = AllPass-from_list_all is_name_byte (b ∷ bs) (grind (arith, nat_tests, common_steps)) in
    IsUtf8-from_ascii (b ∷ bs)
    (IsAscii-from_all (b ∷ bs) (All-weaker (λ c. is_name_byte c ≡ true) (λ c. c < 128) small (b ∷ bs) each))
