use Rattle.std.proofs.Common.{◌≡◌, ◌<◌, ◌^◌, ◌==◌, ◌&&◌, ℕ, ℤ, nat_lt, nat_le, not, Bool, true, false, List, Option}
use Rattle.std.proofs.Common.{Some, None, cond, SomeIff, length, drop, get_or, option_and_then, Float, lt-ltb, sym, ap}
use Rattle.std.proofs.Common.{◌∙◌, refl}
use Rattle.std.proofs.lemmas.Bool.{and_parts, ltb-true, eqb-true, not-true}
use Rattle.std.specs.Float.{binary64, float_is_finite}
use Rattle.fast_float.specs.Text.{Parts, scan, IsInteger, digits_of, nearest, with_sign}
use Rattle.serde_json.specs.Data.{Num, unsigned, negative, float}
use Rattle.serde_json.specs.Find.{as_u64}
use Rattle.serde_json.specs.Read.{number_of, number_from, float_of, is_integer}
use Rattle.wire_lines.specs.Inner.Members.{whole_of}
use Rattle.wire_lines.proofs.members.whole_number.Goals as goal

-- a float is no whole number
float_none : (b : Bool) (x : Float) → option_and_then as_u64 (cond b (Some (float x)) None) ≡ None
float_none true x = refl
float_none false x = refl

signed_none : (b : Bool) (z : ℤ) (o : Option Num) → option_and_then as_u64 o ≡ None
    → option_and_then as_u64 (cond b (Some (negative z)) o) ≡ None
signed_none true z o h = refl
signed_none false z o h = h

none_signed : (p : Parts) → option_and_then as_u64 (number_from true p) ≡ None
none_signed p =
    signed_none (is_integer p && nat_lt 0 (digits_of p) && nat_le (digits_of p) (2 ^ 63)) (with_sign true (digits_of p))
    (float_of true p)
    (float_none (float_is_finite (nearest binary64 true p)) (nearest binary64 true p))

unsigned_none : (b : Bool) (n : ℕ) (o : Option Num) → (b ≡ true → ⊥) → option_and_then as_u64 o ≡ None
    → None ≡ option_and_then as_u64 (cond b (Some (unsigned n)) o)
unsigned_none true n o not_so h = absurd (not_so refl)
unsigned_none false n o not_so h = sym h

integer_is : (p : Parts) → is_integer p ≡ true → IsInteger p
integer_is p h =
    let both = and_parts (nat_lt 0 (length p.whole) && not p.point) (length p.exponent == 0) h in
    let first = and_parts (nat_lt 0 (length p.whole)) (not p.point) both.0 in
    (ltb-true 0 (length p.whole) first.0, not-true p.point first.1, eqb-true (length p.exponent) 0 both.1)

-- a numeral is the number of its digits exactly when it has no point or exponent and fits
whole_from : (p : Parts) (found : Option ℕ) → SomeIff found (IsInteger p × (digits_of p < 2 ^ 64)) (digits_of p)
    → found ≡ option_and_then as_u64 (number_from false p)
whole_from p None h =
    unsigned_none (is_integer p && nat_lt (digits_of p) (2 ^ 64)) (digits_of p) (float_of false p)
    (λ e. let parts = and_parts (is_integer p) (nat_lt (digits_of p) (2 ^ 64)) e in
    h (integer_is p parts.0, ltb-true (digits_of p) (2 ^ 64) parts.1))
    (float_none (float_is_finite (nearest binary64 false p)) (nearest binary64 false p))
whole_from p (Some n) h =
    let some = lt-ltb 0 (length p.whole) h.0.0.0 in
    let fits = lt-ltb (digits_of p) (2 ^ 64) h.0.1 in
    rw (some, h.0.0.1, h.0.0.2, fits) (ap (λ (m : ℕ). Some m) h.1)

-- a text without a sign is the number of its numeral; a text with a minus sign is that of what follows the sign
number_is : (s : List ℕ) → (get_or s 0 0 == 45) ≡ false → number_of s ≡ number_from false (scan s)
unfolding number_of
number_is s plain = rw plain refl

negative_is : (s : List ℕ) → (get_or s 0 0 == 45) ≡ true → number_of s ≡ number_from true (scan (drop 1 s))
unfolding number_of
negative_is s minus = rw minus refl

pub returns-then-has_sign : goal.returns-then-has_sign
unfolding whole_of
returns-then-has_sign c =
    let s = c.as_bytes-digits.result.now in
    let minus : (get_or s 0 0 == 45) ≡ true = sym c.has_sign.ensures ∙ c.if-has_sign.true in
    sym (ap (option_and_then as_u64) (sym (ap number_of c.as_bytes-digits.ensures.value) ∙ negative_is s minus)
    ∙ none_signed (scan (drop 1 s)))

pub returns : goal.returns
unfolding whole_of
returns c =
    let s = c.as_bytes-digits.result.now in
    let plain : (get_or s 0 0 == 45) ≡ false = sym c.has_sign.ensures ∙ c.if-has_sign.false in
    whole_from c.scan.result c.to_u64.result c.to_u64.ensures
    ∙ ap (option_and_then as_u64) (ap (number_from false) c.scan.ensures.parts ∙ sym (number_is s plain)
    ∙ ap number_of c.as_bytes-digits.ensures.value)
