-- Parts of a buffer.
use Rattle.std.proofs.Common.{◌≡◌, ◌∙◌, ◌<◌, ◌≤◌, ◌+◌, ◌-◌, ℕ, zero, suc, List, [], ◌∷◌, ◌++◌, length, take, drop}
use Rattle.std.proofs.Common.{slice_range, get_or, true, not, ◌==◌, Option, Some, None, append_assoc, sym, ap, subst}
use Rattle.std.proofs.Common.{arith}
use Rattle.std.proofs.Math.Seq.{split_at, take-add}
use Rattle.std.proofs.lemmas.List.{drop-drop, drop-take, take-take, length-take-le, length-drop}
use Rattle.std.proofs.lemmas.List.Folds.{list_all-append}
use Rattle.std.proofs.lemmas.Bool.Decides.{nat_tests}
use Rattle.std.proofs.lemmas.Grind.{common_steps}
use Rattle.std.specs.Prelude.{MatchOption}
use Rattle.std.proofs.Common.{add-one, append-nil}
use Rattle.std.proofs.lemmas.Bool.{eqb-true}
use Rattle.std.proofs.lemmas.List.{take_all}
use Rattle.memchr.specs.Find.{IsFirstByte, is_byte}
use Rattle.std.specs.Io.KnownBytes.{Consumes, Keeps}
use Rattle.wire_reader.specs.Lines.{HasNoEnd}
use Rattle.wire_reader.specs.Inner.Places.{HasFirstEnd, SameAhead, Adds}
use Rattle.wire_reader.specs.Meters.{Reads}

no_end_more : (b : ℕ) (bs : List ℕ) → ((b == 10) ≡ true → ⊥) → HasNoEnd bs → HasNoEnd (b ∷ bs)
no_end_more b bs n h = grind (arith, nat_tests, common_steps)

-- the first p bytes, where none of them is an LF
pub no_end_before : (bs : List ℕ) (p : ℕ) → ((k : ℕ) → 0 ≤ k → k < p → (get_or bs k 0 == 10) ≡ true → ⊥)
    → p ≤ length bs → HasNoEnd (take p bs)
no_end_before [] zero h w = search
no_end_before [] (suc p) h w = absurd (omega arith)
no_end_before (b ∷ bs) zero h w = search
no_end_before (b ∷ bs) (suc p) h w = no_end_more b (take p bs) (h 0 (omega arith) (omega arith))
    (no_end_before bs p (λ k low high. h (suc k) (omega arith) (omega arith)) (omega arith))

pub no_end_append : (xs ys : List ℕ) → HasNoEnd xs → HasNoEnd ys → HasNoEnd (xs ++ ys)
no_end_append xs ys a b = grind (arith, common_steps, list_all-append (λ c. not (c == 10)) xs ys)

-- two parts, one after the other
pub range_join : (xs : List ℕ) (a s e : ℕ) → a ≤ s → s ≤ e
    → slice_range xs a e ≡ slice_range xs a s ++ slice_range xs s e
range_join xs a s e low high =
    let sum : (s - a) + (e - s) ≡ e - a = omega arith in
    let there : a + (s - a) ≡ s = omega arith in
    ap (λ n. take n (drop a xs)) (sym sum) ∙ take-add (s - a) (e - s) (drop a xs)
    ∙ ap (λ (ys : List ℕ). take (s - a) (drop a xs) ++ take (e - s) ys)
    (drop-drop (s - a) a xs ∙ ap (λ n. drop n xs) there)

pub length_range : (xs : List ℕ) (a e : ℕ) → a ≤ e → e ≤ length xs → length (slice_range xs a e) ≡ e - a
length_range xs a e low high = length-take-le (e - a) (drop a xs) (omega (arith, length-drop a xs))

-- a part of the bytes before a place is the same where these are
pub range_kept : (xs ys : List ℕ) (a e : ℕ) → a ≤ e → take e ys ≡ take e xs → slice_range ys a e ≡ slice_range xs a e
range_kept xs ys a e low same =
    let sum : a + (e - a) ≡ e = omega arith in
    sym (drop-take a (e - a) ys) ∙ ap (λ n. drop a (take n ys)) sum ∙ ap (drop a) same
    ∙ ap (λ n. drop a (take n xs)) (sym sum) ∙ drop-take a (e - a) xs

-- the front of a part, and what follows it
pub range_front : (xs : List ℕ) (a e p : ℕ) → a + p ≤ e → take p (slice_range xs a e) ≡ slice_range xs a (a + p)
range_front xs a e p short =
    let n : a + p - a ≡ p = omega arith in
    take-take p (e - a) (drop a xs) (omega arith) ∙ ap (λ k. take k (drop a xs)) (sym n)

pub range_back : (xs : List ℕ) (a e p : ℕ) → a + p ≤ e → drop p (slice_range xs a e) ≡ slice_range xs (a + p) e
range_back xs a e p short =
    let sum : p + (e - (a + p)) ≡ e - a = omega arith in
    ap (λ k. drop p (take k (drop a xs))) (sym sum) ∙ drop-take p (e - (a + p)) (drop a xs)
    ∙ ap (take (e - (a + p))) (drop-drop p a xs)

-- the first LF after what was looked at is the first of all
pub found : (xs : List ℕ) (start scanned end p : ℕ) → start ≤ scanned → scanned ≤ end → end ≤ length xs
    → HasNoEnd (slice_range xs start scanned)
    → HasNoEnd (take p (slice_range xs scanned end)) → p < length (slice_range xs scanned end)
    → slice_range xs scanned end ≡ take p (slice_range xs scanned end) ++ 10 ∷ drop (p + 1) (slice_range xs scanned end)
    → HasFirstEnd xs start (scanned + p) end
found xs start scanned end p low high within before none place cut =
    let len = length_range xs scanned end high within in
    let short : scanned + p < end = omega arith in
    let front : take p (slice_range xs scanned end) ≡ slice_range xs scanned (scanned + p) =
    range_front xs scanned end p (omega arith) in
    let step : scanned + (p + 1) ≡ scanned + p + 1 = omega arith in
    let back : drop (p + 1) (slice_range xs scanned end) ≡ slice_range xs (scanned + p + 1) end =
    range_back xs scanned end (p + 1) (omega arith) ∙ ap (λ k. slice_range xs k end) step in
    let whole = range_join xs start scanned (scanned + p) low (omega arith) in
    record {
      low = omega arith;
      high = short;
      no_end = subst HasNoEnd (sym whole)
          (no_end_append (slice_range xs start scanned) (slice_range xs scanned (scanned + p)) before
          (subst HasNoEnd front none));
      cut = range_join xs start scanned end low high
          ∙ ap (λ (l : List ℕ). slice_range xs start scanned ++ l)
          (cut ∙ ap (λ (l : List ℕ). l ++ 10 ∷ drop (p + 1) (slice_range xs scanned end)) front
          ∙ ap (λ (l : List ℕ). slice_range xs scanned (scanned + p) ++ 10 ∷ l) back)
          ∙ sym (append_assoc (slice_range xs start scanned) (slice_range xs scanned (scanned + p)) _)
          ∙ ap (λ (l : List ℕ). l ++ 10 ∷ slice_range xs (scanned + p + 1) end) (sym whole);
    }

-- what a search for LF found
pub first_found : (bs : List ℕ) (r : Option ℕ) → IsFirstByte (is_byte 10) bs r
    → MatchOption r (HasNoEnd bs)
    (λ p. HasNoEnd (take p bs) × (p < length bs) × (bs ≡ take p bs ++ 10 ∷ drop (p + 1) bs))
first_found bs None h = subst HasNoEnd (take_all (length bs) bs (omega arith))
    (no_end_before bs (length bs) h (omega arith))
first_found bs (Some p) h =
    let is : get_or bs p 0 ≡ 10 = eqb-true _ _ h.1 in (
      no_end_before bs p h.0.before (omega (arith, h.0.high)),
      h.0.high,
      split_at bs p 0 h.0.high ∙ ap (λ (b : ℕ). take p bs ++ b ∷ drop (suc p) bs) is
          ∙ ap (λ n. take p bs ++ 10 ∷ drop n bs) (sym (add-one p)),
    )

-- no LF was found, so none is held_bytes
pub none_found : (xs : List ℕ) (start scanned end : ℕ) → start ≤ scanned → scanned ≤ end
    → HasNoEnd (slice_range xs start scanned) → HasNoEnd (slice_range xs scanned end)
    → HasNoEnd (slice_range xs start end)
none_found xs start scanned end low high a b = subst HasNoEnd (sym (range_join xs start scanned end low high))
    (no_end_append (slice_range xs start scanned) (slice_range xs scanned end) a b)

same_ahead : (h bs : List ℕ) (a b : Option (List ℕ)) → Consumes a b bs → SameAhead h a (h ++ bs) b
same_ahead h bs None b k = tt
same_ahead h bs (Some xs) None k = absurd k
same_ahead h bs (Some xs) (Some ys) k = ap (λ (l : List ℕ). h ++ l) k ∙ sym (append_assoc h bs ys)

same_kept : (h : List ℕ) (a b : Option (List ℕ)) → Keeps a b → SameAhead h a h b
same_kept h None b k = tt
same_kept h (Some xs) None k = absurd k
same_kept h (Some xs) (Some ys) k = ap (λ (l : List ℕ). h ++ l) (sym k)

-- a read that gave up
pub added_none : (xs ys h : List ℕ) (start end : ℕ) (a b : Option (List ℕ)) → start ≤ end
    → slice_range xs start end ≡ h → take end ys ≡ take end xs → Keeps a b → Adds h a None (slice_range ys start end) b
added_none xs ys h start end a b low is same k =
    let kept = range_kept xs ys start end low same ∙ is in
    (kept, subst (λ (l : List ℕ). SameAhead h a l b) (sym kept) (same_kept h a b k))

-- a read of n bytes
pub added_some : (xs ys h : List ℕ) (start end n : ℕ) (a b : Option (List ℕ)) → start ≤ end → end < length ys
    → slice_range xs start end ≡ h → take end ys ≡ take end xs
    → Reads a b (Some n) (drop end ys) → Adds h a (Some n) (slice_range ys start (end + n)) b
added_some xs ys h start end n a b low room is same k =
    let k0 : end + n - end ≡ n = omega arith in
    let more : slice_range ys start (end + n) ≡ h ++ take n (drop end ys) =
    range_join ys start end (end + n) low (omega arith)
    ∙ ap (λ (l : List ℕ). l ++ slice_range ys end (end + n)) (range_kept xs ys start end low same ∙ is)
    ∙ ap (λ m. h ++ take m (drop end ys)) k0 in (
      subst (λ (l : List ℕ). SameAhead h a l b) (sym more) (same_ahead h (take n (drop end ys)) a b k.0),
      λ zero_read. (
        more ∙ ap (λ m. h ++ take m (drop end ys)) zero_read ∙ append-nil h,
        k.1 zero_read (omega (arith, length-drop end ys)),
      ),
    )

-- a read leaves what was looked at
pub no_end_kept : (xs ys : List ℕ) (start scanned end : ℕ) → start ≤ scanned → scanned ≤ end
    → take end ys ≡ take end xs → HasNoEnd (slice_range xs start scanned) → HasNoEnd (slice_range ys start scanned)
no_end_kept xs ys start scanned end low high same h =
    let less : take scanned ys ≡ take scanned xs =
    sym (take-take scanned end ys high) ∙ ap (take scanned) same ∙ take-take scanned end xs high in
    subst HasNoEnd (sym (range_kept xs ys start scanned low less)) h
