-- What the scans make of the bytes at the front.
use Rattle.std.proofs.Common.{◌≡◌, ◌≢◌, ◌∙◌, ℕ, zero, suc, ◌+◌, ◌<◌, ◌≤◌, List, [], ◌∷◌, ◌++◌, length, take, drop}
use Rattle.std.proofs.Common.{get_or, Bool, true, false, slice_index, append_assoc, refl, sym, ap, subst, arith, Option}
use Rattle.std.proofs.Common.{Some, None, if◌then◌else◌}
use Rattle.std.proofs.lemmas.List.{get_or-take, take_more, length-append, length-take, get_or-append-add}
use Rattle.std.proofs.lemmas.List.{take-append-drop}
use Rattle.std.proofs.Math.Seq.{get_or-append_seam}
use Rattle.std.proofs.lemmas.Bool.Decides.{nat_tests}
use Rattle.std.specs.List.{list_all}
use Rattle.std.specs.Bool.{◌==◌}
use Rattle.std.specs.Char.{is_ascii_alphabetic}
use Rattle.est_text.specs.Identifiers.{is_identifier, is_identifier_byte}
use Rattle.est_text.proofs.Heads.{AtPercent, AtLetter, head_of_piece, head_of_letter, same_head, both}
use Rattle.est_text.specs.Keywords.{keyword_of}
use Rattle.est_text.specs.Pieces.{is_in_line, StopsAt, ClosesAt, IsPiece, IsPieceOf, IsFault}
use Rattle.est_text.specs.declared.keyword.Keyword.{Keyword}
use Rattle.est_text.specs.declared.token.Token.TheVariants as token
use Rattle.est_text.specs.declared.piece.Piece.{Piece}
use Rattle.est_text.specs.declared.piece.Piece.TheVariants as piece

-- two runs of bytes with p that end where p stops are one
pub same_run : (p : ℕ → Bool) (xs ys m n : List ℕ) → list_all p xs ≡ true → list_all p ys ≡ true → StopsAt p m
    → StopsAt p n → xs ++ m ≡ ys ++ n → xs ≡ ys
same_run p [] [] m n a b s t e = refl
same_run p [] (y ∷ ys) [] n a b s t e = cc
same_run p [] (y ∷ ys) (x ∷ m) n a b s t e =
    let same : x ≡ y = cc in
    let no : p y ≡ false = subst (λ (z : ℕ). p z ≡ false) same s in
    let yes : p y ≡ true = (both (p y) (list_all p ys) b).0 in cc
same_run p (x ∷ xs) [] m [] a b s t e = cc
same_run p (x ∷ xs) [] m (y ∷ n) a b s t e =
    let same : y ≡ x = cc in
    let no : p x ≡ false = subst (λ (z : ℕ). p z ≡ false) same t in
    let yes : p x ≡ true = (both (p x) (list_all p xs) a).0 in cc
same_run p (x ∷ xs) (y ∷ ys) m n a b s t e =
    let same : x ≡ y = cc in
    let rest : xs ++ m ≡ ys ++ n = cc in
    let more = same_run p xs ys m n (both (p x) (list_all p xs) a).1 (both (p y) (list_all p ys) b).1 s t rest in
    cc

-- all bytes of an identifier may stand in one
pub all_in_word : (bytes : List ℕ) → is_identifier bytes ≡ true → list_all is_identifier_byte bytes ≡ true
all_in_word [] h = cc
all_in_word (b ∷ bs) h = (both _ _ h).1

-- what begins with a letter is a word
word_is_no_other : (p : Piece) (bytes more : List ℕ) → head_of_piece p ≡ AtLetter → IsPiece p bytes more
    → (is_identifier bytes ≡ true) × StopsAt is_identifier_byte more
word_is_no_other (piece.Token (token.Keyword k)) bytes more h p = (p.0, p.2)
word_is_no_other (piece.Token (token.Identifier name)) bytes more h p = (p.0, p.2)
word_is_no_other other bytes more h p = cc

fault_at : (b : ℕ) (bs : List ℕ) (n : ℕ) → is_ascii_alphabetic b ≡ true
    → list_all is_identifier_byte (take n (b ∷ bs)) ≡ true → StopsAt is_identifier_byte (drop n (b ∷ bs))
    → is_identifier (take n (b ∷ bs)) ≡ false → IsFault (b ∷ bs)
fault_at b bs n h same stops long = (
  λ e. cc,
  λ p bytes more e k.
      let w = word_is_no_other p bytes more (sym (same_head b bs p bytes more k e) ∙ head_of_letter b h) k in
      let cut : take n (b ∷ bs) ++ drop n (b ∷ bs) ≡ bytes ++ more = take-append-drop n (b ∷ bs) ∙ e in
      let one = same_run is_identifier_byte (take n (b ∷ bs)) bytes (drop n (b ∷ bs)) more same
      (all_in_word bytes w.0) stops w.1 cut in
      let no : false ≡ true = sym long ∙ ap is_identifier one ∙ w.0 in cc,
)

-- a word that is no identifier is a fault
pub word_fault : (rest : List ℕ) (n : ℕ) → 0 < length rest → is_ascii_alphabetic (slice_index rest 0) ≡ true
    → list_all is_identifier_byte (take n rest) ≡ true → StopsAt is_identifier_byte (drop n rest)
    → is_identifier (take n rest) ≡ false → IsFault rest
word_fault [] n some h same stops long = absurd (omega arith)
word_fault (b ∷ bs) n some h same stops long = fault_at b bs n h same stops long

some_bytes : (rest : List ℕ) (n : ℕ) → is_identifier (take n rest) ≡ true → 0 < n
some_bytes [] zero h = cc
some_bytes (b ∷ bs) zero h = cc
some_bytes rest (suc n) h = omega arith

pub keyword_found : (k : Keyword) (rest : List ℕ) (n : ℕ) → n ≤ length rest
    → StopsAt is_identifier_byte (drop n rest) → is_identifier (take n rest) ≡ true
    → keyword_of (take n rest) ≡ Some k → IsPieceOf (piece.Token (token.Keyword k)) n rest
keyword_found k rest n within stops is found = (some_bytes rest n is, within, (is, found, stops))

pub identifier_found : (name rest : List ℕ) (n : ℕ) → n ≤ length rest → StopsAt is_identifier_byte (drop n rest)
    → is_identifier (take n rest) ≡ true → keyword_of (take n rest) ≡ None → name ≡ take n rest
    → IsPieceOf (piece.Token (token.Identifier name)) n rest
identifier_found name rest n within stops is found same = (some_bytes rest n is, within, (is, found, stops, same))

line_found_at : (cs : List ℕ) (n : ℕ) → (0 < length cs → slice_index cs 0 ≢ 123) → n ≤ length (37 ∷ cs)
    → list_all is_in_line (take n (37 ∷ cs)) ≡ true → StopsAt is_in_line (drop n (37 ∷ cs))
    → IsPieceOf piece.LineComment n (37 ∷ cs)
line_found_at cs zero other within same stops = cc
line_found_at cs (suc n) other within same stops =
    (omega arith, within, ((take n cs, refl, no_brace cs n other, same), stops))
  where
    no_brace : (cs : List ℕ) (n : ℕ) → (0 < length cs → slice_index cs 0 ≢ 123) → StopsAt (λ b. b == 123) (take n cs)
    no_brace [] zero other = tt
    no_brace [] (suc n) other = tt
    no_brace (x ∷ xs) zero other = tt
    no_brace (x ∷ xs) (suc n) other = let no : x ≢ 123 = other (omega arith) in grind (arith, nat_tests)

pub line_found : (rest : List ℕ) (n : ℕ) → slice_index rest 0 ≡ 37 → 0 < length rest
    → (1 < length rest → slice_index rest 1 ≢ 123) → n ≤ length rest → list_all is_in_line (take n rest) ≡ true
    → StopsAt is_in_line (drop n rest) → IsPieceOf piece.LineComment n rest
line_found [] n first some other within same stops = absurd (omega arith)
line_found (b ∷ cs) n first some other within same stops =
    let P : ℕ → Type 0 = λ x. n ≤ length (x ∷ cs) → list_all is_in_line (take n (x ∷ cs)) ≡ true
    → StopsAt is_in_line (drop n (x ∷ cs)) → IsPieceOf piece.LineComment n (x ∷ cs) in
    subst P (sym first) (line_found_at cs n (λ l. other (omega arith))) within same stops

-- the bytes before a close, and the close
upto_close : (cs : List ℕ) (at : ℕ) → at + 1 < length cs → ClosesAt cs at
    → take (at + 2) cs ≡ take at cs ++ 125 ∷ 37 ∷ []
upto_close cs at l h =
    let two : at + 2 ≡ at + 1 + 1 = omega arith in
    let a : take (at + 1 + 1) cs ≡ take (at + 1) cs ++ get_or cs (at + 1) 0 ∷ [] = take_more cs (at + 1) 0 l in
    let b : take (at + 1) cs ≡ take at cs ++ get_or cs at 0 ∷ [] = take_more cs at 0 (omega arith) in
    ap (λ (n : ℕ). take n cs) two ∙ a ∙ ap (λ (xs : List ℕ). xs ++ get_or cs (at + 1) 0 ∷ []) b
    ∙ append_assoc (take at cs) (get_or cs at 0 ∷ []) (get_or cs (at + 1) 0 ∷ [])
    ∙ ap (λ (x : ℕ). take at cs ++ x ∷ get_or cs (at + 1) 0 ∷ []) h.0 ∙ ap (λ (y : ℕ). take at cs ++ 125 ∷ y ∷ []) h.1

pub block_found : (cs : List ℕ) (at : ℕ) → at + 1 < length cs → ClosesAt cs at
    → ((i : ℕ) → i < at → ¬ (ClosesAt cs i)) → IsPieceOf piece.BlockComment (at + 4) (37 ∷ 123 ∷ cs)
block_found cs at l h none =
    let P : ℕ → Type 0 = λ n. IsPieceOf piece.BlockComment n (37 ∷ 123 ∷ cs) in
    let four : suc (suc (at + 2)) ≡ at + 4 = omega arith in
    let cut = upto_close cs at l h in
    subst P four (
      omega arith,
      omega arith,
      (
        take at cs,
        ap (λ (xs : List ℕ). 37 ∷ 123 ∷ xs) cut,
        λ i m k.
            let below : i < at = omega (arith, length-take at cs) in
            let k2 : ClosesAt (take (at + 2) cs) i = subst (λ (xs : List ℕ). ClosesAt xs i) (sym cut) k in
            none i below (
              sym (get_or-take (at + 2) cs i 0 (omega arith)) ∙ k2.0,
              sym (get_or-take (at + 2) cs (i + 1) 0 (omega arith)) ∙ k2.1,
            ),
      ),
    )

-- a comment that begins with `%{` is none to the end of its line
pub brace_in_line : (ds more cs : List ℕ) → 123 ∷ cs ≡ ds ++ more → StopsAt (λ b. b == 123) ds → StopsAt is_in_line more
    → ⊥
brace_in_line [] [] cs e s t = cc
brace_in_line [] (m ∷ ms) cs e s t =
    let same : m ≡ 123 = cc in
    let h : true ≡ false = subst (λ (x : ℕ). is_in_line x ≡ false) same t in cc
brace_in_line (d ∷ ds) more cs e s t =
    let same : d ≡ 123 = cc in
    let h : true ≡ false = subst (λ (x : ℕ). (x == 123) ≡ false) same s in cc

no_close : (cs ds more : List ℕ) → ((i : ℕ) → i + 1 < length cs → ¬ (ClosesAt cs i))
    → cs ≡ (ds ++ 125 ∷ 37 ∷ []) ++ more → ⊥
no_close cs ds more none e =
    let f : cs ≡ ds ++ 125 ∷ 37 ∷ more = e ∙ append_assoc ds (125 ∷ 37 ∷ []) more in
    none (length ds) (omega (arith, ap length f, length-append ds (125 ∷ 37 ∷ more))) (
      ap (λ (xs : List ℕ). get_or xs (length ds) 0) f ∙ get_or-append_seam ds 125 (37 ∷ more) 0,
      ap (λ (xs : List ℕ). get_or xs (length ds + 1) 0) f ∙ get_or-append-add ds (125 ∷ 37 ∷ more) 1 0,
    )

block_is_no_piece : (cs : List ℕ) → ((i : ℕ) → i + 1 < length cs → ¬ (ClosesAt cs i))
    → (k : Piece) (bytes more : List ℕ) → head_of_piece k ≡ AtPercent → 37 ∷ 123 ∷ cs ≡ bytes ++ more
    → IsPiece k bytes more → ⊥
block_is_no_piece cs none piece.LineComment bytes more h e p =
    let e2 : 37 ∷ 123 ∷ cs ≡ 37 ∷ (p.0.0 ++ more) = e ∙ ap (λ (l : List ℕ). l ++ more) p.0.1 in
    let e3 : 123 ∷ cs ≡ p.0.0 ++ more = cc in
    brace_in_line p.0.0 more cs e3 p.0.2 p.1
block_is_no_piece cs none piece.BlockComment bytes more h e p =
    let e2 : 37 ∷ 123 ∷ cs ≡ 37 ∷ 123 ∷ ((p.0 ++ 125 ∷ 37 ∷ []) ++ more) = e ∙ ap (λ (l : List ℕ). l ++ more) p.1 in
    let e3 : cs ≡ (p.0 ++ 125 ∷ 37 ∷ []) ++ more = cc in
    no_close cs p.0 more none e3
block_is_no_piece cs none (piece.Token (token.Keyword k)) bytes more h e p = cc
block_is_no_piece cs none (piece.Token (token.Identifier name)) bytes more h e p = cc
block_is_no_piece cs none other bytes more h e p = cc

pub block_fault : (cs : List ℕ) → ((i : ℕ) → i + 1 < length cs → ¬ (ClosesAt cs i)) → IsFault (37 ∷ 123 ∷ cs)
block_fault cs none = (
  λ e. cc,
  λ k bytes more e p. block_is_no_piece cs none k bytes more
      (sym (same_head 37 (123 ∷ cs) k bytes more p e)) e p,
)

pub block_found_in : (rest : List ℕ) (at : ℕ) → 1 < length rest → slice_index rest 0 ≡ 37 → slice_index rest 1 ≡ 123
    → at + 1 < length (drop 2 rest) → ClosesAt (drop 2 rest) at → ((i : ℕ) → i < at → ¬ (ClosesAt (drop 2 rest) i))
    → IsPieceOf piece.BlockComment (at + 4) rest
block_found_in [] at some first second l h none = absurd (omega arith)
block_found_in (b ∷ []) at some first second l h none = absurd (omega arith)
block_found_in (b ∷ d ∷ cs) at some first second l h none =
    let P : List ℕ → Type 0 = λ xs. IsPieceOf piece.BlockComment (at + 4) xs in
    let e : 37 ∷ 123 ∷ cs ≡ b ∷ d ∷ cs = cc in
    subst P e (block_found cs at l h none)

pub block_fault_in : (rest : List ℕ) → 1 < length rest → slice_index rest 0 ≡ 37 → slice_index rest 1 ≡ 123
    → ((i : ℕ) → i + 1 < length (drop 2 rest) → ¬ (ClosesAt (drop 2 rest) i)) → IsFault rest
block_fault_in [] some first second none = absurd (omega arith)
block_fault_in (b ∷ []) some first second none = absurd (omega arith)
block_fault_in (b ∷ d ∷ cs) some first second none =
    let e : 37 ∷ 123 ∷ cs ≡ b ∷ d ∷ cs = cc in
    subst IsFault e (block_fault cs none)

-- where a name is read from bytes, they are an identifier and the name is these bytes
pub identifier_read : (bytes name : List ℕ) (r : Option (List ℕ))
    → r ≡ (if is_identifier bytes then Some bytes else None) → r ≡ Some name
    → (is_identifier bytes ≡ true) × (name ≡ bytes)
identifier_read bytes name r e f = at (is_identifier bytes) refl
  where
    at : (b : Bool) → b ≡ is_identifier bytes → (is_identifier bytes ≡ true) × (name ≡ bytes)
    at true h =
        let g : Some name ≡ Some bytes = sym f ∙ e ∙ ap (λ (c : Bool). if c then Some bytes else None) (sym h) in
        (sym h, cc)
    at false h = let g : Some name ≡ None = sym f ∙ e ∙ ap (λ (c : Bool). if c then Some bytes else None) (sym h) in cc

pub none_read : (bytes : List ℕ) (r : Option (List ℕ)) → r ≡ (if is_identifier bytes then Some bytes else None)
    → r ≡ None → is_identifier bytes ≡ false
none_read bytes r e f = at (is_identifier bytes) refl
  where
    at : (b : Bool) → b ≡ is_identifier bytes → is_identifier bytes ≡ false
    at true h = let g : None ≡ Some bytes = sym f ∙ e ∙ ap (λ (c : Bool). if c then Some bytes else None) (sym h) in cc
    at false h = sym h
