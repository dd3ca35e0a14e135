-- Where a run of the machine stops, the tokens stop being the beginning of a library.
use Rattle.std.proofs.Common.{◌≡◌, ◌∙◌, ℕ, ◌+◌, ◌≤◌, ◌<◌, length, List, [], ◌∷◌, ◌++◌, Bool, true, false, if◌then◌else◌}
use Rattle.std.proofs.Common.{nat_le, refl, sym, ap, subst, append_assoc, arith, length-append}
use Rattle.std.proofs.lemmas.Bool.{le-leb, leb-true}
use Rattle.est_text.specs.declared.token.Token.{Token}
use Rattle.est_syntax.specs.Tree.{LibraryTree}
use Rattle.est_syntax.specs.Grammar as g
use Rattle.est_syntax.specs.Faults.{Begins, BeginsWithin, IsSyntaxFault, IsTooDeep}
use Rattle.est_syntax.specs.Inner.Machine as m
use Rattle.est_syntax.specs.Inner.Machine.{Want, Step, Outcome, refused, to, opens, right, wrong, deep, step, go_on}
use Rattle.est_syntax.specs.Inner.Machine.{open_count}
use Rattle.est_syntax.proofs.Runs.{run_library}
use Rattle.est_syntax.proofs.Prefixes.{Back, back}
use Rattle.est_syntax.proofs.UnitPrefixes.{All, finish}

-- a run stops at a token that cannot stand there, or at the end; what stands before that can go on
pub record StopsWrong (limit : ℕ) (s : List Want) (bs rest : List Token) : Type 0 where
  pub seen : List Token
  pub whole : bs ≡ seen ++ rest
  pub on : (more : List Token) × All limit s (seen ++ more)
  pub stuck : (b : Token) (left other : List Token) → rest ≡ b ∷ left → (room : ℕ) → limit ≤ room
      → m.run room s (seen ++ b ∷ other) ≡ wrong (b ∷ other)
  pub short : rest ≡ [] → (room : ℕ) → limit ≤ room → m.run room s bs ≡ wrong []

-- a run stops at a token that opens a unit too many
pub record StopsDeep (limit : ℕ) (s : List Want) (bs rest : List Token) : Type 0 where
  pub seen : List Token
  pub opener : Token
  pub left : List Token
  pub is : rest ≡ opener ∷ left
  pub whole : bs ≡ seen ++ rest
  pub on : (more : List Token) × All limit s (seen ++ more)
  pub room : ℕ
  pub enough : limit ≤ room
  pub beyond : (more : List Token) × All room s (seen ++ opener ∷ more)
  pub stuck : (other : List Token) → m.run limit s (seen ++ opener ∷ other) ≡ deep (opener ∷ other)

-- ---- runs that stop wrong

-- one more token before it
wrong_later : (limit : ℕ) (s t : List Want) (b : Token) (bs rest : List Token)
    → ((bs : List Token) → All limit t bs → All limit s (b ∷ bs))
    → ((room : ℕ) (bs : List Token) → limit ≤ room → m.run room s (b ∷ bs) ≡ m.run room t bs)
    → StopsWrong limit t bs rest → StopsWrong limit s (b ∷ bs) rest
wrong_later limit s t b bs rest k e h = record {
  seen = b ∷ h.seen;
  whole = ap (λ (l : List Token). b ∷ l) h.whole;
  on = (h.on.0, k (h.seen ++ h.on.0) h.on.1);
  stuck = λ c left other is room r. e room (h.seen ++ c ∷ other) r ∙ h.stuck c left other is room r;
  short = λ is room r. e room bs r ∙ h.short is room r;
}

no_cons : (b : Token) (bs : List Token) → b ∷ bs ≡ [] → ⊥
no_cons b bs e = cc

head_is : (b c : Token) (bs cs : List Token) → b ∷ bs ≡ c ∷ cs → b ≡ c
head_is b c bs cs e = cc

wrong_here : (limit : ℕ) (s : List Want) (b : Token) (bs : List Token) → open_count s ≤ limit → step s b ≡ refused
    → StopsWrong limit s (b ∷ bs) (b ∷ bs)
wrong_here limit s b bs r e = record {
  seen = [];
  whole = refl;
  on = finish limit s r;
  stuck = λ c left other is room q. ap (λ o. go_on room o (c ∷ other) (λ x. m.run room x other))
      (subst (λ (x : Token). step s x ≡ refused) (head_is b c bs left is) e);
  short = λ is room q. absurd (no_cons b bs is);
}

ended_wrong : (x : Bool) (rest : List Token) → (if x then right else wrong []) ≡ wrong rest → x ≡ false
ended_wrong true rest h = cc
ended_wrong false rest h = refl

wrong_rest : (rest other : List Token) → wrong rest ≡ wrong other → rest ≡ other
wrong_rest rest other h = cc

ended_rest : (x : Bool) (rest : List Token) → (if x then right else wrong []) ≡ wrong rest → [] ≡ rest
ended_rest true rest h = cc
ended_rest false rest h = wrong_rest [] rest h

wrong_at_end : (limit : ℕ) (s : List Want) → open_count s ≤ limit → m.is_done s ≡ false → StopsWrong limit s [] []
wrong_at_end limit s r e = record {
  seen = [];
  whole = refl;
  on = finish limit s r;
  stuck = λ c left other is. absurd (no_cons c left (sym is));
  short = λ is room q. ap (λ (x : Bool). if x then right else wrong []) e;
}

-- a step that opens a unit goes on where there is room
goes_on : (limit room : ℕ) (s t : List Want) (b : Token) (bs : List Token) → step s b ≡ opens t
    → nat_le (open_count t) limit ≡ true → limit ≤ room → m.run room s (b ∷ bs) ≡ m.run room t bs
goes_on limit room s t b bs e x r =
    ap (λ o. go_on room o (b ∷ bs) (λ u. m.run room u bs)) e
    ∙ ap (λ (y : Bool). if y then m.run room t bs else deep (b ∷ bs))
    (le-leb (open_count t) room (omega (arith, leb-true (open_count t) limit x, r)))

wrong_step : (limit : ℕ) (s : List Want) (b : Token) (bs rest : List Token) → open_count s ≤ limit → (o : Step)
    → step s b ≡ o → go_on limit o (b ∷ bs) (λ t. m.run limit t bs) ≡ wrong rest
    → ((t : List Want) → open_count t ≤ limit → m.run limit t bs ≡ wrong rest → StopsWrong limit t bs rest)
    → StopsWrong limit s (b ∷ bs) rest
wrong_step limit s b bs rest r refused e h k =
    subst (StopsWrong limit s (b ∷ bs)) (wrong_rest (b ∷ bs) rest h) (wrong_here limit s b bs r e)
wrong_step limit s b bs rest r (to t) e h k =
    let p : Back limit s (b ∷ []) (to t) = subst (Back limit s (b ∷ [])) e (back limit s b) in
    wrong_later limit s t b bs rest (λ cs a. p.1 cs r a)
    (λ room cs q. ap (λ o. go_on room o (b ∷ cs) (λ u. m.run room u cs)) e) (k t (omega (arith, p.0, r)) h)
wrong_step limit s b bs rest r (opens t) e h k = by_room (nat_le (open_count t) limit) refl h
  where
    by_room : (x : Bool) → nat_le (open_count t) limit ≡ x
        → (if x then m.run limit t bs else deep (b ∷ bs)) ≡ wrong rest → StopsWrong limit s (b ∷ bs) rest
    by_room true f h =
        let p : Back limit s (b ∷ []) (opens t) = subst (Back limit s (b ∷ [])) e (back limit s b) in
        wrong_later limit s t b bs rest (λ cs a. p cs r a) (λ room cs q. goes_on limit room s t b cs e f q)
        (k t (leb-true (open_count t) limit f) h)
    by_room false f h = cc

pub run_wrong : (limit : ℕ) (s : List Want) (bs rest : List Token) → open_count s ≤ limit
    → m.run limit s bs ≡ wrong rest → StopsWrong limit s bs rest
run_wrong limit s [] rest r h = subst (StopsWrong limit s []) (ended_rest (m.is_done s) rest h)
    (wrong_at_end limit s r (ended_wrong (m.is_done s) rest h))
run_wrong limit s (b ∷ bs) rest r h = wrong_step limit s b bs rest r (step s b) refl h
    (λ t q. run_wrong limit t bs rest q)

-- ---- runs that stop too deep

deep_later : (limit : ℕ) (s t : List Want) (b : Token) (bs rest : List Token)
    → ((room : ℕ) (bs : List Token) → limit ≤ room → All room t bs → All room s (b ∷ bs))
    → ((bs : List Token) → m.run limit s (b ∷ bs) ≡ m.run limit t bs) → StopsDeep limit t bs rest
    → StopsDeep limit s (b ∷ bs) rest
deep_later limit s t b bs rest k e h = record {
  seen = b ∷ h.seen;
  opener = h.opener;
  left = h.left;
  is = h.is;
  whole = ap (λ (l : List Token). b ∷ l) h.whole;
  on = (h.on.0, k limit (h.seen ++ h.on.0) (omega arith) h.on.1);
  room = h.room;
  enough = h.enough;
  beyond = (h.beyond.0, k h.room (h.seen ++ h.opener ∷ h.beyond.0) h.enough h.beyond.1);
  stuck = λ other. e (h.seen ++ h.opener ∷ other) ∙ h.stuck other;
}

deep_rest : (rest other : List Token) → deep rest ≡ deep other → rest ≡ other
deep_rest rest other h = cc

not_leb : (a b : ℕ) → nat_le a b ≡ false → b < a
not_leb a b h = grind arith

deep_here : (limit : ℕ) (s t : List Want) (b : Token) (bs : List Token) → open_count s ≤ limit → step s b ≡ opens t
    → nat_le (open_count t) limit ≡ false → StopsDeep limit s (b ∷ bs) (b ∷ bs)
deep_here limit s t b bs r e f =
    let room = open_count t in
    let over : limit < room = not_leb room limit f in
    let p : Back room s (b ∷ []) (opens t) = subst (Back room s (b ∷ [])) e (back room s b) in
    let on = finish room t (omega arith) in
    record {
      seen = [];
      opener = b;
      left = bs;
      is = refl;
      whole = refl;
      on = finish limit s r;
      room = room;
      enough = omega (arith, over);
      beyond = (on.0, p on.0 (omega (arith, over, r)) on.1);
      stuck = λ other. ap (λ o. go_on limit o (b ∷ other) (λ u. m.run limit u other)) e
          ∙ ap (λ (y : Bool). if y then m.run limit t other else deep (b ∷ other)) f;
    }

deep_step : (limit : ℕ) (s : List Want) (b : Token) (bs rest : List Token) → open_count s ≤ limit → (o : Step)
    → step s b ≡ o → go_on limit o (b ∷ bs) (λ t. m.run limit t bs) ≡ deep rest
    → ((t : List Want) → open_count t ≤ limit → m.run limit t bs ≡ deep rest → StopsDeep limit t bs rest)
    → StopsDeep limit s (b ∷ bs) rest
deep_step limit s b bs rest r refused e h k = cc
deep_step limit s b bs rest r (to t) e h k =
    let p : Back limit s (b ∷ []) (to t) = subst (Back limit s (b ∷ [])) e (back limit s b) in
    deep_later limit s t b bs rest (λ room cs q a. let w : Back room s (b ∷ []) (to t) = subst
    (Back room s (b ∷ [])) e (back room s b) in
    w.1 cs (omega (arith, r, q)) a) (λ cs. ap (λ o. go_on limit o (b ∷ cs) (λ u. m.run limit u cs)) e)
    (k t (omega (arith, p.0, r)) h)
deep_step limit s b bs rest r (opens t) e h k = by_room (nat_le (open_count t) limit) refl h
  where
    by_room : (x : Bool) → nat_le (open_count t) limit ≡ x
        → (if x then m.run limit t bs else deep (b ∷ bs)) ≡ deep rest → StopsDeep limit s (b ∷ bs) rest
    by_room true f h =
        deep_later limit s t b bs rest (λ room cs q a. let w : Back room s (b ∷ []) (opens t) = subst
        (Back room s (b ∷ [])) e (back room s b) in
        w cs (omega (arith, r, q)) a) (λ cs. goes_on limit limit s t b cs e f (omega arith))
        (k t (leb-true (open_count t) limit f) h)
    by_room false f h = subst (StopsDeep limit s (b ∷ bs)) (deep_rest (b ∷ bs) rest h) (deep_here limit s t b bs r e f)

not_deep : (x : Bool) (rest : List Token) → (if x then right else wrong []) ≡ deep rest → ⊥
not_deep true rest h = cc
not_deep false rest h = cc

pub run_deep : (limit : ℕ) (s : List Want) (bs rest : List Token) → open_count s ≤ limit
    → m.run limit s bs ≡ deep rest → StopsDeep limit s bs rest
run_deep limit s [] rest r h = absurd (not_deep (m.is_done s) rest h)
run_deep limit s (b ∷ bs) rest r h = deep_step limit s b bs rest r (step s b) refl h (λ t q. run_deep limit t bs rest q)

-- ---- what a run says of libraries

abbrev start : List Want
start = m.library ∷ []

-- what a library and then nothing spells
begins_from : (limit : ℕ) (seen more : List Token) → All limit start (seen ++ more) → BeginsWithin limit seen
begins_from limit seen more h =
    let tree : LibraryTree = record { first = h.1.0; later = h.1.1 } in (
      tree,
      more,
      omega (arith, h.1.2, h.1.3),
      h.1.4 ∙ ap (λ (l : List Token). g.module_onto h.1.0 (g.modules_onto h.1.1 l)) h.2,
    )

weaker : (limit : ℕ) (seen : List Token) → BeginsWithin limit seen → Begins seen
weaker limit seen h = (h.0, h.1, h.3)

one_on : (seen more : List Token) (b : Token) → (seen ++ b ∷ []) ++ more ≡ seen ++ b ∷ more
one_on seen more b = append_assoc seen (b ∷ []) more

-- no library begins so, where each run stops
none_begins : (seen : List Token) (b : Token) → (limit : ℕ)
    → ((other : List Token) (room : ℕ) → limit ≤ room → m.run room start (seen ++ b ∷ other) ≡ wrong (b ∷ other))
    → ¬ (Begins (seen ++ b ∷ []))
none_begins seen b limit stuck p =
    let room = limit + g.library_depth p.0 in
    let e : seen ++ b ∷ p.1 ≡ g.spelling p.0 = sym (one_on seen p.1 b) ∙ p.2 in
    let taken : m.run room start (seen ++ b ∷ p.1) ≡ right =
    ap (m.run room start) e ∙ run_library room p.0 (omega arith) in
    let stopped : m.run room start (seen ++ b ∷ p.1) ≡ wrong (b ∷ p.1) = stuck p.1 room (omega arith) in
    cc

none_whole : (bs : List Token) (limit : ℕ) → ((room : ℕ) → limit ≤ room → m.run room start bs ≡ wrong [])
    → (l : LibraryTree) → ¬ (bs ≡ g.spelling l)
none_whole bs limit stuck l e =
    let room = limit + g.library_depth l in
    let taken : m.run room start bs ≡ right = ap (m.run room start) e ∙ run_library room l (omega arith) in
    let stopped : m.run room start bs ≡ wrong [] = stuck room (omega arith) in
    cc

none_within : (seen : List Token) (b : Token) (limit : ℕ)
    → ((other : List Token) → m.run limit start (seen ++ b ∷ other) ≡ deep (b ∷ other))
    → ¬ (BeginsWithin limit (seen ++ b ∷ []))
none_within seen b limit stuck p =
    let e : seen ++ b ∷ p.1 ≡ g.spelling p.0 = sym (one_on seen p.1 b) ∙ p.3 in
    let taken : m.run limit start (seen ++ b ∷ p.1) ≡ right = ap (m.run limit start) e ∙ run_library limit p.0 p.2 in
    let stopped : m.run limit start (seen ++ b ∷ p.1) ≡ deep (b ∷ p.1) = stuck p.1 in
    cc

at_length : (seen rest : List Token) (at : ℕ) → at + length rest ≡ length (seen ++ rest) → at ≡ length seen
at_length seen rest at e = omega (arith, e, length-append seen rest)

-- the token at which a run stops wrong is the first fault
pub syntax_fault : (limit : ℕ) (bs rest : List Token) (at : ℕ) → at + length rest ≡ length bs
    → m.run limit start bs ≡ wrong rest → IsSyntaxFault limit bs at
syntax_fault limit bs rest at n h =
    let p = run_wrong limit start bs rest (omega arith) h in
    record {
      seen = p.seen;
      rest = rest;
      whole = p.whole;
      place = at_length p.seen rest at (n ∙ ap (length {A = Token}) p.whole);
      begins = begins_from limit p.seen p.on.0 p.on.1;
      stuck = λ b later is. none_begins p.seen b limit (λ other room r. p.stuck b later other is room r);
      short = λ is. none_whole bs limit (λ room r. p.short is room r);
    }

-- the token at which a run stops too deep opens a unit too many
pub too_deep : (limit : ℕ) (bs rest : List Token) (at : ℕ) → at + length rest ≡ length bs
    → m.run limit start bs ≡ deep rest → IsTooDeep limit bs at
too_deep limit bs rest at n h =
    let p = run_deep limit start bs rest (omega arith) h in
    record {
      seen = p.seen;
      opener = p.opener;
      later = p.left;
      whole = p.whole ∙ ap (λ (l : List Token). p.seen ++ l) p.is;
      place = at_length p.seen rest at (n ∙ ap (length {A = Token}) p.whole);
      before = begins_from limit p.seen p.on.0 p.on.1;
      begins = weaker p.room (p.seen ++ p.opener ∷ [])
          (begins_from p.room (p.seen ++ p.opener ∷ []) p.beyond.0
          (subst (All p.room start) (sym (one_on p.seen p.beyond.0 p.opener)) p.beyond.1));
      deep = none_within p.seen p.opener limit p.stuck;
    }
