-- Lines answered one after the other, and one more.
use Rattle.std.proofs.Common.{◌≡◌, ◌∙◌, List, ℕ, [], ◌∷◌, ◌++◌, Option, append_assoc, append-nil, refl, sym, subst, ap}
use Rattle.std.proofs.Common.{inl, inr, Some, None}
use Rattle.std.specs.Io.KnownBytes.{Appends, prepend_known}
use Rattle.std.proofs.KnownBytes.{Appends-nil, Appends-trans, prepend_known-nil}
use Rattle.wire_reader.specs.declared.serving.EndReason.{EndReason}
use Rattle.wire_reader.specs.declared.serving.EndReason.TheVariants as why
use Rattle.wire_reader.specs.Writing.{WritesUpTo, WritesFront}
use Rattle.wire_reader.specs.Serving.{BetweenLines, Exchange, Runs, texts, Ends, Puts, Serves}
use Rattle.wire_reader.specs.Inner.Turns.{Answers}
use Rattle.wire_reader.proofs.Written.{up_to_more}

-- lines are answered from here to there, and what waited and their answers are written, but for what waits now
pub record Reaches {A : Type 0} (tells : A → List ℕ → List ℕ → A → Type 0) (before after : BetweenLines A)
    (written later : Option (List ℕ)) (waiting left : List ℕ) : Type 0 where
  pub exchanges : List Exchange
  pub runs : Runs tells before exchanges after
  pub puts : WritesUpTo written later (waiting ++ texts exchanges) left

run_append : {A : Type 0} (tells : A → List ℕ → List ℕ → A → Type 0) (before : BetweenLines A) (es : List Exchange)
    (next : BetweenLines A) (fs : List Exchange) (after : BetweenLines A)
    → Runs tells before es next → Runs tells next fs after → Runs tells before (es ++ fs) after
run_append {A} tells before [] next fs after runs more =
    subst (λ (c : BetweenLines A). Runs tells c fs after) (sym runs) more
run_append tells before (first ∷ later) next fs after runs more =
    (runs.0, runs.1, run_append tells runs.0 later next fs after runs.2 more)

texts_append : (es fs : List Exchange) → texts (es ++ fs) ≡ texts es ++ texts fs
texts_append [] fs = refl
texts_append (e ∷ es) fs = ap (λ (l : List ℕ). e.text ++ l) (texts_append es fs)
    ∙ sym (append_assoc e.text (texts es) (texts fs))

-- nothing is answered yet
pub reach_first : {A : Type 0} (tells : A → List ℕ → List ℕ → A → Type 0) (c : BetweenLines A)
    (written : Option (List ℕ)) (waiting : List ℕ) → Reaches tells c c written written waiting waiting
reach_first tells c written waiting = record {
  exchanges = [];
  runs = refl;
  puts = record { front = []; whole = append-nil waiting; written = Appends-nil written };
}

pub reach_on : {A : Type 0} (tells : A → List ℕ → List ℕ → A → Type 0) (before next after : BetweenLines A)
    (a m b : Option (List ℕ)) (w waits left : List ℕ)
    → Reaches tells before next a m w waits → Answers tells next after m b waits left
    → Reaches tells before after a b w left
reach_on tells before next after a m b w waits left r answers =
    let e : Exchange = record { line = answers.line; text = answers.text } in
    let same : (w ++ texts r.exchanges) ++ answers.text ≡ w ++ texts (r.exchanges ++ e ∷ []) =
    append_assoc w (texts r.exchanges) answers.text
    ∙ ap (λ (l : List ℕ). w ++ l) (ap (λ (l : List ℕ). texts r.exchanges ++ l) (sym (append-nil answers.text))
    ∙ sym (texts_append r.exchanges (e ∷ []))) in
    record {
      exchanges = r.exchanges ++ e ∷ [];
      runs = run_append tells before r.exchanges next (e ∷ []) after r.runs (after, answers.answered, refl);
      puts = subst (λ (l : List ℕ). WritesUpTo a b l left) same
          (up_to_more a m b (w ++ texts r.exchanges) waits answers.text left r.puts answers.puts);
    }

puts_more : (y : EndReason) (a m b : Option (List ℕ)) (text waits more left : List ℕ) → WritesUpTo a m text waits
    → Puts y m b (waits ++ more) left → Puts y a b (text ++ more) left
puts_more why.Closed a m b text waits more left u p = up_to_more a m b text waits more left u p
puts_more why.TooLong a m b text waits more left u p = up_to_more a m b text waits more left u p
puts_more why.ReadFault a m b text waits more left u p = up_to_more a m b text waits more left u p
puts_more why.Memory a m b text waits more left u p = up_to_more a m b text waits more left u p
puts_more why.WriteFault a m b text waits more left u p = (p.0, up_to_more a m b text waits more p.0 u p.1)

pub served : {A : Type 0} (tells : A → List ℕ → List ℕ → A → Type 0) (fails : A → List ℕ → A → Type 0)
    (too_long_answer : List ℕ) (before next : BetweenLines A) (y : EndReason) (desk : A) (a m b : Option (List ℕ))
    (w waits left : List ℕ)
    → Reaches tells before next a m w waits → Serves tells fails too_long_answer next y desk m b waits left
    → Serves tells fails too_long_answer before y desk a b w left
served tells fails too_long_answer before next y desk a m b w waits left r s =
    let same : (w ++ texts r.exchanges) ++ (texts s.exchanges ++ s.more) ≡ w
    ++ (texts (r.exchanges ++ s.exchanges) ++ s.more) =
    append_assoc w (texts r.exchanges) (texts s.exchanges ++ s.more)
    ∙ ap (λ (l : List ℕ). w ++ l) (sym (append_assoc (texts r.exchanges) (texts s.exchanges) s.more)
    ∙ ap (λ (l : List ℕ). l ++ s.more) (sym (texts_append r.exchanges s.exchanges))) in
    record {
      exchanges = r.exchanges ++ s.exchanges;
      last = s.last;
      more = s.more;
      runs = run_append tells before r.exchanges next s.exchanges s.last r.runs s.runs;
      ends = s.ends;
      puts = subst (λ (l : List ℕ). Puts y a b l left) same
          (puts_more y a m b (w ++ texts r.exchanges) waits (texts s.exchanges ++ s.more) left r.puts s.puts);
    }

all_puts : (y : EndReason) (a b : Option (List ℕ)) (text left : List ℕ) → (y ≡ why.WriteFault → ⊥)
    → Puts y a b text left
    → WritesUpTo a b text left
all_puts why.Closed a b text left n p = p
all_puts why.TooLong a b text left n p = p
all_puts why.ReadFault a b text left n p = p
all_puts why.Memory a b text left n p = p
all_puts why.WriteFault a b text left n p = absurd (n refl)

puts_all : (y : EndReason) (a b : Option (List ℕ)) (text : List ℕ) → WritesUpTo a b text [] → Puts y a b text []
puts_all why.Closed a b text p = p
puts_all why.TooLong a b text p = p
puts_all why.ReadFault a b text p = p
puts_all why.Memory a b text p = p
puts_all why.WriteFault a b text p = ([], p)

fault_ends : {A : Type 0} (fails : A → List ℕ → A → Type 0) (too_long_answer : List ℕ) (last : BetweenLines A)
    (y : EndReason)
    (desk : A) (more : List ℕ) → Ends fails too_long_answer last y desk more
    → Ends fails too_long_answer last why.WriteFault desk more
fault_ends fails too_long_answer last why.Closed desk more e = inl e.1
fault_ends fails too_long_answer last why.TooLong desk more e = inr (inl e)
fault_ends fails too_long_answer last why.ReadFault desk more e = inl e
fault_ends fails too_long_answer last why.Memory desk more e = inr (inr e)
fault_ends fails too_long_answer last why.WriteFault desk more e = e

-- what waits is written at the end
pub finished : {A : Type 0} (tells : A → List ℕ → List ℕ → A → Type 0) (fails : A → List ℕ → A → Type 0)
    (too_long_answer : List ℕ) (before : BetweenLines A) (y : EndReason) (desk : A) (a b c : Option (List ℕ))
    (w left : List ℕ)
    → (y ≡ why.WriteFault → ⊥) → Serves tells fails too_long_answer before y desk a b w left → Appends b c left
    → Serves tells fails too_long_answer before y desk a c w []
finished tells fails too_long_answer before y desk a b c w left n s k =
    let text = w ++ (texts s.exchanges ++ s.more) in
    let first : WritesUpTo a b text left = all_puts y a b text left n s.puts in
    let all : WritesUpTo a c text [] = record {
      front = first.front ++ left;
      whole = first.whole ∙ sym (append-nil (first.front ++ left));
      written = Appends-trans a b c first.front left first.written k;
    } in
    record {
      exchanges = s.exchanges;
      last = s.last;
      more = s.more;
      runs = s.runs;
      ends = s.ends;
      puts = puts_all y a c text all;
    }

-- what waits is written at the end in part
pub cut_short : {A : Type 0} (tells : A → List ℕ → List ℕ → A → Type 0) (fails : A → List ℕ → A → Type 0)
    (too_long_answer : List ℕ) (before : BetweenLines A) (y : EndReason) (desk : A) (a b c : Option (List ℕ))
    (w left : List ℕ)
    → (y ≡ why.WriteFault → ⊥) → Serves tells fails too_long_answer before y desk a b w left → WritesFront b c left
    → Serves tells fails too_long_answer before why.WriteFault desk a c w []
cut_short tells fails too_long_answer before y desk a b c w left n s k =
    let text = w ++ (texts s.exchanges ++ s.more) in
    let first : WritesUpTo a b text left = all_puts y a b text left n s.puts in
    let part : WritesUpTo a c text k.0 = record {
      front = first.front ++ k.1.front;
      whole = first.whole ∙ ap (λ (l : List ℕ). first.front ++ l) k.1.whole
          ∙ sym (append_assoc first.front k.1.front k.0);
      written = Appends-trans a b c first.front k.1.front first.written k.1.written;
    } in
    record {
      exchanges = s.exchanges;
      last = s.last;
      more = s.more;
      runs = s.runs;
      ends = fault_ends fails too_long_answer s.last y desk s.more s.ends;
      puts = (k.0, part);
    }

-- where a writing failed, what is left says nothing
any_left : {A : Type 0} (tells : A → List ℕ → List ℕ → A → Type 0) (fails : A → List ℕ → A → Type 0)
    (too_long_answer : List ℕ) (before : BetweenLines A) (desk : A) (a b : Option (List ℕ)) (w left rest : List ℕ)
    → Serves tells fails too_long_answer before why.WriteFault desk a b w left
    → Serves tells fails too_long_answer before why.WriteFault desk a b w rest
any_left tells fails too_long_answer before desk a b w left rest s =
    record { exchanges = s.exchanges; last = s.last; more = s.more; runs = s.runs; ends = s.ends; puts = s.puts }

-- nothing is held and nothing waits at first
pub from_nothing : {A : Type 0} (tells : A → List ℕ → List ℕ → A → Type 0) (fails : A → List ℕ → A → Type 0)
    (too_long_answer : List ℕ) (held : List ℕ) (ahead : Option (List ℕ)) (start : A) (y : EndReason) (desk : A)
    (a b : Option (List ℕ)) (w left : List ℕ)
    → held ≡ [] → w ≡ [] → Serves tells fails too_long_answer
    (record { ahead = prepend_known held ahead; desk = start }) y desk a b w left
    → Serves tells fails too_long_answer (record { ahead = ahead; desk = start }) y desk a b [] left
from_nothing {A} tells fails too_long_answer held ahead start y desk a b w left e f s =
    let same : prepend_known held ahead ≡ ahead = ap (λ (h : List ℕ). prepend_known h ahead) e
    ∙ prepend_known-nil ahead in
    subst (λ (x : Option (List ℕ)). Serves tells fails too_long_answer
    (record { ahead = x; desk = start }) y desk a b [] left)
    same
    (subst (λ (x : List ℕ). Serves tells fails too_long_answer
    (record { ahead = prepend_known held ahead; desk = start }) y desk a b x left) f s)

pub faulted : {A : Type 0} (tells : A → List ℕ → List ℕ → A → Type 0) (fails : A → List ℕ → A → Type 0)
    (too_long_answer : List ℕ) (held : List ℕ) (ahead : Option (List ℕ)) (start : A) (desk : A) (a b : Option (List ℕ))
    (w left : List ℕ)
    → held ≡ [] → w ≡ [] → Serves tells fails too_long_answer
    (record { ahead = prepend_known held ahead; desk = start }) why.WriteFault desk a b w left
    → Serves tells fails too_long_answer (record { ahead = ahead; desk = start }) why.WriteFault desk a b [] []
faulted tells fails too_long_answer held ahead start desk a b w left e f s =
    any_left tells fails too_long_answer _ desk a b [] left
    [] (from_nothing tells fails too_long_answer held ahead start why.WriteFault desk a b w left e f s)
