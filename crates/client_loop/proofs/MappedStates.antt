-- A connection over states of one kind is one over states of another that they stand for.
use Rattle.std.proofs.Common.{ℕ, List, [], ◌∷◌, Option, ap, inl, inr}
use Rattle.wire_reader.specs.declared.serving.EndReason.{EndReason}
use Rattle.wire_reader.specs.declared.serving.EndReason.TheVariants.{Closed, TooLong, ReadFault, WriteFault, Memory}
use Rattle.wire_reader.specs.Serving.{BetweenLines, between, Exchange, Runs, Ends, IsSilent, RefusesLine, FindsNoMemory}
use Rattle.wire_reader.specs.Serving.{Serves}

abbrev lifted : {A B : Type 0} (f : A → B) → BetweenLines A → BetweenLines B
lifted f b = between b.ahead (f b.desk)

runs_map : {A B : Type 0} (f : A → B) (tells : A → List ℕ → List ℕ → A → Type 0)
    (says : B → List ℕ → List ℕ → B → Type 0)
    → ((a : A) (line text : List ℕ) (b : A) → tells a line text b → says (f a) line text (f b))
    → (before : BetweenLines A) (es : List Exchange) (after : BetweenLines A) → Runs tells before es after
    → Runs says (lifted f before) es (lifted f after)
runs_map f tells says h before [] after runs = ap (lifted f) runs
runs_map f tells says h before (e ∷ later) after runs = (
  lifted f runs.0,
  record { takes = runs.1.takes; told = h before.desk e.line e.text runs.0.desk runs.1.told },
  runs_map f tells says h runs.0 later after runs.2,
)

silent_map : {A B : Type 0} (f : A → B) (last : BetweenLines A) (desk : A) (more : List ℕ) → IsSilent last desk more
    → IsSilent (lifted f last) (f desk) more
silent_map f last desk more s = record { same_desk = ap f s.same_desk; nothing = s.nothing }

refuses_map : {A B : Type 0} (f : A → B) (refusal : List ℕ) (last : BetweenLines A) (desk : A) (more : List ℕ)
    → RefusesLine refusal last desk more → RefusesLine refusal (lifted f last) (f desk) more
refuses_map f refusal last desk more r = record { long = r.long; same_desk = ap f r.same_desk; refused = r.refused }

no_memory_map : {A B : Type 0} (f : A → B) (fails : A → List ℕ → A → Type 0) (stops : B → List ℕ → B → Type 0)
    → ((a : A) (line : List ℕ) (b : A) → fails a line b → stops (f a) line (f b))
    → (last : BetweenLines A) (desk : A) → FindsNoMemory fails last desk → FindsNoMemory stops (lifted f last) (f desk)
no_memory_map f fails stops h last desk n =
    record { line = n.line; others = n.others; takes = n.takes; failed = h last.desk n.line desk n.failed }

ends_map : {A B : Type 0} (f : A → B) (fails : A → List ℕ → A → Type 0) (stops : B → List ℕ → B → Type 0)
    → ((a : A) (line : List ℕ) (b : A) → fails a line b → stops (f a) line (f b))
    → (refusal : List ℕ) (last : BetweenLines A) (why : EndReason) (desk : A) (more : List ℕ)
    → Ends fails refusal last why desk more → Ends stops refusal (lifted f last) why (f desk) more
ends_map f fails stops h refusal last Closed desk more e = (e.0, silent_map f last desk more e.1)
ends_map f fails stops h refusal last TooLong desk more e = refuses_map f refusal last desk more e
ends_map f fails stops h refusal last ReadFault desk more e = silent_map f last desk more e
ends_map f fails stops h refusal last WriteFault desk more (inl e) = inl (silent_map f last desk more e)
ends_map f fails stops h refusal last WriteFault desk more (inr (inl e)) =
    inr (inl (refuses_map f refusal last desk more e))
ends_map f fails stops h refusal last WriteFault desk more (inr (inr e)) =
    inr (inr (no_memory_map f fails stops h last desk e.0, e.1))
ends_map f fails stops h refusal last Memory desk more e = (no_memory_map f fails stops h last desk e.0, e.1)

pub serves_map : {A B : Type 0} (f : A → B) (tells : A → List ℕ → List ℕ → A → Type 0) (fails : A → List ℕ → A → Type 0)
    (says : B → List ℕ → List ℕ → B → Type 0) (stops : B → List ℕ → B → Type 0)
    → ((a : A) (line text : List ℕ) (b : A) → tells a line text b → says (f a) line text (f b))
    → ((a : A) (line : List ℕ) (b : A) → fails a line b → stops (f a) line (f b))
    → (refusal : List ℕ) (ahead : Option (List ℕ)) (before : A) (why : EndReason) (desk : A)
    (written after : Option (List ℕ))
    (waiting left : List ℕ)
    → Serves tells fails refusal (between ahead before) why desk written after waiting left
    → Serves says stops refusal (between ahead (f before)) why (f desk) written after waiting left
serves_map f tells fails says stops h k refusal ahead before why desk written after waiting left s = record {
  exchanges = s.exchanges;
  last = lifted f s.last;
  more = s.more;
  runs = runs_map f tells says h (between ahead before) s.exchanges s.last s.runs;
  ends = ends_map f fails stops k refusal s.last why desk s.more s.ends;
  puts = s.puts;
}
