-- Statements that are told one after another.
use Rattle.std.proofs.Common.{◌≡◌, ◌∙◌, ℕ, ◌<◌, ◌+◌, List, [], ◌∷◌, ◌++◌, length, map, sym, ap, arith, slice_set}
use Rattle.std.proofs.lemmas.List.{append-nil, append_assoc, length-append, length-map, length_push, map-append, set_at}
use Rattle.serde_json.specs.Data.{Data}
use Rattle.serde_json.specs.View.{view}
use Rattle.serde_json.specs.declared.value.Value.{Value}
use Rattle.est_kernel.specs.declared.interface.Declaration.{Declaration}
use Rattle.est_kernel.specs.declared.statement.Statement.{Statement}
use Rattle.lab_lines.specs.Statements.{around_json, both_json, number_after, statements_json, statements_of_both_json}

-- nothing more is told
pub no_more : (items : List Value) → map view items ≡ map view items ++ []
no_more items = sym (append-nil (map view items))

-- so many are told
told_count : (items pushed : List Value) (more : List Data) → map view items ≡ map view pushed ++ more
    → length items ≡ length pushed + length more
told_count items pushed more e = sym (length-map items view)
    ∙ (ap length e ∙ (length-append (map view pushed) more ∙ ap (λ (n : ℕ). n + length more) (length-map pushed view)))

-- the place that was kept is one of them
pub within : (old pushed items given : List Value) (kept : Value) (more : List Data) (at : ℕ) → at ≡ length old
    → pushed ≡ old ++ kept ∷ [] → items ≡ given → map view given ≡ map view pushed ++ more → at < length items
within old pushed items given kept more at is e same told =
    let count = told_count given pushed more told in
    let one = ap length e ∙ length_push old kept in
    let these = ap length same in
    omega (arith, count, one, these)

-- the place that was kept is filled
pub filled : (old pushed items new : List Value) (kept : Value) (value : Data) (more : List Data) (at : ℕ)
    → at ≡ length old
    → pushed ≡ old ++ kept ∷ [] → map view items ≡ map view pushed ++ more
    → map view new ≡ slice_set (map view items) at value → map view new ≡ map view old ++ (value ∷ more)
filled old pushed items new kept value more at is e told put =
    put ∙ (ap (λ (l : List Data). slice_set l at value) (told
    ∙ (ap (λ (l : List Value). map view l ++ more) e
    ∙ (ap (λ (l : List Data). l ++ more) (map-append view old (kept ∷ []))
    ∙ append_assoc (map view old) (view kept ∷ []) more)))
    ∙ set_at (map view old) (view kept) more value at (length-map old view ∙ sym is))

module _ (interface : List Declaration) (old pushed items given new : List Value) (kept : Value) (value : Data) (at : ℕ)
    (is : at ≡ length old) (e : pushed ≡ old ++ kept ∷ []) (put : map view new ≡ slice_set (map view items) at value)
    (same : items ≡ given) where
  one_more : length pushed ≡ length old + 1
  one_more = ap length e ∙ length_push old kept

  -- a statement without parts
  pub without_parts : (told : Data) → value ≡ told → given ≡ pushed → map view new ≡ map view old ++ (told ∷ [])
  without_parts told v none = filled old pushed items new kept value [] at is e
      (ap (map view) (same ∙ none) ∙ no_more pushed) put
      ∙ ap (λ (d : Data). map view old ++ (d ∷ [])) v

  -- a statement with one part
  pub with_one : (kind : List ℕ) (p : Statement) → value ≡ around_json kind (length pushed)
      → map view given ≡ map view pushed ++ statements_json interface (length pushed) p
      → map view new ≡ map view old
      ++ (around_json kind (length old + 1) ∷ statements_json interface (length old + 1) p)
  with_one kind p v told = filled old pushed items new kept value _ at is e (ap (map view) same ∙ told) put
      ∙ (ap (λ (d : Data). map view old ++ (d ∷ statements_json interface (length pushed) p)) v
      ∙ ap (λ (n : ℕ). map view old ++ (around_json kind n ∷ statements_json interface n p)) one_more)

  -- a statement with two parts
  pub with_two : (kind : List ℕ) (p q : Statement)
      → value ≡ both_json kind (length pushed) (number_after interface (length pushed) p)
      → map view given ≡ map view pushed ++ statements_of_both_json interface (length pushed) p q
      → map view new ≡ map view old ++ (both_json kind (length old + 1) (number_after interface (length old + 1) p)
      ∷ statements_of_both_json interface (length old + 1) p q)
  with_two kind p q v told = filled old pushed items new kept value _ at is e (ap (map view) same ∙ told) put
      ∙ (ap (λ (d : Data). map view old ++ (d ∷ statements_of_both_json interface (length pushed) p q)) v
      ∙ ap (λ (n : ℕ). map view old ++ (both_json kind n (number_after interface n p)
      ∷ statements_of_both_json interface n p q)) one_more)
