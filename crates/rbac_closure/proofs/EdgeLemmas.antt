-- The edges and the rows, where an edge is added or taken away.
use Rattle.std.proofs.Common.{◌≡◌, ℕ, ◌<◌, ◌≤◌, ◌^◌, ◌+◌, ◌⊎◌, ◌↔◌, List, length, map, replicate, inl, inr, arith, sym}
use Rattle.std.proofs.Common.{◌∙◌, ap, subst, refl, get_or-set_same, get_or-set_other, length-set}
use Rattle.std.specs.Prelude.{slice_index, slice_set}
use Rattle.std.proofs.lemmas.Bool.{cases_lt, cases_eq}
use Rattle.std.proofs.lemmas.List.{get_or_past, get_or-map, length-map, get_or-replicate, length-replicate}
use Rattle.std.proofs.lemmas.Grind.{same_number_lists}
use Rattle.std.proofs.lemmas.Nat.Bits.{bit_at_above}
use Rattle.rbac_closure.specs.declared.role_sets.TheConstants.{ROLES}
use Rattle.rbac_closure.specs.Sets.{Has, either, with_place, without_place}
use Rattle.rbac_closure.specs.Edges.{stay, step, IsEdge, IsAbove, IsBelowSome, edge_added, edge_removed, role_cleared}
use Rattle.rbac_closure.specs.Inner.Rows.{IsInTable, HasBelow, HasAbove, IsClosed, HasJuniors}
use Rattle.rbac_closure.proofs.SetLemmas.{has_either, has_with, has_without, has_single, same_set, none_in_empty}
use Rattle.rbac_closure.proofs.ChainLemmas.{joined, widened, stays, with_edge}

-- edges lead from places of the table
pub from_table : (edges : List ℕ) (a b : ℕ) → IsEdge edges a b → a < length edges
from_table edges a b e = elim (cases_lt a (length edges)) [
  | inl l ↦ l
  | inr g ↦ absurd (none_in_empty b (subst (λ n. Has n b) (get_or_past edges a 0 g) e))
]

-- the edges with one more are those, and it
pub added_edges : (senior junior : ℕ) (edges : List ℕ) → senior < length edges
    → (a b : ℕ) → IsEdge (edge_added senior junior edges) a b ↔ (IsEdge edges a b ⊎ ((a ≡ senior) × (b ≡ junior)))
added_edges senior junior edges within a b = elim (cases_eq a senior) [
  | inl e ↦
      let row = with_place (slice_index edges senior) junior in
      let same : slice_index (slice_set edges senior row) a ≡ row =
      ap (slice_index (slice_set edges senior row)) e ∙ get_or-set_same edges senior row 0 within in (
        λ x. elim ((has_with (slice_index edges senior) junior b).0 (subst (λ n. Has n b) same x)) [
          | inl y ↦ inl (subst (λ k. Has (slice_index edges k) b) (sym e) y)
          | inr y ↦ inr (e, y)
        ],
        λ x. subst (λ n. Has n b) (sym same) ((has_with (slice_index edges senior) junior b).1 (elim x [
          | inl y ↦ inl (subst (λ k. Has (slice_index edges k) b) e y)
          | inr y ↦ inr y.1
        ])),
      )
  | inr d ↦
      let row = with_place (slice_index edges senior) junior in
      let same : slice_index (slice_set edges senior row) a ≡ slice_index edges a =
      get_or-set_other edges senior a row 0 d in (
        λ x. inl (subst (λ n. Has n b) same x),
        λ x. elim x [ inl y ↦ subst (λ n. Has n b) (sym same) y | inr y ↦ absurd (d y.0) ],
      )
]

-- the edges without one are those, but not it
pub removed_edges : (senior junior : ℕ) (edges : List ℕ) → senior < length edges
    → (a b : ℕ) → IsEdge (edge_removed senior junior edges) a b ↔ (IsEdge edges a b × ((a ≡ senior) × (b ≡ junior) → ⊥))
removed_edges senior junior edges within a b = elim (cases_eq a senior) [
  | inl e ↦
      let row = without_place (slice_index edges senior) junior in
      let same : slice_index (slice_set edges senior row) a ≡ row =
      ap (slice_index (slice_set edges senior row)) e ∙ get_or-set_same edges senior row 0 within in (
        λ x.
            let y = (has_without (slice_index edges senior) junior b).0 (subst (λ n. Has n b) same x) in
            (subst (λ k. Has (slice_index edges k) b) (sym e) y.0, λ it. y.1 it.1),
        λ x. subst (λ n. Has n b) (sym same)
            ((has_without (slice_index edges senior) junior b).1
            (subst (λ k. Has (slice_index edges k) b) e x.0, λ it. x.1 (e, it))),
      )
  | inr d ↦
      let row = without_place (slice_index edges senior) junior in
      let same : slice_index (slice_set edges senior row) a ≡ slice_index edges a =
      get_or-set_other edges senior a row 0 d in (
        λ x. (subst (λ n. Has n b) same x, λ it. d it.0),
        λ x. subst (λ n. Has n b) (sym same) x.0,
      )
]

-- lists of sets with the same edges are the same
pub same_edges : (xs ys : List ℕ) → length xs ≡ length ys → ((a b : ℕ) → IsEdge xs a b ↔ IsEdge ys a b) → xs ≡ ys
same_edges xs ys e h = same_number_lists xs ys e (λ k within. same_set (slice_index xs k) (slice_index ys k) (h k))

-- an edge that is there, added again
pub edge_again : (senior junior : ℕ) (edges : List ℕ) → IsEdge edges senior junior
    → edge_added senior junior edges ≡ edges
edge_again senior junior edges it =
    same_edges (edge_added senior junior edges) edges
    (length-set edges senior (with_place (slice_index edges senior) junior)) (λ a b.
    let more = added_edges senior junior edges (from_table edges senior junior it) a b in (
      λ e. elim
          (more.0 e)
          [ inl x ↦ x | inr x ↦ subst (λ k. IsEdge edges k b) (sym x.0) (subst (IsEdge edges senior) (sym x.1) it) ],
      λ e. more.1 (inl e),
    ))

-- an edge that is not there, removed
pub edge_absent : (senior junior : ℕ) (edges : List ℕ) → senior < length edges → (IsEdge edges senior junior → ⊥)
    → edge_removed senior junior edges ≡ edges
edge_absent senior junior edges within none =
    same_edges (edge_removed senior junior edges) edges
    (length-set edges senior (without_place (slice_index edges senior) junior)) (λ a b.
    let fewer = removed_edges senior junior edges within a b in (
      λ e. (fewer.0 e).0,
      λ e. fewer.1 (e, λ it. none (subst (λ k. IsEdge edges k junior) it.0 (subst (IsEdge edges a) it.1 e))),
    ))

-- what lies below, with one edge more
pub below_added : (senior junior : ℕ) (edges more : List ℕ)
    → ((a b : ℕ) → IsEdge more a b ↔ (IsEdge edges a b ⊎ ((a ≡ senior) × (b ≡ junior))))
    → (a b : ℕ) → IsAbove more a b ↔ (IsAbove edges a b ⊎ (IsAbove edges a senior × IsAbove edges junior b))
below_added senior junior edges more h a b = (
  λ q. with_edge senior junior (λ x y. (h x y).0) q,
  λ q.
      let kept : (x y : ℕ) → IsEdge edges x y → IsEdge more x y = λ x y e. (h x y).1 (inl e) in
      elim q [
        | inl c ↦ widened kept c
        | inr p ↦ joined (widened kept p.0) (step ((h senior junior).1 (inr (refl, refl))) (widened kept p.1))
      ],
)

-- the rows of some places take in a set
abbrev pub TakesIn : List ℕ → List ℕ → ℕ → ℕ → Type 0
TakesIn old new places more = (role : ℕ) → role < ROLES → (place : ℕ)
    → Has (slice_index new role) place ↔ (Has (slice_index old role) place ⊎ (Has places role × Has more place))

-- the rows are those of one edge more, where the seniors' take in all below the junior, and the juniors' all above the
-- senior
module _ (senior junior : ℕ) (edges lower upper lower_after upper_after : List ℕ) (few : senior < ROLES)
    (fewer : junior < ROLES)
    (closed : IsClosed edges lower upper)
    (down : TakesIn lower lower_after (slice_index upper senior) (slice_index lower junior))
    (up : TakesIn upper upper_after (slice_index lower junior) (slice_index upper senior)) where
  edges_after : (a b : ℕ) → IsEdge (edge_added senior junior edges) a b
      ↔ (IsEdge edges a b ⊎ ((a ≡ senior) × (b ≡ junior)))
  edges_after = added_edges senior junior edges (omega (arith, closed.full, few))

  chains_after : (a b : ℕ) → IsAbove (edge_added senior junior edges) a b
      ↔ (IsAbove edges a b ⊎ (IsAbove edges a senior × IsAbove edges junior b))
  chains_after = below_added senior junior edges (edge_added senior junior edges) edges_after

  in_table_after : IsInTable (edge_added senior junior edges)
  in_table_after a b e = elim ((edges_after a b).0 e) [ inl x ↦ closed.in_table a b x | inr x ↦ omega (arith, x.1) ]

  below_after : HasBelow (edge_added senior junior edges) lower_after
  below_after role within place = (
    λ h. (chains_after role place).1 (elim ((down role within place).0 h) [
      | inl x ↦ inl ((closed.below role within place).0 x)
      | inr x ↦ inr ((closed.above senior few role).0 x.0, (closed.below junior fewer place).0 x.1)
    ]),
    λ q. (down role within place).1 (elim ((chains_after role place).0 q) [
      | inl x ↦ inl ((closed.below role within place).1 x)
      | inr x ↦ inr ((closed.above senior few role).1 x.0, (closed.below junior fewer place).1 x.1)
    ]),
  )

  above_after : HasAbove (edge_added senior junior edges) upper_after
  above_after role within place = (
    λ h. (chains_after place role).1 (elim ((up role within place).0 h) [
      | inl x ↦ inl ((closed.above role within place).0 x)
      | inr x ↦ inr ((closed.above senior few place).0 x.1, (closed.below junior fewer role).0 x.0)
    ]),
    λ q. (up role within place).1 (elim ((chains_after place role).0 q) [
      | inl x ↦ inl ((closed.above role within place).1 x)
      | inr x ↦ inr ((closed.below junior fewer role).1 x.1, (closed.above senior few place).1 x.0)
    ]),
  )

  pub closed_after : IsClosed (edge_added senior junior edges) lower_after upper_after
  closed_after = record {
    full = length-set edges senior (with_place (slice_index edges senior) junior) ∙ closed.full;
    in_table = in_table_after;
    below = below_after;
    above = above_after;
  }

-- no edges
no_edge : (n a b : ℕ) → IsEdge (replicate n 0) a b → ⊥
no_edge n a b e = elim (cases_lt a n) [
  | inl l ↦ none_in_empty b (subst (λ k. Has k b) (get_or-replicate n a 0 0 l) e)
  | inr g ↦
      none_in_empty b
      (subst (λ k. Has k b) (get_or_past (replicate n 0) a 0 (omega (arith, length-replicate {A = ℕ} n 0))) e)
]

-- without edges, what lies below and above a place is the place
pub closed_alone : (n : ℕ) (lower upper : List ℕ) → ((role : ℕ) → role < ROLES → slice_index lower role ≡ 2 ^ role)
    → ((role : ℕ) → role < ROLES → slice_index upper role ≡ 2 ^ role)
    → n ≡ ROLES → IsClosed (replicate n 0) lower upper
closed_alone n lower upper low high all = record {
  full = length-replicate {A = ℕ} n 0 ∙ all;
  in_table = λ a b e. absurd (no_edge n a b e);
  below = λ role within place. (
    λ h. subst (λ p. IsAbove (replicate n 0) role p)
        (sym ((has_single role place).0 (subst (λ k. Has k place) (low role within) h))) stay,
    λ q. subst (λ k. Has k place) (sym (low role within)) ((has_single role place).1 (stays (no_edge n) q)),
  );
  above = λ role within place. (
    λ h. subst (λ p. IsAbove (replicate n 0) p role)
        (sym ((has_single role place).0 (subst (λ k. Has k place) (high role within) h))) stay,
    λ q. subst (λ k. Has k place) (sym (high role within)) ((has_single role place).1 (sym (stays (no_edge n) q))),
  );
}

-- the rows before this one have taken in the set, where their place is one of those, and the others are as they were
pub record TakenUpTo (old rows : List ℕ) (places more many : ℕ) : Type 0 where
  pub done : (k : ℕ) → k < many → (p : ℕ) → Has (slice_index rows k) p
      ↔ (Has (slice_index old k) p ⊎ (Has places k × Has more p))
  pub left : (k : ℕ) → many ≤ k → slice_index rows k ≡ slice_index old k
  pub same : length rows ≡ length old

pub taken_in : (old rows : List ℕ) (places more i : ℕ) → i < length old → TakenUpTo old rows places more i
    → Has places i
    → TakenUpTo old (slice_set rows i (either (slice_index rows i) more)) places more (i + 1)
taken_in old rows places more i within before it =
    let next = slice_set rows i (either (slice_index rows i) more) in
    let other : (k : ℕ) → (k ≡ i → ⊥) → slice_index next k ≡ slice_index rows k =
    λ k d. get_or-set_other rows i k (either (slice_index rows i) more) 0 d in
    let own : slice_index next i ≡ either (slice_index old i) more =
    get_or-set_same rows i (either (slice_index rows i) more) 0 (omega (arith, within, before.same))
    ∙ ap (λ n. either n more) (before.left i (omega arith)) in
    record {
      done = λ k few p. elim (cases_eq k i) [
        | inl e ↦ subst (λ x. Has (slice_index next x) p ↔ (Has (slice_index old x) p ⊎ (Has places x × Has more p)))
            (sym e)
            (subst (λ n. Has n p ↔ (Has (slice_index old i) p ⊎ (Has places i × Has more p))) (sym own) (
              λ h. elim ((has_either (slice_index old i) more p).0 h) [ inl x ↦ inl x | inr x ↦ inr (it, x) ],
              λ h. (has_either (slice_index old i) more p).1 (elim h [ inl x ↦ inl x | inr x ↦ inr x.1 ]),
            ))
        | inr d ↦ subst (λ n. Has n p ↔ (Has (slice_index old k) p ⊎ (Has places k × Has more p))) (sym (other k d))
            (before.done k (omega arith) p)
      ];
      left = λ k many. other k (omega arith) ∙ before.left k (omega arith);
      same = omega (arith, length-set rows i (either (slice_index rows i) more), before.same);
    }

pub passed_over : (old rows : List ℕ) (places more i : ℕ) → TakenUpTo old rows places more i → (Has places i → ⊥)
    → TakenUpTo old rows places more (i + 1)
passed_over old rows places more i before none = record {
  done = λ k few p. elim (cases_eq k i) [
    | inl e ↦ subst (λ x. Has (slice_index rows x) p ↔ (Has (slice_index old x) p ⊎ (Has places x × Has more p)))
        (sym e)
        (subst (λ n. Has n p ↔ (Has (slice_index old i) p ⊎ (Has places i × Has more p)))
        (sym (before.left i (omega arith))) (
          λ h. inl h,
          λ h. elim h [ inl x ↦ x | inr x ↦ absurd (none x.0) ],
        ))
    | inr d ↦ before.done k (omega arith) p
  ];
  left = λ k many. before.left k (omega arith);
  same = before.same;
}

pub junior_added : (old new : List ℕ) (senior juniors i : ℕ) → HasJuniors old new senior juniors i → Has juniors i
    → senior < length new
    → HasJuniors old (edge_added senior i new) senior juniors (i + 1)
junior_added old new senior juniors i before it within = record {
  edges = λ a b. (
    λ e. elim ((added_edges senior i new within a b).0 e) [
      | inl x ↦ elim ((before.edges a b).0 x) [ inl y ↦ inl y | inr y ↦ inr (y.0, y.1, omega (arith, y.2)) ]
      | inr x ↦ inr (x.0, subst (Has juniors) (sym x.1) it, omega (arith, x.1))
    ],
    λ h. (added_edges senior i new within a b).1 (elim h [
      | inl x ↦ inl ((before.edges a b).1 (inl x))
      | inr x ↦ elim (cases_eq b i) [
        | inl e ↦ inr (x.0, e)
        | inr d ↦ inl ((before.edges a b).1 (inr (x.0, x.1, omega (arith, x.2, d))))
      ]
    ]),
  );
  same = omega (arith, length-set new senior (with_place (slice_index new senior) i), before.same);
}

pub junior_passed : (old new : List ℕ) (senior juniors i : ℕ) → HasJuniors old new senior juniors i
    → (Has juniors i → ⊥) → HasJuniors old new senior juniors (i + 1)
junior_passed old new senior juniors i before none = record {
  edges = λ a b. (
    λ e. elim ((before.edges a b).0 e) [ inl y ↦ inl y | inr y ↦ inr (y.0, y.1, omega (arith, y.2)) ],
    λ h. elim h [
      | inl x ↦ (before.edges a b).1 (inl x)
      | inr x ↦ elim (cases_eq b i) [
        | inl e ↦ absurd (none (subst (Has juniors) e x.1))
        | inr d ↦ (before.edges a b).1 (inr (x.0, x.1, omega (arith, x.2, d)))
      ]
    ],
  );
  same = before.same;
}

-- the edges from the seniors before this one
pub record HasSeniors (edges rows : List ℕ) (many : ℕ) : Type 0 where
  pub from : (a b : ℕ) → IsEdge rows a b ↔ (IsEdge edges a b × (a < many))
  pub full : length rows ≡ ROLES

pub seniors_begin : (edges : List ℕ) → HasSeniors edges (replicate ROLES 0) 0
seniors_begin edges = record {
  from = λ a b. (λ e. absurd (no_edge ROLES a b e), λ h. absurd (omega (arith, h.1)));
  full = length-replicate {A = ℕ} ROLES 0;
}

pub seniors_end : (edges rows : List ℕ) → length edges ≡ ROLES → HasSeniors edges rows ROLES → rows ≡ edges
seniors_end edges rows full all = same_edges rows edges (all.full ∙ sym full) (λ a b. (
  λ e. ((all.from a b).0 e).0,
  λ e. (all.from a b).1 (e, omega (arith, from_table edges a b e, full)),
))

-- with fewer edges, those that are left lead to places of the table
pub removed_in_table : (senior junior : ℕ) (edges : List ℕ) → senior < length edges → IsInTable edges
    → IsInTable (edge_removed senior junior edges)
removed_in_table senior junior edges within table a b e =
    table a b ((removed_edges senior junior edges within a b).0 e).0

-- the edges without those at a place
pub cleared_edges : (place : ℕ) (edges : List ℕ) → place < length edges
    → (a b : ℕ) → IsEdge (role_cleared place edges) a b ↔ (IsEdge edges a b × (a ≡ place → ⊥) × (b ≡ place → ⊥))
cleared_edges place edges within a b =
    let out = map (λ (juniors : ℕ). without_place juniors place) edges in
    let same_length : length out ≡ length edges = length-map edges (λ (juniors : ℕ). without_place juniors place) in
    elim (cases_eq a place) [
      | inl e ↦
          let none : slice_index (slice_set out place 0) a ≡ 0 =
          ap (slice_index (slice_set out place 0)) e ∙ get_or-set_same out place 0 0
          (omega (arith, within, same_length)) in
          (λ h. absurd (none_in_empty b (subst (λ n. Has n b) none h)), λ h. absurd (h.1 e))
      | inr d ↦
          let other : slice_index (slice_set out place 0) a ≡ slice_index out a = get_or-set_other out place a 0 0 d in
          elim (cases_lt a (length edges)) [
            | inl l ↦
                let row : slice_index out a ≡ without_place (slice_index edges a) place =
                get_or-map (λ (juniors : ℕ). without_place juniors place) edges a 0 0 l in (
                  λ h.
                      let x = (has_without (slice_index edges a) place b).0 (subst (λ n. Has n b) (other ∙ row) h) in
                      (x.0, d, x.1),
                  λ h. subst (λ n. Has n b) (sym (other ∙ row))
                      ((has_without (slice_index edges a) place b).1 (h.0, h.2)),
                )
            | inr g ↦
                let row : slice_index out a ≡ 0 = get_or_past out a 0 (omega (arith, g, same_length)) in (
                  λ h. absurd (none_in_empty b (subst (λ n. Has n b) (other ∙ row) h)),
                  λ h. absurd (omega (arith, g, from_table edges a b h.0)),
                )
          ]
    ]

pub cleared_in_table : (place : ℕ) (edges : List ℕ) → place < length edges → IsInTable edges
    → IsInTable (role_cleared place edges)
cleared_in_table place edges within table a b e = table a b ((cleared_edges place edges within a b).0 e).0

-- what lies below some place of a set, of those that stand before `many`, or is in the set
pub record IsFound (edges : List ℕ) (set many place : ℕ) : Type 0 where
  pub top : ℕ
  pub within : Has set top
  pub chain : IsAbove edges top place
  pub before : (top < many) ⊎ (top ≡ place)

pub found_begins : (edges : List ℕ) (set place : ℕ) → Has set place ↔ IsFound edges set 0 place
found_begins edges set place = (
  λ h. record { top = place; within = h; chain = stay; before = inr refl },
  λ f. elim f.before [ inl l ↦ absurd (omega (arith, l)) | inr e ↦ subst (Has set) e f.within ],
)

pub found_more : (edges : List ℕ) (set found row i place : ℕ) → Has set i → (Has row place ↔ IsAbove edges i place)
    → (Has found place ↔ IsFound edges set i place)
    → Has (either found row) place ↔ IsFound edges set (i + 1) place
found_more edges set found row i place it down before = (
  λ h. elim ((has_either found row place).0 h) [
    | inl x ↦ let f = before.0 x in
        record {
          top = f.top;
          within = f.within;
          chain = f.chain;
          before = elim f.before [ inl l ↦ inl (omega (arith, l)) | inr e ↦ inr e ];
        }
    | inr x ↦ record { top = i; within = it; chain = down.0 x; before = inl (omega arith) }
  ],
  λ f. (has_either found row place).1 (elim f.before [
    | inl l ↦ elim (cases_eq f.top i) [
      | inl e ↦ inr (down.1 (subst (λ t. IsAbove edges t place) e f.chain))
      | inr d ↦
          inl (before.1
          (record { top = f.top; within = f.within; chain = f.chain; before = inl (omega (arith, l, d)) }))
    ]
    | inr e ↦ inl (before.1 (record { top = f.top; within = f.within; chain = f.chain; before = inr e }))
  ]),
)

-- the same up to a later place, where the set has none between
pub found_past : (edges : List ℕ) (set found next more place : ℕ) → next ≤ more
    → ((other : ℕ) → next ≤ other → other < more → Has set other → ⊥)
    → (Has found place ↔ IsFound edges set next place) → Has found place ↔ IsFound edges set more place
found_past edges set found next more place later none before = (
  λ h. let f = before.0 h in
      record {
        top = f.top;
        within = f.within;
        chain = f.chain;
        before = elim f.before [ inl l ↦ inl (omega (arith, l, later)) | inr e ↦ inr e ];
      },
  λ f. elim f.before [
    | inl l ↦ elim (cases_lt f.top next) [
      | inl low ↦ before.1 (record { top = f.top; within = f.within; chain = f.chain; before = inl low })
      | inr high ↦ absurd (none f.top high l f.within)
    ]
    | inr e ↦ before.1 (record { top = f.top; within = f.within; chain = f.chain; before = inr e })
  ],
)

-- the whole, where the set has no place from there on
pub found_ends : (edges : List ℕ) (set found next place : ℕ) → ((other : ℕ) → next ≤ other → Has set other → ⊥)
    → (Has found place ↔ IsFound edges set next place) → Has found place ↔ IsBelowSome edges set place
found_ends edges set found next place none f = (
  λ h. let x = f.0 h in record { top = x.top; within = x.within; chain = x.chain },
  λ b. f.1 (record {
    top = b.top;
    within = b.within;
    chain = b.chain;
    before = elim (cases_lt b.top next) [ inl l ↦ inl l | inr high ↦ absurd (none b.top high b.within) ];
  }),
)

-- a chain from a place of the table ends at one
ends_in_table : (edges : List ℕ) → IsInTable edges → {a b : ℕ} → IsAbove edges a b → a < ROLES → b < ROLES
ends_in_table edges table stay low = low
ends_in_table edges table (step e rest) low = ends_in_table edges table rest (table _ _ e)

-- below places of the table lie places of the table
pub below_in_table : (edges : List ℕ) (set place : ℕ) → IsInTable edges → set < 2 ^ ROLES → IsBelowSome edges set place
    → place < ROLES
below_in_table edges set place table fits b = ends_in_table edges table b.chain (elim (cases_lt b.top ROLES) [
  | inl l ↦ l
  | inr g ↦ absurd (omega (arith, b.within, bit_at_above set ROLES b.top fits g))
])
