use Rattle.std.proofs.Common.{◌≡◌, ◌∙◌, List, length, map, ap, codes, arith, rules, inl, inr, true, false}
use Rattle.serde_json.specs.Data.{Data, array, member, no_members, object, string}
use Rattle.serde_json.specs.View.{items_of, view}
use Rattle.est_kernel.specs.Bits.{bits}
use Rattle.est_kernel.specs.declared.interface.Declaration.{Declaration}
use Rattle.est_cover.specs.declared.answered.AnsweredInputs.{AnsweredInputs}
use Rattle.est_explore.specs.declared.one_module.Answer.{Answer}
use Rattle.state_search.specs.declared.found.Row.{Row}
use Rattle.lab_lines.specs.TableJson.{node_json, row_json}
use Rattle.lab_lines.proofs.table_json.find_table.Goals as goal

-- the table, of its rows and states
abbrev table_of : (rows : Data) → (states : List Data) → Data
table_of rows states = object (member (codes "ok") (string (codes "table"))
    (member (codes "rows") rows (member (codes "states") (array (items_of states)) no_members)))

pub returns-then-not-is_complete : goal.returns-then-not-is_complete
returns-then-not-is_complete g c =
    let reactions : c.len-reactions.result ≡ length c.in_ok-found.found.rows.items =
    let e = c.len-reactions.ensures in let o = c.in_ok-found.found.rows.ok.0 in omega arith in
    let states : c.len-states.result ≡ length c.in_ok-found.found.nodes.items =
    let e = c.len-states.ensures in let o = c.in_ok-found.found.nodes.ok.0 in omega arith in
    let more_left : c.is_complete.result ≡ false = search rules in
    inr (record {
      found = c.in_ok-found.found;
      watched = bits c.args.subject.now.watched;
      explored = c.in_ok-found.ensures.explored;
      more = elim c.in_ok-found.ensures.ended [
        | inl all ↦ absurd (let yes : c.is_complete.result ≡ true = c.is_complete.ensures.all.1 all in cc)
        | inr more ↦ more
      ];
      said = rw (← reactions, ← states) c.in_ok-told.ensures;
    })

pub returns : goal.returns
returns g c =
    let k = c.args.subject.now.reactive.now.kernel.now.interface in
    let closed : c.is_complete.result ≡ true = search rules in
    let states : map view c.in_ok-states.states.items ≡ map node_json c.in_ok-found.found.nodes.items =
    c.in_ok-states.ensures ∙ ap (map node_json) c.as_slice.ensures.value in
    let rows : view c.in_ok-rows.rows ≡ array (items_of (map (row_json k) c.in_ok-found.found.rows.items)) =
    c.in_ok-rows.ensures
    ∙ ap (λ (i : List Declaration). array (items_of (map (row_json i) c.as_slice-2.result.now)))
    c.interface-interface.ensures
    ∙ ap (λ (xs : List (Row (AnsweredInputs Answer))). array (items_of (map (row_json k) xs)))
    c.as_slice-2.ensures.value in
    inl (record {
      found = c.in_ok-found.found;
      closed = c.is_complete.ensures.table _ _ c.in_ok-found.ensures.explored closed;
      said = c.in_ok-told-2.ensures
          ∙ ap (λ (xs : Data). table_of xs (map view c.in_ok-states.states.items)) rows
          ∙ ap (table_of (array (items_of (map (row_json k) c.in_ok-found.found.rows.items)))) states;
    })
