use Rattle.std.proofs.Common.{◌∷◌, sym, drop}
use Rattle.std.specs.List.{flat_map}
use Rattle.std.proofs.lemmas.List.{at_drop_more, take_rest}
use Rattle.desk_report.proofs.Fronts.{front-more, err-of, err-after}
use Rattle.solver_check.specs.JsonTexts.{items_json}
use Rattle.solver_check.proofs.checks.json.lists.put_items.Goals as goal

pub returns-in_err-put_json-in-len1-up-clause-err :
    goal.returns-in_err-put_json-in-len1-up-clause-err
returns-in_err-put_json-in-len1-up-clause-err g c =
    let items = c.args.items.now in
    err-of c.from_residual.result
    (rw (at_drop_more (items_json g.T.Told.json) items 0 c.first-item.result c.in-len1-up.len_at_least)
    (rw (sym c.first-item.is)
    (front-more _ _ (g.T.Told.json c.first-item.result) (flat_map (λ item. 44 ∷ g.T.Told.json item) (drop 1 items)) c.in_err-put_json-in-len1-up.ensures.err)))

pub returns-in_ok-put_json-in-len1-up-clause-err :
    goal.returns-in_ok-put_json-in-len1-up-clause-err
returns-in_ok-put_json-in-len1-up-clause-err g c =
    let items = c.args.items.now in
    rw (at_drop_more (items_json g.T.Told.json) items 0 c.first-item.result c.in-len1-up.len_at_least)
    (rw (sym c.first-item.is)
    (err-after _ _ _ _ (g.T.Told.json c.first-item.result) (flat_map (λ item. 44 ∷ g.T.Told.json item) (drop 1 items)) c.in_ok-put_json-in-len1-up.ensures.ok (rw (take_rest items 1) at c.put_more.ensures.err)))
