use Rattle.std.proofs.Common.{ℕ, List, ◌++◌}
use Rattle.std.specs.Prelude.{true, codes}
use Rattle.std.proofs.KnownBytes.{Appends-trans}
use Rattle.mapf_rules.specs.declared.entries.Conflict.{Conflict}
use Rattle.desk_report.proofs.Fronts.{front-more, front-after, err-of, err-after}
use Rattle.solver_check.specs.CheckTexts.{kind_line, no_kinds, kinds_text}
use Rattle.solver_check.proofs.checks.quiet.put_kinds.Goals as goal

abbrev vertex_line : List Conflict → List ℕ
vertex_line entries = kind_line (codes "vertex") (record no_kinds { vertex = true }) entries

abbrev edge_line : List Conflict → List ℕ
edge_line entries = kind_line (codes "edge") (record no_kinds { edge = true }) entries

abbrev follow_line : List Conflict → List ℕ
follow_line entries = kind_line (codes "follow") (record no_kinds { follow = true }) entries

abbrev swap_line : List Conflict → List ℕ
swap_line entries = kind_line (codes "swap") (record no_kinds { swap = true }) entries

abbrev cycle_line : List Conflict → List ℕ
cycle_line entries = kind_line (codes "cycle") (record no_kinds { cycle = true }) entries

pub returns-in_err-put_kind-clause-err : goal.returns-in_err-put_kind-clause-err
unfolding kinds_text
returns-in_err-put_kind-clause-err g c =
    let r = c.args.entries.now in
    err-of c.from_residual.result
    (front-more _ _ (vertex_line r ++ edge_line r ++ follow_line r ++ swap_line r) (cycle_line r)
    (front-more _ _ (vertex_line r ++ edge_line r ++ follow_line r) (swap_line r)
    (front-more _ _ (vertex_line r ++ edge_line r) (follow_line r)
    (front-more _ _ (vertex_line r) (edge_line r)
    (c.in_err-put_kind.ensures.err)))))

pub returns-in_err-put_kind-2-clause-err : goal.returns-in_err-put_kind-2-clause-err
unfolding kinds_text
returns-in_err-put_kind-2-clause-err g c =
    let r = c.args.entries.now in
    err-of c.from_residual-in_err-put_kind-2.result
    (front-more _ _ (vertex_line r ++ edge_line r ++ follow_line r ++ swap_line r) (cycle_line r)
    (front-more _ _ (vertex_line r ++ edge_line r ++ follow_line r) (swap_line r)
    (front-more _ _ (vertex_line r ++ edge_line r) (follow_line r)
    (front-after _ _ _ (vertex_line r) (edge_line r) c.in_ok-put_kind.ensures.ok c.in_err-put_kind-2.ensures.err))))

pub returns-in_err-put_kind-3-clause-err : goal.returns-in_err-put_kind-3-clause-err
unfolding kinds_text
returns-in_err-put_kind-3-clause-err g c =
    let r = c.args.entries.now in
    let two = Appends-trans _ _ _ (vertex_line r) (edge_line r) c.in_ok-put_kind.ensures.ok c.in_ok-put_kind-2.ensures.ok in
    err-of c.from_residual-in_err-put_kind-3.result
    (front-more _ _ (vertex_line r ++ edge_line r ++ follow_line r ++ swap_line r) (cycle_line r)
    (front-more _ _ (vertex_line r ++ edge_line r ++ follow_line r) (swap_line r)
    (front-after _ _ _ (vertex_line r ++ edge_line r) (follow_line r) two c.in_err-put_kind-3.ensures.err)))

pub returns-in_err-put_kind-4-clause-err : goal.returns-in_err-put_kind-4-clause-err
unfolding kinds_text
returns-in_err-put_kind-4-clause-err g c =
    let r = c.args.entries.now in
    let two = Appends-trans _ _ _ (vertex_line r) (edge_line r) c.in_ok-put_kind.ensures.ok c.in_ok-put_kind-2.ensures.ok in
    let three = Appends-trans _ _ _ (vertex_line r ++ edge_line r) (follow_line r) two c.in_ok-put_kind-3.ensures.ok in
    err-of c.from_residual-in_err-put_kind-4.result
    (front-more _ _ (vertex_line r ++ edge_line r ++ follow_line r ++ swap_line r) (cycle_line r)
    (front-after _ _ _ (vertex_line r ++ edge_line r ++ follow_line r) (swap_line r) three c.in_err-put_kind-4.ensures.err))

pub returns-clause-err : goal.returns-clause-err
unfolding kinds_text
returns-clause-err g c =
    let r = c.args.entries.now in
    let two = Appends-trans _ _ _ (vertex_line r) (edge_line r) c.in_ok-put_kind.ensures.ok c.in_ok-put_kind-2.ensures.ok in
    let three = Appends-trans _ _ _ (vertex_line r ++ edge_line r) (follow_line r) two c.in_ok-put_kind-3.ensures.ok in
    let four = Appends-trans _ _ _ (vertex_line r ++ edge_line r ++ follow_line r) (swap_line r) three c.in_ok-put_kind-4.ensures.ok in
    err-after _ _ _ _ (vertex_line r ++ edge_line r ++ follow_line r ++ swap_line r) (cycle_line r) four c.put_kind-5.ensures.err
