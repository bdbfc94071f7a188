use Rattle.std.proofs.Common.{ℕ, List, ◌∷◌, ◌++◌}
use Rattle.std.specs.Prelude.{codes, decimal}
use Rattle.std.specs.List.{flat_map}
use Rattle.std.proofs.KnownBytes.{Appends-trans}
use Rattle.desk_report.proofs.Fronts.{front-more, front-after, err-of, ok-after, err-after}
use Rattle.desk_report.proofs.Lines.{line-words}
use Rattle.desk_report.proofs.text.cycles.put_cycle.Goals as goal

pub returns-in_err-put_all-clause-err : goal.returns-in_err-put_all-clause-err
returns-in_err-put_all-clause-err g c =
    let numbers : List ℕ = flat_map (λ (number : ℕ). 32 ∷ decimal number) (c.args.time ∷ c.args.ring.now) in
    rw (line-words decimal (codes "cycle") (c.args.time ∷ c.args.ring.now))
    (err-of c.from_residual.result (front-more _ _ (codes "cycle" ++ numbers) (codes "\n") (front-more _ _ (codes "cycle") numbers c.in_err-put_all.ensures.err)))

pub returns-in_err-put_next-clause-err : goal.returns-in_err-put_next-clause-err
returns-in_err-put_next-clause-err g c =
    let time = rw c.time.ensures at c.in_err-put_next.ensures.err in
    rw (line-words decimal (codes "cycle") (c.args.time ∷ c.args.ring.now))
    (err-of c.from_residual-in_err-put_next.result (front-more _ _ _ _ (front-more _ _ _ _ (front-after _ _ _ _ _ c.in_ok-put_all.ensures.ok time))))

pub returns-in_err-put_ring-clause-err : goal.returns-in_err-put_ring-clause-err
returns-in_err-put_ring-clause-err g c =
    let time = rw c.time.ensures at c.in_ok-put_next.ensures.ok in
    rw (line-words decimal (codes "cycle") (c.args.time ∷ c.args.ring.now))
    (err-of c.from_residual-in_err-put_ring.result (front-more _ _ _ _ (front-after _ _ _ _ _ (Appends-trans _ _ _ _ _ c.in_ok-put_all.ensures.ok time) c.in_err-put_ring.ensures.err)))

pub returns-clause-ok : goal.returns-clause-ok
returns-clause-ok g c =
    let time = rw c.time.ensures at c.in_ok-put_next.ensures.ok in
    rw (line-words decimal (codes "cycle") (c.args.time ∷ c.args.ring.now))
    (ok-after _ _ _ _ _ _ (Appends-trans _ _ _ _ _ (Appends-trans _ _ _ _ _ c.in_ok-put_all.ensures.ok time) c.in_ok-put_ring.ensures.ok) c.put_all-2.ensures.ok)

pub returns-clause-err : goal.returns-clause-err
returns-clause-err g c =
    let time = rw c.time.ensures at c.in_ok-put_next.ensures.ok in
    rw (line-words decimal (codes "cycle") (c.args.time ∷ c.args.ring.now))
    (err-after _ _ _ _ _ _ (Appends-trans _ _ _ _ _ (Appends-trans _ _ _ _ _ c.in_ok-put_all.ensures.ok time) c.in_ok-put_ring.ensures.ok) c.put_all-2.ensures.err)
