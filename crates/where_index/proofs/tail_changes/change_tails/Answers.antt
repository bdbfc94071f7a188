use Rattle.std.proofs.Common.{◌≡◌, ◌≢◌, ℕ, sym, ◌∙◌, arith}
use Rattle.where_index.specs.Records.{tail_at, rest_at, changed}
use Rattle.where_index.specs.Changes.{set_at, set_row}
use Rattle.where_index.proofs.Changes.{HasSpots-ext, set_other, one_set, two_sets, one_below, two_below, changed_itself}
use Rattle.where_index.proofs.Standing.{same_elsewhere, rest_elsewhere}
use Rattle.where_index.proofs.tail_changes.change_tails.Goals as goal

-- one end
pub returns-then-end-next-clause-set : goal.returns-then-end-next-clause-set
returns-then-end-next-clause-set c = λ f has agree.
    let o = rest_at c.args.old.now in
    let n = rest_at c.args.new.now in
    let x = c.last-end.result in
    let g = rw (c.tail.ensures, c.tail-2.ensures) at c.in_ok-count.ensures in
    let same : (t : ℕ) → t ≢ x → o t ≡ n t = λ t a. rest_elsewhere c.args.old.now c.args.new.now t (λ e. a (e ∙ sym c.last-end.ensures)) (λ e. a (e ∙ (sym c.last-next.ensures ∙ sym c.if-end-next.true))) in
    HasSpots-ext c.replace_rest.new.tails (set_at f c.args.agent x (n x)) (set_row f c.args.agent n) (one_set f c.args.agent o n x same agree) (g.set f has (agree x))

pub returns-then-end-next-clause-count : goal.returns-then-end-next-clause-count
returns-then-end-next-clause-count c =
    let o = tail_at c.args.old.now in
    let n = tail_at c.args.new.now in
    let x = c.last-end.result in
    let g = rw (c.tail.ensures, c.tail-2.ensures) at c.in_ok-count.ensures in
    let same : (t : ℕ) → t ≢ x → o t ≡ n t = λ t a. same_elsewhere c.args.old.now c.args.new.now t (λ e. a (e ∙ sym c.last-end.ensures)) (λ e. a (e ∙ (sym c.last-next.ensures ∙ sym c.if-end-next.true))) in
    g.count ∙ sym (one_below changed o n changed_itself x c.args.to (λ t h a. same t a) (λ h. c.requires.same_after x h))

-- two ends
pub returns-clause-set : goal.returns-clause-set
returns-clause-set c = λ f has agree.
    let o = rest_at c.args.old.now in
    let n = rest_at c.args.new.now in
    let x = c.last-end.result in
    let y = c.last-next.result in
    let g = rw (c.tail.ensures, c.tail-2.ensures) at c.in_ok-count.ensures in
    let h = rw (c.tail-3.ensures, c.tail-4.ensures) at c.in_ok-more.ensures in
    let same : (t : ℕ) → t ≢ x → t ≢ y → o t ≡ n t = λ t a b. rest_elsewhere c.args.old.now c.args.new.now t (λ e. a (e ∙ sym c.last-end.ensures)) (λ e. b (e ∙ sym c.last-next.ensures)) in
    HasSpots-ext c.replace_rest-2.new.tails (set_at (set_at f c.args.agent x (n x)) c.args.agent y (n y)) (set_row f c.args.agent n) (two_sets f c.args.agent o n x y same agree)
    (h.set (set_at f c.args.agent x (n x)) (g.set f has (agree x)) (set_other f c.args.agent x (n x) y (λ e. c.if-end-next.false (sym e)) ∙ agree y))

pub returns-clause-count : goal.returns-clause-count
returns-clause-count c =
    let o = tail_at c.args.old.now in
    let n = tail_at c.args.new.now in
    let x = c.last-end.result in
    let y = c.last-next.result in
    let g = rw (c.tail.ensures, c.tail-2.ensures) at c.in_ok-count.ensures in
    let h = rw (c.tail-3.ensures, c.tail-4.ensures) at c.in_ok-more.ensures in
    let same : (t : ℕ) → t ≢ x → t ≢ y → o t ≡ n t = λ t a b. same_elsewhere c.args.old.now c.args.new.now t (λ e. a (e ∙ sym c.last-end.ensures)) (λ e. b (e ∙ sym c.last-next.ensures)) in
    let both = two_below changed o n changed_itself x y c.args.to c.if-end-next.false (λ t h. same t) (λ h. c.requires.same_after x h) (λ h. c.requires.same_after y h) in
    omega (arith, g.count, h.count, both)
