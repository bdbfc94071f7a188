use Rattle.std.specs.Prelude.{Some}
use Rattle.std.proofs.Common.{inl, inr, refl, sym, subst, arith, ◌≡◌, ◌⊎◌, ◌∙◌}
use Rattle.std.proofs.lemmas.List.Elements.{Contains-push_cases}
use Rattle.grid_cells.specs.Cell.{Point}
use Rattle.grid_cells.specs.Size.{Holds}
use Rattle.goal_fields.specs.Lifelong.{IsGood, g_of}
use Rattle.goal_fields.specs.Taking.{Advances, IsUnstirred}
use Rattle.goal_fields.proofs.FollowLemmas.{g_read, Advances-update, Advances-trans, g_of-same}
use Rattle.goal_fields.proofs.LastLemmas.{IsTouched-more, false≢true_at}
use Rattle.goal_fields.proofs.lifelong.Lifelong.touch.Goals as goal
use Rattle.goal_fields.proofs.lifelong.Lifelong.touch.Goals.{else-g-lt-FAR-via-then-g-lt-FAR+else-not-is_open, else-g-lt-FAR-via-else-g-lt-FAR}

pub returns-then-not-is_open-clause-touched : goal.returns-then-not-is_open-clause-touched
returns-then-not-is_open-clause-touched c start done t =
    let s = c.args.self.now in
    let a = c.args.cell in
    let update = c.update.ensures in
    let after = c.follow_all.ensures in
    let held : Holds s.grid.size a = rw (← c.size.ensures.is) (c.if-holds.ensures.0 refl) in
    let first : Advances s c.update.new.self = Advances-update s c.update.new.self (Some a) update.same update.here update.keeps update.others in
    let on : Advances s c.follow_all.new.self = Advances-trans s c.update.new.self c.follow_all.new.self first after.advances in
    let read = g_read c.update.new.self a c.place_of.result c.index-g.result.now update.roomy.one_g_each c.place_of.ensures.bound c.place_of.ensures.is
    c.index-g.ensures in
    let was : g_of c.follow_all.new.self a ≡ c.index-g.result.now = g_of-same c.update.new.self c.follow_all.new.self a after.advances.same ∙ sym read in
    IsTouched-more start s c.follow_all.new.self done a on after.roomy (after.advances.keeps a (rw update.same.grid held) (update.here a refl))
    (λ v h adj lt. inr (subst (λ n. IsGood c.follow_all.new.self v ⊎ IsUnstirred c.follow_all.new.self v n 4294967295) (sym was) (after.near v (rw (← after.advances.same.grid) h) adj))) t

pub returns-else-g-lt-FAR-clause-touched : goal.returns-else-g-lt-FAR-clause-touched
returns-else-g-lt-FAR-clause-touched c start done t =
    let s = c.args.self.now in
    let a = c.args.cell in
    let update = c.update.ensures in
    let first : Advances s c.update.new.self = Advances-update s c.update.new.self (Some a) update.same update.here update.keeps update.others in
    let was = g_read c.update.new.self a c.place_of.result c.index-g.result.now update.roomy.one_g_each c.place_of.ensures.bound c.place_of.ensures.is
    c.index-g.ensures in
    IsTouched-more start s c.update.new.self done a first update.roomy (update.here a refl)
    (λ v h adj lt. elim c.else-g-lt-FAR.branch [
      | else-g-lt-FAR-via-then-g-lt-FAR+else-not-is_open w ↦ inl (w.is_open.ensures.0 (w.if-not-is_open.false))
      | else-g-lt-FAR-via-else-g-lt-FAR w ↦ absurd (omega (arith, lt, was, w.if-g-lt-FAR.false))
    ]) t

pub returns-else-holds-clause-touched : goal.returns-else-holds-clause-touched
returns-else-holds-clause-touched c start done t =
    let out : (v : Point) → c.args.cell ≡ v → Holds start.grid.size v → ⊥ =
    (λ v is hv. (let held : Holds c.args.self.now.grid.size c.args.cell = rw (t.grid, is) hv in false≢true_at refl (c.if-holds.ensures.1 (rw c.size.ensures.is held)))) in
    record {
      roomy = t.roomy;
      grid = t.grid;
      goal = t.goal;
      g = t.g;
      taken = t.taken;
      total = t.total;
      here = λ v con hv. elim (Contains-push_cases done c.args.cell v con) [ inl before ↦ t.here v before hv | inr last ↦ absurd (out v last hv) ];
      each = λ w hw. elim (t.each w hw) [
        | inl good ↦ inl good
        | inr waits ↦ inr (record {
          unqueued = waits.unqueued;
          on_way = λ v con hv adj lt e. elim (Contains-push_cases done c.args.cell v con) [ inl before ↦ waits.on_way v before hv adj lt e | inr last ↦ absurd (out v last hv) ];
        })
      ];
    }
