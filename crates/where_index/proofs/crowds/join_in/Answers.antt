use Rattle.std.proofs.Common.{◌≡◌, Some, None, List, cond, ap, sym, ◌∙◌, refl, subst}
use Rattle.std.specs.Option.{option_copied_mut, IsSome}
use Rattle.std.specs.Map.{lookup}
use Rattle.std.proofs.lemmas.Result.{on_ok_weaker}
use Rattle.where_index.specs.declared.moves.Move.{Move}
use Rattle.where_index.specs.declared.crowds.Place.{Place}
use Rattle.where_index.specs.Crowds.{place, place_eq, crowd_at, begun, IsJoined}
use Rattle.where_index.proofs.Crowding.{changes_at, puts_beside}
use Rattle.where_index.proofs.crowds.join_in.Goals as goal

pub returns-in-Some : goal.returns-in-Some
returns-in-Some c =
    let found = sym c.get_mut.ensures.value ∙ ap option_copied_mut c.in-Some.is in
    on_ok_weaker c.put.result (λ puts. changes_at c.args.lists.now.entries _ c.args.cell c.args.time (Some c.put.new.self) ((c.get_mut.follows.holds c.put.new.self).3 (subst IsSome (sym found) refl)).0 (λ o n. IsJoined c.args.added (begun o c.args.beside) n)
    (subst (λ o. IsJoined c.args.added (begun o c.args.beside) (Some c.put.new.self)) (sym found) puts)) c.put.ensures

pub returns : goal.returns
returns c =
    let found : crowd_at c.args.lists.now.entries c.args.cell c.args.time ≡ None = sym c.get_mut.ensures.value ∙ ap option_copied_mut c.in_default.is in
    let first = rw c.new-list.ensures at c.in_ok-put.ensures in
    let both = c.put-3.new.self in
    let joined = puts_beside c.put-2.new.self both c.in-Some-beside.other c.args.added first c.in_ok-put-2.ensures in
    changes_at c.args.lists.now.entries c.insert.new.self.entries c.args.cell c.args.time (Some both)
    (subst (λ (l : List (Place × List Move)). (q : Place) → lookup (place_eq q) c.insert.new.self.entries ≡ cond (place_eq (place c.args.cell c.args.time) q) (Some both) (lookup (place_eq q) l)) (ap (λ m. m.entries) c.get_mut.follows.holds-at-none) c.in_ok-insert.ensures.updates.0)
    (λ o n. IsJoined c.args.added (begun o c.args.beside) n)
    (subst (λ o. IsJoined c.args.added (begun o c.args.beside) (Some both)) (sym found) (subst (λ b. IsJoined c.args.added (begun None b) (Some both)) (sym c.in-Some-beside.is) joined))
