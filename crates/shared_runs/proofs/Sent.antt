-- A desk and a pass may go to any thread; so may a closure, if all that it holds may.
use mathlib.Core.List.{List, [], ◌∷◌}
use mir.Syntax.{Sym}
use denote.RattleType.{RattleType}
use denote.Struct.Field.{row_field}
use denote.Struct.Tuple.{TupleAt, type_at, parts}
use denote.Param.Send.{IsSend, IsSync, sendable, view_send, view_sync}
use denote.Param.SendFields.{FieldsHave, declared_send, declared_sync, as_row_send, as_row_sync, variants_send, variants_sync, array_field_send}
use Rattle.core.proofs.snapshot.Sent.{snapshot_send, snapshot_sync}
use Rattle.std.proofs.Crossing.{Vec-send, Vec-sync}
use Rattle.std.proofs.alloc.Global.TheSendSync as heap
use Rattle.scene_edits.proofs.scenes.Scene.TheSendSync as scene
use Rattle.desk_commits.proofs.commits.Commit.TheSendSync as commit
use Rattle.desk_commits.proofs.limits.Limit.TheSendSync as limit
use Rattle.desk_commits.proofs.stamps.Stamps.TheSendSync as stamps
use Rattle.live_report.proofs.books.Books.TheSendSync as books
use Rattle.live_report.proofs.histories.History.TheSendSync as history
use Rattle.live_report.proofs.builds.BuildCount.TheSendSync as builds
use Rattle.desk_core.specs.contracts.desks.Desk.{the_row}
use Rattle.desk_core.specs.contracts.desks.Desk.TheInside as inside
use Rattle.desk_shared.specs.contracts.sharing.SharedDesk as shared
use Rattle.desk_shared.specs.contracts.sharing.SharedDesk.TheInside as within
use Rattle.grid_cells.proofs.numbers.Planner.TheSendSync as planner
use Rattle.desk_shared.specs.contracts.passes.Pass as pass
use Rattle.desk_shared.specs.contracts.passes.Pass.TheInside as passed
use Rattle.atomic_table.proofs.shared.Seat.TheSendSync as seat
use Rattle.std.proofs.Crossing.{crosses}
use Rattle.atomic_table.proofs.shared.Shared.TheSendSync as table
use Rattle.atomic_table.proofs.owned.Table.TheSendSync as owned

pub desk_send : IsSend the_row
desk_send = view_send _ _ _ _ _ (declared_send inside.the_type (
  heap.the_send,
  (
    scene.the_send,
    (
      search (sendable, as_row_send, Vec-send, commit.the_send) depth 20,
      (
        limit.the_send,
        (
          search (sendable, as_row_send, variants_send, stamps.the_send) depth 20,
          (
            search (sendable, as_row_send, variants_send, books.the_send) depth 20,
            (
              search (sendable, as_row_send, variants_send, history.the_send) depth 20,
              (
                search (sendable, as_row_send) depth 20,
                (
                  builds.the_send,
                  (search (snapshot_send, snapshot_send), tt),
                ),
              ),
            ),
          ),
        ),
      ),
    ),
  ),
))

pub desk_sync : IsSync the_row
desk_sync = view_sync _ _ _ _ _ (declared_sync inside.the_type (
  heap.the_sync,
  (
    scene.the_sync,
    (
      search (sendable, as_row_sync, Vec-sync, commit.the_sync) depth 20,
      (
        limit.the_sync,
        (
          search (sendable, as_row_sync, variants_sync, stamps.the_sync) depth 20,
          (
            search (sendable, as_row_sync, variants_sync, books.the_sync) depth 20,
            (
              search (sendable, as_row_sync, variants_sync, history.the_sync) depth 20,
              (
                search (sendable, as_row_sync) depth 20,
                (
                  builds.the_sync,
                  (search (snapshot_sync, snapshot_sync), tt),
                ),
              ),
            ),
          ),
        ),
      ),
    ),
  ),
))

-- and the shared desk may be seen by any
pub shared_sync : IsSync shared.the_row
shared_sync = view_sync _ _ _ _ _ (declared_sync within.the_type (
  search (sendable, as_row_sync, variants_send, crosses, desk_send, owned.the_sync, table.the_sync) depth 20,
  (search (sendable, as_row_sync) depth 20, tt),
))

-- and a pass may go to any
pub pass_send : IsSend pass.the_row
pass_send = view_send _ _ _ _ _ (declared_send passed.the_type (
  search (sendable, as_row_send, variants_send, crosses, desk_send, seat.the_send) depth 20,
  (
    search (sendable, as_row_send, planner.the_send) depth 20,
    (search (sendable, as_row_send, array_field_send) depth 20, tt),
  ),
))

-- IfAllSend Ts X      X, if each of Ts may go to any thread
abbrev pub IfAllSend : List RattleType → Type 0 → Type 0
IfAllSend [] X = X
IfAllSend (T ∷ Ts) X = IsSend T → IfAllSend Ts X

one_by_one : (Ts : List RattleType) (X : Type 0) → (FieldsHave IsSend (parts Ts) → X) → IfAllSend Ts X
one_by_one [] X f = f tt
one_by_one (T ∷ Ts) X f = λ t. one_by_one Ts X (λ s. f (as_row_send (row_field T) t, s))

pub closure_send : (ν : Sym) (Ts : List RattleType) → IfAllSend Ts (IsSend (TupleAt ν Ts))
closure_send ν Ts = one_by_one Ts (IsSend (TupleAt ν Ts)) (declared_send (type_at ν Ts))
