use mathlib.Core.List.{[], ◌∷◌}
use denote.Exit.{no}
use denote.Struct.Field.{u64-field}
use denote.Param.Send.{IsSend, sendable, param_send, arg_send, shr_send}
use Rattle.std.proofs.sync.atomic.AtomicU64.TheSendSync as counters
use Rattle.std.proofs.rt.LibcRuntime.TheSendSync as runtime
use Rattle.std.proofs.alloc.Global.TheSendSync as heap
use Rattle.shared_runs.proofs.Sent.{shared_sync, pass_send, closure_send}
use Rattle.test_desks.proofs.tests.shared.threads.two_threads_commit.Goals as goal

pub join-left-requires-send-F : goal.join-left-requires-send-F
join-left-requires-send-F g c κs within =
    param_send 1 _ (arg_send _ no _ (closure_send _ (_ ∷ _ ∷ _ ∷ _ ∷ _ ∷ _ ∷ [])
    (shr_send _ _ _ runtime.the_sync)
    heap.the_send
    (shr_send _ _ _ shared_sync)
    pass_send
    (shr_send _ _ _ counters.the_sync)
    (shr_send _ _ _ counters.the_sync)))

pub join-left-requires-send-A : goal.join-left-requires-send-A
join-left-requires-send-A g c κs within =
    let version : IsSend u64-field.row = search sendable in
    param_send 3 _ (arg_send _ no _ (closure_send _ (_ ∷ u64-field.row ∷ []) pass_send version))
