-- From what threads give back to what a drill has served.
use Rattle.std.proofs.Common.{◌≡◌, ℕ, suc, ◌+◌, ◌<◌, ◌≤◌, List, [], ◌∷◌, ◌++◌, length, Vec, Option, Some, None, Result, Ok, false, arith, refl, sym, ap, subst, ◌∙◌, append_assoc}
use Rattle.std.specs.Global.{Global}
use mathlib.Core.List.{IsPrefix}
use Rattle.desk_commits.specs.Entries.{Entry}
use Rattle.desk_commits.specs.State.{DeskState}
use Rattle.session_protocol.specs.Answer.{answering_in}
use Rattle.session_protocol.specs.Session.{Serves, is_write_failed}
use Rattle.session_protocol.specs.declared.bounds.ServeFault.{ServeFault}
use Rattle.session_lines.specs.declared.versions.LinesVersion.{LinesVersion}
use Rattle.session_protocol.specs.declared.drafts.Session.{Session}
use Rattle.session_protocol.specs.declared.drafts.Session.TheVariants.{Idle}
use Rattle.desk_shared.specs.Passes.{PassState, Held, Sharing, own_of}
use Rattle.desk_shared.specs.Windows.{WindowState, window_on, window_counting}
use Rattle.shared_runs.proofs.SameWindow.{window_stays}
use Rattle.shared_runs.specs.Drills.{IsSession, IsServed, AreServed, inputs_of}
use Rattle.solver_check.specs.Bounds.{run_bounds}
use Rattle.solver_check.specs.Inputs.{Input, told}
use Rattle.shared_runs.proofs.Numbering.{IsGiven}

pub IsPrefix-trans : {A : Type 0} (xs ys zs : List A) → IsPrefix xs ys → IsPrefix ys zs → IsPrefix xs zs
IsPrefix-trans xs ys zs (rest, is) (more, then) = (rest ++ more, sym (append_assoc xs rest more) ∙ ap (λ l. l ++ more) is ∙ then)

-- a session over a window on a desk
module _ (version : LinesVersion) (desk : Sharing) (pass : Held) (left0 left1 : Option (List ℕ)) (last : Session) (old new : WindowState) (ended : Result ℕ ServeFault) where
  -- the window is still on the desk
  pub still_on : old ≡ window_on desk pass → Serves (answering_in version window_counting) run_bounds left0 left1 None None (Idle, old) (last, new) ended → new.desk ≡ desk
  still_on begun served = (window_stays version run_bounds left0 left1 None None Idle last old new ended served).desk ∙ ap (λ (w : WindowState). w.desk) begun

  pub session_of : (script : List ℕ) (after : PassState) → old ≡ window_on desk pass → left0 ≡ Some script → after ≡ new.pass → is_write_failed ended ≡ false → Serves (answering_in version window_counting) run_bounds left0 left1 None None (Idle, old) (last, new) ended → IsSession desk pass.known (told version script) after ended
  session_of script after begun whole ends unbroken served =
      let on_desk = still_on begun served in
      let then : new ≡ record { desk = desk; pass = after } = λ i. record { desk = on_desk i; pass = sym ends i } in
      record {
        left = left1;
        last = last;
        session =
            subst (λ (w : WindowState). Serves (answering_in version window_counting) run_bounds (Some script) left1 None None (Idle, window_on desk pass) (last, w) ended) then
            (subst (λ (w : WindowState). Serves (answering_in version window_counting) run_bounds (Some script) left1 None None (Idle, w) (last, new) ended) begun
            (subst (λ (left : Option (List ℕ)). Serves (answering_in version window_counting) run_bounds left left1 None None (Idle, old) (last, new) ended) whole served));
        unbroken = unbroken;
      }

-- a session leaves the pass its planner
pub still_for : (desk : Sharing) (script : Input) (old new : PassState) (ended : Result ℕ ServeFault) → IsSession desk old script new ended → new.planner ≡ old.planner
still_for desk script old new ended is = (window_stays script.lines run_bounds script.bytes is.left None None Idle is.last (record { desk = desk; pass = old }) (record { desk = desk; pass = new }) ended is.session).planner

-- a script that was served, as the first pass sees it once the script's pass is joined into it
pub served : (start : DeskState) (entries : List Entry) (planner lines : ℕ) (script text : Input) (desk : Sharing) (before after : PassState) (ended : Result ℕ ServeFault) → IsGiven start planner before → text ≡ script → ended ≡ Ok lines → IsSession desk before text after ended → IsPrefix after.made entries → own_of after.planner entries ≡ own_of after.planner after.made → IsServed desk start entries planner script
served start entries planner lines script text desk before after ended given whole done session seen own =
    let numbered : after.planner ≡ planner = still_for desk text before after ended session ∙ given.number in
    record {
      old = before;
      new = after;
      lines = lines;
      begins = given.begins;
      nothing_seen = given.nothing_seen;
      number = given.number;
      session = subst (λ (t : Input). IsSession desk before t after (Ok lines)) whole (subst (λ (e : Result ℕ ServeFault). IsSession desk before text after e) done session);
      seen = seen;
      own = subst (λ (n : ℕ). own_of n entries ≡ own_of n after.made) numbered own;
    }

-- what was served is served for longer journals too, where they have no more entries of the scripts' planners
pub served_on : (desk : Sharing) (start : DeskState) (entries longer : List Entry) → IsPrefix entries longer → (planner : ℕ) (scripts : List Input) → ((number : ℕ) → planner ≤ number → number < planner + length scripts → own_of number longer ≡ own_of number entries) → AreServed desk start entries planner scripts → AreServed desk start longer planner scripts
served_on desk start entries longer more planner [] same all = all
served_on desk start entries longer more planner (script ∷ later) same all =
    let here = all.0 in (
      record { old = here.old; new = here.new; lines = here.lines; begins = here.begins; nothing_seen = here.nothing_seen; number = here.number; session = here.session; seen = IsPrefix-trans here.new.made entries longer here.seen more; own = same planner (omega arith) (omega arith) ∙ here.own },
      served_on desk start entries longer more (planner + 1) later (λ number low high. same number (omega arith) (omega arith)) all.1,
    )

-- there are as many texts as scripts
pub texts_length : (version : LinesVersion) (scripts : List (Vec ℕ Global)) → length (inputs_of version scripts) ≡ length scripts
texts_length version [] = refl
texts_length version (script ∷ later) = ap suc (texts_length version later)
