-- What a log keeps of a journal that goes on.
use Rattle.std.specs.Prelude.{IfSome, OnErr, OnOk, is_err, is_some}
use Rattle.std.proofs.Common.{◌≡◌, ◌||◌, ℕ, Bool, true, false, true≢false, List, [], ◌∷◌, ◌++◌, drop, length, Option, Some, None, Result, Ok, Err, sym, ap, subst, ◌∙◌, append_assoc, append-nil}
use Rattle.std.proofs.lemmas.List.{take_rest}
use mathlib.Core.List.{IsPrefix}
use Rattle.desk_commits.specs.Entries.{Entry}
use Rattle.desk_commits.specs.State.{DeskState, after, grown}
use Rattle.desk_log.proofs.Logging.{settled-leaves, since}
use Rattle.desk_log.specs.Keeping.{IsLogged, IsLoggedInPart, LeavesEntries, texts_of}
use Rattle.desk_shared.specs.Calls.{IsDeskAtClose}
use Rattle.desk_shared.specs.Passes.{PassState}
use Rattle.shared_runs.proofs.ScriptSessions.{IsPrefix-trans}
use Rattle.shared_runs.specs.Logged.{IsKept, IsKeptAtEnd, IsKeptIn}

-- the same begins a journal behind the entries at the sharing
pub behind_start : (start seen made : List Entry) → IsPrefix seen made → IsPrefix (start ++ seen) (start ++ made)
behind_start start seen made (rest, is) = (rest, append_assoc start seen rest ∙ ap (λ (l : List Entry). start ++ l) is)

pub journal_after : (desk : DeskState) (entries : List Entry) → (after desk entries).journal ≡ desk.journal ++ entries
journal_after desk [] = sym (append-nil desk.journal)
journal_after desk (first ∷ later) = journal_after (grown desk first) later ∙ append_assoc desk.journal (first ∷ []) later

-- what is asked behind so many entries is what came since
pub rest_of : (journal before later : List Entry) (count : ℕ) → journal ≡ before ++ later → count ≡ length (texts_of before) → drop count journal ≡ later
rest_of journal before later count is counted = sym (take_rest journal count) ∙ since journal before later count is counted

-- what a crash leaves, of a journal that goes on
leaves_longer : (head left : List ℕ) (before journal longer : List Entry) → IsPrefix journal longer → LeavesEntries head left before journal → LeavesEntries head left before longer
leaves_longer head left before journal longer (rest, is) leaves = record {
  more = leaves.more;
  lost = leaves.lost ++ rest;
  front = sym is ∙ ap (λ (l : List Entry). l ++ rest) leaves.front ∙ append_assoc before (leaves.more ++ leaves.lost) rest ∙ ap (λ (l : List Entry). before ++ l) (append_assoc leaves.more leaves.lost rest);
  stands = leaves.stands;
}

-- a log whose text and what a crash leaves of it are these
module _ (head : List ℕ) (text kept : Option (List ℕ)) where
  in_longer : (before journal longer : List Entry) → IsPrefix journal longer → IsLoggedInPart head text kept before journal → IsLoggedInPart head text kept before longer
  in_longer before journal longer more part =
      record { leaves = λ left may. leaves_longer head left before journal longer more (part.leaves left may) }

  all_in_part : (count : ℕ) (check : List ℕ) (journal : List Entry) → IsLogged head text kept count check journal → IsLoggedInPart head text kept journal journal
  all_in_part count check journal is = record {
    leaves = λ left may. subst (λ (j : List Entry). LeavesEntries head left journal j) (append-nil journal) (settled-leaves head left kept text journal is.text_is is.kept_is may);
  }

  -- one that has failed
  failed_longer : (count : ℕ) (check : List ℕ) (start seen made : List Entry) → IsPrefix seen made → IsKept true head text kept count check start seen → IsKept true head text kept count check start made
  failed_longer count check start seen made more (before, begins, part) =
      (before, IsPrefix-trans before seen made begins more, in_longer (start ++ before) (start ++ seen) (start ++ made) (behind_start start seen made more) part)

  pub failed_kept : (failed : Bool) (count : ℕ) (check : List ℕ) (start made : List Entry) → failed ≡ true → IsKeptIn failed head text kept count check start made → IsKept failed head text kept count check start made
  failed_kept failed count check start made is (seen, more, had) =
      subst (λ (b : Bool). IsKept b head text kept count check start made) (sym is)
      (failed_longer count check start seen made more (subst (λ (b : Bool). IsKept b head text kept count check start seen) is had))

  -- one that is given up, at entries that came since
  pub given_up : (was now : Bool) (count : ℕ) (check : List ℕ) (start seen made : List Entry) → was ≡ false → now ≡ true → IsPrefix seen made → IsKept was head text kept count check start seen → IsKept now head text kept count check start made
  given_up was now count check start seen made sound failed more had =
      let logged : IsLogged head text kept count check (start ++ seen) = subst (λ (b : Bool). IsKept b head text kept count check start seen) sound had in
      subst (λ (b : Bool). IsKept b head text kept count check start made) (sym failed)
      (seen, more, in_longer (start ++ seen) (start ++ seen) (start ++ made) (behind_start start seen made more) (all_in_part count check (start ++ seen) logged))

  -- one that had what was seen, and has kept what came since or has failed
  kept_or_failed : {A E : Type 0} (result : Result A E) (was now : Bool) (count : ℕ) (check : List ℕ) (start seen made : List Entry) → was ≡ false → now ≡ (was || is_err result) → IsPrefix seen made
      → OnOk result (IsLogged head text kept count check (start ++ made)) → OnErr result (IsLoggedInPart head text kept (start ++ seen) (start ++ made)) → IsKept now head text kept count check start made
  kept_or_failed (Ok value) was now count check start seen made sound is more whole part =
      subst (λ (b : Bool). IsKept b head text kept count check start made) (sym (is ∙ ap (λ (b : Bool). b || false) sound)) whole
  kept_or_failed (Err fault) was now count check start seen made sound is more whole part =
      subst (λ (b : Bool). IsKept b head text kept count check start made) (sym (is ∙ ap (λ (b : Bool). b || true) sound)) (seen, more, part)

-- a log before a call that keeps more, and after it
module _ {A E : Type 0} (result : Result A E) (was now : Bool) (text0 kept0 : Option (List ℕ)) (count0 : ℕ) (check0 : List ℕ) (text kept : Option (List ℕ)) (count : ℕ) (check : List ℕ) (head : List ℕ) (sound : was ≡ false) (is : now ≡ (was || is_err result)) where
  -- what stands behind its entries is put there
  pub rest_kept : (start : DeskState) (seen made entries : List Entry) → IsPrefix seen made → entries ≡ drop count0 (after start made).journal
      → ((before : List Entry) → IsLogged head text0 kept0 count0 check0 before → OnOk result (IsLogged head text kept count check (before ++ entries)))
      → ((before : List Entry) → IsLogged head text0 kept0 count0 check0 before → OnErr result (IsLoggedInPart head text kept before (before ++ entries)))
      → IsKept was head text0 kept0 count0 check0 start.journal seen → IsKept now head text kept count check start.journal made
  unfolding behind_start
  rest_kept start seen made entries more asked whole part had =
      let before = start.journal ++ seen in
      let logged : IsLogged head text0 kept0 count0 check0 before = subst (λ (b : Bool). IsKept b head text0 kept0 count0 check0 start.journal seen) sound had in
      let longer = behind_start start.journal seen made more in
      let rest : entries ≡ more.0 = asked ∙ ap (λ (l : List Entry). drop count0 l) (journal_after start made) ∙ rest_of (start.journal ++ made) before more.0 count0 (sym longer.1) logged.counts.count_is in
      let all : before ++ entries ≡ start.journal ++ made = ap (λ (l : List Entry). before ++ l) rest ∙ longer.1 in
      kept_or_failed head text kept result was now count check start.journal seen made sound is more
      (subst (λ (j : List Entry). OnOk result (IsLogged head text kept count check j)) all (whole before logged))
      (subst (λ (j : List Entry). OnErr result (IsLoggedInPart head text kept before j)) all (part before logged))

  -- what a closed desk's journal has behind them is put there
  pub closed_kept : (start made journal : List Entry) → journal ≡ start ++ made
      → ((before later : List Entry) → IsLogged head text0 kept0 count0 check0 before → journal ≡ before ++ later → OnOk result (IsLogged head text kept count check journal))
      → ((before later : List Entry) → IsLogged head text0 kept0 count0 check0 before → journal ≡ before ++ later → OnErr result (IsLoggedInPart head text kept before journal))
      → IsKeptIn was head text0 kept0 count0 check0 start made → IsKept now head text kept count check start made
  unfolding behind_start
  closed_kept start made journal closed whole part (seen, more, had) =
      let logged : IsLogged head text0 kept0 count0 check0 (start ++ seen) = subst (λ (b : Bool). IsKept b head text0 kept0 count0 check0 start seen) sound had in
      let longer = behind_start start seen made more in
      let from : journal ≡ (start ++ seen) ++ more.0 = closed ∙ sym longer.1 in
      kept_or_failed head text kept result was now count check start seen made sound is more
      (subst (λ (j : List Entry). OnOk result (IsLogged head text kept count check j)) closed (whole (start ++ seen) more.0 logged from))
      (subst (λ (j : List Entry). OnErr result (IsLoggedInPart head text kept (start ++ seen) j)) closed (part (start ++ seen) more.0 logged from))

-- what a log keeps, of a journal that goes on
pub kept_in : (has_failed : Bool) (head : List ℕ) (text kept : Option (List ℕ)) (count : ℕ) (check : List ℕ) (start made longer : List Entry) → IsPrefix made longer → IsKeptIn has_failed head text kept count check start made → IsKeptIn has_failed head text kept count check start longer
kept_in has_failed head text kept count check start made longer more (seen, begins, is) = (seen, IsPrefix-trans seen made longer begins more, is)

-- what the log has that was kept, of a closed desk's journal
pub at_end : (has_failed : Bool) (head : List ℕ) (text kept : Option (List ℕ)) (count : ℕ) (check : List ℕ) (start made journal : List Entry) → journal ≡ start ++ made → IsKept has_failed head text kept count check start made → IsKeptAtEnd has_failed head text kept count check journal
at_end false head text kept count check start made journal same is = subst (λ (j : List Entry). IsLogged head text kept count check j) (sym same) is
at_end true head text kept count check start made journal same (before, (more, begins), is) =
    (start ++ before, (more, append_assoc start before more ∙ ap (λ (l : List Entry). start ++ l) begins ∙ sym same), subst (λ (j : List Entry). IsLoggedInPart head text kept (start ++ before) j) (sym same) is)

-- what a log has where the pass was split off through which its writer watches
pub kept_at_split : (failed : Bool) (head : List ℕ) (text kept : Option (List ℕ)) (count : ℕ) (check : List ℕ) (start made journal : List Entry) → failed ≡ false → start ≡ journal → made ≡ [] → IsLogged head text kept count check journal → IsKept failed head text kept count check start made
kept_at_split failed head text kept count check start made journal sound from none logged =
    subst (λ (b : Bool). IsKept b head text kept count check start made) (sym sound)
    (subst (λ (j : List Entry). IsLogged head text kept count check j) (sym ((λ i. from i ++ none i) ∙ append-nil journal)) logged)

-- where there is a log, it keeps what it kept, of a journal that goes on
pub kept_on : {A : Type 0} (log last : Option A) (Had : List ℕ → A → List Entry → Type 0) (Kept : List ℕ → A → List Entry → List Entry → Type 0) (start same made longer : List Entry) → start ≡ same
    → ((head : List ℕ) (a : A) → Kept head a same made → Kept head a same longer) → IfSome log (λ k. (head : List ℕ) → Had head k start → IfSome last (λ l. Kept head l start made))
    → IfSome log (λ k. (head : List ℕ) → Had head k same → IfSome last (λ l. Kept head l same longer))
kept_on None last Had Kept start same made longer is more kept = kept
kept_on (Some log) None Had Kept start same made longer is more kept = λ head had. kept head (subst (Had head log) (sym is) had)
kept_on (Some log) (Some last) Had Kept start same made longer is more kept =
    λ head had. more head last (subst (λ (s : List Entry). Kept head last s made) is (kept head (subst (Had head log) (sym is) had)))

-- and at the end it has what the closed desk has
pub kept_to_end : {A : Type 0} (log mid last : Option A) (Had : List ℕ → A → List Entry → Type 0) (KeptIn Kept : List ℕ → A → List Entry → List Entry → Type 0) (AtEnd : List ℕ → A → List Entry → Type 0) (start first : DeskState) (pass : PassState) (closed desk : DeskState)
    → first ≡ start → pass.start ≡ first → IsDeskAtClose pass closed → desk ≡ closed → is_some last ≡ is_some mid
    → ((head : List ℕ) (a : A) (made found : List Entry) → IsPrefix made found → KeptIn head a first.journal made → KeptIn head a first.journal found)
    → ((head : List ℕ) (a : A) (made : List Entry) → desk.journal ≡ first.journal ++ made → Kept head a first.journal made → AtEnd head a desk.journal)
    → IfSome log (λ k. (head : List ℕ) → Had head k first.journal → IfSome mid (λ l. KeptIn head l first.journal pass.made))
    → IfSome mid (λ k. (head : List ℕ) (begun made : List Entry) → desk.journal ≡ begun ++ made → KeptIn head k begun made → IfSome last (λ l. Kept head l begun made))
    → IfSome log (λ k. (head : List ℕ) → Had head k start.journal → IfSome last (λ l. AtEnd head l desk.journal))
kept_to_end None mid last Had KeptIn Kept AtEnd start first pass closed desk begins from is same as_many longer ends hosted put = tt
kept_to_end (Some log) mid None Had KeptIn Kept AtEnd start first pass closed desk begins from is same as_many longer ends hosted put = λ head had. tt
kept_to_end (Some log) None (Some last) Had KeptIn Kept AtEnd start first pass closed desk begins from is same as_many longer ends hosted put = absurd (true≢false as_many)
kept_to_end (Some log) (Some mid) (Some last) Had KeptIn Kept AtEnd start first pass closed desk begins from is same as_many longer ends hosted put =
    λ head had.
    let at : desk.journal ≡ first.journal ++ is.found = ap (λ (d : DeskState). d.journal) (same ∙ is.desk_is) ∙ journal_after pass.start is.found ∙ ap (λ (d : DeskState). d.journal ++ is.found) from in
    let begun : Had head log first.journal = subst (λ (d : DeskState). Had head log d.journal) (sym begins) had in
    ends head last is.found at (put head first.journal is.found at (longer head mid pass.made is.found is.goes_on.seen (hosted head begun)))
