-- A line leaves a desk's journal, or adds to it.
use Rattle.std.proofs.Common.{◌≡◌, ℕ, List, [], ◌∷◌, ◌++◌, Result, Ok, Err, refl, sym, ap, ◌∙◌, append_assoc, append-nil}
use Rattle.desk_commits.specs.Commits.{Committed}
use Rattle.desk_commits.specs.Counting.{desk_counting}
use Rattle.desk_commits.specs.Entries.{Entry}
use Rattle.desk_commits.specs.State.{DeskState}
use Rattle.desk_commits.specs.declared.answers.Refusal.{Refusal}
use Rattle.session_protocol.specs.Keeping.{HasAnswered}
use Rattle.session_protocol.proofs.Staying.{IsKept, answers}

-- the entries behind those before
pub record Grows (old new : DeskState) : Type 0 where
  pub later : List Entry
  pub is : new.journal ≡ old.journal ++ later

stays : (old new : DeskState) → new ≡ old → Grows old new
stays old new same = record { later = []; is = ap (λ (d : DeskState). d.journal) same ∙ sym (append-nil old.journal) }

joins : (r s t : DeskState) → Grows r s → Grows s t → Grows r t
joins r s t first second = record {
  later = first.later ++ second.later;
  is = second.is ∙ ap (λ (l : List Entry). l ++ second.later) first.is ∙ append_assoc r.journal first.later second.later;
}

commits : (old new : DeskState) (commit : Entry) (result : Result ℕ (Refusal × Entry)) → Committed old commit result new → Grows old new
commits old new commit (Ok version) made = record { later = commit ∷ []; is = ap (λ (d : DeskState). d.journal) made.2 }
commits old new commit (Err (refusal, back)) made = stays old new made.2

desk_grows : IsKept desk_counting Grows
desk_grows = record {
  same = λ s. stays s s refl;
  joined = joins;
  versions = λ old new version told. stays old new told.1;
  commits = commits;
  reads = λ old new result read. stays old new read.1;
  tells = λ old new agent cell result told. stays old new told.1;
  asks = λ X old new IsAnswer answer told. stays old new told.1;
}

pub line_grows : (before now : DeskState) → HasAnswered desk_counting before now → Grows before now
line_grows before now h = answers h.version desk_counting Grows desk_grows (h.from, before) h.number h.line h.reply (h.to, now) h.answered
