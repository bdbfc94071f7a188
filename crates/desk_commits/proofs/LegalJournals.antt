-- Legal journals replay.
use Rattle.std.proofs.Common.{◌≡◌, ℕ, zero, suc, ◌-◌, ◌≤◌, ◌⊎◌, List, [], ◌∷◌, take, Some, Result, Ok, Err, inl, inr, refl, ap, subst, arith}
use Rattle.std.specs.List.{slice_get}
use Rattle.std.proofs.lemmas.Option.{same_Some, none-some}
use Rattle.desk_commits.specs.Entries.{Entry}
use Rattle.desk_commits.specs.State.{DeskState, opening, grown, after}
use Rattle.desk_commits.specs.Commits.{Accepts}
use Rattle.desk_commits.specs.Replays.{IsLegal, Recommits}
use Rattle.desk_commits.specs.Laws.{LegalJournalsReplay}
use Rattle.desk_commits.specs.declared.journals.ReplayFault.{ReplayFault}
use Rattle.desk_commits.specs.declared.journals.ReplayFault.TheVariants.{ModeDiffers, Refused, OutOfMemory}
use Rattle.desk_commits.proofs.OneAnswer.{accepted_only}

-- the desk under another limit
abbrev under : ℕ → DeskState → DeskState
under limit desk = record desk { limit = limit }

accepts_under : (desk : DeskState) (larger : ℕ) (entry : Entry) → desk.limit ≤ larger → Accepts desk entry → Accepts (under larger desk) entry
accepts_under desk larger entry more accepts = grind (arith, accepts.current, accepts.allowed)

legal_under : (desk : DeskState) (larger : ℕ) (entries : List Entry) → desk.limit ≤ larger → IsLegal desk entries → IsLegal (under larger desk) entries
legal_under desk larger [] more legal = tt
legal_under desk larger (entry ∷ later) more legal = (accepts_under desk larger entry more legal.0, legal_under (grown desk entry) larger later more legal.1)

-- an entry of a legal journal is accepted after those before it
accepted_at : (desk : DeskState) (entries : List Entry) (index : ℕ) (entry : Entry) → IsLegal desk entries → slice_get entries index ≡ Some entry → Accepts (after desk (take index entries)) entry
accepted_at desk [] index entry legal there = absurd (none-some entry there)
accepted_at desk (first ∷ later) zero entry legal there = subst (Accepts desk) (same_Some first entry there) legal.0
accepted_at desk (first ∷ later) (suc index) entry legal there = accepted_at (grown desk first) later index entry legal.1 there

recommits : (desk : DeskState) (entries : List Entry) (result : Result DeskState ReplayFault) → IsLegal desk entries → Recommits desk entries result → (result ≡ Ok (after desk entries)) ⊎ (result ≡ Err OutOfMemory)
recommits desk entries (Ok new) legal made = inl (ap Ok made.1)
recommits desk entries (Err ModeDiffers) legal made = absurd made
recommits desk entries (Err (Refused number why)) legal made =
    let accepts = accepted_at desk entries (number - 1) made.0.entry legal made.0.there in
    absurd (made.1 (accepted_only (after desk (take (number - 1) entries)) made.0.entry why accepts made.0.refused))
recommits desk entries (Err OutOfMemory) legal made = inr refl

pub legal_journals_replay_holds : LegalJournalsReplay
legal_journals_replay_holds scene limit larger entries (Ok new) more legal made =
    recommits (opening scene larger) entries (Ok new) (legal_under (opening scene limit) larger entries more legal) made.1
legal_journals_replay_holds scene limit larger entries (Err ModeDiffers) more legal made = absurd (made refl)
legal_journals_replay_holds scene limit larger entries (Err (Refused number why)) more legal made =
    recommits (opening scene larger) entries (Err (Refused number why)) (legal_under (opening scene limit) larger entries more legal) made.1
legal_journals_replay_holds scene limit larger entries (Err OutOfMemory) more legal made = inr refl
