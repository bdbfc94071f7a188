-- The desk after entries: its journal, its limit and its version.
use Rattle.std.proofs.Common.{◌≡◌, ◌≤◌, List, [], ◌∷◌, ◌++◌, length, drop, arith, refl, sym, ap, ◌∙◌, length-append, append_assoc}
use Rattle.std.proofs.lemmas.List.{append-nil}
use Rattle.std.proofs.Math.Seq.{drop-append_seam}
use Rattle.desk_commits.specs.Entries.{Entry}
use Rattle.desk_commits.specs.State.{DeskState, version_of, grown, after}
use Rattle.desk_commits.specs.Replays.{IsLegal}
use Rattle.desk_shared.specs.Passes.{version_at}
use Rattle.desk_shared.specs.Turns.{since}

journal_after : (desk : DeskState) (entries : List Entry) → (after desk entries).journal ≡ desk.journal ++ entries
journal_after desk [] = sym (append-nil desk.journal)
journal_after desk (first ∷ later) = journal_after (grown desk first) later ∙ append_assoc desk.journal (first ∷ []) later

pub limit_after : (desk : DeskState) (entries : List Entry) → (after desk entries).limit ≡ desk.limit
limit_after desk [] = refl
limit_after desk (first ∷ later) = limit_after (grown desk first) later

pub version_after : (desk : DeskState) (entries : List Entry) → version_of (after desk entries) ≡ version_at desk entries
version_after desk entries = ap (λ (j : List Entry). length j) (journal_after desk entries) ∙ length-append desk.journal entries

pub since_after : (desk : DeskState) (entries : List Entry) → since desk (after desk entries) ≡ entries
since_after desk entries = ap (λ (j : List Entry). drop (length desk.journal) j) (journal_after desk entries) ∙ drop-append_seam desk.journal entries

-- a legal journal is within the limit
pub legal_within : (desk : DeskState) (entries : List Entry) → version_of desk ≤ desk.limit → IsLegal desk entries → version_at desk entries ≤ desk.limit
legal_within desk [] room legal = omega arith
legal_within desk (first ∷ later) room legal = let may = legal.0.current.in_order.room in let longer = length-append desk.journal (first ∷ []) in let rest = legal_within (grown desk first) later (omega arith) legal.1 in omega arith
