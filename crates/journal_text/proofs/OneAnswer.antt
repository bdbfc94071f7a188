-- What a text reads as is one thing, but for want of memory.
use Rattle.std.proofs.Common.{◌≡◌, ◌≤◌, ℕ, List, Result, Ok, Err, refl, ap, inl, inr, arith}
use Rattle.desk_commits.specs.Replays.{Log}
use Rattle.journal_text.specs.Reading.{IsFaultyLine}
use Rattle.journal_text.specs.Laws.{OneReading, ReadsBack}
use Rattle.journal_text.specs.declared.faults.JournalFault.{JournalFault}
use Rattle.journal_text.specs.declared.faults.JournalFault.TheVariants.{BadLine, OutOfMemory}
use Rattle.journal_text.proofs.BadLines.{one-journal}

one-line : (text : List ℕ) (a b : ℕ) → IsFaultyLine text a → IsFaultyLine text b → a ≡ b
one-line text a b one other =
    let least : one.fit ≤ other.fit = other.most one.fit one.begins in
    let most : other.fit ≤ one.fit = one.most other.fit other.begins in
    omega (arith, one.number, other.number)

pub one_answer : OneReading
one_answer text (Ok a) (Ok b) some more one other = ap (λ (log : Log). let r : Result Log JournalFault = Ok log in r) (one-journal text a b one.0 other.0 one.1 other.1)
one_answer text (Ok a) (Err (BadLine line)) some more one other = absurd (other.other a one.0 one.1)
one_answer text (Ok a) (Err OutOfMemory) some more one other = absurd (more refl)
one_answer text (Err (BadLine line)) (Ok b) some more one other = absurd (one.other b other.0 other.1)
one_answer text (Err (BadLine line)) (Err (BadLine number)) some more one other = ap (λ (n : ℕ). let r : Result Log JournalFault = Err (BadLine n) in r) (one-line text line number one other)
one_answer text (Err (BadLine line)) (Err OutOfMemory) some more one other = absurd (more refl)
one_answer text (Err OutOfMemory) b some more one other = absurd (some refl)

pub reads_back : ReadsBack
reads_back log text (Ok other) lawful is reads = inl (ap (λ (log : Log). let r : Result Log JournalFault = Ok log in r) (one-journal text other log reads.0 lawful reads.1 is))
reads_back log text (Err (BadLine line)) lawful is reads = absurd (reads.other log lawful is)
reads_back log text (Err OutOfMemory) lawful is reads = inr refl
