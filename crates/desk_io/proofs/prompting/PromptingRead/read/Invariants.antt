use Rattle.std.specs.Io.KnownBytes.{Keeps}
use Rattle.desk_io.proofs.prompting.PromptingRead.read.Given as goal

-- a read that would block takes nothing
abbrev pub invariant-loop : goal.invariant-loop
invariant-loop g l = Keeps (g.I.Read.remaining l.fn.self.reader.now) (g.I.Read.remaining l.self.reader.now)
