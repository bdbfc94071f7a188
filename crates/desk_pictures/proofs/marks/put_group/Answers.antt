use Rattle.std.proofs.Common.{◌≡◌, ℕ, Bool, true, false, refl, sym, subst, OnOk}
use Rattle.std.specs.Io.KnownBytes.{Appends}
use Rattle.desk_pictures.specs.Marks.{group_text}
use Rattle.desk_pictures.proofs.marks.put_group.Goals as goal

-- in a moving picture the group lights up at its time, lit or not
in_motion : (moving lit : Bool) (time : ℕ) → moving ≡ true → group_text moving lit time ≡ group_text true false time
in_motion true lit time e = refl
in_motion false lit time e = absurd (cc)

pub returns-clause-ok : goal.returns-clause-ok
returns-clause-ok g c =
    subst (λ text. OnOk c.put_pieces.result (Appends (g.W.Sink.held c.args.sink.now) (g.W.Sink.held c.put_pieces.new.sink) text))
    (sym (in_motion c.args.moving c.args.lit c.args.time c.if-not-moving.false))
    (rw c.number.ensures at c.put_pieces.ensures.ok)
