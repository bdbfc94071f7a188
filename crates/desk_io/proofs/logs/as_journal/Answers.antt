use Rattle.std.proofs.Common.{◌≡◌, ℕ, List, Bool, true, nat_eq, refl, sym, subst, ◌∙◌, ap}
use Rattle.std.specs.Prelude.{codes}
use Rattle.std.specs.List.{starts_with}
use Rattle.desk_log.specs.Reading.{IsRead}
use Rattle.desk_log.specs.declared.reading.LogRead.{LogRead}
use Rattle.desk_io.specs.Texts.{ReadsAsJournal, ReadsBy}
use Rattle.desk_io.proofs.logs.as_journal.Goals as goal

read_as : (bytes slice again : List ℕ) (log : LogRead) (is_log : Bool) → slice ≡ bytes → again ≡ bytes → is_log ≡ starts_with nat_eq slice (codes "log ") → is_log ≡ true
    → IsRead again log → ReadsAsJournal bytes log.journal.items
read_as bytes slice again log is_log same too begins is read =
    let yes : starts_with nat_eq bytes (codes "log ") ≡ true = ap (λ (t : List ℕ). starts_with nat_eq t (codes "log ")) (sym same) ∙ sym begins ∙ is in
    subst (λ (b : Bool). ReadsBy b bytes log.journal.items) (sym yes) (log, subst (λ (t : List ℕ). IsRead t log) too read, refl)

pub returns-in-Ok-clause-read : goal.returns-in-Ok-clause-read
returns-in-Ok-clause-read c =
    read_as c.args.bytes.items c.as_slice.result.now c.as_slice-2.result.now c.in-Ok.log c.is_log.result c.as_slice.ensures.value c.as_slice-2.ensures.value
    c.is_log.ensures c.if-not-is_log.false c.in-Ok.ensures
