-- A run that failed, or came to its end and could not be sent.
use Rattle.std.proofs.Common.{◌≡◌, inl, inr, ℕ, List, [], Bool, Option, Result, Ok, Err, IfOk, IfErr, OnOk, unwrap_or, refl, sym, subst}
use Rattle.std.proofs.Common.{Vec}
use Rattle.std.specs.Borrow.{Bor}
use Rattle.std.specs.Global.{Global}
use Rattle.desk_cli.specs.declared.words.AuditWords.{AuditWords}
use Rattle.desk_cli.specs.declared.words.CheckWords.{CheckWords}
use Rattle.desk_cli.specs.declared.words.DrawWords.{DrawWords}
use Rattle.desk_cli.specs.declared.words.DrillWords.{DrillWords}
use Rattle.desk_cli.specs.declared.words.PageWords.{PageWords}
use Rattle.desk_pages.specs.declared.pages.Page.{Page}
use Rattle.single_runs.specs.PageRuns.{Pages}
use Rattle.path_files.specs.declared.forms.Form.{Form}
use Rattle.solver_check.specs.Opens.{bytes_of}
use Rattle.solver_check.specs.Checks.{ChecksIn, IsCheckFault}
use Rattle.solver_check.specs.Listings.{listing_of}
use Rattle.solver_check.specs.declared.faults.RunFault.{RunFault}
use Rattle.solver_check.specs.declared.faults.RunFault.TheVariants.{WriteFailed}
use Rattle.solver_check.specs.declared.checks.costs.Checked.{Checked}
use Rattle.solver_check.specs.declared.checks.faults.CheckFault.{CheckFault}
use Rattle.solver_check.specs.declared.checks.faults.CheckFault.TheVariants.{Run}
use Rattle.single_runs.specs.Audits.{Audits, FailsAudit}
use Rattle.single_runs.specs.Draws.{Draws, FailsDraw}
use Rattle.shared_runs.specs.DrillFaults.{FailsDrill}
use Rattle.shared_runs.specs.Drills.{Drills, inputs_of}
use Rattle.mapf_desk.specs.Drilled.{IsUndrilled}
use Rattle.mapf_desk.specs.Words.{courses_in, courses_of}
use Rattle.mapf_desk.specs.Runs.{IsPageFor, IsUnaudited, IsUnchecked, IsUndrawn, IsUnpaged, style_asked}

-- a fault stays, and comes else only to a run that was done
unsent : {T E : Type 0} (Done : T → Type 0) (Fails Is : E → Type 0) (late : E) (ended result : Result T E) → IfOk ended Done → IfErr ended Fails → IfErr ended (λ fault. result ≡ Err fault) → OnOk ended (IfErr result (λ fault. fault ≡ late)) → ((done : T) → Done done → (fault : E) → fault ≡ late → Is fault) → ((fault : E) → Fails fault → Is fault) → IfErr result Is
unsent Done Fails Is late (Err fault) result is fails same sent after of = subst (λ r. IfErr r Is) (sym same) (of fault fails)
unsent Done Fails Is late (Ok done) (Ok value) is fails same sent after of = tt
unsent Done Fails Is late (Ok done) (Err fault) is fails same sent after of = after done is fault sent

pub unaudited : {T : Type 0} (words : AuditWords) (map scen journal held0 held1 : Option (List ℕ)) (ended result : Result T RunFault) → OnOk ended (Audits (unwrap_or map []) scen words.agents words.mode journal held0 held1) → IfErr ended (FailsAudit (unwrap_or map []) scen words.agents words.mode journal held0 held1) → IfErr ended (λ fault. result ≡ Err fault) → OnOk ended (IfErr result (λ fault. fault ≡ WriteFailed)) → IfErr result (IsUnaudited words map scen journal)
unaudited words map scen journal held0 held1 ended result is fails same sent =
    unsent (λ _. Audits (unwrap_or map []) scen words.agents words.mode journal held0 held1) (FailsAudit (unwrap_or map []) scen words.agents words.mode journal held0 held1)
    (IsUnaudited words map scen journal) WriteFailed ended result is fails same sent
    (λ done audits fault why. record { held0 = held0; held1 = held1; why = inr (inr (why, record { held0 = held0; held1 = held1; audits = audits })) })
    (λ fault why. record { held0 = held0; held1 = held1; why = inr (inl why) })

pub unchecked : (words : CheckWords) (form : Option Form) (map scen paths held0 held1 : Option (List ℕ)) (ended result : Result Checked CheckFault) → IfOk ended (ChecksIn (unwrap_or map []) scen words.agents words.mode (unwrap_or paths []) form words.kinds (listing_of words.quiet words.only) (style_asked words) held0 held1) → IfErr ended (IsCheckFault (unwrap_or map []) scen words.agents words.mode (unwrap_or paths []) form) → IfErr ended (λ fault. result ≡ Err fault) → OnOk ended (IfErr result (λ fault. fault ≡ Run WriteFailed)) → IfErr result (IsUnchecked words form map scen paths)
unchecked words form map scen paths held0 held1 ended result is fails same sent =
    unsent (ChecksIn (unwrap_or map []) scen words.agents words.mode (unwrap_or paths []) form words.kinds (listing_of words.quiet words.only) (style_asked words) held0 held1)
    (IsCheckFault (unwrap_or map []) scen words.agents words.mode (unwrap_or paths []) form)
    (IsUnchecked words form map scen paths) (Run WriteFailed) ended result is fails same sent
    (λ solved checks fault why. record { why = inr (why, solved, record { held0 = held0; held1 = held1; checks = checks }) })
    (λ fault why. record { why = inl why })

pub undrawn : {T : Type 0} (words : DrawWords) (map scen : Option (List ℕ)) (journal : Option (Bor (List ℕ))) (held0 held1 : Option (List ℕ)) (ended result : Result T CheckFault) → OnOk ended (Draws (unwrap_or map []) scen words.agents words.mode (courses_of words journal) words.at held0 held1) → IfErr ended (FailsDraw (unwrap_or map []) scen words.agents words.mode (courses_of words journal)) → IfErr ended (λ fault. result ≡ Err fault) → OnOk ended (IfErr result (λ fault. fault ≡ Run WriteFailed)) → IfErr result (IsUndrawn words map scen (bytes_of journal))
undrawn words map scen journal held0 held1 ended result is fails same sent =
    unsent (λ _. Draws (unwrap_or map []) scen words.agents words.mode (courses_of words journal) words.at held0 held1)
    (FailsDraw (unwrap_or map []) scen words.agents words.mode (courses_of words journal))
    (IsUndrawn words map scen (bytes_of journal)) (Run WriteFailed) ended result is fails same sent
    (λ done draws fault why. record { text = journal; is = refl; why = inr (inr (why, record { text = journal; is = refl; held0 = held0; held1 = held1; draws = draws })) })
    (λ fault why. record { text = journal; is = refl; why = inl why })

pub unpaged : {T : Type 0} (words : PageWords) (map scen : Option (List ℕ)) (journal : Option (Bor (List ℕ))) (held0 held1 : Option (List ℕ)) (ended result : Result T CheckFault) → OnOk ended ((page : Page) × IsPageFor words page × Pages (unwrap_or map []) scen words.agents words.mode (courses_in words.paths journal) page held0 held1) → IfErr ended (FailsDraw (unwrap_or map []) scen words.agents words.mode (courses_in words.paths journal)) → IfErr ended (λ fault. result ≡ Err fault) → OnOk ended (IfErr result (λ fault. fault ≡ Run WriteFailed)) → IfErr result (IsUnpaged words map scen (bytes_of journal))
unpaged words map scen journal held0 held1 ended result is fails same sent =
    unsent (λ _. (page : Page) × IsPageFor words page × Pages (unwrap_or map []) scen words.agents words.mode (courses_in words.paths journal) page held0 held1)
    (FailsDraw (unwrap_or map []) scen words.agents words.mode (courses_in words.paths journal))
    (IsUnpaged words map scen (bytes_of journal)) (Run WriteFailed) ended result is fails same sent
    (λ done paged fault why. record { text = journal; is = refl; why = inr (inr (why, record { text = journal; is = refl; page = paged.0; of = paged.1; held0 = held0; held1 = held1; pages = paged.2 })) })
    (λ fault why. record { text = journal; is = refl; why = inl why })

pub undrilled : (words : DrillWords) (map scen : Option (List ℕ)) (scripts : List (Vec ℕ Global)) (held0 held1 : Option (List ℕ)) (ended result : Result Bool RunFault) → IfOk ended (Drills (unwrap_or map []) scen words.agents words.mode (inputs_of words.lines scripts) held0 held1) → IfErr ended (FailsDrill (unwrap_or map []) scen words.agents words.mode (inputs_of words.lines scripts) held0 held1) → IfErr ended (λ fault. result ≡ Err fault) → OnOk ended (IfErr result (λ fault. fault ≡ WriteFailed)) → IfErr result (IsUndrilled words map scen scripts)
undrilled words map scen scripts held0 held1 ended result is fails same sent =
    unsent (Drills (unwrap_or map []) scen words.agents words.mode (inputs_of words.lines scripts) held0 held1)
    (FailsDrill (unwrap_or map []) scen words.agents words.mode (inputs_of words.lines scripts) held0 held1)
    (IsUndrilled words map scen scripts) WriteFailed ended result is fails same sent
    (λ done drills fault why. record { held0 = held0; held1 = held1; why = inr (inr (why, done, record { held0 = held0; held1 = held1; drills = drills })) })
    (λ fault why. record { held0 = held0; held1 = held1; why = inr (inl why) })
