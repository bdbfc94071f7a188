-- What runs over the texts of files come to; what they write goes out through a buffer (this project's choice).
use Rattle.std.specs.Prelude.{◌≡◌, ◌⊎◌, ℕ, List, [], Option, None, Bool, unwrap_or, is_some, true}
use Rattle.std.specs.Borrow.{Bor}
use Rattle.std.specs.Option.{option_copied}
use Rattle.solver_check.specs.Opens.{bytes_of}
use Rattle.solver_check.specs.Checks.{ChecksIn, IsCheckFault}
use Rattle.solver_check.specs.Listings.{listing_of}
use Rattle.solver_check.specs.declared.faults.Fault.{Fault}
use Rattle.solver_check.specs.declared.faults.Fault.TheVariants.{AgentsWithoutScen}
use Rattle.solver_check.specs.declared.faults.Fault.TheVariants as desk
use Rattle.solver_check.specs.declared.faults.RunFault.{RunFault}
use Rattle.solver_check.specs.declared.faults.RunFault.TheVariants.{OutOfMemory, WriteFailed}
use Rattle.solver_check.specs.declared.checks.costs.Checked.{Checked}
use Rattle.solver_check.specs.declared.checks.faults.CheckFault.{CheckFault}
use Rattle.solver_check.specs.declared.checks.faults.CheckFault.TheVariants as check
use Rattle.solver_check.specs.declared.checks.styles.Style.{Style}
use Rattle.path_files.specs.declared.forms.Form.{Form}
use Rattle.single_runs.specs.Audits.{Audits, FailsAudit}
use Rattle.single_runs.specs.Draws.{Draws, FailsDraw}
use Rattle.single_runs.specs.PageRuns.{Pages}
use Rattle.desk_pages.specs.declared.pages.Page.{Page}
use Rattle.desk_cli.specs.declared.words.AuditWords.{AuditWords}
use Rattle.desk_cli.specs.declared.words.CheckWords.{CheckWords}
use Rattle.desk_cli.specs.declared.words.DrawWords.{DrawWords}
use Rattle.desk_cli.specs.declared.words.PageWords.{PageWords}
use Rattle.desk_io.specs.Texts.{IsUnreadOf}
use Rattle.mapf_desk.specs.Files.{OfFiles}
use Rattle.mapf_desk.specs.Words.{courses_in, courses_of}
use Rattle.mapf_desk.specs.declared.faults.ProgramFault.{ProgramFault}
use Rattle.mapf_desk.specs.declared.faults.ProgramFault.TheVariants as program

-- the desk of the texts was audited
pub record HasAudited (words : AuditWords) (map scen journal : Option (List ℕ)) : Type 0 where
  pub held0 : Option (List ℕ)
  pub held1 : Option (List ℕ)
  pub audits : Audits (unwrap_or map []) scen words.agents words.mode journal held0 held1

-- the texts, memory or the writer failed the audit; or it came to its end, and could not be sent
pub record IsUnaudited (words : AuditWords) (map scen journal : Option (List ℕ)) (fault : RunFault) : Type 0 where
  pub held0 : Option (List ℕ)
  pub held1 : Option (List ℕ)
  pub why : (fault ≡ OutOfMemory) ⊎ FailsAudit (unwrap_or map []) scen words.agents words.mode journal held0 held1 fault ⊎ ((fault ≡ WriteFailed) × HasAudited words map scen journal)

-- how the words have a verdict written
abbrev pub style_asked : CheckWords → Style
style_asked words = record { is_json = words.is_json; own_cells = words.own_cells }

-- the paths of the texts were checked, and that is what it came to
pub record HasChecked (words : CheckWords) (form : Option Form) (map scen paths : Option (List ℕ)) (checked : Checked) : Type 0 where
  pub held0 : Option (List ℕ)
  pub held1 : Option (List ℕ)
  pub checks : ChecksIn (unwrap_or map []) scen words.agents words.mode (unwrap_or paths []) form words.kinds (listing_of words.quiet words.only) (style_asked words) held0 held1 checked

-- with that answer
pub record HasSolved (words : CheckWords) (form : Option Form) (map scen paths : Option (List ℕ)) (solved : Bool) : Type 0 where
  pub checked : Checked
  pub comes_to : HasChecked words form map scen paths checked
  pub is : solved ≡ checked.solved

-- the texts, memory or the writer failed the check; or it came to its end, and could not be sent
pub record IsUnchecked (words : CheckWords) (form : Option Form) (map scen paths : Option (List ℕ)) (fault : CheckFault) : Type 0 where
  pub why : IsCheckFault (unwrap_or map []) scen words.agents words.mode (unwrap_or paths []) form fault
      ⊎ ((fault ≡ check.Run WriteFailed) × (checked : Checked) × HasChecked words form map scen paths checked)

-- the scene of the texts was drawn
pub record HasDrawn (words : DrawWords) (map scen journal : Option (List ℕ)) : Type 0 where
  pub text : Option (Bor (List ℕ))
  pub is : bytes_of text ≡ journal
  pub held0 : Option (List ℕ)
  pub held1 : Option (List ℕ)
  pub draws : Draws (unwrap_or map []) scen words.agents words.mode (courses_of words text) words.at held0 held1

-- the texts, memory or the writer failed the picture; or it came to its end, and could not be sent
pub record IsUndrawn (words : DrawWords) (map scen journal : Option (List ℕ)) (fault : CheckFault) : Type 0 where
  pub text : Option (Bor (List ℕ))
  pub is : bytes_of text ≡ journal
  pub why : FailsDraw (unwrap_or map []) scen words.agents words.mode (courses_of words text) fault ⊎ (fault ≡ check.OutOfMemory)
      ⊎ ((fault ≡ check.Run WriteFailed) × HasDrawn words map scen journal)

-- the page has the words' title, or else the map's name, and the words' kinds
pub record IsPageFor (words : PageWords) (page : Page) : Type 0 where
  pub title : page.title.now ≡ unwrap_or (option_copied words.title) words.map.now
  pub kinds : page.kinds ≡ words.kinds

-- the page of the scene of the texts was written
pub record HasPaged (words : PageWords) (map scen journal : Option (List ℕ)) : Type 0 where
  pub text : Option (Bor (List ℕ))
  pub is : bytes_of text ≡ journal
  pub page : Page
  pub of : IsPageFor words page
  pub held0 : Option (List ℕ)
  pub held1 : Option (List ℕ)
  pub pages : Pages (unwrap_or map []) scen words.agents words.mode (courses_in words.paths text) page held0 held1

-- the texts, memory or the writer failed the page; or it came to its end, and could not be sent
pub record IsUnpaged (words : PageWords) (map scen journal : Option (List ℕ)) (fault : CheckFault) : Type 0 where
  pub text : Option (Bor (List ℕ))
  pub is : bytes_of text ≡ journal
  pub why : FailsDraw (unwrap_or map []) scen words.agents words.mode (courses_in words.paths text) fault ⊎ (fault ≡ check.OutOfMemory)
      ⊎ ((fault ≡ check.Run WriteFailed) × HasPaged words map scen journal)

-- agents are asked for, and no scenario that has their tasks
abbrev pub LacksTasks : Option ℕ → Option (Bor (List ℕ)) → Type 0
LacksTasks agents scen = (is_some agents ≡ true) × (scen ≡ None)

-- the words lack a scenario, or a file isn't read
abbrev pub IsWithoutTexts : Type 0 → (List ℕ → Option (List ℕ)) → (map scen journal paths : Option (List ℕ)) → Fault → Type 0
IsWithoutTexts Lacks holds map scen journal paths fault = (Lacks × (fault ≡ AgentsWithoutScen)) ⊎ IsUnreadOf holds map scen journal paths fault

-- why a run over the texts of files did not come to its end: there are no such texts, or they fail it so
abbrev pub FailsOver : Type 0 → (List ℕ → Option (List ℕ)) → (map scen journal paths : Option (List ℕ)) → ((map scen courses : Option (List ℕ)) → CheckFault → Type 0) → ProgramFault → Type 0
FailsOver Lacks holds map scen journal paths Fails (program.Desk fault) = IsWithoutTexts Lacks holds map scen journal paths fault
FailsOver Lacks holds map scen journal paths Fails (program.Check fault) = OfFiles holds map scen journal paths (λ map scen courses. Fails map scen courses fault)
FailsOver Lacks holds map scen journal paths Fails (program.Host fault) = ⊥
FailsOver Lacks holds map scen journal paths Fails (program.NamedTwice name) = ⊥
FailsOver Lacks holds map scen journal paths Fails (program.InUse name) = ⊥
FailsOver Lacks holds map scen journal paths Fails (program.Log why) = ⊥

-- and of an audit
abbrev pub FailsAuditOver : Type 0 → (List ℕ → Option (List ℕ)) → (map scen journal : Option (List ℕ)) → ((map scen journal : Option (List ℕ)) → RunFault → Type 0) → Fault → Type 0
FailsAuditOver Lacks holds map scen journal Fails fault =
    IsWithoutTexts Lacks holds map scen journal None fault
    ⊎ ((why : RunFault) × (fault ≡ desk.Run why) × OfFiles holds map scen journal None (λ map scen journal. Fails map scen journal why))
