use Rattle.std.specs.Prelude.{[]}
use Rattle.std.proofs.Common.{unwrap_or}
use Rattle.solver_check.specs.Opens.{bytes_of}
use Rattle.commit_log.specs.Text.{head_text, scene_digest}
use Rattle.mapf_desk.proofs.log_sitting.sit.Given as goal

abbrev pub ghosts-serve_headed : goal.ghosts-serve_headed
ghosts-serve_headed g a = record { head = head_text a.mode (scene_digest (unwrap_or (bytes_of a.texts.map) a.heard.now) (unwrap_or (bytes_of a.texts.scen) []) a.agents) }
