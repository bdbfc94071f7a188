-- A session that began on the desk of a map.
use Rattle.std.proofs.Common.{◌≡◌, ℕ, ◌-◌, List, length, subst}
use Rattle.std.specs.Prelude.{Option, Result}
use Rattle.grid_cells.specs.Grid.{Chart}
use Rattle.plan_table.specs.declared.tracks.Mode.{Mode}
use Rattle.bench_reader.specs.MapText.{IsMapText}
use Rattle.desk_commits.specs.State.{DeskState}
use Rattle.session_protocol.specs.Answer.{answering}
use Rattle.desk_commits.specs.Counting.{desk_counting}
use Rattle.session_protocol.specs.Session.{Serves}
use Rattle.session_protocol.specs.Start.{HearsMap, Started, desk_of}
use Rattle.session_protocol.specs.declared.bounds.Bounds.{Bounds}
use Rattle.session_protocol.specs.declared.bounds.ServeFault.{ServeFault}
use Rattle.session_protocol.specs.declared.drafts.Session.{Session}
use Rattle.session_protocol.specs.declared.drafts.Session.TheVariants.{Idle}

pub started : (left0 between left1 held0 held1 : Option (List ℕ)) (bounds : Bounds) (mode : Mode) (limit : ℕ) (result : Result ℕ ServeFault) (text : List ℕ) (grid : Chart) (last : Session) (desk opened : DeskState) (bytes : ℕ)
    → HearsMap left0 between bounds.bytes text → IsMapText text grid → opened ≡ desk_of grid mode limit → bytes ≡ bounds.bytes - length text
    → Serves (answering desk_counting) (record { lines = bounds.lines; bytes = bytes }) between left1 held0 held1 (Idle, opened) (last, desk) result
    → Started left0 left1 held0 held1 bounds mode limit result
started left0 between left1 held0 held1 bounds mode limit result text grid last desk opened bytes heard map o b served =
    let on : Serves (answering desk_counting) (record { lines = bounds.lines; bytes = bytes }) between left1 held0 held1 (Idle, desk_of grid mode limit) (last, desk) result = subst (λ (at : DeskState). Serves (answering desk_counting) (record { lines = bounds.lines; bytes = bytes }) between left1 held0 held1 (Idle, at) (last, desk) result) o served in
    record {
      text = text;
      between = between;
      grid = grid;
      last = last;
      desk = desk;
      heard = heard;
      map = map;
      session = subst (λ (n : ℕ). Serves (answering desk_counting) (record { lines = bounds.lines; bytes = n }) between left1 held0 held1 (Idle, desk_of grid mode limit) (last, desk) result) b on;
    }
