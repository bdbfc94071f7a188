-- How files are opened (this project's choice).
use Rattle.std.specs.Prelude.{true}
use Rattle.std.specs.Fs.{new_options, with_read, with_write}
use Rattle.std.specs.declared.fs.options.OpenOptions.{OpenOptions}
use Rattle.desk_io.specs.declared.pipes.End.{End}
use Rattle.desk_io.specs.declared.pipes.End.TheVariants.{Input, Output}

-- one end of a pipe: to read, or to write
abbrev pub one_end : End → OpenOptions
one_end Input = with_read new_options true
one_end Output = with_write new_options true

-- both ends of a pipe
abbrev pub both_ends : OpenOptions
both_ends = with_write (with_read new_options true) true
