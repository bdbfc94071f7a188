use Rattle.session_protocol.proofs.Reading.{read-once}
use Rattle.session_protocol.proofs.serving.next_within.Goals as goal

pub returns-in-Err-clause-read : goal.returns-in-Err-clause-read
returns-in-Err-clause-read g c = read-once _ _ _ _ c.in-Err.ensures.gives

pub returns-then-lines-bounds-clause-read : goal.returns-then-lines-bounds-clause-read
returns-then-lines-bounds-clause-read g c = read-once _ _ _ _ c.in-Ok.ensures.gives

pub returns-then-bytes-bounds-clause-read : goal.returns-then-bytes-bounds-clause-read
returns-then-bytes-bounds-clause-read g c = read-once _ _ _ _ c.in-Ok.ensures.gives

pub returns-else-bytes-bounds-clause-read : goal.returns-else-bytes-bounds-clause-read
returns-else-bytes-bounds-clause-read g c = read-once _ _ _ _ c.in-Ok.ensures.gives

pub returns-else-is_some-clause-read : goal.returns-else-is_some-clause-read
returns-else-is_some-clause-read g c = read-once _ _ _ _ c.in-Ok.ensures.gives
