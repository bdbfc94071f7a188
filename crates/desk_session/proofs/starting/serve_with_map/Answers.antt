use Rattle.std.proofs.Common.{rules, arith, inl, ◌≡◌, ◌-◌, length}
use Rattle.session_protocol.specs.Start.{desk_of}
use Rattle.desk_session.proofs.MapDesk.{started}
use Rattle.session_protocol.proofs.Reading.{and-then, until-then, takes-more, takes-fewer}
use Rattle.desk_session.proofs.starting.serve_with_map.Goals as goal

pub returns-in-Ok-serve-clause-session : goal.returns-in-Ok-serve-clause-session
returns-in-Ok-serve-clause-session g c =
    let map = rw c.as_slice.ensures.value at c.in-Ok-read_map.ensures in
    let opened : c.open-desk.result ≡ desk_of c.in-Ok-read_map.grid c.args.mode c.args.limit = search rules in
    let bytes : c.args.bounds.bytes - c.len.result ≡ c.args.bounds.bytes - length c.in-Ok.text.items = search rules in
    let (last, session) = c.in-Ok-serve.ensures.session in
    started _ _ _ _ _ c.args.bounds c.args.mode c.args.limit _ c.in-Ok.text.items c.in-Ok-read_map.grid last _ _ _ c.in-Ok.ensures.heard map opened bytes session

pub returns-clause-session : goal.returns-clause-session
returns-clause-session g c =
    let map = rw c.as_slice.ensures.value at c.in-Ok-read_map.ensures in
    let opened : c.open-desk.result ≡ desk_of c.in-Ok-read_map.grid c.args.mode c.args.limit = search rules in
    let bytes : c.args.bounds.bytes - c.len.result ≡ c.args.bounds.bytes - length c.in-Ok.text.items = search rules in
    let (last, session) = c.in-Err-serve.ensures.session in
    inl (started _ _ _ _ _ c.args.bounds c.args.mode c.args.limit _ c.in-Ok.text.items c.in-Ok-read_map.grid last _ _ _ c.in-Ok.ensures.heard map opened bytes session)

-- The map was read to its end, and then the session's reads followed.
pub returns-in-Ok-serve-clause-reads : goal.returns-in-Ok-serve-clause-reads
returns-in-Ok-serve-clause-reads g c = and-then _ _ _ _ c.in-Ok.ensures.reads c.in-Ok-serve.ensures.reads

pub returns-clause-reads : goal.returns-clause-reads
returns-clause-reads g c = until-then _ _ _ _ _ c.in-Ok.ensures.reads c.in-Err-serve.ensures.reads

-- What the map's text leaves of the bound is the session's.
pub returns-in-Ok-serve-clause-bounded : goal.returns-in-Ok-serve-clause-bounded
returns-in-Ok-serve-clause-bounded g c =
    let within = c.in-Ok.ensures.heard.within in
    let bytes : c.len.result ≡ length c.in-Ok.text.items = search rules in
    takes-more _ _ _ _ _ _ _ c.in-Ok.ensures.took c.in-Ok-serve.ensures.bounded (omega arith)

pub returns-clause-bounded : goal.returns-clause-bounded
returns-clause-bounded g c =
    let within = c.in-Ok.ensures.heard.within in
    let bytes : c.len.result ≡ length c.in-Ok.text.items = search rules in
    takes-more _ _ _ _ _ _ _ c.in-Ok.ensures.took c.in-Err-serve.ensures.bounded (omega arith)

pub returns-in-Err-read_map-clause-bounded : goal.returns-in-Err-read_map-clause-bounded
returns-in-Err-read_map-clause-bounded g c =
    let within = c.in-Ok.ensures.heard.within in
    takes-fewer _ _ _ _ _ c.in-Ok.ensures.took (omega arith)
