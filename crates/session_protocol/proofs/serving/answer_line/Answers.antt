use Rattle.std.proofs.Common.{subst}
use Rattle.session_protocol.specs.Answer.{answering_in}
use Rattle.session_protocol.specs.Replies.{reply_text}
use Rattle.session_protocol.specs.declared.drafts.Session.{Session}
use Rattle.session_protocol.proofs.Unkept.{nothing-sent}
use Rattle.session_protocol.proofs.serving.answer_line.Goals as goal

pub returns-then-is_err-clause-answered : goal.returns-then-is_err-clause-answered
returns-then-is_err-clause-answered g c = record {
  reply = c.answer-reply.result.0;
  answered = subst (λ (s : Session). answering_in c.args.version g.C.Counter.counting (s, c.args.counter.now) c.args.number c.args.line.now c.answer-reply.result.0 (c.answer-reply.result.1, c.answer-reply.new.counter))
      c.replace-before.ensures.value c.answer-reply.ensures;
  sent = tt;
  cut = nothing-sent (g.W.Sink.held c.args.writer.now) (reply_text c.answer-reply.result.0);
}
