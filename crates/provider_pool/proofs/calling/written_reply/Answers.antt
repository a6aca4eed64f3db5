use Rattle.provider_pool.proofs.calling.written_reply.Goals as goal

pub returns : goal.returns
returns c = λ header held. record {
  reply = c.in_ok-reply.reply;
  is = c.in_ok-reply.ensures.replies header held;
  written = c.in_ok-body.ensures.body;
  status_is = c.status.ensures;
  small = c.status.type_inv;
  short = c.in_ok-body.ensures.short;
}
