-- `stream_reset_handler::making::request_for` meets its contract: each return is a case of `make_request` and of the model's (proofs/Makes.antt). Assumes nothing.
use Rattle.stream_reset_handler.proofs.Makes.{made_none, made_short, made_next}
use Rattle.stream_reset_handler.proofs.making.request_for.Goals as goal

pub returns-then-count-eq0 : goal.returns-then-count-eq0
returns-then-count-eq0 c = made_none _ _ _ _ _ c.requires.1 _ c.requires.0 c.if-count-eq0.true

pub returns-then-output-size : goal.returns-then-output-size
returns-then-output-size c = made_short _ _ _ c.requires.0 _ _ _ c.requires.1 c.if-count-eq0.false _ c.request_size-size.ensures c.if-output-size.true

pub returns : goal.returns
returns c = made_next _ _ _ c.requires.0 _ _ _ c.requires.1 c.if-count-eq0.false _ c.request_size-size.ensures c.if-output-size.false _ _ c.get_streams_ready_to_reset-ready.ensures _ _ (rw (← c.ids_of-ids.ensures) c.write_next-next.ensures)
