-- `saving::image::put_image` meets its contract: streams, messages, trailer, each behind the other. Assumes nothing.
use native.Mathlib.Omega.{arith}
use lib.ListN.{length}
use Rattle.saving.proofs.Images.{few_counted, streams_pre, messages_pre, trailer_pre, image_put}
use Rattle.saving.proofs.image.put_image.Goals as goal

pub put_streams-behind_streams-requires : goal.put_streams-behind_streams-requires
put_streams-behind_streams-requires c = streams_pre c.args.queue.now c.args.store.now c.args.image.now c.args.time c.args.n _ c.requires.0 c.requires.1 c.requires.2 c.load_totals-h.ensures

pub put_messages-behind-requires : goal.put_messages-behind-requires
put_messages-behind-requires c = messages_pre c.args.queue.now c.args.store.now c.args.image.now c.args.time c.args.n _ c.requires.0 c.requires.1 c.requires.2 c.load_totals-h.ensures _ _ c.put_streams-behind_streams.ensures.0 c.put_streams-behind_streams.ensures.1

pub overflow_cast-n : goal.overflow_cast-n
overflow_cast-n c = omega (arith, (few_counted c.args.queue.now (length c.args.store.now) c.args.n c.requires.1).streams_few)

pub overflow_cast-n-2 : goal.overflow_cast-n-2
overflow_cast-n-2 c = omega (arith, (few_counted c.args.queue.now (length c.args.store.now) c.args.n c.requires.1).messages_few)

pub overflow_cast-n-3 : goal.overflow_cast-n-3
overflow_cast-n-3 c = omega (arith, (few_counted c.args.queue.now (length c.args.store.now) c.args.n c.requires.1).bytes_few)

pub overflow_cast-n-4 : goal.overflow_cast-n-4
overflow_cast-n-4 c = omega (arith, (few_counted c.args.queue.now (length c.args.store.now) c.args.n c.requires.1).streams_few)

pub put_trailer-requires : goal.put_trailer-requires
put_trailer-requires c = trailer_pre c.args.queue.now c.args.store.now c.args.image.now c.args.time c.args.n _ c.requires.0 c.requires.1 c.requires.2 c.load_totals-h.ensures _ _ c.put_streams-behind_streams.ensures.0 c.put_streams-behind_streams.ensures.1 _ _ c.put_messages-behind.ensures.0 c.put_messages-behind.ensures.1

pub returns : goal.returns
returns c = image_put c.args.queue.now c.args.store.now c.args.image.now c.args.time c.args.n _ c.requires.0 c.requires.1 c.requires.2 c.load_totals-h.ensures _ _ c.put_streams-behind_streams.ensures.0 c.put_streams-behind_streams.ensures.1 _ _ _ _ c.load_options-o.ensures c.put_messages-behind.ensures.0 c.put_messages-behind.ensures.1 c.put_trailer.ensures
