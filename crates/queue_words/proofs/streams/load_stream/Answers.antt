-- `queue_words::streams::load_stream` meets its contract: it is what `stream_out` does, under the name that laws speak of. Assumes nothing.
use Rattle.queue_words.specs.Streams.{stream_at_words}
use Rattle.queue_words.proofs.streams.load_stream.Goals as goal

-- `queue_words::streams::load_stream` meets its contract: it is what `stream_out` does, under the name that laws speak of. Assumes nothing.
pub returns : goal.returns
unfolding stream_at_words
returns c = c.stream_out.ensures
