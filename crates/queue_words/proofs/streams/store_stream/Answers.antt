-- `queue_words::streams::store_stream` meets its contract: it is what `stream_in` does, under the name that laws speak of. Assumes nothing.
use Rattle.queue_words.specs.Streams.{put_stream_words}
use Rattle.queue_words.proofs.streams.store_stream.Goals as goal

-- `queue_words::streams::store_stream` meets its contract: it is what `stream_in` does, under the name that laws speak of. Assumes nothing.
pub returns : goal.returns
unfolding put_stream_words
returns c = c.stream_in.ensures
